use Rattle.std.proofs.Common.{All, take}
use Rattle.http_front.specs.Slots.{IsUnmarked}
use Rattle.http_front.proofs.slots.first_marked.Given as goal

-- no slot was marked so far
abbrev pub invariant-slots : goal.invariant-slots
invariant-slots l = All IsUnmarked (take l.slot-index l.slots)
