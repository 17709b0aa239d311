use Rattle.std.proofs.Common.{All}
use Rattle.http_front.specs.Slots.{FrontHasLimit}
use Rattle.http_front.proofs.slots.open_fronts.Given as goal

abbrev pub invariant-fronts : goal.invariant-fronts
invariant-fronts l = All (FrontHasLimit l.limit) l.fronts.items
