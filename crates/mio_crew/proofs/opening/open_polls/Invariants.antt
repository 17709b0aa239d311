use Rattle.std.proofs.Common.{◌≡◌, ◌+◌, length}
use Rattle.mio_crew.proofs.opening.open_polls.Given as goal

-- one for each server so far
abbrev pub invariant-loop : goal.invariant-loop
invariant-loop g l = length l.polls.items ≡ length l.fn.polls.items + l.counter
