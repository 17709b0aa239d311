use Rattle.std.proofs.Common.{◌≡◌, ◌+◌, length}
use Rattle.mio_crew.proofs.opening.fill_seats.Given as goal

-- one for each poll so far
abbrev pub invariant-loop-polling : goal.invariant-loop-polling
invariant-loop-polling g l = length l.members.items ≡ length l.fn.members.items + length l.yielded
