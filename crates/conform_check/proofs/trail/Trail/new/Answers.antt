use Rattle.std.proofs.Common.{arith}
use Rattle.conform_check.proofs.trail.Trail.new.Goals as goal

pub invariant_of-result : goal.invariant_of-result
invariant_of-result c = (omega arith, record { levels = grind (arith, c.loop.invariant.levels); rooms = c.loop.invariant.rooms })
