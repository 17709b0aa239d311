use Rattle.std.proofs.Common.{◌≡◌, length}
use Rattle.stream_messages.specs.Levels.{closed}
use Rattle.stream_messages.proofs.levels.close_ended.Given as goal

abbrev pub invariant-loop-level : goal.invariant-loop-level
invariant-loop-level l = closed l.nest ≡ closed l.fn.nest

abbrev pub decreases-loop-level : goal.decreases-loop-level
decreases-loop-level l = length l.nest
