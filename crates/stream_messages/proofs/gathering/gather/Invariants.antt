use Rattle.std.proofs.Common.{◌≡◌, ◌-◌, length}
use Rattle.stream_messages.proofs.Pooling.{Gathers}
use Rattle.stream_messages.proofs.gathering.gather.Given as goal

abbrev pub invariant-frames : goal.invariant-frames
invariant-frames l = record {
  size : length l.into ≡ length l.fn.into;
  gathers : Gathers l.stripper l.from l.into l.behind l.taken l.filled;
}

abbrev pub decreases-frames : goal.decreases-frames
decreases-frames l = length l.from - l.taken
