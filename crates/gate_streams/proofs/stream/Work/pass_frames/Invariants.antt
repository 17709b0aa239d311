use Rattle.std.proofs.Common.{◌≡◌, ◌≤◌, length}
use Rattle.line_transport.specs.Buffers.{CountsNext}
use Rattle.gate_streams.specs.Working.{IsReady, Gathers}
use Rattle.gate_streams.specs.declared.task.Doing.TheVariants.{Convert}
use Rattle.gate_streams.proofs.stream.Work.pass_frames.Given as goal

-- what the frames so far give waits
abbrev pub invariant-frames : goal.invariant-frames
invariant-frames l = record {
  ready : IsReady l.task l.self;
  gathered : Gathers l.task l.fn.self l.self;
  fewer : length l.self.inbox.held ≤ length l.fn.self.inbox.held;
  counts : CountsNext l.self.inbox;
  doing : l.task.doing ≡ Convert l.from l.to;
}

abbrev pub decreases-frames : goal.decreases-frames
decreases-frames l = length l.self.inbox.held
