use Rattle.std.proofs.Common.{◌≤◌, List, ℕ, Option, length}
use Rattle.gate_streams.specs.Working.{IsReady, Waits, moment}
use Rattle.gate_streams.proofs.stream.Work.handle_frames.Given as goal

-- what the frames so far give was written or waits
abbrev pub invariant-frames : goal.invariant-frames
invariant-frames g l =
    let output = g.O.Sink in
    let report = g.E.Sink in
    record {
      ready : IsReady l.task l.self;
      waits : (left : Option (List ℕ)) → Waits l.task (moment l.fn.self left (output.written l.fn.output) (report.written l.fn.report)) (moment l.self left (output.written l.output) (report.written l.report)) l.self.page.out.bytes l.self.lines.bytes;
      later : output.faults l.fn.output ≤ output.faults l.output;
      report_later : report.faults l.fn.report ≤ report.faults l.report;
    }

abbrev pub decreases-frames : goal.decreases-frames
decreases-frames g l = length l.self.inbox.held
