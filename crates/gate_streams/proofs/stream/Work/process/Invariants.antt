use Rattle.std.proofs.Common.{◌-◌, ◌^◌, ◌≤◌}
use Rattle.gate_streams.specs.Progress.{Goes}
use Rattle.gate_streams.specs.Working.{IsReady, IsCounted, IsFlushed, IsWaiting, moment}
use Rattle.gate_streams.proofs.stream.Work.process.Given as goal

-- what the frames so far give was written, and no whole frame is held
abbrev pub invariant-pieces : goal.invariant-pieces
invariant-pieces g l =
    let input = g.I.Source in
    let output = g.O.Sink in
    let report = g.E.Sink in
    record {
      ready : IsReady l.task l.self;
      counted : IsCounted l.self;
      flushed : IsFlushed l.self;
      goes : Goes l.task (moment l.fn.self (input.left l.fn.input) (output.written l.fn.output) (report.written l.fn.report)) (moment l.self (input.left l.input) (output.written l.output) (report.written l.report));
      waiting : IsWaiting l.task l.self.inbox.held;
      input_later : input.faults l.fn.input ≤ input.faults l.input;
      later : output.faults l.fn.output ≤ output.faults l.output;
      report_later : report.faults l.fn.report ≤ report.faults l.report;
    }

abbrev pub decreases-pieces : goal.decreases-pieces
decreases-pieces g l = 2 ^ 63 - l.self.taken
