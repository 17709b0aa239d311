use Rattle.gate_streams.proofs.Outcome.{stops_at_once}
use Rattle.gate_streams.proofs.stream.stream.Goals as goal

pub returns-in_default-clause-streamed : goal.returns-in_default-clause-streamed
returns-in_default-clause-streamed g c =
    rw c.end_with.ensures.ending
    (stops_at_once c.args.task.now (g.I.Source.left c.args.input.now) (g.O.Sink.written c.args.output.now) (g.E.Sink.written c.args.report.now) (g.E.Sink.written c.end_with.new.report)
    (g.I.Source.faults c.args.input.now) (g.O.Sink.faults c.args.output.now) (g.E.Sink.faults c.args.report.now) (g.E.Sink.faults c.end_with.new.report) _ c.end_with.ensures.front c.end_with.ensures.whole)

pub returns-clause-streamed : goal.returns-clause-streamed
returns-clause-streamed g c =
    rw c.end_with-in-Err.ensures.ending
    (stops_at_once c.args.task.now (g.I.Source.left c.args.input.now) (g.O.Sink.written c.args.output.now) (g.E.Sink.written c.args.report.now) (g.E.Sink.written c.end_with-in-Err.new.report)
    (g.I.Source.faults c.args.input.now) (g.O.Sink.faults c.args.output.now) (g.E.Sink.faults c.args.report.now) (g.E.Sink.faults c.end_with-in-Err.new.report) _ c.end_with-in-Err.ensures.front c.end_with-in-Err.ensures.whole)
