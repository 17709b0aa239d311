use Rattle.gate_streams.specs.Working.{moment}
use Rattle.gate_streams.proofs.Outcome.{nothing_waits, breaks_off, by_ending}
use Rattle.gate_streams.proofs.stream.Work.run.Goals as goal

pub process-requires-clause-flushed : goal.process-requires-clause-flushed
process-requires-clause-flushed g c = c.requires.start.flushed

pub process-requires-clause-waiting : goal.process-requires-clause-waiting
process-requires-clause-waiting g c = nothing_waits c.args.task.now c.args.self.now.inbox.held c.requires.start.held

pub returns-in-Ok-clause-streamed : goal.returns-in-Ok-clause-streamed
returns-in-Ok-clause-streamed g c =
    let start = c.requires.start in
    rw c.close.ensures.ending (by_ending c.in-Ok.ending c.args.task.now
    (moment c.args.self.now (g.I.Source.left c.args.input.now) (g.O.Sink.written c.args.output.now) (g.E.Sink.written c.args.report.now))
    (moment c.process.new.self (g.I.Source.left c.process.new.input) (g.O.Sink.written c.process.new.output) (g.E.Sink.written c.process.new.report))
    (g.I.Source.faults c.args.input.now) (g.O.Sink.faults c.args.output.now) (g.E.Sink.faults c.args.report.now)
    (g.I.Source.faults c.process.new.input) (g.O.Sink.faults c.process.new.output) (g.E.Sink.faults c.process.new.report) (g.E.Sink.faults c.close.new.report)
    (g.E.Sink.written c.close.new.report) start.held start.number start.refused start.taken c.process.ensures.report_later c.in-Ok.ensures.read_fault c.in-Ok.ensures.ended c.close.ensures.closed)

pub returns-in-Err-clause-streamed : goal.returns-in-Err-clause-streamed
returns-in-Err-clause-streamed g c =
    let start = c.requires.start in (
      c.in-Err.field-0,
      c.in-Err.ensures.cause,
      breaks_off c.in-Err.field-0 c.args.task.now
          (moment c.args.self.now (g.I.Source.left c.args.input.now) (g.O.Sink.written c.args.output.now) (g.E.Sink.written c.args.report.now))
          (moment c.process.new.self (g.I.Source.left c.process.new.input) (g.O.Sink.written c.process.new.output) (g.E.Sink.written c.process.new.report))
          0 0 0 0 0 0 start.held start.number c.in-Err.ensures.ended,
    )
