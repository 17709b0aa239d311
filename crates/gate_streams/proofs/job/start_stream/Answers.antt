use Rattle.gate_start.specs.Starting.{Goes, Stops}
use Rattle.gate_streams.proofs.job.start_stream.Goals as goal

pub returns-in-Ok-clause-does : goal.returns-in-Ok-clause-does
returns-in-Ok-clause-does g c = Goes c.in-Ok.start c.in-Ok.ensures.told c.in-Ok.ensures.cause c.go_through.ensures.does

pub returns-in-Err-clause-does : goal.returns-in-Err-clause-does
returns-in-Err-clause-does g c =
    Stops c.in-Err.stop c.in-Err.ensures.told c.in-Err.ensures.cause
    (c.halt.ensures.halts (g.I.Source.left c.args.input.now) (g.O.Sink.written c.args.output.now) (g.I.Source.faults c.args.input.now) (g.O.Sink.faults c.args.output.now))
