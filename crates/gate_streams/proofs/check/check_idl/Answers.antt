use Rattle.gate_streams.specs.Checking.{Bad}
use Rattle.gate_streams.proofs.Checked.{checked_by}
use Rattle.gate_streams.proofs.check.check_idl.Goals as goal

pub returns-in-Ok-clause-checks : goal.returns-in-Ok-clause-checks
returns-in-Ok-clause-checks g c = λ left input. checked_by c.in-Ok.schema c.in-Ok.ensures.told c.in-Ok.ensures.cause (c.tell.ensures.tells left input)

pub returns-in-Err-clause-checks : goal.returns-in-Err-clause-checks
returns-in-Err-clause-checks g c = λ left input.
    Bad c.in-Err.stop c.in-Err.ensures.told c.in-Err.ensures.cause (c.halt.ensures.halts left (g.O.Sink.written c.args.output.now) input (g.O.Sink.faults c.args.output.now))
