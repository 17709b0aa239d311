use Rattle.std.proofs.Common.{refl}
use Rattle.gate_start.specs.Starting.{Goes, Stops}
use Rattle.gate_run.proofs.server.start_server.Goals as goal

pub returns-in-Ok-clause-serves : goal.returns-in-Ok-clause-serves
returns-in-Ok-clause-serves g c = λ left input. Goes c.in-Ok.start c.in-Ok.ensures.told c.in-Ok.ensures.cause (c.serve_all.ensures.serves left input)

pub returns-in-Err-clause-serves : goal.returns-in-Err-clause-serves
returns-in-Err-clause-serves g c = λ left input.
    Stops c.in-Err.no_start c.in-Err.ensures.told c.in-Err.ensures.cause
    (c.halt.ensures.halts left (g.O.Sink.written c.args.output.now) input (g.O.Sink.faults c.args.output.now), refl)

pub serve_all-requires : goal.serve_all-requires
serve_all-requires g c = record { least = c.requires.least; limit = c.requires.limit; some = c.requires.some; few = c.requires.few; service = c.in-Ok.ensures.known }
