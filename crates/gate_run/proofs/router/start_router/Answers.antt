use Rattle.std.proofs.Common.{refl}
use Rattle.gate_start.specs.Starting.{Goes, Stops}
use Rattle.gate_run.proofs.router.start_router.Goals as goal

pub returns-in-Ok-clause-routes : goal.returns-in-Ok-clause-routes
returns-in-Ok-clause-routes g c = λ left input. Goes c.in-Ok.start c.in-Ok.ensures.told c.in-Ok.ensures.cause (c.route_all.ensures.routes left input)

pub returns-in-Err-clause-routes : goal.returns-in-Err-clause-routes
returns-in-Err-clause-routes g c = λ left input.
    Stops c.in-Err.no_start c.in-Err.ensures.told c.in-Err.ensures.cause
    (c.halt.ensures.halts left (g.O.Sink.written c.args.output.now) input (g.O.Sink.faults c.args.output.now), refl)
