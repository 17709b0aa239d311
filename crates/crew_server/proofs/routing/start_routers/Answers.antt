use Rattle.std.proofs.Common.{refl}
use Rattle.gate_start.specs.Starting.{Goes, Stops}
use Rattle.crew_server.proofs.routing.start_routers.Goals as goal

pub returns-in-Ok-clause-routes : goal.returns-in-Ok-clause-routes
returns-in-Ok-clause-routes g c = Goes c.in-Ok.start c.in-Ok.ensures.told c.in-Ok.ensures.cause c.route_started.ensures.routes

pub returns-in-Err-clause-routes : goal.returns-in-Err-clause-routes
returns-in-Err-clause-routes g c = Stops c.in-Err.no_start c.in-Err.ensures.told c.in-Err.ensures.cause (c.halt.ensures.halts, refl)
