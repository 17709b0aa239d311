use Rattle.std.proofs.Common.{refl}
use Rattle.gate_start.specs.Starting.{Goes, Stops}
use Rattle.crew_server.proofs.serving.start_crew.Goals as goal

pub returns-in-Ok-clause-serves : goal.returns-in-Ok-clause-serves
returns-in-Ok-clause-serves g c = Goes c.in-Ok.start c.in-Ok.ensures.told c.in-Ok.ensures.cause c.serve_started.ensures.serves

pub returns-in-Err-clause-serves : goal.returns-in-Err-clause-serves
returns-in-Err-clause-serves g c = Stops c.in-Err.no_start c.in-Err.ensures.told c.in-Err.ensures.cause (c.halt.ensures.halts, refl)
