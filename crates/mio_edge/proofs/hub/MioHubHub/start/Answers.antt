use Rattle.gate_hub.specs.Hubs.{started_with}
use Rattle.mio_edge.proofs.Telling.{start_leads}
use Rattle.mio_edge.proofs.hub.MioHubHub.start.Goals as goal
use Rattle.std.proofs.Common.{arith}
use Rattle.std.proofs.lemmas.Grind.{common_steps}

pub returns-in-Ok-clause-leads : goal.returns-in-Ok-clause-leads
returns-in-Ok-clause-leads g c = start_leads g.W.Network.is_telling g.W.Stream.Stream.tells c.args.self.now (record c.args.self.now { sockets = c.start.new.self }) (started_with c.args.listen.now c.args.upstream.now c.args.accept c.args.sessions) c.start.result c.start.ensures.begins c.start.ensures.keeps c.start.ensures.announced

pub returns-in-Err-clause-each : goal.returns-in-Err-clause-each
returns-in-Err-clause-each g c = grind (arith, common_steps)

pub returns-in-Ok-clause-each : goal.returns-in-Ok-clause-each
returns-in-Ok-clause-each g c = grind (arith, common_steps)

pub returns-in-Ok-clause-unfound : goal.returns-in-Ok-clause-unfound
returns-in-Ok-clause-unfound g c = grind (arith, common_steps)

pub returns-in-Ok-clause-accept : goal.returns-in-Ok-clause-accept
returns-in-Ok-clause-accept g c = grind (arith, common_steps)

pub returns-in-Err-clause-unfound : goal.returns-in-Err-clause-unfound
returns-in-Err-clause-unfound g c = grind (arith, common_steps)

pub returns-in-Err-clause-listens : goal.returns-in-Err-clause-listens
returns-in-Err-clause-listens g c = grind (arith, common_steps)

pub returns-in-Ok-clause-cause : goal.returns-in-Ok-clause-cause
returns-in-Ok-clause-cause g c = grind (arith, common_steps)
