use Rattle.std.proofs.Common.{arith, ◌∙◌, subst}
use Rattle.mio_edge.specs.Targets.{LeadsSessions}
use Rattle.mio_edge.proofs.fan.MioFanFan.start.Goals as goal
use Rattle.std.proofs.lemmas.Grind.{common_steps}

pub returns-clause-each : goal.returns-clause-each
returns-clause-each g c = λ is. subst (λ words. LeadsSessions g.W.Network.names words c.start.new.self.serving.listening) (c.as_slice.ensures.value ∙ c.in-Ok.ensures) (c.start.ensures.leads is)

pub returns-clause-listens : goal.returns-clause-listens
returns-clause-listens g c = c.start.ensures.listens

pub returns-clause-leads : goal.returns-clause-leads
returns-clause-leads g c = grind (arith, common_steps)

pub returns-clause-place : goal.returns-clause-place
returns-clause-place g c = grind (arith, common_steps)

pub returns-in_default-clause-leads : goal.returns-in_default-clause-leads
returns-in_default-clause-leads g c = grind (arith, common_steps)

pub returns-clause-unfound : goal.returns-clause-unfound
returns-clause-unfound g c = grind (arith, common_steps)

pub returns-clause-accept : goal.returns-clause-accept
returns-clause-accept g c = grind (arith, common_steps)

pub returns-clause-cause : goal.returns-clause-cause
returns-clause-cause g c = grind (arith, common_steps)

pub returns-in_default-clause-unfound : goal.returns-in_default-clause-unfound
returns-in_default-clause-unfound g c = grind (arith, common_steps)

pub returns-in_default-clause-place : goal.returns-in_default-clause-place
returns-in_default-clause-place g c = grind (arith, common_steps)

pub returns-in_default-clause-each : goal.returns-in_default-clause-each
returns-in_default-clause-each g c = grind (arith, common_steps)
