use Rattle.std.proofs.Common.{arith}
use Rattle.std.proofs.lemmas.Grind.{common_steps}
use Rattle.compact_protocol.specs.Plain.{short_step}
use Rattle.compact_protocol.proofs.writer.short_step.Goals as goal

pub returns-then-step-lt16-clause-bound : goal.returns-then-step-lt16-clause-bound
unfolding short_step
returns-then-step-lt16-clause-bound c = grind (arith, common_steps)

pub returns-then-step-lt16-clause-exact : goal.returns-then-step-lt16-clause-exact
unfolding short_step
returns-then-step-lt16-clause-exact c = grind (arith, common_steps)

pub overflow_cast-result : goal.overflow_cast-result
unfolding short_step
overflow_cast-result c = grind (arith, common_steps)

pub returns-else-step-gt0-clause-exact : goal.returns-else-step-gt0-clause-exact
unfolding short_step
returns-else-step-gt0-clause-exact c = grind (arith, common_steps)

pub returns-else-step-lt16-clause-exact : goal.returns-else-step-lt16-clause-exact
unfolding short_step
returns-else-step-lt16-clause-exact c = grind (arith, common_steps)

pub overflow_sub-step : goal.overflow_sub-step
unfolding short_step
overflow_sub-step c = grind (arith, common_steps)
