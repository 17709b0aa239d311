use Rattle.std.proofs.Common.{arith}
use Rattle.std.proofs.lemmas.Grind.{common_steps}
use Rattle.gate_words.specs.Commands.{command}
use Rattle.gate_words.proofs.command.read_command.Goals as goal

pub returns-then-eq-3-clause-value : goal.returns-then-eq-3-clause-value
unfolding command
returns-then-eq-3-clause-value c = grind (arith, common_steps)

pub returns-then-eq-8-clause-value : goal.returns-then-eq-8-clause-value
unfolding command
returns-then-eq-8-clause-value c = grind (arith, common_steps)

pub returns-then-eq-7-clause-value : goal.returns-then-eq-7-clause-value
unfolding command
returns-then-eq-7-clause-value c = grind (arith, common_steps)

pub returns-then-eq-2-clause-value : goal.returns-then-eq-2-clause-value
unfolding command
returns-then-eq-2-clause-value c = grind (arith, common_steps)

pub returns-else-eq-8-clause-value : goal.returns-else-eq-8-clause-value
unfolding command
returns-else-eq-8-clause-value c = grind (arith, common_steps)

pub returns-then-eq-4-clause-value : goal.returns-then-eq-4-clause-value
unfolding command
returns-then-eq-4-clause-value c = grind (arith, common_steps)

pub returns-then-eq-5-clause-value : goal.returns-then-eq-5-clause-value
unfolding command
returns-then-eq-5-clause-value c = grind (arith, common_steps)
