use Rattle.std.proofs.Common.{arith}
use Rattle.std.proofs.lemmas.Grind.{common_steps}
use Rattle.gate_words.specs.Options.{with_option}
use Rattle.gate_words.proofs.options.Options.with.Goals as goal

pub returns-then-eq-clause-value : goal.returns-then-eq-clause-value
unfolding with_option
returns-then-eq-clause-value c = grind (arith, common_steps)

pub returns-then-eq-2-clause-value : goal.returns-then-eq-2-clause-value
unfolding with_option
returns-then-eq-2-clause-value c = grind (arith, common_steps)
