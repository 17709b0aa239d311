use Rattle.std.proofs.Common.{arith}
use Rattle.std.proofs.lemmas.Grind.{common_steps}
use Rattle.gate_words.proofs.serving.serve_as.Goals as goal

pub returns-else-serving-clause-value : goal.returns-else-serving-clause-value
returns-else-serving-clause-value c = grind (arith, common_steps)

pub returns-then-can_serve-clause-range : goal.returns-then-can_serve-clause-range
returns-then-can_serve-clause-range c = grind (arith, common_steps)

pub returns-then-is_some-clause-value : goal.returns-then-is_some-clause-value
returns-then-is_some-clause-value c = grind (arith, common_steps)

pub returns-then-can_serve-clause-value : goal.returns-then-can_serve-clause-value
returns-then-can_serve-clause-value c = grind (arith, common_steps)
