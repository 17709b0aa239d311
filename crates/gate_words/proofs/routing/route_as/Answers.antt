use Rattle.std.proofs.Common.{arith}
use Rattle.std.proofs.lemmas.Grind.{common_steps}
use Rattle.gate_words.proofs.routing.route_as.Goals as goal

pub returns-clause-value : goal.returns-clause-value
returns-clause-value c = grind (arith, common_steps)

pub returns-then-is_within_memory-clause-range : goal.returns-then-is_within_memory-clause-range
returns-then-is_within_memory-clause-range c = grind (arith, common_steps)

pub returns-then-is_for_one_upstream-clause-value : goal.returns-then-is_for_one_upstream-clause-value
returns-then-is_for_one_upstream-clause-value c = grind (arith, common_steps)

pub returns-then-is_within_memory-clause-value : goal.returns-then-is_within_memory-clause-value
returns-then-is_within_memory-clause-value c = grind (arith, common_steps)
