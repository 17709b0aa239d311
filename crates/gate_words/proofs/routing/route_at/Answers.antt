use Rattle.std.proofs.Common.{arith}
use Rattle.std.proofs.lemmas.Grind.{common_steps}
use Rattle.gate_words.proofs.routing.route_at.Goals as goal

pub returns-in_default-split_first-clause-value : goal.returns-in_default-split_first-clause-value
returns-in_default-split_first-clause-value c = grind (arith, common_steps)

pub returns-in_default-clause-value : goal.returns-in_default-clause-value
returns-in_default-clause-value c = grind (arith, common_steps)

pub returns-in_default-2-clause-value : goal.returns-in_default-2-clause-value
returns-in_default-2-clause-value c = grind (arith, common_steps)

pub returns-then-not-can_listen_at-clause-value : goal.returns-then-not-can_listen_at-clause-value
returns-then-not-can_listen_at-clause-value c = grind (arith, common_steps)
