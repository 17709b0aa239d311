use Rattle.std.proofs.Common.{arith}
use Rattle.std.proofs.lemmas.Grind.{common_steps}
use Rattle.gate_words.proofs.targets.push_target.Goals as goal

pub returns-then-not-is_name : goal.returns-then-not-is_name
returns-then-not-is_name c = grind (arith, common_steps)

pub returns : goal.returns
returns c = grind (arith, common_steps)
