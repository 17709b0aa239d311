use Rattle.std.proofs.Common.{arith}
use Rattle.std.proofs.lemmas.Grind.{common_steps}
use Rattle.json_text.proofs.blob.read_blob.Goals as goal

pub returns-in-Bad-clause-exact : goal.returns-in-Bad-clause-exact
returns-in-Bad-clause-exact c = grind (arith, common_steps)

pub returns-in-Short-clause-exact : goal.returns-in-Short-clause-exact
returns-in-Short-clause-exact c = grind (arith, common_steps)

pub returns-in-Whole-clause-exact : goal.returns-in-Whole-clause-exact
returns-in-Whole-clause-exact c = grind (arith, common_steps)
