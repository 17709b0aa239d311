use Rattle.std.proofs.Common.{arith}
use Rattle.std.proofs.lemmas.Grind.{common_steps}
use Rattle.json_text.proofs.number.number_end.Goals as goal

pub loop-end-preserved : goal.loop-end-preserved
loop-end-preserved c = grind (arith, common_steps)

pub returns-else-matches-clause-value : goal.returns-else-matches-clause-value
returns-else-matches-clause-value c = grind (arith, common_steps)
