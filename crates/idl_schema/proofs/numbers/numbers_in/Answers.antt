use Rattle.std.proofs.Common.{arith}
use Rattle.std.proofs.lemmas.Grind.{common_steps}
use Rattle.idl_schema.proofs.numbers.numbers_in.Goals as goal

pub returns : goal.returns
returns c = grind (arith, common_steps)

pub loop-definition-preserved : goal.loop-definition-preserved
loop-definition-preserved c = grind (arith, common_steps)
