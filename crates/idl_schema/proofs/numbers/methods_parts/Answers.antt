use Rattle.std.proofs.Common.{arith}
use Rattle.std.proofs.lemmas.Grind.{common_steps}
use Rattle.idl_schema.proofs.numbers.methods_parts.Goals as goal

pub returns : goal.returns
returns c = grind (arith, common_steps)

pub loop-method-preserved : goal.loop-method-preserved
loop-method-preserved c = grind (arith, common_steps)
