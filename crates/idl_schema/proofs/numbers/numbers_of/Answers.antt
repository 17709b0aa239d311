use Rattle.std.proofs.Common.{arith}
use Rattle.std.proofs.lemmas.Grind.{common_steps}
use Rattle.idl_schema.specs.Numbers.{numbers_of}
use Rattle.idl_schema.proofs.numbers.numbers_of.Goals as goal

pub loop-file-preserved : goal.loop-file-preserved
unfolding numbers_of
loop-file-preserved c = grind (arith, common_steps)

pub returns : goal.returns
unfolding numbers_of
returns c = grind (arith, common_steps)
