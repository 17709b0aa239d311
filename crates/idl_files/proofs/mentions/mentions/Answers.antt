use Rattle.std.proofs.Common.{arith}
use Rattle.std.proofs.lemmas.Grind.{common_steps}
use Rattle.idl_files.proofs.mentions.mentions.Goals as goal

pub returns : goal.returns
returns c = grind (arith, common_steps)

pub loop-include-preserved : goal.loop-include-preserved
loop-include-preserved c = grind (arith, common_steps)
