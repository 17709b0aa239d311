use Rattle.std.proofs.Common.{arith}
use Rattle.std.proofs.lemmas.Grind.{common_steps}
use Rattle.idl_schema.proofs.index.SchemaIndex.prefix_in.Goals as goal

pub returns : goal.returns
returns c = grind (arith, common_steps)

pub returns-in-loop-path : goal.returns-in-loop-path
returns-in-loop-path c = grind (arith, common_steps)

pub loop-path-preserved : goal.loop-path-preserved
loop-path-preserved c = grind (arith, common_steps)
