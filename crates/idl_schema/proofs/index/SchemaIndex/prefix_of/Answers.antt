use Rattle.std.proofs.Common.{arith}
use Rattle.std.proofs.lemmas.Grind.{common_steps}
use Rattle.idl_schema.specs.Shares.{prefix_of}
use Rattle.idl_schema.proofs.index.SchemaIndex.prefix_of.Goals as goal

pub returns-in-None : goal.returns-in-None
unfolding prefix_of
returns-in-None c = grind (arith, common_steps)

pub returns-in-Some : goal.returns-in-Some
unfolding prefix_of
returns-in-Some c = grind (arith, common_steps)
