use Rattle.std.proofs.Common.{arith}
use Rattle.std.proofs.lemmas.Grind.{common_steps}
use Rattle.idl_schema.proofs.making.add_enum.Goals as goal

pub returns : goal.returns
returns c = grind (arith, common_steps)

pub add_enum-requires : goal.add_enum-requires
add_enum-requires c = grind (arith, common_steps)
