use Rattle.std.proofs.Common.{arith}
use Rattle.std.proofs.lemmas.Grind.{common_steps}
use Rattle.idl_parser.specs.Declarations.{struct_at}
use Rattle.idl_parser.proofs.definitions.struct_at.Goals as goal

pub returns-clause-exact : goal.returns-clause-exact
unfolding struct_at
returns-clause-exact c = grind (arith, common_steps)
