use Rattle.std.proofs.Common.{arith}
use Rattle.std.proofs.lemmas.Grind.{common_steps}
use Rattle.idl_parser.specs.Functions.{function_at}
use Rattle.idl_parser.proofs.functions.function_at.Goals as goal

pub returns-clause-exact : goal.returns-clause-exact
unfolding function_at
returns-clause-exact c = grind (arith, common_steps)
