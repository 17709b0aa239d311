use Rattle.std.proofs.Common.{arith}
use Rattle.std.proofs.lemmas.Grind.{common_steps}
use Rattle.idl_parser.specs.Functions.{functions_in}
use Rattle.idl_parser.proofs.functions.functions_in.Goals as goal

pub returns-clause-exact : goal.returns-clause-exact
unfolding functions_in
returns-clause-exact c = grind (arith, common_steps)
