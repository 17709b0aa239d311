use Rattle.std.proofs.Common.{arith}
use Rattle.std.proofs.lemmas.Grind.{common_steps}
use Rattle.binary_protocol.specs.Scan.{elements_at}
use Rattle.binary_protocol.proofs.scan.elements_at.Goals as goal

pub returns-in-Err-clause-exact : goal.returns-in-Err-clause-exact
unfolding elements_at
returns-in-Err-clause-exact c = grind (arith, common_steps)

pub returns-in-Ok-clause-exact : goal.returns-in-Ok-clause-exact
unfolding elements_at
returns-in-Ok-clause-exact c = grind (arith, common_steps)
