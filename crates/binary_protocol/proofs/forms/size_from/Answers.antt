use Rattle.std.proofs.Common.{arith}
use Rattle.std.proofs.lemmas.Grind.{common_steps}
use Rattle.binary_protocol.specs.Scan.{size_at}
use Rattle.binary_protocol.proofs.forms.size_from.Goals as goal

pub returns-clause-found : goal.returns-clause-found
unfolding size_at
returns-clause-found c = grind (arith, common_steps)
