use Rattle.std.proofs.Common.{arith}
use Rattle.std.proofs.lemmas.Grind.{common_steps}
use Rattle.binary_protocol.specs.Scan.{string_at, size_at}
use Rattle.binary_protocol.proofs.forms.name_front.Goals as goal

pub returns : goal.returns
unfolding string_at size_at
returns c = grind (arith, common_steps)
