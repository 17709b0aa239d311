use Rattle.std.proofs.Common.{arith}
use Rattle.std.proofs.lemmas.Grind.{common_steps}
use Rattle.mio_edge.proofs.port.Port.attach.Goals as goal

pub returns-clause-tells : goal.returns-clause-tells
returns-clause-tells g c = grind (arith, common_steps)
