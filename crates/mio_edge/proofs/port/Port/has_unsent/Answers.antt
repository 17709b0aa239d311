use Rattle.std.proofs.Common.{arith}
use Rattle.std.proofs.lemmas.Grind.{common_steps}
use Rattle.mio_edge.proofs.port.Port.has_unsent.Goals as goal

pub returns-then-ne-clause-nothing : goal.returns-then-ne-clause-nothing
returns-then-ne-clause-nothing g c = grind (arith, common_steps)

pub returns-then-ne-clause-settled : goal.returns-then-ne-clause-settled
returns-then-ne-clause-settled g c = grind (arith, common_steps)
