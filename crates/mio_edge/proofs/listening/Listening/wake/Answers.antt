use Rattle.std.proofs.Common.{arith}
use Rattle.std.proofs.lemmas.Grind.{common_steps}
use Rattle.mio_edge.proofs.listening.Listening.wake.Goals as goal

pub returns-clause-table : goal.returns-clause-table
returns-clause-table g c = grind (arith, common_steps)
