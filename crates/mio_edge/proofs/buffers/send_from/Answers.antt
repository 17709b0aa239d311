use Rattle.std.proofs.Common.{arith}
use Rattle.std.proofs.lemmas.Grind.{common_steps}
use Rattle.mio_edge.proofs.buffers.send_from.Goals as goal

pub returns-in_default : goal.returns-in_default
returns-in_default g c = grind (arith, common_steps)

pub returns-in-Took-clause-moves : goal.returns-in-Took-clause-moves
returns-in-Took-clause-moves g c = grind (arith, common_steps)
