use Rattle.std.proofs.Common.{arith}
use Rattle.std.proofs.lemmas.Grind.{common_steps}
use Rattle.mio_edge.proofs.buffers.receive_from.Goals as goal

pub cut-requires : goal.cut-requires
cut-requires g c = grind (arith, common_steps)

pub returns-in-Bytes-clause-some : goal.returns-in-Bytes-clause-some
returns-in-Bytes-clause-some g c = grind (arith, common_steps)

pub returns-in-Bytes-clause-moves : goal.returns-in-Bytes-clause-moves
returns-in-Bytes-clause-moves g c = grind (arith, common_steps)

pub returns-in-NotReady : goal.returns-in-NotReady
returns-in-NotReady g c = grind (arith, common_steps)
