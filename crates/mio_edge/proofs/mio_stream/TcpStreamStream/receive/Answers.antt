use Rattle.std.proofs.Common.{arith}
use Rattle.std.proofs.lemmas.Grind.{common_steps}
use Rattle.mio_edge.proofs.mio_stream.TcpStreamStream.receive.Goals as goal

pub returns-in-Err-clause-moves : goal.returns-in-Err-clause-moves
returns-in-Err-clause-moves c = grind (arith, common_steps)

pub returns-in-Err-2-clause-moves : goal.returns-in-Err-2-clause-moves
returns-in-Err-2-clause-moves c = grind (arith, common_steps)

pub returns-in-Ok-clause-moves : goal.returns-in-Ok-clause-moves
returns-in-Ok-clause-moves c = grind (arith, common_steps)

pub returns-in-Ok-eq0-clause-moves : goal.returns-in-Ok-eq0-clause-moves
returns-in-Ok-eq0-clause-moves c = grind (arith, common_steps)
