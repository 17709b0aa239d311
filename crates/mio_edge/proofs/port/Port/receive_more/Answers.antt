use Rattle.std.proofs.Common.{arith}
use Rattle.std.proofs.lemmas.Grind.{common_steps}
use Rattle.mio_edge.proofs.port.Port.receive_more.Goals as goal

pub returns-in-Idle-clause-keeps : goal.returns-in-Idle-clause-keeps
returns-in-Idle-clause-keeps g c = grind (arith, common_steps)

pub returns-in-Lost-clause-finds : goal.returns-in-Lost-clause-finds
returns-in-Lost-clause-finds g c = grind (arith, common_steps)

pub returns-in-Ended-clause-keeps : goal.returns-in-Ended-clause-keeps
returns-in-Ended-clause-keeps g c = grind (arith, common_steps)

pub returns-in-Lost-clause-keeps : goal.returns-in-Lost-clause-keeps
returns-in-Lost-clause-keeps g c = grind (arith, common_steps)

pub returns-clause-finds : goal.returns-clause-finds
returns-clause-finds g c = grind (arith, common_steps)
