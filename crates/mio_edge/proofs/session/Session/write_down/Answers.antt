use Rattle.std.proofs.Common.{arith}
use Rattle.std.proofs.lemmas.Grind.{common_steps}
use Rattle.mio_edge.proofs.session.Session.write_down.Goals as goal

pub returns-clause-rest : goal.returns-clause-rest
returns-clause-rest g c = grind (arith, common_steps)

pub returns-clause-was : goal.returns-clause-was
returns-clause-was g c = grind (arith, common_steps)
