use Rattle.std.proofs.Common.{arith}
use Rattle.std.proofs.lemmas.Grind.{common_steps}
use Rattle.mio_edge.proofs.hub.MioHub.count_got.Goals as goal

pub returns-in-NotReady-clause-later : goal.returns-in-NotReady-clause-later
returns-in-NotReady-clause-later g c = grind (arith, common_steps)

pub returns-in-Failed-clause-later : goal.returns-in-Failed-clause-later
returns-in-Failed-clause-later g c = grind (arith, common_steps)

pub returns-in-NotReady-clause-cause : goal.returns-in-NotReady-clause-cause
returns-in-NotReady-clause-cause g c = grind (arith, common_steps)

pub returns-in-Failed-clause-wait : goal.returns-in-Failed-clause-wait
returns-in-Failed-clause-wait g c = grind (arith, common_steps)
