use Rattle.std.proofs.Common.{arith}
use Rattle.std.proofs.lemmas.Grind.{common_steps}
use Rattle.mio_edge.proofs.fan.MioFanFan.write.Goals as goal

pub returns-in-Failed-clause-leads : goal.returns-in-Failed-clause-leads
returns-in-Failed-clause-leads g c = grind (arith, common_steps)

pub returns-in-NotReady-clause-cause : goal.returns-in-NotReady-clause-cause
returns-in-NotReady-clause-cause g c = grind (arith, common_steps)

pub returns-in-NotReady-clause-leads : goal.returns-in-NotReady-clause-leads
returns-in-NotReady-clause-leads g c = grind (arith, common_steps)

pub returns-in-Failed-clause-later : goal.returns-in-Failed-clause-later
returns-in-Failed-clause-later g c = grind (arith, common_steps)

pub returns-in-Took-clause-wait : goal.returns-in-Took-clause-wait
returns-in-Took-clause-wait g c = grind (arith, common_steps)

pub returns-in-NotReady-clause-later : goal.returns-in-NotReady-clause-later
returns-in-NotReady-clause-later g c = grind (arith, common_steps)

pub returns-in-Took-clause-leads : goal.returns-in-Took-clause-leads
returns-in-Took-clause-leads g c = grind (arith, common_steps)

pub returns-in-Failed-clause-wait : goal.returns-in-Failed-clause-wait
returns-in-Failed-clause-wait g c = grind (arith, common_steps)

pub returns-in-Took-clause-cause : goal.returns-in-Took-clause-cause
returns-in-Took-clause-cause g c = grind (arith, common_steps)
