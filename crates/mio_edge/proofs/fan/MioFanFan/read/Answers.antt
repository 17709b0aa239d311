use Rattle.std.proofs.Common.{arith}
use Rattle.std.proofs.lemmas.Grind.{common_steps}
use Rattle.mio_edge.proofs.fan.MioFanFan.read.Goals as goal

pub returns-in-Failed-clause-wait : goal.returns-in-Failed-clause-wait
returns-in-Failed-clause-wait g c = grind (arith, common_steps)

pub returns-in-Failed-clause-leads : goal.returns-in-Failed-clause-leads
returns-in-Failed-clause-leads g c = grind (arith, common_steps)

pub returns-in-NotReady-clause-cause : goal.returns-in-NotReady-clause-cause
returns-in-NotReady-clause-cause g c = grind (arith, common_steps)

pub returns-in-NotReady-clause-leads : goal.returns-in-NotReady-clause-leads
returns-in-NotReady-clause-leads g c = grind (arith, common_steps)

pub returns-in-Bytes-clause-wait : goal.returns-in-Bytes-clause-wait
returns-in-Bytes-clause-wait g c = grind (arith, common_steps)

pub returns-in-Bytes-clause-leads : goal.returns-in-Bytes-clause-leads
returns-in-Bytes-clause-leads g c = grind (arith, common_steps)

pub returns-in-NotReady-clause-later : goal.returns-in-NotReady-clause-later
returns-in-NotReady-clause-later g c = grind (arith, common_steps)

pub returns-in-Failed-clause-later : goal.returns-in-Failed-clause-later
returns-in-Failed-clause-later g c = grind (arith, common_steps)

pub returns-in-Bytes-clause-cause : goal.returns-in-Bytes-clause-cause
returns-in-Bytes-clause-cause g c = grind (arith, common_steps)
