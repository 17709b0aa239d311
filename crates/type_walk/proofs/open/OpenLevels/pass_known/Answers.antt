use Rattle.std.proofs.Common.{arith}
use Rattle.std.proofs.lemmas.Grind.{common_steps}
use Rattle.type_walk.proofs.open.OpenLevels.pass_known.Goals as goal

pub returns-in-SetBegin-clause-after : goal.returns-in-SetBegin-clause-after
returns-in-SetBegin-clause-after c = grind (arith, common_steps)

pub returns-in-Stop-clause-after : goal.returns-in-Stop-clause-after
returns-in-Stop-clause-after c = grind (arith, common_steps)

pub returns-in-ListBegin-clause-after : goal.returns-in-ListBegin-clause-after
returns-in-ListBegin-clause-after c = grind (arith, common_steps)

pub returns-in-StructBegin-clause-after : goal.returns-in-StructBegin-clause-after
returns-in-StructBegin-clause-after c = grind (arith, common_steps)

pub returns-in-MapBegin-clause-after : goal.returns-in-MapBegin-clause-after
returns-in-MapBegin-clause-after c = grind (arith, common_steps)

pub returns-in-Field-clause-after : goal.returns-in-Field-clause-after
returns-in-Field-clause-after c = grind (arith, common_steps)
