use Rattle.std.proofs.Common.{arith}
use Rattle.std.proofs.lemmas.Grind.{common_steps}
use Rattle.idl_consts.proofs.survey.value_turn.Goals as goal

pub returns-in-MapBegin : goal.returns-in-MapBegin
returns-in-MapBegin c = grind (arith, common_steps)

pub returns-in-Named : goal.returns-in-Named
returns-in-Named c = grind (arith, common_steps)

pub returns-in-ListBegin : goal.returns-in-ListBegin
returns-in-ListBegin c = grind (arith, common_steps)

pub returns-in-Literal : goal.returns-in-Literal
returns-in-Literal c = grind (arith, common_steps)

pub returns-in-Double : goal.returns-in-Double
returns-in-Double c = grind (arith, common_steps)
