use Rattle.std.proofs.Common.{arith}
use Rattle.std.proofs.lemmas.Grind.{common_steps}
use Rattle.session_judge.proofs.calls.pass_call.Goals as goal

pub cut-requires : goal.cut-requires
cut-requires c = grind (arith, common_steps)

pub returns-in-WrongWay-clause-left : goal.returns-in-WrongWay-clause-left
returns-in-WrongWay-clause-left c = grind (arith, common_steps)

pub returns-in-WrongWay-clause-within : goal.returns-in-WrongWay-clause-within
returns-in-WrongWay-clause-within c = grind (arith, common_steps)
