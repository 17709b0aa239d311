use Rattle.std.proofs.Common.{arith}
use Rattle.std.proofs.lemmas.Grind.{common_steps}
use Rattle.http_front.proofs.front.Front.hand.Goals as goal

pub returns-in_default : goal.returns-in_default
returns-in_default c = grind (arith, common_steps)

pub returns-in-Mark-clause-hands : goal.returns-in-Mark-clause-hands
returns-in-Mark-clause-hands c = grind (arith, common_steps)

pub returns-in-Early-clause-hands : goal.returns-in-Early-clause-hands
returns-in-Early-clause-hands c = grind (arith, common_steps)
