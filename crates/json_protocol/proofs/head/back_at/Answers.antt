use Rattle.std.proofs.Common.{arith}
use Rattle.std.proofs.lemmas.Grind.{common_steps}
use Rattle.json_protocol.specs.Head.{back_at}
use Rattle.json_protocol.proofs.head.back_at.Goals as goal

pub overflow_cast-result : goal.overflow_cast-result
unfolding back_at
overflow_cast-result c = grind (arith, common_steps)

pub returns-clause-onward : goal.returns-clause-onward
unfolding back_at
returns-clause-onward c = grind (arith, common_steps)
