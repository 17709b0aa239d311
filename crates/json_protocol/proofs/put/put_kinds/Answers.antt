use Rattle.std.proofs.Common.{arith}
use Rattle.std.proofs.lemmas.Grind.{common_steps}
use Rattle.json_protocol.proofs.put.put_kinds.Goals as goal

pub push-requires-4 : goal.push-requires-4
push-requires-4 c = grind (arith, common_steps)

pub push-requires-5 : goal.push-requires-5
push-requires-5 c = grind (arith, common_steps)

pub push-requires-2 : goal.push-requires-2
push-requires-2 c = grind (arith, common_steps)

pub push-requires-3 : goal.push-requires-3
push-requires-3 c = grind (arith, common_steps)

pub returns : goal.returns
returns c = grind (arith, common_steps)
