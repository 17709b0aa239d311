use Rattle.std.proofs.Common.{arith}
use Rattle.std.proofs.lemmas.Grind.{common_steps}
use Rattle.json_protocol.proofs.put.put_sequence.Goals as goal

pub returns : goal.returns
returns c = grind (arith, common_steps)

pub push-requires-3 : goal.push-requires-3
push-requires-3 c = grind (arith, common_steps)

pub write_int-requires : goal.write_int-requires
write_int-requires c = grind (arith, common_steps)

pub push-requires-2 : goal.push-requires-2
push-requires-2 c = grind (arith, common_steps)
