use Rattle.std.proofs.Common.{arith}
use Rattle.std.proofs.lemmas.Grind.{common_steps}
use Rattle.json_protocol.proofs.put.put_map.Goals as goal

pub write_int-requires : goal.write_int-requires
write_int-requires c = grind (arith, common_steps)

pub returns : goal.returns
returns c = grind (arith, common_steps)
