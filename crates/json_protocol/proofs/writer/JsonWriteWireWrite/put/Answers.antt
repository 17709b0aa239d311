use Rattle.std.proofs.Common.{arith}
use Rattle.std.proofs.lemmas.Grind.{common_steps}
use Rattle.json_protocol.proofs.writer.JsonWriteWireWrite.put.Goals as goal

pub returns-clause-out : goal.returns-clause-out
returns-clause-out c = grind (arith, common_steps)

pub put_item-requires : goal.put_item-requires
put_item-requires c = grind (arith, common_steps)
