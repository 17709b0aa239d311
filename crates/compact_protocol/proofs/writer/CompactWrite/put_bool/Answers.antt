use Rattle.std.proofs.Common.{arith}
use Rattle.std.proofs.lemmas.Grind.{common_steps}
use Rattle.compact_protocol.proofs.writer.CompactWrite.put_bool.Goals as goal

pub put_field-requires-clause-room : goal.put_field-requires-clause-room
put_field-requires-clause-room c = grind (arith, common_steps)

pub push_byte-requires : goal.push_byte-requires
push_byte-requires c = grind (arith, common_steps)
