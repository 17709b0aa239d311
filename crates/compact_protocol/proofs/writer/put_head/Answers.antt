use Rattle.std.proofs.Common.{arith}
use Rattle.std.proofs.lemmas.Grind.{common_steps}
use Rattle.compact_protocol.specs.Plain.{head_spelling}
use Rattle.compact_protocol.proofs.writer.put_head.Goals as goal

pub put_string-requires-clause-room : goal.put_string-requires-clause-room
unfolding head_spelling
put_string-requires-clause-room c = grind (arith, common_steps)

pub returns : goal.returns
unfolding head_spelling
returns c = grind (arith, common_steps)

pub write_u32-requires : goal.write_u32-requires
unfolding head_spelling
write_u32-requires c = grind (arith, common_steps)
