use Rattle.std.proofs.Common.{arith}
use Rattle.std.proofs.lemmas.Grind.{common_steps}
use Rattle.compact_protocol.specs.Plain.{spelling}
use Rattle.compact_protocol.proofs.writer.CompactWrite.spell.Goals as goal

pub write_u32-requires-in-MapBegin : goal.write_u32-requires-in-MapBegin
unfolding spelling
write_u32-requires-in-MapBegin c = grind (arith, common_steps)

pub push_byte-requires-in-MapBegin : goal.push_byte-requires-in-MapBegin
unfolding spelling
push_byte-requires-in-MapBegin c = grind (arith, common_steps)

pub put_double-requires : goal.put_double-requires
unfolding spelling
put_double-requires c = grind (arith, common_steps)

pub returns-in-MapBegin : goal.returns-in-MapBegin
unfolding spelling
returns-in-MapBegin c = grind (arith, common_steps)

pub write_u32-requires : goal.write_u32-requires
unfolding spelling
write_u32-requires c = grind (arith, common_steps)
