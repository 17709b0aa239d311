use Rattle.std.proofs.Common.{arith}
use Rattle.std.proofs.lemmas.Grind.{common_steps}
use Rattle.compact_protocol.specs.Plain.{field_spelling}
use Rattle.compact_protocol.proofs.writer.put_field.Goals as goal

pub write_u32-requires : goal.write_u32-requires
unfolding field_spelling
write_u32-requires c = grind (arith, common_steps)

pub returns-in-None : goal.returns-in-None
unfolding field_spelling
returns-in-None c = grind (arith, common_steps)

pub push_byte-requires : goal.push_byte-requires
unfolding field_spelling
push_byte-requires c = grind (arith, common_steps)
