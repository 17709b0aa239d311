use Rattle.std.proofs.Common.{arith}
use Rattle.std.proofs.lemmas.Grind.{common_steps}
use Rattle.compact_protocol.specs.Plain.{string_spelling}
use Rattle.compact_protocol.proofs.writer.put_string.Goals as goal

pub returns : goal.returns
unfolding string_spelling
returns c = grind (arith, common_steps)

pub write_u32-requires : goal.write_u32-requires
unfolding string_spelling
write_u32-requires c = grind (arith, common_steps)

pub push-requires : goal.push-requires
unfolding string_spelling
push-requires c = grind (arith, common_steps)
