use Rattle.std.proofs.Common.{arith}
use Rattle.std.proofs.lemmas.Grind.{common_steps}
use Rattle.compact_protocol.specs.Plain.{elements_spelling}
use Rattle.compact_protocol.proofs.writer.put_elements.Goals as goal

pub returns-else-size-lt15 : goal.returns-else-size-lt15
unfolding elements_spelling
returns-else-size-lt15 c = grind (arith, common_steps)

pub write_u32-requires : goal.write_u32-requires
unfolding elements_spelling
write_u32-requires c = grind (arith, common_steps)
