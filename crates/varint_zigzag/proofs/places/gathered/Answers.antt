use Rattle.std.proofs.Common.{bit_and, ◌-◌, ◌/◌, arith}
use Rattle.std.proofs.lemmas.Nat.{and_le_l}
use Rattle.varint_zigzag.proofs.Words.{gathered_groups}
use Rattle.varint_zigzag.proofs.places.gathered.Goals as goal

pub returns : goal.returns
returns c = λ groups are is. gathered_groups groups are c.args.word is

pub overflow_sub-pairs : goal.overflow_sub-pairs
overflow_sub-pairs c = omega (arith, and_le_l c.args.word 0x7f00_7f00_7f00_7f00)

pub overflow_sub-fours : goal.overflow_sub-fours
overflow_sub-fours c = omega (arith, and_le_l (c.args.word - bit_and c.args.word 0x7f00_7f00_7f00_7f00 / 2) 0x3fff_0000_3fff_0000)
