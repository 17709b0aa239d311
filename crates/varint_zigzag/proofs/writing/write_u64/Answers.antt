use Rattle.std.proofs.Common.{arith}
use Rattle.varint_zigzag.proofs.Shortest.{shortest_small}
use Rattle.varint_zigzag.proofs.writing.write_u64.Goals as goal

pub push_byte-requires : goal.push_byte-requires
push_byte-requires c = let room = rw (shortest_small c.args.v c.if-v-lt128.true) at c.requires in omega (arith, room)

pub returns-then-v-lt128 : goal.returns-then-v-lt128
returns-then-v-lt128 c = rw (shortest_small c.args.v c.if-v-lt128.true) c.push_byte.ensures
