use Rattle.std.proofs.Common.{refl, arith}
use Rattle.varint_zigzag.proofs.Laid.{laid_in}
use Rattle.varint_zigzag.proofs.Shortest.{shortest_small}
use Rattle.varint_zigzag.proofs.cells.put_size.Goals as goal

pub returns-then-v-lt128-clause-laid : goal.returns-then-v-lt128-clause-laid
returns-then-v-lt128-clause-laid c =
    rw (shortest_small c.args.v c.if-v-lt128.true)
    (laid_in c.args.cells.now c.put_one.new.cells _ _ c.args.to 1 _ c.put_one.ensures (omega arith) refl (omega arith))

pub returns-then-v-lt128-clause-place : goal.returns-then-v-lt128-clause-place
returns-then-v-lt128-clause-place c = rw (shortest_small c.args.v c.if-v-lt128.true) refl
