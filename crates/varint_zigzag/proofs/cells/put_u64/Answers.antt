use Rattle.std.proofs.Common.{arith}
use Rattle.varint_zigzag.specs.Bounds.{shortest_ten}
use Rattle.varint_zigzag.proofs.cells.put_u64.Goals as goal

pub returns-then-v-lt-SHORT-clause-short : goal.returns-then-v-lt-SHORT-clause-short
returns-then-v-lt-SHORT-clause-short c = omega (arith, c.put_short.ensures.place, shortest_ten c.args.v)

pub returns-else-v-lt-SHORT-clause-short : goal.returns-else-v-lt-SHORT-clause-short
returns-else-v-lt-SHORT-clause-short c = omega (arith, c.put_long.ensures.place, shortest_ten c.args.v)
