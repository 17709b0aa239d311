use Rattle.std.proofs.Common.{arith}
use Rattle.varint_zigzag.proofs.Narrow.{narrow_at, stands_shortest}
use Rattle.varint_zigzag.proofs.standing.shortest_u32_at.Goals as goal

pub returns-clause-stands : goal.returns-clause-stands
returns-clause-stands c =
    let front = c.in_ok-before.ensures in
    let narrow = narrow_at 32 c.from-2.result c.in_ok-before.before c.args.at c.args.bytes.now (omega arith) (omega (arith, c.if-from-before.false)) front.some in
    stands_shortest 5 32 _ _ front.shortest (omega (arith, narrow.few)) narrow.small

pub returns-clause-few : goal.returns-clause-few
returns-clause-few c =
    let narrow = narrow_at 32 c.from-2.result c.in_ok-before.before c.args.at c.args.bytes.now (omega arith) (omega (arith, c.if-from-before.false)) c.in_ok-before.ensures.some in
    (omega arith, omega (arith, narrow.few))
