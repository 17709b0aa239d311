use Rattle.std.proofs.Common.{◌*◌, ◌+◌, ◌≤◌, ◌^◌, drop, arith}
use Rattle.std.proofs.Math.Pow.{pow_mono}
use Rattle.varint_zigzag.proofs.Narrow.{stands_shortest}
use Rattle.varint_zigzag.proofs.Fronts.{groups_small}
use Rattle.varint_zigzag.proofs.standing.shortest_u64_at.Goals as goal

pub returns-clause-stands : goal.returns-clause-stands
returns-clause-stands c =
    let front = c.in_ok-before.ensures in
    let few : 7 * (c.in_ok-before.before + 1) ≤ 64 = omega (arith, front.shortest.few) in
    let wide : 2 ^ (7 * (c.in_ok-before.before + 1)) ≤ 2 ^ 64 = pow_mono few in
    stands_shortest 10 64 _ _ front.shortest (omega (arith, front.shortest.few)) (omega (arith, groups_small (c.in_ok-before.before + 1) (drop c.args.at c.args.bytes.now), wide))
