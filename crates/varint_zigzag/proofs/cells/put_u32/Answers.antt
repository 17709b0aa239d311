use Rattle.std.proofs.Common.{◌^◌, ◌<◌, arith}
use Rattle.varint_zigzag.specs.Bounds.{shortest_most}
use Rattle.varint_zigzag.proofs.cells.put_u32.Goals as goal

pub returns-clause-short : goal.returns-clause-short
returns-clause-short c =
    let small : c.from.result < 128 ^ 5 = omega (arith, c.from.ensures) in
    omega (arith, c.put_short.ensures.place, shortest_most 4 c.from.result small)
