use Rattle.std.proofs.Common.{◌++◌, List, ℕ, arith, ap}
use Rattle.binary_protocol.proofs.Filled.{filled}
use Rattle.binary_protocol.proofs.writer.put_head.Goals as goal

pub returns : goal.returns
returns c =
    let tail = c.tail-cells.result.now in
    ap (λ (bytes : List ℕ). record { bytes = c.args.out.now.bytes ++ bytes; room = c.args.out.now.room })
    (filled tail c.lay_head.new.cells _ c.lay_head.result c.lay_head.ensures.laid (omega (arith, c.lay_head.ensures.place, c.tail-cells.ensures.size)) (omega arith))
