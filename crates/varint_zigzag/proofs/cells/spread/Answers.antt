use Rattle.varint_zigzag.proofs.Laid.{spread_groups}
use Rattle.varint_zigzag.proofs.cells.spread.Goals as goal

pub returns : goal.returns
returns c = λ groups are is. spread_groups groups are c.args.number is
