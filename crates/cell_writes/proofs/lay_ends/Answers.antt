use Rattle.std.proofs.Common.{arith}
use Rattle.cell_writes.proofs.Laid.{laid_ends}
use Rattle.cell_writes.proofs.lay_ends.Goals as goal

pub returns-clause-laid : goal.returns-clause-laid
returns-clause-laid g c =
    laid_ends c.args.cells.now c.lay_fixed.new.cells c.lay_fixed-2.new.cells c.args.part.now c.args.to c.lay_fixed.result c.lay_fixed-2.result g.row.N c.args.count c.lay_fixed.ensures.laid c.lay_fixed.ensures.place
    c.lay_fixed-2.ensures.laid c.lay_fixed-2.ensures.place (omega (arith, c.requires.room)) c.requires.least c.requires.most c.requires.bytes
