use Rattle.std.proofs.Common.{drop, take, arith, sym, ap, ◌∙◌, length-drop}
use Rattle.cell_writes.proofs.Laid.{laid_wide}
use Rattle.cell_writes.proofs.lay_wide.Goals as goal

pub returns-clause-laid : goal.returns-clause-laid
returns-clause-laid g c =
    let part = drop c.args.begin c.args.frame.now in
    laid_wide c.args.cells.now c.lay_fixed.new.cells part c.args.to g.row.N c.args.count (ap (λ k. take k c.lay_fixed.new.cells) (sym c.lay_fixed.ensures.place) ∙ c.lay_fixed.ensures.laid) (omega (arith, c.requires.room))
    (omega (arith, c.requires.bytes, length-drop c.args.begin c.args.frame.now)) c.requires.few
