use Rattle.std.proofs.Common.{length, drop, arith, ◌∙◌}
use Rattle.std.proofs.lemmas.List.{take_at, length-take-le}
use Rattle.protocol_pairs.proofs.known_pairs.keep.Goals as goal

pub returns-then-lay_kept-clause-passes : goal.returns-then-lay_kept-clause-passes
returns-then-lay_kept-clause-passes g c route =
    let x = c.lay_kept.ensures.passes c.if-lay_kept.true route in
    let size = length c.args.frame.now in
    let part = length-take-le size c.args.cells.now (omega (arith, c.requires.cells)) in
    let bytes = take_at c.lay_kept.new.cells (drop size c.args.cells.now) size (omega (arith, c.lay_kept.ensures.kept, part)) in
    (x.0, (x.1.0, bytes ∙ x.1.1))
