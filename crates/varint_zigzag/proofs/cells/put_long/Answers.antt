use Rattle.std.proofs.Common.{arith, ◌∙◌, ap, ◌++◌, take}
use Rattle.varint_zigzag.proofs.Laid.{long_word, laid_twice}
use Rattle.varint_zigzag.proofs.cells.put_long.Goals as goal

pub overflow_add-spread : goal.overflow_add-spread
overflow_add-spread c = let long = long_word c.args.v c.spread.result (omega arith) c.requires.large c.spread.ensures in omega (arith, long.fits)

pub returns-clause-laid : goal.returns-clause-laid
returns-clause-laid c =
    let long = long_word c.args.v c.spread.result (omega arith) c.requires.large c.spread.ensures in
    laid_twice c.args.cells.now c.put_word.new.cells _ _ _ _ _ c.args.to _ _ c.put_word.ensures long.long c.put_two.ensures (omega (arith, c.put_word.auto.cells)) (omega arith) (omega arith) (omega arith) ∙ ap (λ xs. take c.args.to c.args.cells.now ++ xs) long.laid

pub returns-clause-place : goal.returns-clause-place
returns-clause-place c = let long = long_word c.args.v c.spread.result (omega arith) c.requires.large c.spread.ensures in omega (arith, long.size)
