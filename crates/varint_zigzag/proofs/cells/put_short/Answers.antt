use Rattle.std.proofs.Common.{◌+◌, ◌/◌, ◌++◌, length, take, arith, sym, ap, subst, ◌∙◌}
use Rattle.varint_zigzag.specs.Varint.{shortest}
use Rattle.varint_zigzag.proofs.Laid.{Short, short_word, laid_in}
use Rattle.varint_zigzag.proofs.Tops.{sized}
use Rattle.varint_zigzag.proofs.cells.put_short.Goals as goal

pub overflow_add-spread : goal.overflow_add-spread
overflow_add-spread c =
    let top = c.top_bit-top in
    let short = short_word c.args.v (top.result / 7) c.spread.result (omega (arith, top.ensures.few)) (sized c.args.v top.result top.ensures.few top.ensures.highest) c.spread.ensures in
    omega (arith, c.marks_at.ensures.marks c.args.v top.ensures.highest, short.fits)

pub overflow_add-result : goal.overflow_add-result
overflow_add-result c =
    let top = c.top_bit-top in
    let size = (sized c.args.v top.result top.ensures.few top.ensures.highest).size in
    omega (arith, c.count_at.ensures.count c.args.v top.ensures.highest, size, top.ensures.few)

pub returns-clause-laid : goal.returns-clause-laid
returns-clause-laid c =
    let top = c.top_bit-top in
    let marks = c.marks_at.ensures.marks c.args.v top.ensures.highest in
    let whole = short_word c.args.v (top.result / 7) c.spread.result (omega (arith, top.ensures.few)) (sized c.args.v top.result top.ensures.few top.ensures.highest) c.spread.ensures in
    let short : Short c.args.v (c.spread.result + c.marks_at.result) = subst (λ m. Short c.args.v (c.spread.result + m)) (sym marks) whole in
    laid_in c.args.cells.now _ _ _ c.args.to (length (shortest c.args.v)) _ c.put_word.ensures (omega arith) (omega (arith, c.count_at.ensures.count c.args.v top.ensures.highest)) (omega (arith, short.long, short.few))
    ∙ ap (λ xs. take c.args.to c.args.cells.now ++ xs) short.laid

pub returns-clause-place : goal.returns-clause-place
returns-clause-place c = omega (arith, c.count_at.ensures.count c.args.v c.top_bit-top.ensures.highest)
