use Rattle.std.proofs.Common.{arith}
use Rattle.std.proofs.lemmas.Fmt.{length-decimal-le, decimal_nonempty}
use Rattle.json_text.proofs.LaidDigits.{factor_at, moved_front, fits_moved}
use Rattle.json_text.proofs.lay.lay_short.Goals as goal

pub overflow_sub-count : goal.overflow_sub-count
overflow_sub-count c = omega (arith, decimal_nonempty c.args.value c.ranges.value.fits, c.digit_count-count.ensures)

pub bounds-count : goal.bounds-count
bounds-count c = omega (arith, length-decimal-le 16 c.args.value (omega arith) c.requires.few c.ranges.value.fits, c.digit_count-count.ensures)

pub overflow_mul-value : goal.overflow_mul-value
overflow_mul-value c =
    let count = c.digit_count-count in
    let few = length-decimal-le 16 c.args.value (omega arith) c.requires.few c.ranges.value.fits in
    let some = decimal_nonempty c.args.value c.ranges.value.fits in
    record { fits = omega (arith, fits_moved c.args.value _ count.result c.ranges.value.fits count.ensures (omega (arith, few, count.ensures)) (factor_at count.result (omega (arith, some, count.ensures)) (omega (arith, few, count.ensures)))) }

pub lay_sixteen-requires-clause-few : goal.lay_sixteen-requires-clause-few
lay_sixteen-requires-clause-few c =
    let count = c.digit_count-count in
    let few = length-decimal-le 16 c.args.value (omega arith) c.requires.few c.ranges.value.fits in
    let some = decimal_nonempty c.args.value c.ranges.value.fits in
    fits_moved c.args.value _ count.result c.ranges.value.fits count.ensures (omega (arith, few, count.ensures)) (factor_at count.result (omega (arith, some, count.ensures)) (omega (arith, few, count.ensures)))

pub overflow_add-result : goal.overflow_add-result
overflow_add-result c =
    let few = length-decimal-le 16 c.args.value (omega arith) c.requires.few c.ranges.value.fits in
    record { fits = omega (arith, few, c.digit_count-count.ensures, c.lay_sixteen.ensures.place) }

pub returns-clause-laid : goal.returns-clause-laid
returns-clause-laid c =
    let count = c.digit_count-count in
    let few = length-decimal-le 16 c.args.value (omega arith) c.requires.few c.ranges.value.fits in
    let some = decimal_nonempty c.args.value c.ranges.value.fits in
    moved_front c.args.cells.now c.lay_sixteen.new.cells c.args.to c.lay_sixteen.result c.args.value _ count.result c.ranges.value.fits count.ensures (omega (arith, few, count.ensures)) (factor_at count.result (omega (arith, some, count.ensures)) (omega (arith, few, count.ensures)))
    c.lay_sixteen.ensures.place (omega arith) c.lay_sixteen.ensures.laid

pub offset_bounds-count : goal.offset_bounds-count
offset_bounds-count c =
    let few = length-decimal-le 16 c.args.value (omega arith) c.requires.few c.ranges.value.fits in
    record { fits = omega (arith, few, c.digit_count-count.ensures) }
