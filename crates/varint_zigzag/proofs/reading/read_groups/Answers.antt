use Rattle.std.proofs.Common.{◌≡◌, ◌<◌, ◌≤◌, ◌%◌, ◌^◌, ◌-◌, get_or, arith, rules}
use Rattle.varint_zigzag.proofs.Carrying.{starts, ends, breaks, stops, tells, goes_on, fits_word, whole}
use Rattle.std.proofs.lemmas.Bool.Decides.{nat_tests}
use Rattle.varint_zigzag.proofs.reading.read_groups.Goals as goal

pub loop-at-init : goal.loop-at-init
loop-at-init c = starts c.args.most c.args.width c.args.bytes.now

pub returns-then-at-bytes : goal.returns-then-at-bytes
returns-then-at-bytes c = ends c.args.most c.args.width c.args.bytes.now _ _ _ c.loop-at.invariant c.loop-at-test.true c.if-at-bytes.true

pub returns-then-not-fits_in : goal.returns-then-not-fits_in
returns-then-not-fits_in c =
    let large : 2 ^ (c.args.width - c.loop-at.shift) ≤ get_or c.args.bytes.now c.loop-at.at 0 % 128 = grind (arith, nat_tests) in
    breaks c.args.most c.args.width c.args.bytes.now _ _ _ c.loop-at.invariant c.if-at-bytes.false large

pub overflow_add-number : goal.overflow_add-number
overflow_add-number c =
    let low : c.from-low.result ≡ get_or c.args.bytes.now c.loop-at.at 0 % 128 = c.from-low.ensures in
    let fits : c.from-low.result < 2 ^ (c.args.width - c.loop-at.shift) = search rules in
    let word = fits_word c.loop-at.number c.from-low.result c.loop-at.shift c.args.width c.loop-at.invariant.small (omega (arith, c.loop-at.invariant.shifted)) (omega arith) fits in
    omega (arith, word)

pub returns-then-byte-lt128 : goal.returns-then-byte-lt128
returns-then-byte-lt128 c =
    let low : c.from-low.result ≡ get_or c.args.bytes.now c.loop-at.at 0 % 128 = c.from-low.ensures in
    let fits : c.from-low.result < 2 ^ (c.args.width - c.loop-at.shift) = search rules in
    let word = fits_word c.loop-at.number c.from-low.result c.loop-at.shift c.args.width c.loop-at.invariant.small (omega (arith, c.loop-at.invariant.shifted)) (omega arith) fits in
    rw (whole c.from-low.result c.loop-at.number c.loop-at.shift word, low)
    (tells c.args.most c.args.width c.args.bytes.now c.loop-at.number c.loop-at.at c.loop-at.shift c.loop-at.invariant c.loop-at-test.true c.if-at-bytes.false (rw low at fits) c.if-byte-lt128.true)

pub loop-at-preserved : goal.loop-at-preserved
loop-at-preserved c =
    let low : c.from-low.result ≡ get_or c.args.bytes.now c.loop-at.at 0 % 128 = c.from-low.ensures in
    let fits : c.from-low.result < 2 ^ (c.args.width - c.loop-at.shift) = search rules in
    let word = fits_word c.loop-at.number c.from-low.result c.loop-at.shift c.args.width c.loop-at.invariant.small (omega (arith, c.loop-at.invariant.shifted)) (omega arith) fits in
    rw (whole c.from-low.result c.loop-at.number c.loop-at.shift word, low)
    (goes_on c.args.most c.args.width c.args.bytes.now c.loop-at.number c.loop-at.at c.loop-at.shift c.loop-at.invariant c.loop-at-test.true c.if-at-bytes.false (rw low at fits) c.if-byte-lt128.false)

pub returns : goal.returns
returns c = stops c.args.most c.args.width c.args.bytes.now _ _ _ c.loop-at.invariant c.loop-at-test.false
