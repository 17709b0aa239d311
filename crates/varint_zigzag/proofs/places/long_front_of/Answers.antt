use Rattle.std.proofs.Common.{◌≡◌, ◌≤◌, length, take, drop, arith, length-drop}
use Rattle.varint_zigzag.specs.Places.{groups_of}
use Rattle.varint_zigzag.proofs.Fronts.{behind_below, low_number, low_small, long_at, marks_at, nine_found, ten_found}
use Rattle.varint_zigzag.proofs.places.long_front_of.Goals as goal

pub overflow_add-low : goal.overflow_add-low
overflow_add-low c =
    let room : 8 ≤ length (drop c.args.at c.args.bytes.now) = omega (arith, length-drop c.args.at c.args.bytes.now) in
    let small = behind_below c.args.at c.args.bytes.now c.type_inv.bytes in
    let low = low_small (drop c.args.at c.args.bytes.now) c.gathered.result (low_number (drop c.args.at c.args.bytes.now) c.word_at-word.result c.gathered.result room small c.word_at-word.ensures c.gathered.ensures) in
    omega (arith, low, c.from.ensures)

pub returns-then-ninth-lt128-clause-found : goal.returns-then-ninth-lt128-clause-found
returns-then-ninth-lt128-clause-found c =
    let room : 8 ≤ length (drop c.args.at c.args.bytes.now) = omega (arith, length-drop c.args.at c.args.bytes.now) in
    let small = behind_below c.args.at c.args.bytes.now c.type_inv.bytes in
    let low : c.gathered.result ≡ groups_of 8 (take 8 (drop c.args.at c.args.bytes.now)) = low_number (drop c.args.at c.args.bytes.now) c.word_at-word.result c.gathered.result room small c.word_at-word.ensures c.gathered.ensures in
    let marks = marks_at (drop c.args.at c.args.bytes.now) _ _ room small c.word_at-word.ensures c.ends_of.ensures in
    let long = long_at c.args.at c.args.bytes.now (omega arith) (omega (arith, marks)) in
    nine_found (drop c.args.at c.args.bytes.now) _ _ c.gathered.result _ room long low c.if-ninth-lt128.true (omega (arith, c.from.ensures))

pub overflow_add-result : goal.overflow_add-result
overflow_add-result c =
    let room : 8 ≤ length (drop c.args.at c.args.bytes.now) = omega (arith, length-drop c.args.at c.args.bytes.now) in
    let small = behind_below c.args.at c.args.bytes.now c.type_inv.bytes in
    let low = low_small (drop c.args.at c.args.bytes.now) c.gathered.result (low_number (drop c.args.at c.args.bytes.now) c.word_at-word.result c.gathered.result room small c.word_at-word.ensures c.gathered.ensures) in
    omega (arith, low, c.from.ensures, c.from-then-tenth-lt2.ensures)

pub returns-then-tenth-lt2-clause-found : goal.returns-then-tenth-lt2-clause-found
returns-then-tenth-lt2-clause-found c =
    let room : 8 ≤ length (drop c.args.at c.args.bytes.now) = omega (arith, length-drop c.args.at c.args.bytes.now) in
    let small = behind_below c.args.at c.args.bytes.now c.type_inv.bytes in
    let low : c.gathered.result ≡ groups_of 8 (take 8 (drop c.args.at c.args.bytes.now)) = low_number (drop c.args.at c.args.bytes.now) c.word_at-word.result c.gathered.result room small c.word_at-word.ensures c.gathered.ensures in
    let marks = marks_at (drop c.args.at c.args.bytes.now) _ _ room small c.word_at-word.ensures c.ends_of.ensures in
    let long = long_at c.args.at c.args.bytes.now (omega arith) (omega (arith, marks)) in
    ten_found (drop c.args.at c.args.bytes.now) _ _ c.gathered.result _ room long low c.if-ninth-lt128.false c.if-tenth-lt2.true (omega (arith, c.from.ensures, c.from-then-tenth-lt2.ensures))
