use Rattle.std.proofs.Common.{◌≡◌, ◌+◌, ◌*◌, ◌/◌, ◌%◌, ◌^◌, ◌++◌, length, take, sym, ap, ◌∙◌, append_assoc, arith, length-append}
use Rattle.std.specs.Fmt.{decimal}
use Rattle.std.proofs.lemmas.Fmt.{length-decimal-le}
use Rattle.json_text.specs.Digits.{last_digits}
use Rattle.json_text.proofs.LaidDigits.{cut_off, length_last}
use Rattle.json_text.proofs.lay.lay_digits.Goals as goal

pub lay_sixteen-requires-clause-room : goal.lay_sixteen-requires-clause-room
lay_sixteen-requires-clause-room c =
    let high = c.args.value / 10 ^ 16 in
    let few = length-decimal-le 3 high (omega arith) (omega arith) (omega arith) in
    omega (arith, few, c.lay_short-behind.ensures.place)

pub returns-clause-laid : goal.returns-clause-laid
returns-clause-laid c =
    let value = c.args.value in
    let front = take c.args.to c.args.cells.now in
    let whole : value / 10 ^ 16 * 10 ^ 16 + value % 10 ^ 16 ≡ value = omega arith in
    let split = cut_off 16 (value / 10 ^ 16) (value % 10 ^ 16) (omega arith) (omega arith) (omega (arith, whole)) in
    c.lay_sixteen.ensures.laid ∙ ap (λ xs. xs ++ last_digits 16 (value % 10 ^ 16)) c.lay_short-behind.ensures.laid ∙ append_assoc front (decimal (value / 10 ^ 16)) (last_digits 16 (value % 10 ^ 16))
    ∙ ap (λ xs. front ++ xs) (sym split ∙ ap decimal whole)

pub returns-clause-place : goal.returns-clause-place
returns-clause-place c =
    let value = c.args.value in
    let whole : value / 10 ^ 16 * 10 ^ 16 + value % 10 ^ 16 ≡ value = omega arith in
    let split = ap length (cut_off 16 (value / 10 ^ 16) (value % 10 ^ 16) (omega arith) (omega arith) (omega (arith, whole))) in
    let same = ap (λ n. length (decimal n)) whole in
    omega (arith, split, same, length-append (decimal (value / 10 ^ 16)) (last_digits 16 (value % 10 ^ 16)), length_last 16 (value % 10 ^ 16), c.lay_short-behind.ensures.place, c.lay_sixteen.ensures.place)
