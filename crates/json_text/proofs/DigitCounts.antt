-- How many digits a number has, by the powers of ten that it lies between.
use Rattle.std.proofs.Common.{◌≡◌, ℕ, zero, suc, ◌+◌, ◌*◌, ◌/◌, ◌%◌, ◌^◌, ◌<◌, ◌≤◌, [], ◌∷◌, length, ap, ◌∙◌, arith, length-append}
use Rattle.std.specs.Fmt.{decimal}
use Rattle.std.proofs.lemmas.Fmt.{decimal_nonempty, decimal_step, length-decimal-le}

power_some : (k : ℕ) → 1 ≤ 10 ^ k
power_some zero = omega arith
power_some (suc k) = let more = power_some k in omega (arith, more)

at_least : (k n : ℕ) → 10 ^ k ≤ n → n < 2 ^ 64 → k < length (decimal n)
at_least zero n low small = decimal_nonempty n small
at_least (suc k) n low small =
    let ten : 10 * 10 ^ k ≤ n = omega (arith, low) in
    let some = power_some k in
    let step : length (decimal n) ≡ length (decimal (n / 10)) + 1 = ap length (decimal_step n (omega (arith, ten, some)) small) ∙ length-append (decimal (n / 10)) ((48 + n % 10) ∷ []) in
    let fewer = at_least k (n / 10) (omega (arith, ten)) (omega arith) in
    omega (arith, step, fewer)

pub counted : (k n : ℕ) → 10 ^ k ≤ n → n < 10 * 10 ^ k → n < 2 ^ 64 → k + 1 ≡ length (decimal n)
counted k n low high small =
    let most : length (decimal n) ≤ suc k = length-decimal-le (suc k) n (omega arith) (omega (arith, high)) small in
    omega (arith, most, at_least k n low small)
