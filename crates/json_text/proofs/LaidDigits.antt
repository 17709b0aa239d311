-- Digits laid some at a time.
use Rattle.std.proofs.Common.{◌≡◌, ℕ, zero, suc, ◌+◌, ◌-◌, ◌*◌, ◌/◌, ◌%◌, ◌^◌, ◌<◌, ◌≤◌, Bool, true, ◌&&◌, T, eqb, eqb→eq, List, [], ◌∷◌, ◌++◌, length, take, get_or, refl, sym, ap, ap₂, subst, ◌∙◌, inl, inr, arith, eq-zero-or-pos, append-nil, append_assoc, length-append, length-take}
use Rattle.std.specs.Fmt.{decimal}
use Rattle.std.proofs.lemmas.Fmt.{decimal_by_steps, decimal_step}
use Rattle.std.proofs.lemmas.List.{take-take, take-append-le, take_all}
use Rattle.std.proofs.lemmas.Nat.{pow-add}
use Rattle.std.proofs.Math.Nat.{mul-lt-mul_of_pos_right, one-le-pow, le-mul_of_pos_right, pow-succ', mul_left_comm}
use lib.Ieee.Fits.{and_l, and_r}
use Rattle.json_text.specs.declared.lay.TheConstants.{FACTORS}
use Rattle.json_text.specs.Digits.{last_digits}

-- ---- the table

abbrev are_factors : ℕ → Bool
are_factors zero = true
are_factors (suc k) = eqb (get_or FACTORS k 0) (10 ^ (15 - k)) && are_factors k

factors_below : (n k : ℕ) → T (are_factors n) → k < n → get_or FACTORS k 0 ≡ 10 ^ (15 - k)
factors_below zero k t h = absurd (omega arith)
factors_below (suc n) k t h =
    elim (eq-zero-or-pos (n - k)) [
      | inl z ↦ let e : k ≡ n = omega arith in rw e (eqb→eq _ _ (and_l _ (are_factors n) t))
      | inr g ↦ factors_below n k (and_r _ (are_factors n) t) (omega arith)
    ]

pub factor_at : (count : ℕ) → 0 < count → count ≤ 16 → get_or FACTORS (count - 1) 0 ≡ 10 ^ (16 - count)
factor_at count some few =
    let left : 15 - (count - 1) ≡ 16 - count = omega arith in
    factors_below 16 (count - 1) tt (omega arith) ∙ ap (λ k. 10 ^ k) left

-- ---- the last digits of a number

tenfold : (high b : ℕ) → high * 10 ^ suc b ≡ 10 * (high * 10 ^ b)
tenfold high b = ap (λ p. high * p) (pow-succ' 10 b) ∙ mul_left_comm high 10 (10 ^ b)

pub joined : (b a high low : ℕ) → low < 10 ^ b → last_digits (b + a) (high * 10 ^ b + low) ≡ last_digits a high ++ last_digits b low
unfolding last_digits
joined zero a high low small = let e : 0 + a ≡ a = omega arith in let n : high * 10 ^ 0 + low ≡ high = omega arith in ap₂ last_digits e n ∙ sym (append-nil (last_digits a high))
joined (suc b) a high low small =
    let ten = tenfold high b in
    let rest : (high * 10 ^ suc b + low) / 10 ≡ high * 10 ^ b + low / 10 = omega (arith, ten) in
    let last : (high * 10 ^ suc b + low) % 10 ≡ low % 10 = omega (arith, ten) in
    let one : suc b + a ≡ suc (b + a) = omega arith in
    ap (λ k. last_digits k (high * 10 ^ suc b + low)) one ∙ ap₂ (λ n d. last_digits (b + a) n ++ (48 + d) ∷ []) rest last
    ∙ ap (λ xs. xs ++ (48 + low % 10) ∷ []) (joined b a high (low / 10) (omega (arith, small)))
    ∙ append_assoc (last_digits a high) (last_digits b (low / 10)) ((48 + low % 10) ∷ [])

pub length_last : (k n : ℕ) → length (last_digits k n) ≡ k
unfolding last_digits
length_last zero n = refl
length_last (suc k) n = omega (arith, length-append (last_digits k (n / 10)) ((48 + n % 10) ∷ []), length_last k (n / 10))

pub all_digits : (n : ℕ) → n < 2 ^ 64 → last_digits (length (decimal n)) n ≡ decimal n
unfolding last_digits
all_digits n small =
    decimal_by_steps (λ m ds. last_digits (length ds) m ≡ ds) (λ m l. let e : 48 + m % 10 ≡ 48 + m = omega arith in ap (λ d. d ∷ []) e)
    (λ m ds l h. let e : length (ds ++ ((48 + m % 10) ∷ [])) ≡ suc (length ds) = omega (arith, length-append ds ((48 + m % 10) ∷ [])) in
    ap (λ k. last_digits k m) e ∙ ap (λ xs. xs ++ (48 + m % 10) ∷ []) h)
    n small

pub below_power : (n : ℕ) → n < 2 ^ 64 → n < 10 ^ length (decimal n)
below_power n small =
    decimal_by_steps (λ m ds. m < 10 ^ length ds) (λ m l. omega arith)
    (λ m ds l h. let e : length (ds ++ ((48 + m % 10) ∷ [])) ≡ suc (length ds) = omega (arith, length-append ds ((48 + m % 10) ∷ [])) in
    subst (λ k. m < 10 ^ k) (sym e) (omega (arith, h)))
    n small

-- a number's front and its last digits
pub cut_off : (b high low : ℕ) → 0 < high → low < 10 ^ b → high * 10 ^ b + low < 2 ^ 64 → decimal (high * 10 ^ b + low) ≡ decimal high ++ last_digits b low
unfolding last_digits
cut_off zero high low some small fits = let n : high * 10 ^ 0 + low ≡ high = omega arith in ap decimal n ∙ sym (append-nil (decimal high))
cut_off (suc b) high low some small fits =
    let ten = tenfold high b in
    let one : 1 ≤ 10 ^ b = one-le-pow b 10 (omega arith) in
    let more : high ≤ high * 10 ^ b = le-mul_of_pos_right high (omega (arith, one)) in
    let rest : (high * 10 ^ suc b + low) / 10 ≡ high * 10 ^ b + low / 10 = omega (arith, ten) in
    let last : (high * 10 ^ suc b + low) % 10 ≡ low % 10 = omega (arith, ten) in
    decimal_step (high * 10 ^ suc b + low) (omega (arith, ten, more)) fits
    ∙ ap₂ (λ n d. decimal n ++ (48 + d) ∷ []) rest last
    ∙ ap (λ xs. xs ++ (48 + low % 10) ∷ []) (cut_off b high (low / 10) some (omega (arith, small)) (omega (arith, ten, fits)))
    ∙ append_assoc (decimal high) (last_digits b (low / 10)) ((48 + low % 10) ∷ [])

-- ---- in cells

-- the front of what was laid
take_behind : (a b : List ℕ) (n : ℕ) → take (length a + n) (a ++ b) ≡ a ++ take n b
take_behind [] b n = let e : 0 + n ≡ n = omega arith in ap (λ k. take k b) e
take_behind (x ∷ a) b n = let e : suc (length a) + n ≡ suc (length a + n) = omega arith in ap (λ k. take k (x ∷ (a ++ b))) e ∙ ap (λ xs. x ∷ xs) (take_behind a b n)

pub front_laid : (old new part : List ℕ) (to wide n : ℕ) → take (to + wide) new ≡ take to old ++ part → to ≤ length old → n ≤ wide → take (to + n) new ≡ take to old ++ take n part
front_laid old new part to wide n is within few =
    let long : length (take to old) ≡ to = omega (arith, length-take to old) in
    sym (take-take (to + n) (to + wide) new (omega arith)) ∙ ap (take (to + n)) is ∙ ap (λ k. take (k + n) (take to old ++ part)) (sym long) ∙ take_behind (take to old) part n

-- a number moved to the front of sixteen digits
pub moved_front : (old new : List ℕ) (to behind value power count : ℕ) → value < 2 ^ 64 → count ≡ length (decimal value) → count ≤ 16 → power ≡ 10 ^ (16 - count) → behind ≡ to + 16 → to ≤ length old
    → take behind new ≡ take to old ++ last_digits 16 (value * power) → take (to + count) new ≡ take to old ++ decimal value
moved_front old new to behind value power count small is few ten place within laid =
    let b = 16 - count in
    let some = one-le-pow b 10 (omega arith) in
    let sum : b + count ≡ 16 = omega arith in
    let moved : value * power ≡ value * 10 ^ b + 0 = ap (λ p. value * p) ten ∙ omega arith in
    let split : last_digits 16 (value * power) ≡ decimal value ++ last_digits b 0 =
    ap₂ last_digits (sym sum) moved ∙ joined b count value 0 (omega (arith, some)) ∙ ap (λ xs. xs ++ last_digits b 0) (ap (λ k. last_digits k value) is ∙ all_digits value small) in
    let whole = laid ∙ ap (λ xs. take to old ++ xs) split in
    front_laid old new (decimal value ++ last_digits b 0) to 16 count (ap (λ k. take k new) (sym place) ∙ whole) within few
    ∙ ap (λ xs. take to old ++ xs) (take-append-le count (decimal value) (last_digits b 0) (omega (arith, is)) ∙ take_all count (decimal value) (omega (arith, is)))

-- so moved it has sixteen digits at most
pub fits_moved : (value power count : ℕ) → value < 2 ^ 64 → count ≡ length (decimal value) → count ≤ 16 → power ≡ 10 ^ (16 - count) → value * power < 10 ^ 16
fits_moved value power count small is few ten =
    let b = 16 - count in
    let sum : count + b ≡ 16 = omega arith in
    let below : value < 10 ^ count = subst (λ k. value < 10 ^ k) (sym is) (below_power value small) in
    let less = mul-lt-mul_of_pos_right below (one-le-pow b 10 (omega arith)) in
    let same : value * power ≡ value * 10 ^ b = ap (λ p. value * p) ten in
    let whole : 10 ^ count * 10 ^ b ≡ 10 ^ 16 = sym (pow-add 10 count b) ∙ ap (λ k. 10 ^ k) sum in
    omega (arith, less, same, whole)
