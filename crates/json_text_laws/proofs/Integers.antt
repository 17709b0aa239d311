-- What an integer's run spells.
use Rattle.std.proofs.Common.{◌≡◌, ℕ, ℤ, zero, suc, pos, negsuc, ◌+◌, ◌-◌, ◌*◌, ◌<◌, ◌≤◌, ◌≤ℤ◌, Bool, true, false, cond, List, [], ◌∷◌, length, Option, Some, None, refl, sym, ap, ◌∙◌, subst, arith, ◌⊎◌, inl, inr}
use Rattle.std.specs.Prelude.{nat_lt, nat_le, not, ◌==◌, ◌&&◌, ◌||◌}
use Rattle.std.specs.Char.{is_ascii_digit}
use Rattle.std.proofs.lemmas.Bool.Decides.{nat_tests}
use Rattle.json_text.specs.Int.{digits_from, magnitude, positive, negative, integer}
use Rattle.json_text.specs.Grammar.{IsDigit, AreDigits, IsCounting, value_from, value_of, negated, SpellsInt}
use Rattle.json_text_laws.proofs.Choices.{cond_some, cond_none, cond_true, cond_false, either_way}

-- ---- digits

digit_is : (x : ℕ) → is_ascii_digit x ≡ true → IsDigit x
digit_is x e = (grind (arith, nat_tests), grind (arith, nat_tests))

is_digit : (x : ℕ) → IsDigit x → is_ascii_digit x ≡ true
is_digit x d = grind (arith, nat_tests)

both_true : (a b : Bool) → (a && b) ≡ true → (a ≡ true) × (b ≡ true)
both_true true true e = (refl, refl)
both_true true false e = absurd (cc)
both_true false b e = absurd (cc)

digits_sound : (s v : ℕ) (xs : List ℕ) → digits_from s xs ≡ Some v → AreDigits xs × (v ≡ value_from s xs)
unfolding digits_from
digits_sound s v [] e = (tt, let same : s ≡ v = cc in sym same)
digits_sound s v (x ∷ xs) e =
    let test = cond_some (is_ascii_digit x && nat_le s 1000000000000000000) (digits_from (s * 10 + (x - 48)) xs) v e in
    let digit = both_true (is_ascii_digit x) (nat_le s 1000000000000000000) test.0 in
    let rest = digits_sound (s * 10 + (x - 48)) v xs test.1 in
    ((digit_is x digit.0, rest.0), rest.1)

-- more digits make no less
pub grows : (s : ℕ) (xs : List ℕ) → s ≤ value_from s xs
grows s [] = omega arith
grows s (x ∷ xs) = let more = grows (s * 10 + (x - 48)) xs in omega arith

both_are : (a b : Bool) → a ≡ true → b ≡ true → (a && b) ≡ true
both_are a b p q = cc

digits_whole : (s : ℕ) (xs : List ℕ) → AreDigits xs → value_from s xs ≤ 9223372036854775808 → digits_from s xs ≡ Some (value_from s xs)
unfolding digits_from
digits_whole s [] d small = refl
digits_whole s (x ∷ xs) d small =
    let next = s * 10 + (x - 48) in
    let more = grows next xs in
    let short : nat_le s 1000000000000000000 ≡ true = grind (arith, nat_tests) in
    cond_true (is_ascii_digit x && nat_le s 1000000000000000000) (digits_from next xs) None (both_are (is_ascii_digit x) (nat_le s 1000000000000000000) (is_digit x d.0) short) ∙ digits_whole next xs d.1 small

-- ---- digits that begin with no zero

no_magnitude : magnitude [] ≡ None
unfolding magnitude
no_magnitude = refl

some_magnitude : (x : ℕ) (xs : List ℕ) → magnitude (x ∷ xs) ≡ cond ((x == 48) && not (length (x ∷ xs) == 1)) None (digits_from 0 (x ∷ xs))
unfolding magnitude
some_magnitude x xs = grind (arith, nat_tests)

lone : (x : ℕ) (xs : List ℕ) → ((x == 48) && not (length (x ∷ xs) == 1)) ≡ false → x ≡ 48 → xs ≡ []
lone x [] e is = refl
lone x (y ∷ ys) e is = absurd (grind (arith, nat_tests))

by_zero : (x v : ℕ) (xs : List ℕ) → ((x == 48) && not (length (x ∷ xs) == 1)) ≡ false → AreDigits (x ∷ xs) × (v ≡ value_from 0 (x ∷ xs)) → (x ≡ 48) ⊎ (49 ≤ x)
    → (((x ∷ xs) ≡ 48 ∷ []) × (v ≡ 0)) ⊎ (IsCounting (x ∷ xs) × (v ≡ value_of (x ∷ xs)))
by_zero x v xs e d (inl is) =
    let none = lone x xs e is in
    inl (ap (λ y. y ∷ xs) is ∙ ap (λ r. 48 ∷ r) none, d.1 ∙ ap (λ y. value_from 0 (y ∷ xs)) is ∙ ap (λ r. value_from 0 (48 ∷ r)) none)
by_zero x v xs e d (inr more) = inr ((more, d.0.0.1, d.0.1), d.1)

zero_or_more : (x : ℕ) → 48 ≤ x → (x ≡ 48) ⊎ (49 ≤ x)
zero_or_more x h = by_test (either_way (x == 48))
  where
    by_test : ((x == 48) ≡ true) ⊎ ((x == 48) ≡ false) → (x ≡ 48) ⊎ (49 ≤ x)
    by_test (inl e) = inl (grind (arith, nat_tests))
    by_test (inr e) = inr (grind (arith, nat_tests))

magnitude_sound : (v : ℕ) (xs : List ℕ) → magnitude xs ≡ Some v → ((xs ≡ 48 ∷ []) × (v ≡ 0)) ⊎ (IsCounting xs × (v ≡ value_of xs))
magnitude_sound v [] e = let none : None ≡ Some v = sym no_magnitude ∙ e in absurd (cc)
magnitude_sound v (x ∷ xs) e =
    let test = cond_none ((x == 48) && not (length (x ∷ xs) == 1)) (digits_from 0 (x ∷ xs)) v (sym (some_magnitude x xs) ∙ e) in
    let digits = digits_sound 0 v (x ∷ xs) test.1 in
    by_zero x v xs test.0 digits (zero_or_more x digits.0.0.0)

counting_digits : (xs : List ℕ) → IsCounting xs → AreDigits xs
counting_digits [] h = absurd h
counting_digits (x ∷ xs) h = ((omega (arith, h.0), h.1), h.2)

magnitude_whole : (xs : List ℕ) → IsCounting xs → value_of xs ≤ 9223372036854775808 → magnitude xs ≡ Some (value_of xs)
magnitude_whole [] h small = absurd h
magnitude_whole (x ∷ xs) h small =
    let other : ((x == 48) && not (length (x ∷ xs) == 1)) ≡ false = let low = h.0 in grind (arith, nat_tests) in
    some_magnitude x xs ∙ cond_false ((x == 48) && not (length (x ∷ xs) == 1)) None (digits_from 0 (x ∷ xs)) other ∙ digits_whole 0 (x ∷ xs) (counting_digits (x ∷ xs) h) small

-- ---- integers

no_integer : integer [] ≡ None
unfolding integer magnitude
no_integer = refl

some_integer : (x : ℕ) (xs : List ℕ) → integer (x ∷ xs) ≡ cond (x == 45) (negative (magnitude xs)) (positive (magnitude (x ∷ xs)))
unfolding integer
some_integer x xs = grind (arith, nat_tests)

positive_sound : (found : Option ℕ) (z : ℤ) → positive found ≡ Some z → (v : ℕ) × (found ≡ Some v) × (z ≡ pos v)
positive_sound None z e = absurd (cc)
positive_sound (Some n) z e = let test = cond_some (nat_lt n 9223372036854775808) (Some (pos n)) z e in (n, refl, let same : pos n ≡ z = (let t = test.1 in cc) in sym same)

negated_suc : (n : ℕ) → 1 ≤ n → negsuc (n - 1) ≡ negated n
negated_suc zero h = absurd (omega arith)
negated_suc (suc m) h = let e : suc m - 1 ≡ m = omega arith in ap negsuc e

negative_sound : (found : Option ℕ) (z : ℤ) → negative found ≡ Some z → (v : ℕ) × (found ≡ Some v) × (1 ≤ v) × (z ≡ negated v)
negative_sound None z e = absurd (cc)
negative_sound (Some n) z e =
    let test = cond_none ((n == 0) || nat_lt 9223372036854775808 n) (Some (negsuc (n - 1))) z e in
    let some : 1 ≤ n = let t = test.0 in grind (arith, nat_tests) in
    (n, refl, some, (let same : negsuc (n - 1) ≡ z = (let t = test.1 in cc) in sym same ∙ negated_suc n some))

of_positive : (x : ℕ) (xs : List ℕ) (z : ℤ) → (v : ℕ) × (magnitude (x ∷ xs) ≡ Some v) × (z ≡ pos v) → SpellsInt z (x ∷ xs)
of_positive x xs z (v, e, is) = split (magnitude_sound v (x ∷ xs) e)
  where
    split : (((x ∷ xs) ≡ 48 ∷ []) × (v ≡ 0)) ⊎ (IsCounting (x ∷ xs) × (v ≡ value_of (x ∷ xs))) → SpellsInt z (x ∷ xs)
    split (inl p) = inl (p.0, is ∙ ap pos p.1)
    split (inr p) = inr (inl (p.0, is ∙ ap pos p.1))

of_negative : (x : ℕ) (xs : List ℕ) (z : ℤ) → x ≡ 45 → (v : ℕ) × (magnitude xs ≡ Some v) × (1 ≤ v) × (z ≡ negated v) → SpellsInt z (x ∷ xs)
of_negative x xs z minus (v, e, some, is) = split (magnitude_sound v xs e)
  where
    split : ((xs ≡ 48 ∷ []) × (v ≡ 0)) ⊎ (IsCounting xs × (v ≡ value_of xs)) → SpellsInt z (x ∷ xs)
    split (inl p) = let no : ⊥ = omega (arith, some, p.1) in absurd no
    split (inr p) = inr (inr (xs, ap (λ y. y ∷ xs) minus, p.0, is ∙ ap negated p.1))

pub int_sound : (z : ℤ) (bytes : List ℕ) → integer bytes ≡ Some z → SpellsInt z bytes
int_sound z [] e = let none : None ≡ Some z = sym no_integer ∙ e in absurd (cc)
int_sound z (x ∷ xs) e = by_sign (either_way (x == 45))
  where
    by_sign : ((x == 45) ≡ true) ⊎ ((x == 45) ≡ false) → SpellsInt z (x ∷ xs)
    by_sign (inl t) = of_negative x xs z (grind (arith, nat_tests)) (negative_sound (magnitude xs) z (sym (cond_true (x == 45) (negative (magnitude xs)) (positive (magnitude (x ∷ xs))) t) ∙ sym (some_integer x xs) ∙ e))
    by_sign (inr t) = of_positive x xs z (positive_sound (magnitude (x ∷ xs)) z (sym (cond_false (x == 45) (negative (magnitude xs)) (positive (magnitude (x ∷ xs))) t) ∙ sym (some_integer x xs) ∙ e))

-- what an integer of 64 bits spells is found
abbrev pub Fits64 : ℤ → Type 0
Fits64 z = (negsuc 9223372036854775807 ≤ℤ z) × (z ≤ℤ pos 9223372036854775807)

lone_zero : integer (48 ∷ []) ≡ Some (pos 0)
unfolding integer magnitude digits_from
lone_zero = refl

positive_found : (v : ℕ) → v < 9223372036854775808 → positive (Some v) ≡ Some (pos v)
positive_found v small = cond_true (nat_lt v 9223372036854775808) (Some (pos v)) None (grind (arith, nat_tests))

negative_found : (v : ℕ) → 1 ≤ v → v ≤ 9223372036854775808 → negative (Some v) ≡ Some (negated v)
negative_found v some small = cond_false ((v == 0) || nat_lt 9223372036854775808 v) None (Some (negsuc (v - 1))) (grind (arith, nat_tests)) ∙ ap Some (negated_suc v some)

counting_found : (xs : List ℕ) → IsCounting xs → value_of xs < 9223372036854775808 → integer xs ≡ Some (pos (value_of xs))
counting_found [] h small = absurd h
counting_found (x ∷ xs) h small =
    let digit : (x == 45) ≡ false = let low = h.0 in grind (arith, nat_tests) in
    some_integer x xs ∙ cond_false (x == 45) (negative (magnitude xs)) (positive (magnitude (x ∷ xs))) digit ∙ ap positive (magnitude_whole (x ∷ xs) h (omega arith)) ∙ positive_found (value_of (x ∷ xs)) small

minus_found : (xs : List ℕ) → IsCounting xs → 1 ≤ value_of xs → value_of xs ≤ 9223372036854775808 → integer (45 ∷ xs) ≡ Some (negated (value_of xs))
minus_found xs h some small = some_integer 45 xs ∙ ap negative (magnitude_whole xs h small) ∙ negative_found (value_of xs) some small

pub counting_some : (xs : List ℕ) → IsCounting xs → 1 ≤ value_of xs
counting_some [] h = absurd h
counting_some (x ∷ xs) h = let more = grows (0 * 10 + (x - 48)) xs in omega (arith, h.0)

pos_small : (v : ℕ) → pos v ≤ℤ pos 9223372036854775807 → v < 9223372036854775808
pos_small v h = grind (arith, nat_tests)

negated_small : (v : ℕ) → negsuc 9223372036854775807 ≤ℤ negated v → v ≤ 9223372036854775808
negated_small zero h = omega arith
negated_small (suc n) h = grind (arith, nat_tests)

pub int_found : (z : ℤ) (bytes : List ℕ) → SpellsInt z bytes → Fits64 z → integer bytes ≡ Some z
int_found z bytes (inl p) fits = ap integer p.0 ∙ lone_zero ∙ ap Some (sym p.1)
int_found z bytes (inr (inl p)) fits = counting_found bytes p.0 (pos_small (value_of bytes) (subst (λ y. y ≤ℤ pos 9223372036854775807) p.1 fits.1)) ∙ ap Some (sym p.1)
int_found z bytes (inr (inr (xs, is, counting, value))) fits =
    ap integer is ∙ minus_found xs counting (counting_some xs counting) (negated_small (value_of xs) (subst (λ y. negsuc 9223372036854775807 ≤ℤ y) value fits.0)) ∙ ap Some (sym value)
