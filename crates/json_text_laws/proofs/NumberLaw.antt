-- What the scan of a number tells.
use Rattle.std.proofs.Common.{◌≡◌, ℕ, ◌≤◌, Bool, true, false, cond, List, [], ◌∷◌, ◌++◌, length, refl, sym, ap, ◌∙◌, subst, arith, ◌⊎◌, inl, inr}
use Rattle.std.specs.Prelude.{◌==◌, ◌||◌}
use Rattle.std.proofs.lemmas.List.{append-nil}
use Rattle.std.proofs.lemmas.Bool.Decides.{nat_tests}
use Rattle.json_text.specs.declared.scanned.Scan.TheVariants.{Short, Bad}
use Rattle.json_text.specs.declared.number.Form.{Form}
use Rattle.json_text.specs.declared.number.Form.TheVariants.{Number, Front, Other}
use Rattle.json_text.specs.Number.{is_number_byte, number_in, number_run, form_scan, number_at}
use Rattle.json_text.specs.Grammar.{AreDigits, IsCounting, IsMinus, IsSign, IsWhole, IsFraction, IsExponent, IsNumber}
use Rattle.json_text_laws.specs.Judged.{NoneGood, Judges, GoodNumber}
use Rattle.json_text_laws.proofs.Fronts.{Full, Stops, full_or_stops}
use Rattle.json_text_laws.proofs.Digits.{GDigits}
use Rattle.json_text_laws.proofs.Numbers.{GNothing, Misses, GSigned, GExponent, GFraction, GUnsigned, GNumber, number_part}

-- ---- from the parts to the grammar

mark_of : (x : ℕ) → ((x == 101) || (x == 69)) ≡ true → (x ≡ 101) ⊎ (x ≡ 69)
mark_of x e = by_first (x == 101) refl
  where
    by_first : (b : Bool) → (x == 101) ≡ b → (x ≡ 101) ⊎ (x ≡ 69)
    by_first true t = inl (grind (arith, nat_tests))
    by_first false t = inr (grind (arith, nat_tests))

sign_of : (x : ℕ) → ((x == 43) || (x == 45)) ≡ true → IsSign (x ∷ [])
sign_of x e = by_first (x == 43) refl
  where
    by_first : (b : Bool) → (x == 43) ≡ b → IsSign (x ∷ [])
    by_first true t = let is : x ≡ 43 = grind (arith, nat_tests) in inr (inl (ap (λ k. k ∷ []) is))
    by_first false t = let is : x ≡ 45 = grind (arith, nat_tests) in inr (inr (ap (λ k. k ∷ []) is))

all_digits : (digits rest : List ℕ) → rest ≡ [] → digits ++ rest ≡ digits
all_digits digits rest none = ap (λ r. digits ++ r) none ∙ append-nil digits

with_sign : (x : ℕ) (rest xs : List ℕ) → xs ≡ x ∷ rest → ((x == 101) || (x == 69)) ≡ true → GSigned rest → IsExponent xs
with_sign x rest xs is t (inl (s, r, e, ts, (digits, n, joined, are, some, none))) =
    inr (x, s ∷ [], digits, is ∙ ap (λ k. x ∷ k) (e ∙ ap (λ k. s ∷ k) (joined ∙ all_digits digits n none)), mark_of x t, sign_of s ts, are, some)
with_sign x rest xs is t (inr (m, (digits, n, joined, are, some, none))) =
    inr (x, [], digits, is ∙ ap (λ k. x ∷ k) (joined ∙ all_digits digits n none), mark_of x t, inl refl, are, some)

exponent_of : (xs : List ℕ) → GExponent xs → IsExponent xs
exponent_of xs (inl (x, rest, is, t, signed)) = with_sign x rest xs is t signed
exponent_of xs (inr (m, none)) = inl none

-- a fraction and an exponent, either of which may be nothing
abbrev IsEnding : List ℕ → Type 0
IsEnding xs = (fraction : List ℕ) × (exponent : List ℕ) × (xs ≡ fraction ++ exponent) × IsFraction fraction × IsExponent exponent

fraction_of : (xs : List ℕ) → GFraction xs → IsEnding xs
fraction_of xs (inl (x, rest, is, t, (digits, r, joined, are, some, good))) =
    let point : x ≡ 46 = grind (arith, nat_tests) in
    (46 ∷ digits, r, is ∙ ap (λ k. k ∷ rest) point ∙ ap (λ k. 46 ∷ k) joined, inr (digits, refl, are, some), exponent_of r good)
fraction_of xs (inr (m, good)) = ([], xs, refl, inl refl, exponent_of xs good)

abbrev IsUnsigned : List ℕ → Type 0
IsUnsigned xs = (whole : List ℕ) × (ending : List ℕ) × (xs ≡ whole ++ ending) × IsWhole whole × IsEnding ending

counting_of : (digits rest : List ℕ) → AreDigits digits → 1 ≤ length digits → Misses (λ x. x == 48) (digits ++ rest) → IsCounting digits
counting_of [] rest are some m = absurd (omega arith)
counting_of (x ∷ xs) rest are some m = (let low = are.0.0 in grind (arith, nat_tests), are.0.1, are.1)

unsigned_of : (xs : List ℕ) → GUnsigned xs → IsUnsigned xs
unsigned_of xs (inl (x, rest, is, t, good)) =
    let zero_is : x ≡ 48 = grind (arith, nat_tests) in
    (48 ∷ [], rest, is ∙ ap (λ k. k ∷ rest) zero_is, inl refl, fraction_of rest good)
unsigned_of xs (inr (m, (digits, rest, joined, are, some, good))) =
    (digits, rest, joined, inr (counting_of digits rest are some (subst (Misses (λ x. x == 48)) joined m)), fraction_of rest good)

signed_number : (minus xs : List ℕ) → IsMinus minus → IsUnsigned xs → IsNumber (minus ++ xs)
signed_number minus xs is (whole, ending, j, w, (fraction, exponent, k, f, e)) =
    (minus, whole, fraction, exponent, ap (λ r. minus ++ r) (j ∙ ap (λ r. whole ++ r) k), is, w, f, e)

number_of : (xs : List ℕ) → GNumber xs → IsNumber xs
number_of xs (inl (x, rest, is, t, good)) =
    let minus : x ≡ 45 = grind (arith, nat_tests) in
    subst IsNumber (sym (is ∙ ap (λ k. k ∷ rest) minus)) (signed_number (45 ∷ []) rest (inr refl) (unsigned_of rest good))
number_of xs (inr (m, good)) = signed_number [] xs (inl refl) (unsigned_of xs good)

-- ---- and back

to_digits : (digits : List ℕ) → AreDigits digits → 1 ≤ length digits → GDigits GNothing digits
to_digits digits are some = (digits, [], sym (append-nil digits), are, some, refl)

digits_miss : (digits rest : List ℕ) → AreDigits digits → 1 ≤ length digits → Misses (λ x. (x == 43) || (x == 45)) (digits ++ rest)
digits_miss [] rest are some = absurd (omega arith)
digits_miss (x ∷ xs) rest are some = let low = are.0.0 in grind (arith, nat_tests)

to_signed : (sign digits : List ℕ) → IsSign sign → AreDigits digits → 1 ≤ length digits → GSigned (sign ++ digits)
to_signed sign digits (inl none) are some = subst (λ s. GSigned (s ++ digits)) (sym none) (inr (subst (Misses (λ x. (x == 43) || (x == 45))) (append-nil digits) (digits_miss digits [] are some), to_digits digits are some))
to_signed sign digits (inr (inl plus)) are some = subst (λ s. GSigned (s ++ digits)) (sym plus) (inl (43, digits, refl, refl, to_digits digits are some))
to_signed sign digits (inr (inr minus)) are some = subst (λ s. GSigned (s ++ digits)) (sym minus) (inl (45, digits, refl, refl, to_digits digits are some))

is_mark : (x : ℕ) → (x ≡ 101) ⊎ (x ≡ 69) → ((x == 101) || (x == 69)) ≡ true
is_mark x (inl e) = grind (arith, nat_tests)
is_mark x (inr e) = grind (arith, nat_tests)

to_exponent : (xs : List ℕ) → IsExponent xs → GExponent xs
to_exponent xs (inl none) = subst GExponent (sym none) (inr (tt, refl))
to_exponent xs (inr (x, sign, digits, is, which, s, are, some)) = subst GExponent (sym is) (inl (x, sign ++ digits, refl, is_mark x which, to_signed sign digits s are some))

mark_no_point : (x : ℕ) → ((x == 101) || (x == 69)) ≡ true → (x == 46) ≡ false
mark_no_point x e = grind (arith, nat_tests)

exponent_misses : (xs : List ℕ) → GExponent xs → Misses (λ x. x == 46) xs
exponent_misses xs (inl (x, rest, is, t, good)) = subst (Misses (λ x. x == 46)) (sym is) (mark_no_point x t)
exponent_misses xs (inr (m, none)) = subst (Misses (λ x. x == 46)) (sym none) tt

to_fraction : (fraction exponent : List ℕ) → IsFraction fraction → IsExponent exponent → GFraction (fraction ++ exponent)
to_fraction fraction exponent (inl none) e = let good = to_exponent exponent e in subst (λ f. GFraction (f ++ exponent)) (sym none) (inr (exponent_misses exponent good, good))
to_fraction fraction exponent (inr (digits, is, are, some)) e =
    subst (λ f. GFraction (f ++ exponent)) (sym is) (inl (46, digits ++ exponent, refl, refl, (digits, exponent, refl, are, some, to_exponent exponent e)))

counting_digits : (xs : List ℕ) → IsCounting xs → AreDigits xs
counting_digits [] h = absurd h
counting_digits (x ∷ xs) h = ((omega (arith, h.0), h.1), h.2)

counting_some : (xs : List ℕ) → IsCounting xs → 1 ≤ length xs
counting_some [] h = absurd h
counting_some (x ∷ xs) h = omega arith

counting_misses : (xs rest : List ℕ) → IsCounting xs → Misses (λ x. x == 48) (xs ++ rest)
counting_misses [] rest h = absurd h
counting_misses (x ∷ xs) rest h = let low = h.0 in grind (arith, nat_tests)

to_unsigned : (whole ending : List ℕ) → IsWhole whole → GFraction ending → GUnsigned (whole ++ ending)
to_unsigned whole ending (inl is) good = subst (λ w. GUnsigned (w ++ ending)) (sym is) (inl (48, ending, refl, refl, good))
to_unsigned whole ending (inr h) good = inr (counting_misses whole ending h, (whole, ending, refl, counting_digits whole h, counting_some whole h, good))

whole_misses : (whole rest : List ℕ) → IsWhole whole → Misses (λ x. x == 45) (whole ++ rest)
whole_misses whole rest (inl is) = subst (λ w. Misses (λ x. x == 45) (w ++ rest)) (sym is) refl
whole_misses [] rest (inr h) = absurd h
whole_misses (x ∷ xs) rest (inr h) = let low = h.0 in grind (arith, nat_tests)

to_number : (xs : List ℕ) → IsNumber xs → GNumber xs
to_number xs (minus, whole, fraction, exponent, is, m, w, f, e) = subst GNumber (sym is) (by_minus m)
  where
    good : GUnsigned (whole ++ (fraction ++ exponent))
    good = to_unsigned whole (fraction ++ exponent) w (to_fraction fraction exponent f e)

    by_minus : IsMinus minus → GNumber (minus ++ (whole ++ (fraction ++ exponent)))
    by_minus (inl none) = subst (λ k. GNumber (k ++ (whole ++ (fraction ++ exponent)))) (sym none) (inr (whole_misses whole (fraction ++ exponent) w, good))
    by_minus (inr one) = subst (λ k. GNumber (k ++ (whole ++ (fraction ++ exponent)))) (sym one) (inl (45, whole ++ (fraction ++ exponent), refl, refl, good))

-- ---- what the scan tells

pub number_sound : (run : List ℕ) → number_in run ≡ Number → IsNumber run
number_sound run e = number_of run (number_part.sound run e)

number_whole : (run : List ℕ) → IsNumber run → number_in run ≡ Number
number_whole run good = number_part.whole run (to_number run good)

not_front : (run : List ℕ) → number_in run ≡ Front → IsNumber run → ⊥
not_front run e good = let wrong : Number ≡ Front = sym (number_whole run good) ∙ e in absurd (cc)

not_other : (run : List ℕ) → number_in run ≡ Other → IsNumber run → ⊥
not_other run e good = let wrong : Number ≡ Other = sym (number_whole run good) ∙ e in absurd (cc)

front_none : (bytes : List ℕ) → number_in (number_run bytes) ≡ Front → NoneGood GoodNumber bytes
front_none bytes e n after good = not_front (number_run bytes) e good.2

other_none : (bytes : List ℕ) → number_in (number_run bytes) ≡ Other → NoneGood GoodNumber bytes
other_none bytes e n after good = not_other (number_run bytes) e good.2

goes_on : (bytes : List ℕ) → Full is_number_byte bytes → number_in (number_run bytes) ≡ Front → (more : List ℕ) × (n : ℕ) × (after : ℕ) × GoodNumber (bytes ++ more) n after
goes_on bytes full e =
    let run : number_run (bytes ++ 48 ∷ []) ≡ bytes ++ 48 ∷ [] = full.onward (48 ∷ []) in
    let number = number_part.extends bytes (ap number_in (sym full.whole) ∙ e) in
    (48 ∷ [], length (number_run (bytes ++ 48 ∷ [])), length (number_run (bytes ++ 48 ∷ [])), (refl, refl, number_sound (number_run (bytes ++ 48 ∷ [])) (ap number_in run ∙ number)))

front_judged : (bytes : List ℕ) → number_in (number_run bytes) ≡ Front → Full is_number_byte bytes ⊎ Stops is_number_byte bytes → Judges GoodNumber bytes (form_scan Front (length (number_run bytes)) (length (number_run bytes) == length bytes))
front_judged bytes e (inl full) =
    let ends : (length (number_run bytes) == length bytes) ≡ true = let w = ap length full.whole in grind (arith, nat_tests) in
    subst (λ b. Judges GoodNumber bytes (cond b Short (Bad 0))) (sym ends) (front_none bytes e, goes_on bytes full e)
front_judged bytes e (inr stops) =
    let ends : (length (number_run bytes) == length bytes) ≡ false = let s = stops.shorter in grind (arith, nat_tests) in
    subst (λ b. Judges GoodNumber bytes (cond b Short (Bad 0))) (sym ends) (refl, λ more. front_none (bytes ++ more) (ap number_in (stops.same more) ∙ e))

other_judged : (bytes : List ℕ) → number_in (number_run bytes) ≡ Other → Full is_number_byte bytes ⊎ Stops is_number_byte bytes → Judges GoodNumber bytes (Bad 0)
other_judged bytes e (inl full) = (refl, λ more. other_none (bytes ++ more) (ap number_in (full.onward more) ∙ number_part.stable bytes (number_run more) (ap number_in (sym full.whole) ∙ e)))
other_judged bytes e (inr stops) = (refl, λ more. other_none (bytes ++ more) (ap number_in (stops.same more) ∙ e))

judged : (bytes : List ℕ) (form : Form) → number_in (number_run bytes) ≡ form → Judges GoodNumber bytes (form_scan form (length (number_run bytes)) (length (number_run bytes) == length bytes))
judged bytes Number e = (refl, refl, number_sound (number_run bytes) e)
judged bytes Front e = front_judged bytes e (full_or_stops is_number_byte bytes)
judged bytes Other e = other_judged bytes e (full_or_stops is_number_byte bytes)

pub number_judged : (bytes : List ℕ) → Judges GoodNumber bytes (number_at bytes)
unfolding number_at
number_judged bytes = judged bytes (number_in (number_run bytes)) refl
