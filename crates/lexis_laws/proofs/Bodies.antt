-- How long the parts of a number are, by the bytes that stand there.
use Rattle.std.proofs.Common.{◌≡◌, ℕ, zero, suc, ◌+◌, ◌<◌, ◌≤◌, Bool, true, false, cond, List, [], ◌∷◌, ◌++◌, length, drop, refl, sym, ap, ◌∙◌, subst, arith, ◌⊎◌, inl, inr, length-append}
use Rattle.std.specs.Prelude.{slice_index, nat_lt, ◌==◌, ◌&&◌, ◌||◌}
use Rattle.std.specs.List.{prefix_len, list_all}
use Rattle.std.proofs.lemmas.Bool.{cases_Bool, cond-true, cond-false, and_parts, and_from, and_left, and_right, or_left, or_right, eqb-true, eq-eqb, lt-ltb, le-ltb}
use Rattle.idl_lexer.specs.Bytes.{is_digit, is_hex}
use Rattle.idl_lexer.specs.Grammar.{IsDigits, IsSign}
use Rattle.idl_lexer.specs.Pieces.{begins, is_e, sign_len, hex_len, mantissa_len, with_fraction, exponent_len, exponent_of}
use Rattle.lexis_laws.proofs.Fronts.{Apart, true_false, begins_cons, same_head, same_tail, drop_front, drop_behind, at_seam, run_cut, Parted, parted}
use Rattle.lexis_laws.proofs.Signs.{SignCut, sign_cut}

-- ---- hexadecimal digits behind 0x

pub hex_on : (tail : List ℕ) → hex_len (48 ∷ 120 ∷ tail) ≡ prefix_len is_hex tail
unfolding hex_len
hex_on [] = refl
hex_on (x ∷ xs) =
    let long : nat_lt 2 (length (48 ∷ 120 ∷ x ∷ xs)) ≡ true = lt-ltb 2 (suc (suc (suc (length xs)))) (omega arith) in
    cond-true ((nat_lt 2 (length (48 ∷ 120 ∷ x ∷ xs)) && true) && true) (prefix_len is_hex (x ∷ xs)) 0 (ap (λ t. (t && true) && true) long)

hex_by : (x y : ℕ) (tail : List ℕ) (long : Bool) → 0 < cond ((long && (x == 48)) && (y == 120)) (prefix_len is_hex tail) 0 → (x ∷ y ∷ tail) ≡ 48 ∷ 120 ∷ tail
hex_by x y tail long h = by_test (cases_Bool ((long && (x == 48)) && (y == 120)))
  where
    by_test : (((long && (x == 48)) && (y == 120)) ≡ true) ⊎ (((long && (x == 48)) && (y == 120)) ≡ false) → (x ∷ y ∷ tail) ≡ 48 ∷ 120 ∷ tail
    by_test (inl e) =
        let both = and_parts (long && (x == 48)) (y == 120) e in
        let first = and_parts long (x == 48) both.0 in
        ap (λ z. z ∷ y ∷ tail) (eqb-true x 48 first.1) ∙ ap (λ z. 48 ∷ z ∷ tail) (eqb-true y 120 both.1)
    by_test (inr e) = let none : 0 < 0 = subst (λ n. 0 < n) (cond-false ((long && (x == 48)) && (y == 120)) (prefix_len is_hex tail) 0 e) h in absurd (omega (arith, none))

pub hex_begins : (bytes : List ℕ) → 0 < hex_len bytes → bytes ≡ 48 ∷ 120 ∷ drop 2 bytes
unfolding hex_len
hex_begins [] h = absurd (omega (arith, h))
hex_begins (x ∷ []) h = absurd (omega (arith, h))
hex_begins (x ∷ y ∷ tail) h = hex_by x y tail (nat_lt 2 (length (x ∷ y ∷ tail))) h

-- what a number without 0x consists of
abbrev pub is_plain : ℕ → Bool
is_plain b = is_digit b || (b == 46 || is_e b)

pub digit_plain : (b : ℕ) → is_digit b ≡ true → is_plain b ≡ true
digit_plain b e = or_left (is_digit b) (b == 46 || is_e b) e

pub e_plain : (b : ℕ) → is_e b ≡ true → is_plain b ≡ true
e_plain b e = or_right (is_digit b) (b == 46 || is_e b) (or_right (b == 46) (is_e b) e)

pub zero_or_some : (n : ℕ) → (n ≡ 0) ⊎ (0 < n)
zero_or_some zero = inl refl
zero_or_some (suc n) = inr (omega arith)

-- such bytes, two at least, have no 0x
pub no_hex : (front rest : List ℕ) → list_all is_plain front ≡ true → 1 < length front → hex_len (front ++ rest) ≡ 0
no_hex [] rest all two = absurd (omega arith)
no_hex (x ∷ []) rest all two = absurd (omega arith)
no_hex (x ∷ y ∷ front) rest all two = by_len (zero_or_some (hex_len (x ∷ y ∷ (front ++ rest))))
  where
    by_len : (hex_len (x ∷ y ∷ (front ++ rest)) ≡ 0) ⊎ (0 < hex_len (x ∷ y ∷ (front ++ rest))) → hex_len (x ∷ y ∷ (front ++ rest)) ≡ 0
    by_len (inl e) = e
    by_len (inr h) =
        let first = same_tail x 48 (y ∷ (front ++ rest)) (120 ∷ (front ++ rest)) (hex_begins (x ∷ y ∷ (front ++ rest)) h) in
        let second : y ≡ 120 = same_head y 120 (front ++ rest) (front ++ rest) first in
        let plain = and_parts (is_plain y) (list_all is_plain front) (and_parts (is_plain x) (is_plain y && list_all is_plain front) all).1 in
        absurd (true_false (is_plain 120) (ap is_plain (sym second) ∙ plain.0) refl)

-- ---- the mantissa

abbrev mantissa_by : ℕ → List ℕ → ℕ
mantissa_by whole bytes = cond (nat_lt whole (length bytes) && (slice_index bytes whole == 46)) (with_fraction whole (prefix_len is_digit (drop (whole + 1) bytes))) whole

mantissa_is : (bytes : List ℕ) → mantissa_len bytes ≡ mantissa_by (prefix_len is_digit bytes) bytes
unfolding mantissa_len
mantissa_is bytes = refl

pub mantissa_point : (front tail : List ℕ) → list_all is_digit front ≡ true → mantissa_len (front ++ 46 ∷ tail) ≡ with_fraction (length front) (prefix_len is_digit tail)
mantissa_point front tail all =
    let bytes = front ++ 46 ∷ tail in
    let n = length front in
    let long : nat_lt n (length bytes) ≡ true = lt-ltb n (length bytes) (omega (arith, length-append front (46 ∷ tail))) in
    let point : (slice_index bytes n == 46) ≡ true = eq-eqb (slice_index bytes n) 46 (at_seam front 46 tail) in
    mantissa_is bytes ∙ ap (λ w. mantissa_by w bytes) (run_cut is_digit front (46 ∷ tail) all refl)
    ∙ cond-true (nat_lt n (length bytes) && (slice_index bytes n == 46)) (with_fraction n (prefix_len is_digit (drop (n + 1) bytes))) n (and_from (nat_lt n (length bytes)) (slice_index bytes n == 46) long point)
    ∙ ap (λ xs. with_fraction n (prefix_len is_digit xs)) (drop_behind front 46 tail)

no_point : (front rest : List ℕ) → Apart (λ b. b == 46) rest → (nat_lt (length front) (length (front ++ rest)) && (slice_index (front ++ rest) (length front) == 46)) ≡ false
no_point front [] apart = and_left _ (slice_index (front ++ []) (length front) == 46) (le-ltb (length front) (length (front ++ [])) (omega (arith, length-append front [])))
no_point front (x ∷ xs) apart =
    and_right (nat_lt (length front) (length (front ++ x ∷ xs))) (slice_index (front ++ x ∷ xs) (length front) == 46) (ap (λ y. y == 46) (at_seam front x xs) ∙ apart)

pub mantissa_whole : (front rest : List ℕ) → list_all is_digit front ≡ true → Apart is_digit rest → Apart (λ b. b == 46) rest → mantissa_len (front ++ rest) ≡ length front
mantissa_whole front rest all apart point =
    let bytes = front ++ rest in
    mantissa_is bytes ∙ ap (λ w. mantissa_by w bytes) (run_cut is_digit front rest all apart)
    ∙ cond-false (nat_lt (length front) (length bytes) && (slice_index bytes (length front) == 46)) (with_fraction (length front) (prefix_len is_digit (drop (length front + 1) bytes))) (length front) (no_point front rest point)

pub fraction_some : (whole fraction : ℕ) → 0 < fraction → with_fraction whole fraction ≡ whole + 1 + fraction
fraction_some whole fraction h = cond-true (nat_lt 0 fraction) (whole + 1 + fraction) whole (lt-ltb 0 fraction h)

pub fraction_none : (whole fraction : ℕ) → fraction ≡ 0 → with_fraction whole fraction ≡ whole
fraction_none whole fraction e = ap (λ n. with_fraction whole n) e

-- no mantissa is shorter than its digits before the point
pub mantissa_least : (bytes : List ℕ) → prefix_len is_digit bytes ≤ mantissa_len bytes
mantissa_least bytes = subst (λ m. prefix_len is_digit bytes ≤ m) (sym (mantissa_is bytes)) (least (prefix_len is_digit bytes) bytes)
  where
    fraction_least : (whole fraction : ℕ) → (fraction ≡ 0) ⊎ (0 < fraction) → whole ≤ with_fraction whole fraction
    fraction_least whole fraction (inl e) = subst (λ m. whole ≤ m) (sym (fraction_none whole fraction e)) (omega arith)
    fraction_least whole fraction (inr h) = subst (λ m. whole ≤ m) (sym (fraction_some whole fraction h)) (omega arith)

    by_test : (whole : ℕ) (xs : List ℕ) (t : Bool) → whole ≤ cond t (with_fraction whole (prefix_len is_digit xs)) whole
    by_test whole xs true = fraction_least whole (prefix_len is_digit xs) (zero_or_some (prefix_len is_digit xs))
    by_test whole xs false = omega arith

    least : (whole : ℕ) (xs : List ℕ) → whole ≤ mantissa_by whole xs
    least whole xs = by_test whole (drop (whole + 1) xs) (nat_lt whole (length xs) && (slice_index xs whole == 46))

-- the digits, and a point with digits behind it
pub data MantissaView : List ℕ → Type 0 where
  whole_part : (front rest : List ℕ) → list_all is_digit front ≡ true → Apart is_digit rest → mantissa_len (front ++ rest) ≡ length front → MantissaView (front ++ rest)
  point_part : (front digits rest : List ℕ) → list_all is_digit front ≡ true → IsDigits digits → Apart is_digit rest
      → mantissa_len (front ++ 46 ∷ (digits ++ rest)) ≡ length front + 1 + length digits → MantissaView (front ++ 46 ∷ (digits ++ rest))

some_digits : (digits : List ℕ) → list_all is_digit digits ≡ true → 0 < length digits → IsDigits digits
some_digits digits all some = record { some = some; all = all }

behind_point : (front tail : List ℕ) → list_all is_digit front ≡ true → Parted is_digit tail → MantissaView (front ++ 46 ∷ tail)
behind_point front tail all part = by_digits (zero_or_some (length part.front))
  where
    by_digits : (length part.front ≡ 0) ⊎ (0 < length part.front) → MantissaView (front ++ 46 ∷ tail)
    by_digits (inl e) = whole_part front (46 ∷ tail) all refl (mantissa_point front tail all ∙ fraction_none (length front) (prefix_len is_digit tail) (part.many ∙ e))
    by_digits (inr h) =
        subst (λ xs. MantissaView (front ++ 46 ∷ xs)) (sym part.joined)
        (point_part front part.front part.rest all (some_digits part.front part.all h) part.apart
        (mantissa_point front (part.front ++ part.rest) all ∙ ap (with_fraction (length front)) (run_cut is_digit part.front part.rest part.all part.apart) ∙ fraction_some (length front) (length part.front) h))

view_by : (front rest : List ℕ) → list_all is_digit front ≡ true → Apart is_digit rest → MantissaView (front ++ rest)
view_by front [] all apart = whole_part front [] all tt (mantissa_whole front [] all tt tt)
view_by front (x ∷ xs) all apart = by_test (cases_Bool (x == 46))
  where
    by_test : ((x == 46) ≡ true) ⊎ ((x == 46) ≡ false) → MantissaView (front ++ x ∷ xs)
    by_test (inl e) = subst (λ y. MantissaView (front ++ y ∷ xs)) (sym (eqb-true x 46 e)) (behind_point front xs all (parted is_digit xs))
    by_test (inr e) = whole_part front (x ∷ xs) all apart (mantissa_whole front (x ∷ xs) all apart e)

pub mantissa_view : (bytes : List ℕ) → MantissaView bytes
mantissa_view bytes = let part = parted is_digit bytes in subst MantissaView (sym part.joined) (view_by part.front part.rest part.all part.apart)

-- ---- the exponent

abbrev exponent_by : ℕ → List ℕ → ℕ
exponent_by sign bytes = exponent_of sign (prefix_len is_digit (drop (1 + sign) bytes))

exponent_none : (x : ℕ) (xs : List ℕ) → is_e x ≡ false → exponent_len (x ∷ xs) ≡ 0
unfolding exponent_len
exponent_none x xs e = cond-false (begins is_e (x ∷ xs)) (exponent_by (sign_len xs) (x ∷ xs)) 0 (begins_cons is_e x xs ∙ e)

exponent_some : (x : ℕ) (xs : List ℕ) → is_e x ≡ true → exponent_len (x ∷ xs) ≡ exponent_by (sign_len xs) (x ∷ xs)
unfolding exponent_len
exponent_some x xs e = cond-true (begins is_e (x ∷ xs)) (exponent_by (sign_len xs) (x ∷ xs)) 0 (begins_cons is_e x xs ∙ e)

no_bytes : exponent_len [] ≡ 0
unfolding exponent_len
no_bytes = refl

pub exponent_on : (e : ℕ) (sign tail : List ℕ) → is_e e ≡ true → sign_len (sign ++ tail) ≡ length sign
    → exponent_len (e ∷ (sign ++ tail)) ≡ exponent_of (length sign) (prefix_len is_digit tail)
exponent_on e sign tail is many =
    let one : 1 + length sign ≡ suc (length sign) = omega arith in
    exponent_some e (sign ++ tail) is ∙ ap (λ n. exponent_by n (e ∷ (sign ++ tail))) many
    ∙ ap (λ n. exponent_of (length sign) (prefix_len is_digit (drop n (e ∷ (sign ++ tail))))) one
    ∙ ap (λ xs. exponent_of (length sign) (prefix_len is_digit xs)) (drop_front sign tail)

pub exponent_of_some : (sign digits : ℕ) → 0 < digits → exponent_of sign digits ≡ 1 + sign + digits
exponent_of_some sign digits h = cond-true (nat_lt 0 digits) (1 + sign + digits) 0 (lt-ltb 0 digits h)

-- an exponent, or none
pub data ExponentView : List ℕ → Type 0 where
  no_exponent : (bytes : List ℕ) → exponent_len bytes ≡ 0 → ExponentView bytes
  an_exponent : (e : ℕ) (sign digits rest : List ℕ) → is_e e ≡ true → IsSign sign → IsDigits digits
      → exponent_len (e ∷ (sign ++ (digits ++ rest))) ≡ 1 + length sign + length digits → ExponentView (e ∷ (sign ++ (digits ++ rest)))

by_parts : (e : ℕ) (sign tail : List ℕ) → is_e e ≡ true → IsSign sign → sign_len (sign ++ tail) ≡ length sign → Parted is_digit tail → ExponentView (e ∷ (sign ++ tail))
by_parts e sign tail is s many part = by_digits (zero_or_some (length part.front))
  where
    on : exponent_len (e ∷ (sign ++ tail)) ≡ exponent_of (length sign) (length part.front)
    on = exponent_on e sign tail is many ∙ ap (exponent_of (length sign)) part.many

    by_digits : (length part.front ≡ 0) ⊎ (0 < length part.front) → ExponentView (e ∷ (sign ++ tail))
    by_digits (inl z) = no_exponent (e ∷ (sign ++ tail)) (on ∙ ap (exponent_of (length sign)) z)
    by_digits (inr h) =
        subst (λ xs. ExponentView (e ∷ (sign ++ xs))) (sym part.joined)
        (an_exponent e sign part.front part.rest is s (some_digits part.front part.all h)
        (ap (λ xs. exponent_len (e ∷ (sign ++ xs))) (sym part.joined) ∙ on ∙ exponent_of_some (length sign) (length part.front) h))

by_sign : (e : ℕ) (xs : List ℕ) → is_e e ≡ true → SignCut xs → ExponentView (e ∷ xs)
by_sign e xs is s =
    subst (λ ys. ExponentView (e ∷ ys)) (sym s.joined) (by_parts e s.sign s.rest is s.is (ap sign_len (sym s.joined) ∙ s.many) (parted is_digit s.rest))

pub exponent_view : (bytes : List ℕ) → ExponentView bytes
exponent_view [] = no_exponent [] no_bytes
exponent_view (x ∷ xs) = by_test (cases_Bool (is_e x))
  where
    by_test : (is_e x ≡ true) ⊎ (is_e x ≡ false) → ExponentView (x ∷ xs)
    by_test (inl e) = by_sign x xs e (sign_cut xs)
    by_test (inr e) = no_exponent (x ∷ xs) (exponent_none x xs e)
