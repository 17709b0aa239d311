-- An integer read where it stands.
use Rattle.std.proofs.Common.{◌≡◌, ℕ, ℤ, pos, negsuc, zero, suc, ◌+◌, ◌-◌, ◌*◌, ◌%◌, ◌^◌, ◌<◌, ◌≤◌, ◌≤ℤ◌, Bool, true, false, List, [], ◌∷◌, length, take, drop, get_or, Some, refl, sym, ap, subst, ◌∙◌, arith, length-drop}
use Rattle.std.specs.Prelude.{nat_le, nat_lt, not, ◌&&◌, ◌||◌, ◌==◌, slice_index, slice_range, bit_and, bit_xor}
use Rattle.std.specs.Int.{w64, cast_signed}
use Rattle.std.specs.Int.Bits.{xor_add_and, xor_zero_r}
use Rattle.std.proofs.Math.Facts.{to_z-neg}
use Rattle.std.proofs.lemmas.Bool.Decides.{nat_tests}
use Rattle.std.proofs.lemmas.Int.{to_z_pos}
use Rattle.std.proofs.lemmas.Nat.{and_mask}
use Rattle.std.proofs.lemmas.List.{get_or-drop, get_or-take, length-take-le, drop-drop, drop-take, take_more}
use Rattle.std.proofs.lemmas.List.Sums.{prefix_len-drop_no, prefix_len-drop_yes, prefix_len_is, prefix_len_passes, prefix_len_stops}
use Rattle.std.specs.List.{prefix_len}
use Rattle.std.specs.Char.{is_ascii_digit, digit_value}
use Rattle.std.specs.Str.Parse.{digits_value, digits_value_after}
use Rattle.json_text.specs.declared.scanned.Scan.TheVariants.{Whole}
use Rattle.json_text.specs.Int.{is_int_byte, digits_from, magnitude, integer, within, run_scan, int_at}

digit_then : (x value : ℕ) (tail : List ℕ) → is_ascii_digit x ≡ true → value ≤ 1000000000000000000 → digits_from value (x ∷ tail) ≡ digits_from (value * 10 + (x - 48)) tail
unfolding digits_from
digit_then x value tail digit small = let le : nat_le value 1000000000000000000 ≡ true = grind (arith, nat_tests) in rw (digit, le) refl

powers : (k more : ℕ) → 10 ^ k ≤ 10 ^ (more + k)
powers k zero = let same : k ≡ 0 + k = omega arith in subst (λ m. 10 ^ k ≤ 10 ^ m) same (omega arith)
powers k (suc more) = let next : suc (more + k) ≡ suc more + k = omega arith in let step = powers k more in subst (λ m. 10 ^ k ≤ 10 ^ m) next (omega (arith, step))

digit_worth : (x : ℕ) → is_ascii_digit x ≡ true → digit_value x ≡ x - 48
digit_worth x digit = grind (arith, nat_tests, digit)

pub digit_most : (x : ℕ) → is_ascii_digit x ≡ true → x ≤ 57
digit_most x digit = grind (arith, nat_tests)

-- digits behind a number of k digits, 19 of them together at most
few_digits : (digits : List ℕ) (k n : ℕ) → ((i : ℕ) → i < length digits → is_ascii_digit (get_or digits i 0) ≡ true) → n < 10 ^ k → k + length digits ≤ 19
    → (digits_from n digits ≡ Some (digits_value_after 10 n digits)) × (digits_value_after 10 n digits < 10 ^ 19)
unfolding digits_from
few_digits [] k n digit small few =
    let most : 10 ^ k ≤ 10 ^ (19 - k + k) = powers k (19 - k) in
    let all : 19 - k + k ≡ 19 = omega (arith, few) in
    let nineteen : 10 ^ (19 - k + k) ≡ 10 ^ 19 = ap (λ m. 10 ^ m) all in
    (refl, omega (arith, small, most, nineteen))
few_digits (x ∷ xs) k n digit small few =
    let first : is_ascii_digit x ≡ true = digit 0 (omega arith) in
    let worth : digit_value x ≡ x - 48 = digit_worth x first in
    let nine : x ≤ 57 = digit_most x first in
    let most : 10 ^ k ≤ 10 ^ (18 - k + k) = powers k (18 - k) in
    let all : 18 - k + k ≡ 18 = omega (arith, few) in
    let eighteen : 10 ^ (18 - k + k) ≡ 10 ^ 18 = ap (λ m. 10 ^ m) all in
    let next : n * 10 + digit_value x < 10 ^ suc k = omega (arith, small, worth, nine) in
    let rest = few_digits xs (suc k) (n * 10 + digit_value x) (λ i short. digit (suc i) (omega (arith, short))) next (omega (arith, few)) in
    (digit_then x n xs first (omega (arith, small, most, eighteen)) ∙ ap (λ d. digits_from (n * 10 + d) xs) (sym worth) ∙ rest.0, rest.1)

pub number_made : (bytes : List ℕ) (at stop value : ℕ) → at ≤ length bytes → stop ≡ at + prefix_len is_ascii_digit (drop at bytes) → stop ≤ length bytes → stop - at ≤ 19
    → value ≡ (0 * 10 ^ (stop - at) + digits_value 10 (slice_range bytes at stop)) % 2 ^ 64 → digits_from 0 (take (stop - at) (drop at bytes)) ≡ Some value
number_made bytes at stop value there run within few is =
    let digits = take (stop - at) (drop at bytes) in
    let long : length digits ≡ stop - at = length-take-le (stop - at) (drop at bytes) (omega (arith, length-drop at bytes)) in
    let each : (i : ℕ) → i < length digits → is_ascii_digit (get_or digits i 0) ≡ true =
    λ i short. ap is_ascii_digit (get_or-take (stop - at) (drop at bytes) i 0 (omega (arith, short, long))) ∙ prefix_len_passes is_ascii_digit (drop at bytes) i 0 (omega (arith, short, long, run)) in
    let made = few_digits digits 0 0 each (omega arith) (omega (arith, long, few)) in
    let exact : digits_value 10 digits ≡ value = small_enough (10 ^ (stop - at)) (digits_value 10 digits) value is made.1 in
    made.0 ∙ ap Some exact
  where
    small_enough : (power n value : ℕ) → value ≡ (0 * power + n) % 2 ^ 64 → n < 10 ^ 19 → n ≡ value
    small_enough power n value is small = omega (arith, is, small)

-- where no digit follows
pub run_ends : (bytes : List ℕ) (at stop : ℕ) → stop ≡ at + prefix_len is_ascii_digit (drop at bytes) → prefix_len is_ascii_digit (drop at bytes) ≡ stop - at
run_ends bytes at stop run = omega (arith, run)

-- ---- the run of an integer

pub int_run_ends : (bytes : List ℕ) (at stop : ℕ) → prefix_len is_ascii_digit (drop at bytes) ≡ stop - at → at ≤ stop → stop < length bytes → (slice_index bytes stop ≡ 45 → ⊥) → prefix_len is_int_byte (drop at bytes) ≡ stop - at
int_run_ends bytes at stop run order there sign =
    prefix_len_is is_int_byte (drop at bytes) (stop - at) 0 (omega (arith, length-drop at bytes)) (λ k short. digits_pass k (omega (arith, run))) (λ _. stops)
  where
    digits_pass : (k : ℕ) → k < prefix_len is_ascii_digit (drop at bytes) → is_int_byte (get_or (drop at bytes) k 0) ≡ true
    digits_pass k short = let digit : is_ascii_digit (get_or (drop at bytes) k 0) ≡ true = prefix_len_passes is_ascii_digit (drop at bytes) k 0 short in rw digit refl

    here : get_or (drop at bytes) (stop - at) 0 ≡ slice_index bytes stop
    here = get_or-drop at bytes (stop - at) 0 ∙ ap (λ k. get_or bytes k 0) (omega arith)

    no_digit : is_ascii_digit (get_or (drop at bytes) (stop - at) 0) ≡ false
    no_digit =
        let short : prefix_len is_ascii_digit (drop at bytes) < length (drop at bytes) = omega (arith, run, length-drop at bytes) in
        subst (λ n. is_ascii_digit (get_or (drop at bytes) n 0) ≡ false) run (prefix_len_stops is_ascii_digit (drop at bytes) 0 short)

    no_sign : (get_or (drop at bytes) (stop - at) 0 == 45) ≡ false
    no_sign = let other : slice_index bytes stop ≡ 45 → ⊥ = sign in grind (arith, nat_tests, here, other)

    stops : is_int_byte (get_or (drop at bytes) (stop - at) 0) ≡ false
    stops = rw (no_digit, no_sign) refl

-- digits without a needless zero
pub size_made : (digits : List ℕ) (value : ℕ) → 0 < length digits → (slice_index digits 0 ≡ 48 → length digits ≡ 1) → digits_from 0 digits ≡ Some value → magnitude digits ≡ Some value
unfolding magnitude
size_made digits value some lone made = grind (arith, nat_tests, lone, made)

first_of_run : (bytes : List ℕ) (at n : ℕ) → 0 < n → slice_index (take n (drop at bytes)) 0 ≡ slice_index bytes at
first_of_run bytes at n some = get_or-take n (drop at bytes) 0 0 some ∙ get_or-drop at bytes 0 0 ∙ ap (λ k. get_or bytes k 0) (omega arith)

pub digits_made : (bytes : List ℕ) (at stop value : ℕ) → at < stop → stop ≤ length bytes → (slice_index bytes at ≡ 48 → stop ≡ at + 1) → digits_from 0 (take (stop - at) (drop at bytes)) ≡ Some value
    → magnitude (take (stop - at) (drop at bytes)) ≡ Some value
digits_made bytes at stop value some most lone made =
    let long : length (take (stop - at) (drop at bytes)) ≡ stop - at = length-take-le (stop - at) (drop at bytes) (omega (arith, length-drop at bytes)) in
    size_made (take (stop - at) (drop at bytes)) value (omega (arith, long)) (λ e. omega (arith, long, lone (sym (first_of_run bytes at (stop - at) (omega arith)) ∙ e))) made

-- ---- the integer

in_range : (low high v : ℤ) → low ≤ℤ v → v ≤ℤ high → within low high (Some v) ≡ Some v
in_range low high v a b = grind (arith, nat_tests)

-- a run that spells an integer of the range
scanned : (low high v : ℤ) (bytes : List ℕ) (n : ℕ) → prefix_len is_int_byte bytes ≡ n → n ≤ length bytes → integer (take n bytes) ≡ Some v → low ≤ℤ v → v ≤ℤ high → int_at low high bytes ≡ Whole v n
unfolding int_at
scanned low high v bytes n run most spelled a b =
    ap (λ k. run_scan low (take k bytes) bytes (within low high (integer (take k bytes)))) run
    ∙ ap (λ o. run_scan low (take n bytes) bytes (within low high o)) spelled ∙ ap (run_scan low (take n bytes) bytes) (in_range low high v a b) ∙ ap (Whole v) (length-take-le n bytes most)

unsigned : (run : List ℕ) (value : ℕ) → (slice_index run 0 ≡ 45 → ⊥) → magnitude run ≡ Some value → value < 9223372036854775808 → integer run ≡ Some (pos value)
unfolding integer
unsigned run value other made small =
    let first : (not (length run == 0) && (slice_index run 0 == 45)) ≡ false = no_sign (length run == 0) (slice_index run 0) other in
    let fits : nat_lt value 9223372036854775808 ≡ true = grind (arith, nat_tests) in
    rw (first, made, fits) refl
  where
    no_sign : (b : Bool) (x : ℕ) → (x ≡ 45 → ⊥) → (not b && (x == 45)) ≡ false
    no_sign true x h = refl
    no_sign false x h = grind (arith, nat_tests, h)

signed : (run : List ℕ) (value : ℕ) → 0 < length run → slice_index run 0 ≡ 45 → magnitude (drop 1 run) ≡ Some value → 0 < value → value ≤ 9223372036854775808 → integer run ≡ Some (negsuc (value - 1))
unfolding integer
signed run value some sign made more small =
    let first : (not (length run == 0) && (slice_index run 0 == 45)) ≡ true = grind (arith, nat_tests) in
    let fits : ((value == 0) || nat_lt 9223372036854775808 value) ≡ false = grind (arith, nat_tests) in
    rw (first, made, fits) refl

digit_no_sign : (x : ℕ) → is_ascii_digit x ≡ true → x ≡ 45 → ⊥
digit_no_sign x digit e = let no : is_ascii_digit 45 ≡ true = ap is_ascii_digit (sym e) ∙ digit in absurd (cc)

pub positive_there : (bytes : List ℕ) (at stop value : ℕ) (low high : ℤ) → at < stop → stop < length bytes → is_ascii_digit (slice_index bytes at) ≡ true → prefix_len is_int_byte (drop at bytes) ≡ stop - at
    → magnitude (take (stop - at) (drop at bytes)) ≡ Some value → value < 9223372036854775808 → low ≤ℤ pos value → pos value ≤ℤ high → int_at low high (drop at bytes) ≡ Whole (pos value) (stop - at)
positive_there bytes at stop value low high some there digit run made small a b =
    scanned low high (pos value) (drop at bytes) (stop - at) run (omega (arith, length-drop at bytes))
    (unsigned (take (stop - at) (drop at bytes)) value (λ e. digit_no_sign (slice_index bytes at) digit (sym (first_of_run bytes at (stop - at) (omega arith)) ∙ e)) made small) a b

pub negative_there : (bytes : List ℕ) (at stop value : ℕ) (low high : ℤ) → at + 1 < stop → stop < length bytes → slice_index bytes at ≡ 45 → prefix_len is_int_byte (drop (at + 1) bytes) ≡ stop - (at + 1)
    → magnitude (take (stop - (at + 1)) (drop (at + 1) bytes)) ≡ Some value → 0 < value → value ≤ 9223372036854775808 → low ≤ℤ negsuc (value - 1) → negsuc (value - 1) ≤ℤ high
    → int_at low high (drop at bytes) ≡ Whole (negsuc (value - 1)) (stop - at)
negative_there bytes at stop value low high some there sign run made more small a b =
    let n = stop - (at + 1) in
    let all : 1 + n ≡ stop - at = omega arith in
    let first : is_int_byte (get_or bytes at 0) ≡ true = rw sign refl in
    let whole : prefix_len is_int_byte (drop at bytes) ≡ stop - at = prefix_len-drop_yes is_int_byte bytes at 0 (omega arith) first ∙ omega (arith, run) in
    let rest : drop 1 (take (stop - at) (drop at bytes)) ≡ take n (drop (at + 1) bytes) = ap (λ k. drop 1 (take k (drop at bytes))) (sym all) ∙ drop-take 1 n (drop at bytes) ∙ ap (take n) (drop-drop 1 at bytes) in
    let long : length (take (stop - at) (drop at bytes)) ≡ stop - at = length-take-le (stop - at) (drop at bytes) (omega (arith, length-drop at bytes)) in
    scanned low high (negsuc (value - 1)) (drop at bytes) (stop - at) whole (omega (arith, length-drop at bytes))
    (signed (take (stop - at) (drop at bytes)) value (omega (arith, long)) (first_of_run bytes at (stop - at) (omega arith) ∙ sign) (ap magnitude rest ∙ made) more small) a b

-- ---- the sign

-- every bit turned
turned : (n : ℕ) → n < 2 ^ 64 → bit_xor n (2 ^ 64 - 1) ≡ 2 ^ 64 - suc n
turned n small = let same : bit_and n (2 ^ 64 - 1) ≡ n % 2 ^ 64 = and_mask n 64 in omega (arith, xor_add_and n (2 ^ 64 - 1), same)

pub from_minus_one : (rank : ℕ) → rank < 2 ^ 63 → cast_signed w64 (bit_xor rank (2 ^ 64 - 1)) ≡ negsuc rank
from_minus_one rank small = ap (cast_signed w64) (turned rank (omega arith)) ∙ to_z-neg w64 rank small

pub from_zero : (rank : ℕ) → rank < 2 ^ 63 → cast_signed w64 (bit_xor rank 0) ≡ pos rank
from_zero rank small = ap (cast_signed w64) (xor_zero_r rank) ∙ to_z_pos w64 rank small

-- the number behind its sign, which is 1 or 0
pub signed_there : (bytes : List ℕ) (at stop sign size rank : ℕ) (value low high : ℤ) → (slice_index bytes at ≡ 45 → sign ≡ 1) → ((slice_index bytes at ≡ 45 → ⊥) → sign ≡ 0)
    → at + sign < stop → stop < length bytes → is_ascii_digit (slice_index bytes (at + sign)) ≡ true → prefix_len is_int_byte (drop (at + sign) bytes) ≡ stop - (at + sign)
    → magnitude (take (stop - (at + sign)) (drop (at + sign) bytes)) ≡ Some size → size ≡ rank + sign → rank < 2 ^ 63
    → (sign ≡ 0 → value ≡ pos rank) → (sign ≡ 1 → value ≡ negsuc rank) → low ≤ℤ value → value ≤ℤ high → int_at low high (drop at bytes) ≡ Whole value (stop - at)
signed_there bytes at stop sign size rank value low high minus other some there digit run made is small up down a b = by_byte (slice_index bytes at == 45) refl
  where
    below : sign ≡ 1 → slice_index bytes at ≡ 45 → int_at low high (drop at bytes) ≡ Whole value (stop - at)
    below one byte =
        let v : value ≡ negsuc (size - 1) = down one ∙ ap negsuc (omega (arith, is, one)) in
        let next : at + sign ≡ at + 1 = omega (arith, one) in
        subst (λ z. int_at low high (drop at bytes) ≡ Whole z (stop - at)) (sym v)
        (negative_there bytes at stop size low high (omega (arith, one, some)) there byte (subst (λ p. prefix_len is_int_byte (drop p bytes) ≡ stop - p) next run)
        (subst (λ p. magnitude (take (stop - p) (drop p bytes)) ≡ Some size) next made) (omega (arith, is, one)) (omega (arith, is, one, small))
        (subst (λ z. low ≤ℤ z) v a) (subst (λ z. z ≤ℤ high) v b))

    above : sign ≡ 0 → int_at low high (drop at bytes) ≡ Whole value (stop - at)
    above none =
        let v : value ≡ pos size = up none ∙ ap pos (omega (arith, is, none)) in
        let next : at + sign ≡ at = omega (arith, none) in
        subst (λ z. int_at low high (drop at bytes) ≡ Whole z (stop - at)) (sym v)
        (positive_there bytes at stop size low high (omega (arith, none, some)) there (subst (λ p. is_ascii_digit (slice_index bytes p) ≡ true) next digit) (subst (λ p. prefix_len is_int_byte (drop p bytes) ≡ stop - p) next run)
        (subst (λ p. magnitude (take (stop - p) (drop p bytes)) ≡ Some size) next made) (omega (arith, is, none, small))
        (subst (λ z. low ≤ℤ z) v a) (subst (λ z. z ≤ℤ high) v b))

    no_byte : slice_index bytes at ≡ 45 → (slice_index bytes at == 45) ≡ false → ⊥
    no_byte byte e = grind (arith, nat_tests, byte, e)

    by_byte : (t : Bool) → (slice_index bytes at == 45) ≡ t → int_at low high (drop at bytes) ≡ Whole value (stop - at)
    by_byte true e = let byte : slice_index bytes at ≡ 45 = grind (arith, nat_tests, e) in below (minus byte) byte
    by_byte false e = above (other (λ byte. absurd (no_byte byte e)))

pub begins_there : (bytes : List ℕ) (at sign : ℕ) → ((slice_index bytes at ≡ 45 → ⊥) → sign ≡ 0) → is_ascii_digit (slice_index bytes (at + sign)) ≡ true → is_int_byte (slice_index bytes at) ≡ true
begins_there bytes at sign other digit = by_byte (slice_index bytes at == 45) refl
  where
    no_byte : slice_index bytes at ≡ 45 → (slice_index bytes at == 45) ≡ false → ⊥
    no_byte byte e = grind (arith, nat_tests, byte, e)

    by_byte : (t : Bool) → (slice_index bytes at == 45) ≡ t → is_int_byte (slice_index bytes at) ≡ true
    by_byte true e = let byte : slice_index bytes at ≡ 45 = grind (arith, nat_tests, e) in rw byte refl
    by_byte false e =
        let none : sign ≡ 0 = other (λ byte. absurd (no_byte byte e)) in
        let here : is_ascii_digit (slice_index bytes at) ≡ true = subst (λ p. is_ascii_digit (slice_index bytes p) ≡ true) (omega (arith, none)) digit in
        rw here refl

-- ---- one digit

pub one_digit_run : (bytes : List ℕ) (at : ℕ) → at + 1 < length bytes → is_ascii_digit (slice_index bytes at) ≡ true → is_ascii_digit (slice_index bytes (at + 1)) ≡ false → (slice_index bytes (at + 1) ≡ 45 → ⊥) → prefix_len is_int_byte (drop at bytes) ≡ 1
one_digit_run bytes at there digit last sign =
    let first : is_int_byte (slice_index bytes at) ≡ true = rw digit refl in
    let other : (slice_index bytes (at + 1) == 45) ≡ false = grind (arith, nat_tests, sign) in
    let stops : is_int_byte (slice_index bytes (at + 1)) ≡ false = rw (last, other) refl in
    prefix_len-drop_yes is_int_byte bytes at 0 (omega arith) first ∙ ap (λ n. 1 + n) (prefix_len-drop_no is_int_byte bytes (at + 1) 0 there stops)

one_digit_made : (bytes : List ℕ) (at : ℕ) → at < length bytes → is_ascii_digit (slice_index bytes at) ≡ true → digits_from 0 (take (at + 1 - at) (drop at bytes)) ≡ Some (slice_index bytes at - 48)
unfolding digits_from
one_digit_made bytes at there digit =
    let here : get_or (drop at bytes) 0 0 ≡ slice_index bytes at = get_or-drop at bytes 0 0 ∙ ap (λ k. get_or bytes k 0) (omega arith) in
    let one : at + 1 - at ≡ 0 + 1 = omega arith in
    ap (λ n. digits_from 0 (take n (drop at bytes))) one ∙ ap (digits_from 0) (take_more (drop at bytes) 0 0 (omega (arith, length-drop at bytes))) ∙ ap (λ x. digits_from 0 (x ∷ [])) here
    ∙ digit_then (slice_index bytes at) 0 [] digit (omega arith) ∙ ap Some (omega arith)

pub one_digit_there : (bytes : List ℕ) (at : ℕ) (low high : ℤ) → at + 1 < length bytes → is_ascii_digit (slice_index bytes at) ≡ true → prefix_len is_int_byte (drop at bytes) ≡ 1
    → low ≤ℤ pos (slice_index bytes at - 48) → pos (slice_index bytes at - 48) ≤ℤ high → int_at low high (drop at bytes) ≡ Whole (pos (slice_index bytes at - 48)) (at + 1 - at)
one_digit_there bytes at low high there digit run a b =
    let nine : slice_index bytes at ≤ 57 = digit_most (slice_index bytes at) digit in
    positive_there bytes at (at + 1) (slice_index bytes at - 48) low high (omega arith) there digit (omega (arith, run))
    (digits_made bytes at (at + 1) (slice_index bytes at - 48) (omega arith) (omega arith) (λ e. refl) (one_digit_made bytes at (omega arith) digit)) (omega (arith, nine)) a b
