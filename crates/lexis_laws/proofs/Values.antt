-- The value of a whole number, and whether 64 bits hold it.
use Rattle.std.proofs.Common.{◌≡◌, ℕ, ℤ, zero, suc, pos, negsuc, ◌+◌, ◌-◌, ◌*◌, ◌^◌, ◌<◌, ◌≤◌, ◌-ℤ◌, Bool, true, false, List, [], ◌∷◌, Option, Some, None, refl, ap, ◌∙◌, subst, arith, mul-suc}
use Rattle.std.specs.Prelude.{nat_lt, not, ◌&&◌}
use Rattle.std.proofs.lemmas.Bool.{cond-true, cond_both, ltb-true, ltb-false, lt-ltb, le-ltb}
use Rattle.idl_lexer.specs.Grammar.{IsSign, IsSigned, number_of, is_in_range}
use Rattle.idl_lexer.specs.Grammar as grammar
use Rattle.idl_lexer.specs.Pieces.{digit_value, magnitude_from, signed, signed_of, int_at}
use Rattle.idl_lexer.specs.declared.token.TokenForm.TheVariants as forms

-- whether a sign negates
pub data Negates : Bool → List ℕ → Type 0 where
  no_sign : Negates false []
  plus_sign : Negates false (43 ∷ [])
  minus_sign : Negates true (45 ∷ [])

-- ---- the digits

no_less : (n radix : ℕ) → 1 ≤ radix → n ≤ n * radix
no_less n zero h = absurd (omega arith)
no_less n (suc k) h = omega (arith, mul-suc n k)

number_grows : (radix before : ℕ) (digits : List ℕ) → 1 ≤ radix → before ≤ number_of radix before digits
number_grows radix before [] h = omega arith
number_grows radix before (b ∷ bs) h =
    let more = number_grows radix (before * radix + digit_value b) bs h in
    let least = no_less before radix h in
    grown (before * radix) (digit_value b) (number_of radix (before * radix + digit_value b) bs) least more
  where
    grown : (product digit whole : ℕ) → before ≤ product → product + digit ≤ whole → before ≤ whole
    grown product digit whole p q = omega (arith, p, q)

abbrev MagnitudeTold : ℕ → Option ℕ → Type 0
MagnitudeTold n (Some m) = (m ≡ n) × (m ≤ 2 ^ 63)
MagnitudeTold n None = 2 ^ 63 < n

magnitude_told : (radix n : ℕ) (digits : List ℕ) → 1 ≤ radix → n ≤ 2 ^ 63 → MagnitudeTold (number_of radix n digits) (magnitude_from radix n digits)
magnitude_told radix n [] h small = (refl, small)
magnitude_told radix n (b ∷ bs) h small =
    let next = n * radix + digit_value b in
    cond_both (nat_lt (2 ^ 63) next) None (magnitude_from radix next bs) (MagnitudeTold (number_of radix next bs))
    (λ e. lt_of (2 ^ 63) next (number_of radix next bs) (ltb-true (2 ^ 63) next e) (number_grows radix next bs h))
    (λ e. magnitude_told radix next bs h (ltb-false (2 ^ 63) next e))
  where
    lt_of : (a b c : ℕ) → a < b → b ≤ c → a < c
    lt_of a b c p q = omega (arith, p, q)

-- ---- the value

negated : (n : ℕ) → pos 0 -ℤ pos (suc n) ≡ negsuc n
negated n =
    let less : suc n - 1 ≡ n = omega arith in
    cond-true (nat_lt 0 (suc n)) (negsuc (suc n - 1)) (pos (0 - suc n)) (lt-ltb 0 (suc n) (omega arith)) ∙ ap negsuc less

pos_in : (n : ℕ) → n < 2 ^ 63 → is_in_range (forms.Int (pos n)) ≡ true
pos_in n h = lt-ltb n 9223372036854775808 h

pos_out : (n : ℕ) → 2 ^ 63 ≤ n → is_in_range (forms.Int (pos n)) ≡ false
pos_out n h = le-ltb n 9223372036854775808 h

negsuc_in : (n : ℕ) → n ≤ 9223372036854775807 → is_in_range (forms.Int (negsuc n)) ≡ true
negsuc_in n h = ap (λ t. not t && true) (le-ltb 9223372036854775807 n h)

negsuc_out : (n : ℕ) → 9223372036854775807 < n → is_in_range (forms.Int (negsuc n)) ≡ false
negsuc_out n h = ap (λ t. not t && true) (lt-ltb 9223372036854775807 n h)

minus_in : (n : ℕ) → n ≤ 2 ^ 63 → is_in_range (forms.Int (pos 0 -ℤ pos n)) ≡ true
minus_in zero h = refl
minus_in (suc n) h = ap (λ z. is_in_range (forms.Int z)) (negated n) ∙ negsuc_in n (omega (arith, h))

minus_out : (n : ℕ) → 2 ^ 63 < n → is_in_range (forms.Int (pos 0 -ℤ pos n)) ≡ false
minus_out zero h = absurd (omega arith)
minus_out (suc n) h = ap (λ z. is_in_range (forms.Int z)) (negated n) ∙ negsuc_out n (omega (arith, h))

-- the value of a number that 64 bits hold, or the one that they don't
abbrev pub IntTold : List ℕ → ℕ → Option ℤ → Type 0
IntTold sign n (Some z) = IsSigned sign n z × (is_in_range (forms.Int z) ≡ true)
IntTold sign n None = (z : ℤ) × IsSigned sign n z × (is_in_range (forms.Int z) ≡ false)

signed_told : (negative : Bool) (sign : List ℕ) (n : ℕ) → Negates negative sign → n ≤ 2 ^ 63 → IntTold sign n (signed negative n)
signed_told negative sign n no_sign h =
    cond_both (nat_lt n (2 ^ 63)) (Some (pos n)) None (IntTold [] n) (λ e. (grammar.bare n, pos_in n (ltb-true n (2 ^ 63) e))) (λ e. (pos n, grammar.bare n, pos_out n (ltb-false n (2 ^ 63) e)))
signed_told negative sign n plus_sign h =
    cond_both (nat_lt n (2 ^ 63)) (Some (pos n)) None (IntTold (43 ∷ []) n) (λ e. (grammar.plus n, pos_in n (ltb-true n (2 ^ 63) e))) (λ e. (pos n, grammar.plus n, pos_out n (ltb-false n (2 ^ 63) e)))
signed_told negative sign n minus_sign h = (grammar.minus n, minus_in n h)

big_told : (negative : Bool) (sign : List ℕ) (n : ℕ) → Negates negative sign → 2 ^ 63 < n → IntTold sign n None
big_told negative sign n no_sign h = (pos n, grammar.bare n, pos_out n (omega (arith, h)))
big_told negative sign n plus_sign h = (pos n, grammar.plus n, pos_out n (omega (arith, h)))
big_told negative sign n minus_sign h = (pos 0 -ℤ pos n, grammar.minus n, minus_out n h)

by_magnitude : (negative : Bool) (sign : List ℕ) (n : ℕ) → Negates negative sign → (m : Option ℕ) → MagnitudeTold n m → IntTold sign n (signed_of negative m)
by_magnitude negative sign n s (Some m) told = subst (λ k. IntTold sign k (signed negative m)) told.0 (signed_told negative sign m s told.1)
by_magnitude negative sign n s None told = big_told negative sign n s told

pub int_told : (negative : Bool) (sign : List ℕ) (radix : ℕ) (digits : List ℕ) → 1 ≤ radix → Negates negative sign
    → IntTold sign (number_of radix 0 digits) (int_at negative radix digits)
unfolding int_at
int_told negative sign radix digits h s =
    by_magnitude negative sign (number_of radix 0 digits) s (magnitude_from radix 0 digits) (magnitude_told radix 0 digits h (omega arith))

-- a sign and a number have one value
pub one_value : (sign : List ℕ) (n : ℕ) (y z : ℤ) → IsSigned sign n y → IsSigned sign n z → y ≡ z
one_value sign n y z (grammar.bare m) s = bare_is m z s
  where
    bare_is : (m : ℕ) (z : ℤ) → IsSigned [] m z → pos m ≡ z
    bare_is m z (grammar.bare k) = refl
one_value sign n y z (grammar.plus m) s = plus_is m z s
  where
    plus_is : (m : ℕ) (z : ℤ) → IsSigned (43 ∷ []) m z → pos m ≡ z
    plus_is m z (grammar.plus k) = refl
one_value sign n y z (grammar.minus m) s = minus_is m z s
  where
    minus_is : (m : ℕ) (z : ℤ) → IsSigned (45 ∷ []) m z → pos 0 -ℤ pos m ≡ z
    minus_is m z (grammar.minus k) = refl

pub sign_of_signed : (sign : List ℕ) (n : ℕ) (z : ℤ) → IsSigned sign n z → IsSign sign
sign_of_signed sign n z (grammar.bare m) = grammar.no_sign
sign_of_signed sign n z (grammar.plus m) = grammar.plus_sign
sign_of_signed sign n z (grammar.minus m) = grammar.minus_sign
