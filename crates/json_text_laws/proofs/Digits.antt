-- The digits at the front of some bytes, and what follows them.
use Rattle.std.proofs.Common.{◌≡◌, ℕ, suc, ◌+◌, ◌≤◌, Bool, true, false, cond, List, [], ◌∷◌, ◌++◌, length, drop, refl, sym, ap, ◌∙◌, subst, arith, ◌⊎◌, inl, inr}
use Rattle.std.specs.Prelude.{◌==◌}
use Rattle.std.specs.List.{prefix_len}
use Rattle.std.specs.Char.{is_ascii_digit}
use Rattle.std.proofs.lemmas.Bool.Decides.{nat_tests}
use Rattle.json_text.specs.declared.number.Form.{Form}
use Rattle.json_text.specs.declared.number.Form.TheVariants.{Number, Front, Other}
use Rattle.json_text.specs.Number.{digits_in, no_digit, digits_then}
use Rattle.json_text.specs.Grammar.{IsDigit, AreDigits}
use Rattle.json_text_laws.proofs.Choices.{cond_true, cond_false, either_way}

pub digit_is : (x : ℕ) → is_ascii_digit x ≡ true → IsDigit x
digit_is x e = (grind (arith, nat_tests), grind (arith, nat_tests))

pub is_digit : (x : ℕ) → IsDigit x → is_ascii_digit x ≡ true
is_digit x d = grind (arith, nat_tests)

-- the digits at the front, and the rest
pub record Cut (xs : List ℕ) : Type 0 where
  pub digits : List ℕ
  pub rest : List ℕ
  pub joined : xs ≡ digits ++ rest
  pub are : AreDigits digits
  pub many : digits_in xs ≡ length digits
  pub behind : drop (digits_in xs) xs ≡ rest

-- the first byte is no digit
abbrev pub Apart : List ℕ → Type 0
Apart [] = Unit {0}
Apart (x ∷ xs) = is_ascii_digit x ≡ false

digits_cons : (b : Bool) (n : ℕ) → b ≡ true → cond b (1 + n) 0 ≡ suc n
digits_cons true n e = omega arith
digits_cons false n e = absurd (cc)

-- digits and what is no digit are cut there
pub cut_there : (digits rest : List ℕ) → AreDigits digits → Apart rest → (digits_in (digits ++ rest) ≡ length digits) × (drop (length digits) (digits ++ rest) ≡ rest)
cut_there [] [] d apart = (refl, refl)
cut_there [] (x ∷ xs) d apart = (cond_false (is_ascii_digit x) (1 + prefix_len is_ascii_digit xs) 0 apart, refl)
cut_there (x ∷ xs) rest d apart =
    let more = cut_there xs rest d.1 apart in
    (digits_cons (is_ascii_digit x) (digits_in (xs ++ rest)) (is_digit x d.0) ∙ ap suc more.0, more.1)

pub record Parted (xs : List ℕ) : Type 0 where
  pub digits : List ℕ
  pub rest : List ℕ
  pub joined : xs ≡ digits ++ rest
  pub are : AreDigits digits
  pub apart : Apart rest

pub parted : (xs : List ℕ) → Parted xs
parted [] = record { digits = []; rest = []; joined = refl; are = tt; apart = tt }
parted (x ∷ xs) = by_test (parted xs) (either_way (is_ascii_digit x))
  where
    by_test : Parted xs → (is_ascii_digit x ≡ true) ⊎ (is_ascii_digit x ≡ false) → Parted (x ∷ xs)
    by_test p (inl e) = record { digits = x ∷ p.digits; rest = p.rest; joined = ap (λ r. x ∷ r) p.joined; are = (digit_is x e, p.are); apart = p.apart }
    by_test p (inr e) = record { digits = []; rest = x ∷ xs; joined = refl; are = tt; apart = e }

-- ---- a part of a number's grammar

pub record Part (f : List ℕ → Form) (G : List ℕ → Type 0) : Type 0 where
  pub sound : (xs : List ℕ) → f xs ≡ Number → G xs
  pub whole : (xs : List ℕ) → G xs → f xs ≡ Number
  pub stable : (xs ys : List ℕ) → f xs ≡ Other → f (xs ++ ys) ≡ Other
  pub extends : (xs : List ℕ) → f xs ≡ Front → f (xs ++ 48 ∷ []) ≡ Number

-- one that may be nothing, and begins with no digit
pub record Tail (f : List ℕ → Form) (G : List ℕ → Type 0) : Type 0 where
  pub part : Part f G
  pub nothing : f [] ≡ Number
  pub apart : (xs : List ℕ) → G xs → Apart xs

-- at least one digit, and a tail
abbrev pub GDigits : (List ℕ → Type 0) → List ℕ → Type 0
GDigits G xs = (digits : List ℕ) × (rest : List ℕ) × (xs ≡ digits ++ rest) × AreDigits digits × (1 ≤ length digits) × G rest

pub no_digit_some : (x : ℕ) (xs : List ℕ) → no_digit (x ∷ xs) ≡ Other
no_digit_some x xs = cond_false (length (x ∷ xs) == 0) Front Other (grind (arith, nat_tests))

-- by whether digits stand there
module _ (f : List ℕ → Form) where
  then_of : (digits rest : List ℕ) → AreDigits digits → Apart rest → 1 ≤ length digits → digits_then f (digits ++ rest) ≡ f rest
  then_of digits rest are apart some =
      let cut = cut_there digits rest are apart in
      let more : (digits_in (digits ++ rest) == 0) ≡ false = let e = cut.0 in grind (arith, nat_tests) in
      cond_false (digits_in (digits ++ rest) == 0) (no_digit (digits ++ rest)) (f (drop (digits_in (digits ++ rest)) (digits ++ rest))) more ∙ ap (λ n. f (drop n (digits ++ rest))) cut.0 ∙ ap f cut.1

  then_none : (rest : List ℕ) → Apart rest → digits_then f rest ≡ no_digit rest
  then_none rest apart =
      let cut = cut_there [] rest tt apart in
      let none : (digits_in rest == 0) ≡ true = let e = cut.0 in grind (arith, nat_tests) in
      cond_true (digits_in rest == 0) (no_digit rest) (f (drop (digits_in rest) rest)) none

module _ (f : List ℕ → Form) (G : List ℕ → Type 0) (tail : Tail f G) where
  never : (xs : List ℕ) → no_digit xs ≡ Number → ⊥
  never [] e = absurd (cc)
  never (x ∷ xs) e = let wrong : Other ≡ Number = sym (no_digit_some x xs) ∙ e in absurd (cc)

  sound_by : (digits rest : List ℕ) → AreDigits digits → Apart rest → digits_then f (digits ++ rest) ≡ Number → GDigits G (digits ++ rest)
  sound_by [] rest are apart e = absurd (never rest (sym (then_none f rest apart) ∙ e))
  sound_by (x ∷ xs) rest are apart e = (x ∷ xs, rest, refl, are, omega arith, tail.part.sound rest (sym (then_of f (x ∷ xs) rest are apart (omega arith)) ∙ e))

  digits_sound : (xs : List ℕ) → digits_then f xs ≡ Number → GDigits G xs
  digits_sound xs e = let p = parted xs in subst (GDigits G) (sym p.joined) (sound_by p.digits p.rest p.are p.apart (ap (digits_then f) (sym p.joined) ∙ e))

  digits_whole : (xs : List ℕ) → GDigits G xs → digits_then f xs ≡ Number
  digits_whole xs (digits, rest, joined, are, some, good) = ap (digits_then f) joined ∙ then_of f digits rest are (tail.apart rest good) some ∙ tail.part.whole rest good

  behind_all : (digits rest ys : List ℕ) → (digits ++ rest) ++ ys ≡ digits ++ (rest ++ ys)
  behind_all [] rest ys = refl
  behind_all (x ∷ xs) rest ys = ap (λ r. x ∷ r) (behind_all xs rest ys)

  apart_more : (x : ℕ) (xs ys : List ℕ) → Apart (x ∷ xs) → Apart ((x ∷ xs) ++ ys)
  apart_more x xs ys e = e

  other_by : (digits rest ys : List ℕ) → AreDigits digits → Apart rest → digits_then f (digits ++ rest) ≡ Other → digits_then f (digits ++ (rest ++ ys)) ≡ Other
  other_by [] [] ys are apart e = let no : no_digit [] ≡ Other = sym (then_none f [] tt) ∙ e in absurd (cc)
  other_by [] (y ∷ rest) ys are apart e = then_none f ((y ∷ rest) ++ ys) apart ∙ no_digit_some y (rest ++ ys)
  other_by (x ∷ xs) [] ys are apart e = let no : Number ≡ Other = sym tail.nothing ∙ sym (then_of f (x ∷ xs) [] are tt (omega arith)) ∙ e in absurd (cc)
  other_by (x ∷ xs) (y ∷ rest) ys are apart e =
      then_of f (x ∷ xs) ((y ∷ rest) ++ ys) are apart (omega arith) ∙ tail.part.stable (y ∷ rest) ys (sym (then_of f (x ∷ xs) (y ∷ rest) are apart (omega arith)) ∙ e)

  digits_stable : (xs ys : List ℕ) → digits_then f xs ≡ Other → digits_then f (xs ++ ys) ≡ Other
  digits_stable xs ys e =
      let p = parted xs in
      ap (λ k. digits_then f (k ++ ys)) p.joined ∙ ap (digits_then f) (behind_all p.digits p.rest ys) ∙ other_by p.digits p.rest ys p.are p.apart (ap (digits_then f) (sym p.joined) ∙ e)

  front_by : (digits rest : List ℕ) → AreDigits digits → Apart rest → digits_then f (digits ++ rest) ≡ Front → digits_then f (digits ++ (rest ++ 48 ∷ [])) ≡ Number
  front_by [] [] are apart e = then_of f (48 ∷ []) [] ((omega arith, omega arith), tt) tt (omega arith) ∙ tail.nothing
  front_by [] (y ∷ rest) are apart e = let wrong : Other ≡ Front = sym (no_digit_some y rest) ∙ sym (then_none f (y ∷ rest) apart) ∙ e in absurd (cc)
  front_by (x ∷ xs) [] are apart e = let no : Number ≡ Front = sym tail.nothing ∙ sym (then_of f (x ∷ xs) [] are tt (omega arith)) ∙ e in absurd (cc)
  front_by (x ∷ xs) (y ∷ rest) are apart e =
      then_of f (x ∷ xs) ((y ∷ rest) ++ 48 ∷ []) are apart (omega arith) ∙ tail.part.extends (y ∷ rest) (sym (then_of f (x ∷ xs) (y ∷ rest) are apart (omega arith)) ∙ e)

  digits_extend : (xs : List ℕ) → digits_then f xs ≡ Front → digits_then f (xs ++ 48 ∷ []) ≡ Number
  digits_extend xs e =
      let p = parted xs in
      ap (λ k. digits_then f (k ++ 48 ∷ [])) p.joined ∙ ap (digits_then f) (behind_all p.digits p.rest (48 ∷ [])) ∙ front_by p.digits p.rest p.are p.apart (ap (digits_then f) (sym p.joined) ∙ e)

  pub digits_part : Part (digits_then f) (GDigits G)
  digits_part = record { sound = digits_sound; whole = digits_whole; stable = digits_stable; extends = digits_extend }
