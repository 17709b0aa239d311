-- What a number's run is in the grammar of numbers.
use Rattle.std.proofs.Common.{◌≡◌, ℕ, Bool, true, false, cond, List, [], ◌∷◌, ◌++◌, length, refl, sym, ap, ◌∙◌, subst, arith, ◌⊎◌, inl, inr}
use Rattle.std.specs.Prelude.{◌==◌, ◌||◌}
use Rattle.std.specs.Char.{is_ascii_digit}
use Rattle.std.proofs.lemmas.Bool.Decides.{nat_tests}
use Rattle.json_text.specs.declared.number.Form.{Form}
use Rattle.json_text.specs.declared.number.Form.TheVariants.{Number, Front, Other}
use Rattle.json_text.specs.Number.{first_is, digits_then, nothing_in, signed_in, exponent_in, fraction_in, unsigned_in, number_in}
use Rattle.json_text_laws.proofs.Choices.{cond_true, cond_false, either_way}
use Rattle.json_text_laws.proofs.Digits.{Apart, Part, Tail, GDigits, digits_part}

-- ---- nothing more

abbrev pub GNothing : List ℕ → Type 0
GNothing xs = xs ≡ []

nothing_some : (x : ℕ) (xs : List ℕ) → nothing_in (x ∷ xs) ≡ Other
nothing_some x xs = cond_false (length (x ∷ xs) == 0) Number Other (grind (arith, nat_tests))

nothing_sound : (xs : List ℕ) → nothing_in xs ≡ Number → GNothing xs
nothing_sound [] e = refl
nothing_sound (x ∷ xs) e = let wrong : Other ≡ Number = sym (nothing_some x xs) ∙ e in absurd (cc)

nothing_stable : (xs ys : List ℕ) → nothing_in xs ≡ Other → nothing_in (xs ++ ys) ≡ Other
nothing_stable [] ys e = absurd (cc)
nothing_stable (x ∷ xs) ys e = nothing_some x (xs ++ ys)

nothing_extends : (xs : List ℕ) → nothing_in xs ≡ Front → nothing_in (xs ++ 48 ∷ []) ≡ Number
nothing_extends [] e = absurd (cc)
nothing_extends (x ∷ xs) e = let wrong : Other ≡ Front = sym (nothing_some x xs) ∙ e in absurd (cc)

nothing_tail : Tail nothing_in GNothing
nothing_tail = record {
  part = record { sound = nothing_sound; whole = (λ xs e. ap nothing_in e); stable = nothing_stable; extends = nothing_extends };
  nothing = refl;
  apart = (λ xs e. subst Apart (sym e) tt);
}

-- ---- a first byte and what follows it, or all

-- what stands there without a byte that passes
abbrev pub Misses : (ℕ → Bool) → List ℕ → Type 0
Misses p [] = Unit {0}
Misses p (x ∷ xs) = p x ≡ false

-- a byte that passes and what follows it, or what stands there without one
abbrev pub GChosen : (ℕ → Bool) → (List ℕ → Type 0) → (List ℕ → Type 0) → List ℕ → Type 0
GChosen p On Off xs = ((x : ℕ) × (rest : List ℕ) × (xs ≡ x ∷ rest) × (p x ≡ true) × On rest) ⊎ (Misses p xs × Off xs)

-- it goes by its first byte
record Chosen (f on off : List ℕ → Form) (p : ℕ → Bool) : Type 0 where
  at_nothing : f [] ≡ off []
  at_some : (x : ℕ) (xs : List ℕ) → f (x ∷ xs) ≡ cond (p x) (on xs) (off (x ∷ xs))
  at_zero : f [] ≡ Front → f (48 ∷ []) ≡ Number
  begins : f [] ≡ Other → ⊥

module _ (f on off : List ℕ → Form) (p : ℕ → Bool) (chosen : Chosen f on off p) where
  goes_on : (x : ℕ) (xs : List ℕ) → p x ≡ true → f (x ∷ xs) ≡ on xs
  goes_on x xs e = chosen.at_some x xs ∙ cond_true (p x) (on xs) (off (x ∷ xs)) e

  stays : (x : ℕ) (xs : List ℕ) → p x ≡ false → f (x ∷ xs) ≡ off (x ∷ xs)
  stays x xs e = chosen.at_some x xs ∙ cond_false (p x) (on xs) (off (x ∷ xs)) e

  stays_all : (xs : List ℕ) → Misses p xs → f xs ≡ off xs
  stays_all [] m = chosen.at_nothing
  stays_all (x ∷ xs) m = stays x xs m

  module _ (On Off : List ℕ → Type 0) (onward : Part on On) (other : Part off Off) where
    chosen_sound : (xs : List ℕ) → f xs ≡ Number → GChosen p On Off xs
    chosen_sound [] e = inr (tt, other.sound [] (sym chosen.at_nothing ∙ e))
    chosen_sound (x ∷ xs) e = by_test (either_way (p x))
      where
        by_test : (p x ≡ true) ⊎ (p x ≡ false) → GChosen p On Off (x ∷ xs)
        by_test (inl t) = inl (x, xs, refl, t, onward.sound xs (sym (goes_on x xs t) ∙ e))
        by_test (inr t) = inr (t, other.sound (x ∷ xs) (sym (stays x xs t) ∙ e))

    chosen_whole : (xs : List ℕ) → GChosen p On Off xs → f xs ≡ Number
    chosen_whole xs (inl (x, rest, is, t, good)) = ap f is ∙ goes_on x rest t ∙ onward.whole rest good
    chosen_whole xs (inr (m, good)) = stays_all xs m ∙ other.whole xs good

    chosen_stable : (xs ys : List ℕ) → f xs ≡ Other → f (xs ++ ys) ≡ Other
    chosen_stable [] ys e = absurd (chosen.begins e)
    chosen_stable (x ∷ xs) ys e = by_test (either_way (p x))
      where
        by_test : (p x ≡ true) ⊎ (p x ≡ false) → f ((x ∷ xs) ++ ys) ≡ Other
        by_test (inl t) = goes_on x (xs ++ ys) t ∙ onward.stable xs ys (sym (goes_on x xs t) ∙ e)
        by_test (inr t) = stays x (xs ++ ys) t ∙ other.stable (x ∷ xs) ys (sym (stays x xs t) ∙ e)

    chosen_extends : (xs : List ℕ) → f xs ≡ Front → f (xs ++ 48 ∷ []) ≡ Number
    chosen_extends [] e = chosen.at_zero e
    chosen_extends (x ∷ xs) e = by_test (either_way (p x))
      where
        by_test : (p x ≡ true) ⊎ (p x ≡ false) → f ((x ∷ xs) ++ 48 ∷ []) ≡ Number
        by_test (inl t) = goes_on x (xs ++ 48 ∷ []) t ∙ onward.extends xs (sym (goes_on x xs t) ∙ e)
        by_test (inr t) = stays x (xs ++ 48 ∷ []) t ∙ other.extends (x ∷ xs) (sym (stays x xs t) ∙ e)

    chosen_part : Part f (GChosen p On Off)
    chosen_part = record { sound = chosen_sound; whole = chosen_whole; stable = chosen_stable; extends = chosen_extends }

first_of_cons : (x y : ℕ) (xs : List ℕ) → first_is (x ∷ xs) y ≡ (x == y)
first_of_cons x y xs = grind (arith, nat_tests)

one_of_two : (x a b : ℕ) (xs : List ℕ) → (first_is (x ∷ xs) a || first_is (x ∷ xs) b) ≡ ((x == a) || (x == b))
one_of_two x a b xs = ap (λ t. t || first_is (x ∷ xs) b) (first_of_cons x a xs) ∙ ap (λ t. (x == a) || t) (first_of_cons x b xs)

number_not_front : (f : Form) → f ≡ Number → f ≡ Front → ⊥
number_not_front f e h = let wrong : Number ≡ Front = sym e ∙ h in absurd (cc)

number_not_other : (f : Form) → f ≡ Number → f ≡ Other → ⊥
number_not_other f e h = let wrong : Number ≡ Other = sym e ∙ h in absurd (cc)

front_not_other : (f : Form) → f ≡ Front → f ≡ Other → ⊥
front_not_other f e h = let wrong : Front ≡ Other = sym e ∙ h in absurd (cc)

-- ---- the parts of a number

last_digits : Part (digits_then nothing_in) (GDigits GNothing)
last_digits = digits_part nothing_in GNothing nothing_tail

signed_chosen : Chosen signed_in (digits_then nothing_in) (digits_then nothing_in) (λ x. (x == 43) || (x == 45))
unfolding signed_in
signed_chosen = record {
  at_nothing = refl;
  at_some = (λ x xs. ap (λ t. cond t (digits_then nothing_in xs) (digits_then nothing_in (x ∷ xs))) (one_of_two x 43 45 xs));
  at_zero = (λ e. refl);
  begins = (λ e. front_not_other (digits_then nothing_in []) refl e);
}

abbrev pub GSigned : List ℕ → Type 0
GSigned = GChosen (λ x. (x == 43) || (x == 45)) (GDigits GNothing) (GDigits GNothing)

signed_part : Part signed_in GSigned
signed_part = chosen_part signed_in (digits_then nothing_in) (digits_then nothing_in) (λ x. (x == 43) || (x == 45)) signed_chosen (GDigits GNothing) (GDigits GNothing) last_digits last_digits

exponent_chosen : Chosen exponent_in signed_in nothing_in (λ x. (x == 101) || (x == 69))
unfolding exponent_in
exponent_chosen = record {
  at_nothing = refl;
  at_some = (λ x xs. ap (λ t. cond t (signed_in xs) (nothing_in (x ∷ xs))) (one_of_two x 101 69 xs));
  at_zero = (λ e. absurd (number_not_front (nothing_in []) refl e));
  begins = (λ e. number_not_other (nothing_in []) refl e);
}

abbrev pub GExponent : List ℕ → Type 0
GExponent = GChosen (λ x. (x == 101) || (x == 69)) GSigned GNothing

exponent_part : Part exponent_in GExponent
exponent_part = chosen_part exponent_in signed_in nothing_in (λ x. (x == 101) || (x == 69)) exponent_chosen GSigned GNothing signed_part nothing_tail.part

mark_apart : (x : ℕ) → ((x == 101) || (x == 69)) ≡ true → is_ascii_digit x ≡ false
mark_apart x e = grind (arith, nat_tests)

exponent_apart : (xs : List ℕ) → GExponent xs → Apart xs
exponent_apart xs (inl (x, rest, is, t, good)) = subst Apart (sym is) (mark_apart x t)
exponent_apart xs (inr (m, none)) = subst Apart (sym none) tt

exponent_nothing : exponent_in [] ≡ Number
unfolding exponent_in
exponent_nothing = refl

exponent_tail : Tail exponent_in GExponent
exponent_tail = record { part = exponent_part; nothing = exponent_nothing; apart = exponent_apart }

fraction_chosen : Chosen fraction_in (digits_then exponent_in) exponent_in (λ x. x == 46)
unfolding fraction_in
fraction_chosen = record {
  at_nothing = refl;
  at_some = (λ x xs. ap (λ t. cond t (digits_then exponent_in xs) (exponent_in (x ∷ xs))) (first_of_cons x 46 xs));
  at_zero = (λ e. absurd (number_not_front (exponent_in []) exponent_nothing e));
  begins = (λ e. number_not_other (exponent_in []) exponent_nothing e);
}

abbrev pub GFraction : List ℕ → Type 0
GFraction = GChosen (λ x. x == 46) (GDigits GExponent) GExponent

fraction_part : Part fraction_in GFraction
fraction_part = chosen_part fraction_in (digits_then exponent_in) exponent_in (λ x. x == 46) fraction_chosen (GDigits GExponent) GExponent (digits_part exponent_in GExponent exponent_tail) exponent_part

point_apart : (x : ℕ) → (x == 46) ≡ true → is_ascii_digit x ≡ false
point_apart x e = grind (arith, nat_tests)

fraction_apart : (xs : List ℕ) → GFraction xs → Apart xs
fraction_apart xs (inl (x, rest, is, t, good)) = subst Apart (sym is) (point_apart x t)
fraction_apart xs (inr (m, good)) = exponent_apart xs good

fraction_nothing : fraction_in [] ≡ Number
unfolding fraction_in
fraction_nothing = exponent_nothing

fraction_tail : Tail fraction_in GFraction
fraction_tail = record { part = fraction_part; nothing = fraction_nothing; apart = fraction_apart }

unsigned_chosen : Chosen unsigned_in fraction_in (digits_then fraction_in) (λ x. x == 48)
unfolding unsigned_in
unsigned_chosen = record {
  at_nothing = refl;
  at_some = (λ x xs. ap (λ t. cond t (fraction_in xs) (digits_then fraction_in (x ∷ xs))) (first_of_cons x 48 xs));
  at_zero = (λ e. fraction_nothing);
  begins = (λ e. front_not_other (digits_then fraction_in []) refl e);
}

abbrev pub GUnsigned : List ℕ → Type 0
GUnsigned = GChosen (λ x. x == 48) GFraction (GDigits GFraction)

unsigned_part : Part unsigned_in GUnsigned
unsigned_part = chosen_part unsigned_in fraction_in (digits_then fraction_in) (λ x. x == 48) unsigned_chosen GFraction (GDigits GFraction) fraction_part (digits_part fraction_in GFraction fraction_tail)

number_chosen : Chosen number_in unsigned_in unsigned_in (λ x. x == 45)
unfolding number_in
number_chosen = record {
  at_nothing = refl;
  at_some = (λ x xs. ap (λ t. cond t (unsigned_in xs) (unsigned_in (x ∷ xs))) (first_of_cons x 45 xs));
  at_zero = (λ e. unsigned_chosen.at_zero e);
  begins = (λ e. unsigned_chosen.begins e);
}

abbrev pub GNumber : List ℕ → Type 0
GNumber = GChosen (λ x. x == 45) GUnsigned GUnsigned

pub number_part : Part number_in GNumber
number_part = chosen_part number_in unsigned_in unsigned_in (λ x. x == 45) number_chosen GUnsigned GUnsigned unsigned_part unsigned_part
