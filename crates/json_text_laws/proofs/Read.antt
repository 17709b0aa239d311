-- What is read as a string is spelled so.
use Rattle.std.proofs.Common.{◌≡◌, ℕ, zero, suc, ◌+◌, ◌-◌, ◌<◌, ◌≤◌, Bool, true, false, cond, List, [], ◌∷◌, ◌++◌, length, take, drop, Option, Some, None, refl, sym, ap, ◌∙◌, subst, arith, ◌⊎◌, inl, inr, length-append, length-take}
use Rattle.std.specs.Prelude.{not, nat_lt, nat_le, ◌==◌, ◌&&◌, ◌||◌}
use Rattle.std.specs.List.{prefix_len}
use Rattle.std.specs.Char.{IsScalar, encode_utf8, digit_value}
use Rattle.std.specs.Str.{IsUtf8}
use Rattle.std.specs.Str.Lossy.{utf8_valid_len, utf8_error_len}
use Rattle.std.proofs.lemmas.List.{append-nil, take-append-drop, take_all}
use Rattle.std.proofs.lemmas.Bool.Decides.{nat_tests}
use lib.Utf8.{scalar, scalars, encodes}
use Rattle.json_text.specs.declared.scanned.Scan.{Scan}
use Rattle.json_text.specs.declared.scanned.Scan.TheVariants.{Whole, Short, Bad}
use Rattle.json_text.specs.Scan.{moved}
use Rattle.json_text.specs.Escape.{digit_fits, byte_fits, unit_at, begins_unit, begins_low, begins_second, is_high, is_low, pair as joined, pair_at, unit_then, unicode_at, short_escape, short_then, escape_at}
use Rattle.json_text.specs.Text.{is_plain, behind, ends_early, escape_then, piece_then, broken, run_then, turns, pieces_at, text_at}
use Rattle.json_text.specs.Grammar.{Piece, plain, short, unit, pair, IsShort, IsHex, IsUnit, IsPiece, piece_spelled, piece_meant, ArePieces, all_spelled, all_meant}
use Rattle.json_text_laws.proofs.Choices.{cond_true, cond_false, either_way}
use Rattle.json_text_laws.proofs.Parts.{All, append_more}
use Rattle.json_text_laws.proofs.Characters.{valid_front}
use Rattle.json_text_laws.proofs.Strings.{spelled_text}
use Rattle.json_text_laws.specs.Judged.{GoodText}

-- ---- plain bytes that are UTF-8 are characters as they stand

pub record Pieces (spelled meant : List ℕ) : Type 0 where
  pub ps : List Piece
  pub are : ArePieces ps
  pub spells : spelled ≡ all_spelled ps
  pub means : meant ≡ all_meant ps

pub both_true : (a b : Bool) → (a && b) ≡ true → (a ≡ true) × (b ≡ true)
both_true true true e = (refl, refl)
both_true true false e = absurd (cc)
both_true false b e = absurd (cc)

pub front_all : (p : ℕ → Bool) (xs ys : List ℕ) → All p (xs ++ ys) → All p xs × All p ys
front_all p [] ys h = (tt, h)
front_all p (x ∷ xs) ys h = let more = front_all p xs ys h.1 in ((h.0, more.0), more.1)

-- the first byte of a character below 128 is that character
pub small_first : (c : ℕ) → c < 128 → encode_utf8 c ≡ c ∷ []
unfolding encode_utf8
small_first c h = cond_true (nat_lt c 128) (c ∷ []) _ (grind (arith, nat_tests))

stands : (c : ℕ) → IsScalar c → All is_plain (encode_utf8 c) → IsPiece (plain c)
stands c scalar all = by_test (either_way (nat_lt c 128))
  where
    by_test : (nat_lt c 128 ≡ true) ⊎ (nat_lt c 128 ≡ false) → IsPiece (plain c)
    by_test (inl e) =
        let one : All is_plain (c ∷ []) = subst (All is_plain) (small_first c (grind (arith, nat_tests))) all in
        let good = one.0 in
        (scalar, grind (arith, nat_tests), (λ is. grind (arith, nat_tests)), (λ is. grind (arith, nat_tests)))
    by_test (inr e) = let big : 128 ≤ c = grind (arith, nat_tests) in (scalar, omega arith, (λ is. omega arith), (λ is. omega arith))

characters : (cs : List ℕ) → scalars cs ≡ true → All is_plain (encodes cs) → Pieces (encodes cs) (encodes cs)
characters [] s all = record { ps = []; are = tt; spells = refl; means = refl }
characters (c ∷ cs) s all =
    let t = both_true (scalar c) (scalars cs) s in
    let parts = front_all is_plain (encode_utf8 c) (encodes cs) all in
    let more = characters cs t.1 parts.1 in
    record { ps = plain c ∷ more.ps; are = (stands c t.0 parts.0, more.are); spells = ap (λ r. encode_utf8 c ++ r) more.spells; means = ap (λ r. encode_utf8 c ++ r) more.means }

pub plain_pieces : (xs : List ℕ) → IsUtf8 xs → All is_plain xs → Pieces xs xs
plain_pieces xs (cs, (s, is)) all = subst (λ l. Pieces l l) is (characters cs s (subst (All is_plain) (sym is) all))

one_on : (p : ℕ → Bool) (x : ℕ) (xs : List ℕ) (b : Bool) → p x ≡ b → All p (take (prefix_len p xs) xs) → All p (take (cond b (1 + prefix_len p xs) 0) (x ∷ xs))
one_on p x xs true e h = let same : 1 + prefix_len p xs ≡ suc (prefix_len p xs) = omega arith in subst (λ k. All p (take k (x ∷ xs))) (sym same) (e, h)
one_on p x xs false e h = tt

all_front : (p : ℕ → Bool) (xs : List ℕ) → All p (take (prefix_len p xs) xs)
all_front p [] = tt
all_front p (x ∷ xs) = one_on p x xs (p x) refl (all_front p xs)

-- ---- escapes

-- an escape, the character that it stands for, and how long it is
pub record Escaped (bytes : List ℕ) (c t : ℕ) : Type 0 where
  pub piece : Piece
  pub rest : List ℕ
  pub is : IsPiece piece
  pub spells : bytes ≡ piece_spelled piece ++ rest
  pub means : piece_meant piece ≡ encode_utf8 c
  pub behind_it : drop t bytes ≡ rest
  pub long : length (piece_spelled piece) ≡ t

cond_or : {A : Type 0} → (b : Bool) (x y z : A) → cond b x y ≡ z → ((b ≡ true) × (x ≡ z)) ⊎ ((b ≡ false) × (y ≡ z))
cond_or true x y z e = inl (refl, e)
cond_or false x y z e = inr (refl, e)

pub is_eq : (x n : ℕ) → (x == n) ≡ true → x ≡ n
is_eq x n e = grind (arith, nat_tests)

some_is : (a c : ℕ) → Some a ≡ Some c → c ≡ a
some_is a c e = let same : a ≡ c = cc in sym same

three_of : (x : ℕ) → ((x == 34) || (x == 92) || (x == 47)) ≡ true → (x ≡ 34) ⊎ ((x ≡ 92) ⊎ (x ≡ 47))
three_of x e = by_a (x == 34) (x == 92) (x == 47) refl refl refl e
  where
    by_a : (a b d : Bool) → (x == 34) ≡ a → (x == 92) ≡ b → (x == 47) ≡ d → (a || b || d) ≡ true → (x ≡ 34) ⊎ ((x ≡ 92) ⊎ (x ≡ 47))
    by_a true b d p q r h = inl (is_eq x 34 p)
    by_a false true d p q r h = inr (inl (is_eq x 92 q))
    by_a false false true p q r h = inr (inr (is_eq x 47 r))
    by_a false false false p q r h = absurd (cc)

pub letter_of : (x c : ℕ) → short_escape x ≡ Some c → IsShort x c
unfolding short_escape
letter_of x c e = first (cond_or ((x == 34) || (x == 92) || (x == 47)) (Some x) after_b (Some c) e)
  where
    after_t : Option ℕ
    after_t = cond (x == 116) (Some 9) None

    after_r : Option ℕ
    after_r = cond (x == 114) (Some 13) after_t

    after_n : Option ℕ
    after_n = cond (x == 110) (Some 10) after_r

    after_f : Option ℕ
    after_f = cond (x == 102) (Some 12) after_n

    after_b : Option ℕ
    after_b = cond (x == 98) (Some 8) after_f

    sixth : ((x == 116) ≡ true) × (Some 9 ≡ Some c) ⊎ ((x == 116) ≡ false) × (None ≡ Some c) → IsShort x c
    sixth (inl h) = inr (inr (inr (inr (inr (is_eq x 116 h.0, some_is 9 c h.1)))))
    sixth (inr h) = let wrong = h.1 in absurd (cc)

    fifth : ((x == 114) ≡ true) × (Some 13 ≡ Some c) ⊎ ((x == 114) ≡ false) × (after_t ≡ Some c) → IsShort x c
    fifth (inl h) = inr (inr (inr (inr (inl (is_eq x 114 h.0, some_is 13 c h.1)))))
    fifth (inr h) = sixth (cond_or (x == 116) (Some 9) None (Some c) h.1)

    fourth : ((x == 110) ≡ true) × (Some 10 ≡ Some c) ⊎ ((x == 110) ≡ false) × (after_r ≡ Some c) → IsShort x c
    fourth (inl h) = inr (inr (inr (inl (is_eq x 110 h.0, some_is 10 c h.1))))
    fourth (inr h) = fifth (cond_or (x == 114) (Some 13) after_t (Some c) h.1)

    third : ((x == 102) ≡ true) × (Some 12 ≡ Some c) ⊎ ((x == 102) ≡ false) × (after_n ≡ Some c) → IsShort x c
    third (inl h) = inr (inr (inl (is_eq x 102 h.0, some_is 12 c h.1)))
    third (inr h) = fourth (cond_or (x == 110) (Some 10) after_r (Some c) h.1)

    second : ((x == 98) ≡ true) × (Some 8 ≡ Some c) ⊎ ((x == 98) ≡ false) × (after_f ≡ Some c) → IsShort x c
    second (inl h) = inr (inl (is_eq x 98 h.0, some_is 8 c h.1))
    second (inr h) = third (cond_or (x == 102) (Some 12) after_n (Some c) h.1)

    first : (((x == 34) || (x == 92) || (x == 47)) ≡ true) × (Some x ≡ Some c) ⊎ (((x == 34) || (x == 92) || (x == 47)) ≡ false) × (after_b ≡ Some c) → IsShort x c
    first (inl h) = inl (sym (some_is x c h.1), three_of x h.0)
    first (inr h) = second (cond_or (x == 98) (Some 8) after_f (Some c) h.1)

-- a digit's value is that of a hexadecimal digit
pub hex_of : (x : ℕ) → digit_value x ≤ 15 → IsHex x (digit_value x)
hex_of x h = by_48 (either_way (nat_lt x 48))
  where
    by_123 : nat_lt x 97 ≡ false → nat_lt x 91 ≡ false → nat_lt x 65 ≡ false → nat_lt x 58 ≡ false → nat_lt x 48 ≡ false → (nat_lt x 123 ≡ true) ⊎ (nat_lt x 123 ≡ false) → IsHex x (digit_value x)
    by_123 a b c d e (inl t) =
        let is : digit_value x ≡ x - 87 = cond_false (nat_lt x 48) 36 _ e ∙ cond_false (nat_lt x 58) (x - 48) _ d ∙ cond_false (nat_lt x 65) 36 _ c ∙ cond_false (nat_lt x 91) (x - 55) _ b ∙ cond_false (nat_lt x 97) 36 _ a ∙ cond_true (nat_lt x 123) (x - 87) 36 t in
        let low : 97 ≤ x = grind (arith, nat_tests) in
        inr (inr (omega arith, omega arith, omega arith))
    by_123 a b c d e (inr f) =
        let is : digit_value x ≡ 36 = cond_false (nat_lt x 48) 36 _ e ∙ cond_false (nat_lt x 58) (x - 48) _ d ∙ cond_false (nat_lt x 65) 36 _ c ∙ cond_false (nat_lt x 91) (x - 55) _ b ∙ cond_false (nat_lt x 97) 36 _ a ∙ cond_false (nat_lt x 123) (x - 87) 36 f in
        absurd (omega arith)

    by_97 : nat_lt x 91 ≡ false → nat_lt x 65 ≡ false → nat_lt x 58 ≡ false → nat_lt x 48 ≡ false → (nat_lt x 97 ≡ true) ⊎ (nat_lt x 97 ≡ false) → IsHex x (digit_value x)
    by_97 b c d e (inl t) =
        let is : digit_value x ≡ 36 = cond_false (nat_lt x 48) 36 _ e ∙ cond_false (nat_lt x 58) (x - 48) _ d ∙ cond_false (nat_lt x 65) 36 _ c ∙ cond_false (nat_lt x 91) (x - 55) _ b ∙ cond_true (nat_lt x 97) 36 _ t in
        absurd (omega arith)
    by_97 b c d e (inr f) = by_123 f b c d e (either_way (nat_lt x 123))

    by_91 : nat_lt x 65 ≡ false → nat_lt x 58 ≡ false → nat_lt x 48 ≡ false → (nat_lt x 91 ≡ true) ⊎ (nat_lt x 91 ≡ false) → IsHex x (digit_value x)
    by_91 c d e (inl t) =
        let is : digit_value x ≡ x - 55 = cond_false (nat_lt x 48) 36 _ e ∙ cond_false (nat_lt x 58) (x - 48) _ d ∙ cond_false (nat_lt x 65) 36 _ c ∙ cond_true (nat_lt x 91) (x - 55) _ t in
        let low : 65 ≤ x = grind (arith, nat_tests) in
        inr (inl (omega arith, omega arith, omega arith))
    by_91 c d e (inr f) = by_97 f c d e (either_way (nat_lt x 97))

    by_65 : nat_lt x 58 ≡ false → nat_lt x 48 ≡ false → (nat_lt x 65 ≡ true) ⊎ (nat_lt x 65 ≡ false) → IsHex x (digit_value x)
    by_65 d e (inl t) =
        let is : digit_value x ≡ 36 = cond_false (nat_lt x 48) 36 _ e ∙ cond_false (nat_lt x 58) (x - 48) _ d ∙ cond_true (nat_lt x 65) 36 _ t in
        absurd (omega arith)
    by_65 d e (inr f) = by_91 f d e (either_way (nat_lt x 91))

    by_58 : nat_lt x 48 ≡ false → (nat_lt x 58 ≡ true) ⊎ (nat_lt x 58 ≡ false) → IsHex x (digit_value x)
    by_58 e (inl t) =
        let is : digit_value x ≡ x - 48 = cond_false (nat_lt x 48) 36 _ e ∙ cond_true (nat_lt x 58) (x - 48) _ t in
        let low : 48 ≤ x = grind (arith, nat_tests) in
        let high : x < 58 = grind (arith, nat_tests) in
        inl (omega arith, omega arith, omega arith)
    by_58 e (inr f) = by_65 f e (either_way (nat_lt x 65))

    by_48 : (nat_lt x 48 ≡ true) ⊎ (nat_lt x 48 ≡ false) → IsHex x (digit_value x)
    by_48 (inl t) = let is : digit_value x ≡ 36 = cond_true (nat_lt x 48) 36 _ t in absurd (omega arith)
    by_48 (inr f) = by_58 f (either_way (nat_lt x 58))

-- ---- escapes of one letter

two_there : (x y : ℕ) (rest : List ℕ) → nat_lt (length (x ∷ y ∷ rest)) 2 ≡ false
two_there x y rest = grind (arith, nat_tests)

pub escape_two : (x y : ℕ) (rest : List ℕ) → escape_at (x ∷ y ∷ rest) ≡ cond (y == 117) (unicode_at (x ∷ y ∷ rest)) (short_then (short_escape y))
unfolding escape_at
escape_two x y rest = cond_false (nat_lt (length (x ∷ y ∷ rest)) 2) Short (cond (y == 117) (unicode_at (x ∷ y ∷ rest)) (short_then (short_escape y))) (two_there x y rest)

pub escape_one : (x : ℕ) → escape_at (x ∷ []) ≡ Short
unfolding escape_at
escape_one x = refl

escape_none : escape_at [] ≡ Short
unfolding escape_at
escape_none = refl

record Told (d m c t : ℕ) : Type 0 where
  char : d ≡ c
  long : m ≡ t

whole_is : (d m c t : ℕ) → Whole d m ≡ Whole c t → Told d m c t
whole_is d m c t e = record { char = cc; long = cc }

short_told : (o : Option ℕ) (c t : ℕ) → short_then o ≡ Whole c t → (o ≡ Some c) × (t ≡ 2)
short_told None c t e = absurd (cc)
short_told (Some d) c t e = let w = whole_is d 2 c t e in (ap Some w.char, sym w.long)

by_letter : (y : ℕ) (rest : List ℕ) (c t : ℕ) → short_escape y ≡ Some c → t ≡ 2 → Escaped (92 ∷ y ∷ rest) c t
by_letter y rest c t e two = record { piece = short y c; rest = rest; is = letter_of y c e; spells = refl; means = refl; behind_it = ap (λ k. drop k (92 ∷ y ∷ rest)) two; long = sym two }

-- ---- code units

pub fits_in : (size at d low high : ℕ) → (nat_le size at || (nat_le low d && nat_le d high)) ≡ true → at < size → (low ≤ d) × (d ≤ high)
fits_in size at d low high fits there = (grind (arith, nat_tests), grind (arith, nat_tests))

pub byte_in : (size at x byte : ℕ) → (nat_le size at || (x == byte)) ≡ true → at < size → x ≡ byte
byte_in size at x byte fits there = grind (arith, nat_tests)

pub four_split : (a b c d : Bool) → (a && b && c && d) ≡ true → (a ≡ true) × (b ≡ true) × (c ≡ true) × (d ≡ true)
four_split true true true true e = (refl, refl, refl, refl)
four_split false b c d e = absurd (cc)
four_split true false c d e = absurd (cc)
four_split true true false d e = absurd (cc)
four_split true true true false e = absurd (cc)

pub six_split : (a b c d e f : Bool) → (a && b && c && d && e && f) ≡ true → (a ≡ true) × (b ≡ true) × (c ≡ true) × (d ≡ true) × (e ≡ true) × (f ≡ true)
six_split true true true true true true h = (refl, refl, refl, refl, refl, refl)
six_split false b c d e f h = absurd (cc)
six_split true false c d e f h = absurd (cc)
six_split true true false d e f h = absurd (cc)
six_split true true true false e f h = absurd (cc)
six_split true true true true false f h = absurd (cc)
six_split true true true true true false h = absurd (cc)

unit_digits : (a b d e : ℕ) (more : List ℕ) → begins_unit (92 ∷ 117 ∷ a ∷ b ∷ d ∷ e ∷ more) 2 ≡ true → IsUnit (a ∷ b ∷ d ∷ e ∷ []) (unit_at (92 ∷ 117 ∷ a ∷ b ∷ d ∷ e ∷ more) 2)
unfolding begins_unit
unit_digits a b d e more h =
    let bytes = 92 ∷ 117 ∷ a ∷ b ∷ d ∷ e ∷ more in
    let n = length bytes in
    let s = four_split (digit_fits bytes 2 0 15) (digit_fits bytes 3 0 15) (digit_fits bytes 4 0 15) (digit_fits bytes 5 0 15) h in (
      a,
      b,
      d,
      e,
      digit_value a,
      digit_value b,
      digit_value d,
      digit_value e,
      refl,
      hex_of a (fits_in n 2 (digit_value a) 0 15 s.0 (omega arith)).1,
      hex_of b (fits_in n 3 (digit_value b) 0 15 s.1 (omega arith)).1,
      hex_of d (fits_in n 4 (digit_value d) 0 15 s.2 (omega arith)).1,
      hex_of e (fits_in n 5 (digit_value e) 0 15 s.3 (omega arith)).1,
      refl,
    )

by_unit : (a b d e : ℕ) (more : List ℕ) (u c t : ℕ) → IsUnit (a ∷ b ∷ d ∷ e ∷ []) u → (u < 0xd800) ⊎ (0xe000 ≤ u) → Whole u 6 ≡ Whole c t → Escaped (92 ∷ 117 ∷ a ∷ b ∷ d ∷ e ∷ more) c t
by_unit a b d e more u c t is outside same =
    let w = whole_is u 6 c t same in
    record { piece = unit (a ∷ b ∷ d ∷ e ∷ []) u; rest = more; is = (is, outside); spells = refl; means = ap encode_utf8 w.char; behind_it = ap (λ k. drop k (92 ∷ 117 ∷ a ∷ b ∷ d ∷ e ∷ more)) (sym w.long); long = w.long }

no_half : (u : ℕ) → is_high u ≡ false → is_low u ≡ false → (u < 0xd800) ⊎ (0xe000 ≤ u)
no_half u h l = by_test (either_way (nat_lt u 0xd800))
  where
    by_test : (nat_lt u 0xd800 ≡ true) ⊎ (nat_lt u 0xd800 ≡ false) → (u < 0xd800) ⊎ (0xe000 ≤ u)
    by_test (inl e) = inl (grind (arith, nat_tests))
    by_test (inr e) = inr (grind (arith, nat_tests))

high_of : (u : ℕ) → is_high u ≡ true → (0xd800 ≤ u) × (u < 0xdc00)
high_of u h = (grind (arith, nat_tests), grind (arith, nat_tests))

-- the second of a pair
second_unit : (a b d e f g h i j k : ℕ) (more : List ℕ) → begins_second (92 ∷ 117 ∷ a ∷ b ∷ d ∷ e ∷ f ∷ g ∷ h ∷ i ∷ j ∷ k ∷ more) 6 ≡ true
    → (f ≡ 92) × (g ≡ 117) × IsUnit (h ∷ i ∷ j ∷ k ∷ []) (unit_at (92 ∷ 117 ∷ a ∷ b ∷ d ∷ e ∷ f ∷ g ∷ h ∷ i ∷ j ∷ k ∷ more) 8)
    × (0xdc00 ≤ unit_at (92 ∷ 117 ∷ a ∷ b ∷ d ∷ e ∷ f ∷ g ∷ h ∷ i ∷ j ∷ k ∷ more) 8) × (unit_at (92 ∷ 117 ∷ a ∷ b ∷ d ∷ e ∷ f ∷ g ∷ h ∷ i ∷ j ∷ k ∷ more) 8 < 0xe000)
unfolding begins_second
second_unit a b d e f g h i j k more begins =
    let bytes = 92 ∷ 117 ∷ a ∷ b ∷ d ∷ e ∷ f ∷ g ∷ h ∷ i ∷ j ∷ k ∷ more in
    let n = length bytes in
    let s = six_split (byte_fits bytes 6 92) (byte_fits bytes 7 117) (digit_fits bytes 8 13 13) (digit_fits bytes 9 12 15) (digit_fits bytes 10 0 15) (digit_fits bytes 11 0 15) begins in
    let p = fits_in n 8 (digit_value h) 13 13 s.2 (omega arith) in
    let q = fits_in n 9 (digit_value i) 12 15 s.3 (omega arith) in
    let r = fits_in n 10 (digit_value j) 0 15 s.4 (omega arith) in
    let t = fits_in n 11 (digit_value k) 0 15 s.5 (omega arith) in
    let p0 = p.0 in let p1 = p.1 in let q0 = q.0 in let q1 = q.1 in let r1 = r.1 in let t1 = t.1 in (
      byte_in n 6 f 92 s.0 (omega arith),
      byte_in n 7 g 117 s.1 (omega arith),
      (h, i, j, k, digit_value h, digit_value i, digit_value j, digit_value k, refl, hex_of h (omega arith), hex_of i q.1, hex_of j r.1, hex_of k t.1, refl),
      omega arith,
      omega arith,
    )

pub by_pair : (a b d e : ℕ) (more : List ℕ) (u c t : ℕ) → IsUnit (a ∷ b ∷ d ∷ e ∷ []) u → is_high u ≡ true → pair_at u (92 ∷ 117 ∷ a ∷ b ∷ d ∷ e ∷ more) ≡ Whole c t → Escaped (92 ∷ 117 ∷ a ∷ b ∷ d ∷ e ∷ more) c t
unfolding pair_at
by_pair a b d e more u c t is high same = begun (cond_or (not (begins_second bytes 6)) (Bad 0) (cond (nat_lt (length bytes) 12) Short found) (Whole c t) same)
  where
    bytes : List ℕ
    bytes = 92 ∷ 117 ∷ a ∷ b ∷ d ∷ e ∷ more

    found : Scan ℕ
    found = Whole (joined u (unit_at bytes 8)) 12

    not_false : (x : Bool) → not x ≡ false → x ≡ true
    not_false true h = refl
    not_false false h = absurd (cc)

    six_more : (xs : List ℕ) → nat_lt (length (92 ∷ 117 ∷ a ∷ b ∷ d ∷ e ∷ xs)) 12 ≡ false → begins_second (92 ∷ 117 ∷ a ∷ b ∷ d ∷ e ∷ xs) 6 ≡ true
        → Whole (joined u (unit_at (92 ∷ 117 ∷ a ∷ b ∷ d ∷ e ∷ xs) 8)) 12 ≡ Whole c t → Escaped (92 ∷ 117 ∷ a ∷ b ∷ d ∷ e ∷ xs) c t
    six_more [] long begins w = absurd (grind (arith, nat_tests))
    six_more (f ∷ []) long begins w = absurd (grind (arith, nat_tests))
    six_more (f ∷ g ∷ []) long begins w = absurd (grind (arith, nat_tests))
    six_more (f ∷ g ∷ h ∷ []) long begins w = absurd (grind (arith, nat_tests))
    six_more (f ∷ g ∷ h ∷ i ∷ []) long begins w = absurd (grind (arith, nat_tests))
    six_more (f ∷ g ∷ h ∷ i ∷ j ∷ []) long begins w = absurd (grind (arith, nat_tests))
    six_more (f ∷ g ∷ h ∷ i ∷ j ∷ k ∷ rest) long begins w =
        let all = 92 ∷ 117 ∷ a ∷ b ∷ d ∷ e ∷ f ∷ g ∷ h ∷ i ∷ j ∷ k ∷ rest in
        let low = unit_at all 8 in
        let s = second_unit a b d e f g h i j k rest begins in
        let r = high_of u high in
        let v = whole_is (joined u low) 12 c t w in
        record {
          piece = pair (a ∷ b ∷ d ∷ e ∷ []) u (h ∷ i ∷ j ∷ k ∷ []) low;
          rest = rest;
          is = (is, r.0, r.1, s.2, s.3, s.4);
          spells = ap (λ y. 92 ∷ 117 ∷ a ∷ b ∷ d ∷ e ∷ y ∷ g ∷ h ∷ i ∷ j ∷ k ∷ rest) s.0 ∙ ap (λ y. 92 ∷ 117 ∷ a ∷ b ∷ d ∷ e ∷ 92 ∷ y ∷ h ∷ i ∷ j ∷ k ∷ rest) s.1;
          means = ap encode_utf8 v.char;
          behind_it = ap (λ n. drop n all) (sym v.long);
          long = v.long;
        }

    longer : begins_second bytes 6 ≡ true → ((nat_lt (length bytes) 12 ≡ true) × (Short ≡ Whole c t)) ⊎ ((nat_lt (length bytes) 12 ≡ false) × (found ≡ Whole c t)) → Escaped bytes c t
    longer begins (inl h) = let wrong = h.1 in absurd (cc)
    longer begins (inr h) = six_more more h.0 begins h.1

    begun : ((not (begins_second bytes 6) ≡ true) × (Bad 0 ≡ Whole c t)) ⊎ ((not (begins_second bytes 6) ≡ false) × (cond (nat_lt (length bytes) 12) Short found ≡ Whole c t)) → Escaped bytes c t
    begun (inl h) = let wrong = h.1 in absurd (cc)
    begun (inr h) = longer (not_false (begins_second bytes 6) h.0) (cond_or (nat_lt (length bytes) 12) Short found (Whole c t) h.1)

by_code : (a b d e : ℕ) (more : List ℕ) (u c t : ℕ) → IsUnit (a ∷ b ∷ d ∷ e ∷ []) u → unit_then u (92 ∷ 117 ∷ a ∷ b ∷ d ∷ e ∷ more) ≡ Whole c t → Escaped (92 ∷ 117 ∷ a ∷ b ∷ d ∷ e ∷ more) c t
by_code a b d e more u c t is same = by_high (cond_or (is_high u) (pair_at u bytes) (cond (is_low u) (Bad 0) (Whole u 6)) (Whole c t) same)
  where
    bytes : List ℕ
    bytes = 92 ∷ 117 ∷ a ∷ b ∷ d ∷ e ∷ more

    by_low : is_high u ≡ false → ((is_low u ≡ true) × (Bad 0 ≡ Whole c t)) ⊎ ((is_low u ≡ false) × (Whole u 6 ≡ Whole c t)) → Escaped bytes c t
    by_low h (inl l) = let wrong = l.1 in absurd (cc)
    by_low h (inr l) = by_unit a b d e more u c t is (no_half u h l.0) l.1

    by_high : ((is_high u ≡ true) × (pair_at u bytes ≡ Whole c t)) ⊎ ((is_high u ≡ false) × (cond (is_low u) (Bad 0) (Whole u 6) ≡ Whole c t)) → Escaped bytes c t
    by_high (inl h) = by_pair a b d e more u c t is h.0 h.1
    by_high (inr h) = by_low h.0 (cond_or (is_low u) (Bad 0) (Whole u 6) (Whole c t) h.1)

early_never : (b : Bool) (c t : ℕ) → cond b (Bad 0) Short ≡ Whole c t → ⊥
early_never true c t e = absurd (cc)
early_never false c t e = absurd (cc)

pub true_of_not : (x : Bool) → not x ≡ false → x ≡ true
true_of_not true h = refl
true_of_not false h = absurd (cc)

by_unicode : (rest : List ℕ) (c t : ℕ) → unicode_at (92 ∷ 117 ∷ rest) ≡ Whole c t → Escaped (92 ∷ 117 ∷ rest) c t
unfolding unicode_at
by_unicode rest c t same = begun (cond_or (not (begins_unit bytes 2)) (Bad 0) (cond (nat_lt (length bytes) 6) early (unit_then (unit_at bytes 2) bytes)) (Whole c t) same)
  where
    bytes : List ℕ
    bytes = 92 ∷ 117 ∷ rest

    early : Scan ℕ
    early = cond (begins_low bytes 2) (Bad 0) Short

    four_more : (xs : List ℕ) → nat_lt (length (92 ∷ 117 ∷ xs)) 6 ≡ false → begins_unit (92 ∷ 117 ∷ xs) 2 ≡ true → unit_then (unit_at (92 ∷ 117 ∷ xs) 2) (92 ∷ 117 ∷ xs) ≡ Whole c t → Escaped (92 ∷ 117 ∷ xs) c t
    four_more [] long begins w = absurd (grind (arith, nat_tests))
    four_more (a ∷ []) long begins w = absurd (grind (arith, nat_tests))
    four_more (a ∷ b ∷ []) long begins w = absurd (grind (arith, nat_tests))
    four_more (a ∷ b ∷ d ∷ []) long begins w = absurd (grind (arith, nat_tests))
    four_more (a ∷ b ∷ d ∷ e ∷ more) long begins w = by_code a b d e more (unit_at (92 ∷ 117 ∷ a ∷ b ∷ d ∷ e ∷ more) 2) c t (unit_digits a b d e more begins) w

    longer : begins_unit bytes 2 ≡ true → ((nat_lt (length bytes) 6 ≡ true) × (early ≡ Whole c t)) ⊎ ((nat_lt (length bytes) 6 ≡ false) × (unit_then (unit_at bytes 2) bytes ≡ Whole c t)) → Escaped bytes c t
    longer begins (inl h) = absurd (early_never (begins_low bytes 2) c t h.1)
    longer begins (inr h) = four_more rest h.0 begins h.1

    begun : ((not (begins_unit bytes 2) ≡ true) × (Bad 0 ≡ Whole c t)) ⊎ ((not (begins_unit bytes 2) ≡ false) × (cond (nat_lt (length bytes) 6) early (unit_then (unit_at bytes 2) bytes) ≡ Whole c t)) → Escaped bytes c t
    begun (inl h) = let wrong = h.1 in absurd (cc)
    begun (inr h) = longer (true_of_not (begins_unit bytes 2) h.0) (cond_or (nat_lt (length bytes) 6) early (unit_then (unit_at bytes 2) bytes) (Whole c t) h.1)

pub escaped : (rest : List ℕ) (c t : ℕ) → escape_at (92 ∷ rest) ≡ Whole c t → Escaped (92 ∷ rest) c t
escaped [] c t e = let wrong : Short ≡ Whole c t = sym (escape_one 92) ∙ e in absurd (cc)
escaped (y ∷ rest) c t e = by_kind (cond_or (y == 117) (unicode_at (92 ∷ y ∷ rest)) (short_then (short_escape y)) (Whole c t) (sym (escape_two 92 y rest) ∙ e))
  where
    by_kind : (((y == 117) ≡ true) × (unicode_at (92 ∷ y ∷ rest) ≡ Whole c t)) ⊎ (((y == 117) ≡ false) × (short_then (short_escape y) ≡ Whole c t)) → Escaped (92 ∷ y ∷ rest) c t
    by_kind (inl h) = let is = is_eq y 117 h.0 in subst (λ z. Escaped (92 ∷ z ∷ rest) c t) (sym is) (by_unicode rest c t (ap (λ z. unicode_at (92 ∷ z ∷ rest)) (sym is) ∙ h.1))
    by_kind (inr h) = let s = short_told (short_escape y) c t h.1 in by_letter y rest c t s.0 s.1

-- ---- a whole string behind its opening quote

pub record Ends (bytes m : List ℕ) (n : ℕ) : Type 0 where
  pub ps : List Piece
  pub rest : List ℕ
  pub are : ArePieces ps
  pub spells : bytes ≡ all_spelled ps ++ 34 ∷ rest
  pub means : m ≡ all_meant ps
  pub long : n ≡ length (all_spelled ps) + 1

pub spelled_append : (ps qs : List Piece) → all_spelled (ps ++ qs) ≡ all_spelled ps ++ all_spelled qs
spelled_append [] qs = refl
spelled_append (p ∷ ps) qs = ap (λ r. piece_spelled p ++ r) (spelled_append ps qs) ∙ sym (append_more (piece_spelled p) (all_spelled ps) (all_spelled qs))

meant_append : (ps qs : List Piece) → all_meant (ps ++ qs) ≡ all_meant ps ++ all_meant qs
meant_append [] qs = refl
meant_append (p ∷ ps) qs = ap (λ r. piece_meant p ++ r) (meant_append ps qs) ∙ sym (append_more (piece_meant p) (all_meant ps) (all_meant qs))

pub are_append : (ps qs : List Piece) → ArePieces ps → ArePieces qs → ArePieces (ps ++ qs)
are_append [] qs a b = b
are_append (p ∷ ps) qs a b = (a.0, are_append ps qs a.1 b)

prepend : (spelled meant bytes m : List ℕ) (n : ℕ) → Pieces spelled meant → Ends bytes m n → Ends (spelled ++ bytes) (meant ++ m) (length spelled + n)
prepend spelled meant bytes m n p e = record {
  ps = p.ps ++ e.ps;
  rest = e.rest;
  are = are_append p.ps e.ps p.are e.are;
  spells = ap (λ f. f ++ bytes) p.spells ∙ ap (λ r. all_spelled p.ps ++ r) e.spells ∙ sym (append_more (all_spelled p.ps) (all_spelled e.ps) (34 ∷ e.rest)) ∙ ap (λ f. f ++ 34 ∷ e.rest) (sym (spelled_append p.ps e.ps));
  means = ap (λ f. f ++ m) p.means ∙ ap (λ r. all_meant p.ps ++ r) e.means ∙ sym (meant_append p.ps e.ps);
  long = omega (arith, e.long, ap length p.spells, length-append (all_spelled p.ps) (all_spelled e.ps), ap length (spelled_append p.ps e.ps));
}

-- behind a front, what is whole was whole
pub record Was (front : List ℕ) (r : ℕ) (scan : Scan (List ℕ)) (m : List ℕ) (n : ℕ) : Type 0 where
  pub text : List ℕ
  pub after : ℕ
  pub scanned : scan ≡ Whole text after
  pub joins : m ≡ front ++ text
  pub long : n ≡ r + after

pub was : (front : List ℕ) (r : ℕ) (scan : Scan (List ℕ)) (m : List ℕ) (n : ℕ) → behind front r scan ≡ Whole m n → Was front r scan m n
was front r (Whole t a) m n e = record { text = t; after = a; scanned = refl; joins = (let same : front ++ t ≡ m = cc in sym same); long = (let same : r + a ≡ n = cc in sym same) }
was front r Short m n e = absurd (cc)
was front r (Bad q) m n e = absurd (cc)

abbrev Inverts : (List ℕ → Scan (List ℕ)) → Type 0
Inverts go = (bytes m : List ℕ) (n : ℕ) → go bytes ≡ Whole m n → Ends bytes m n

one_piece : (bytes m : List ℕ) (n c t : ℕ) → (e : Escaped bytes c t) → Ends e.rest m n → Ends bytes (encode_utf8 c ++ m) (t + n)
one_piece bytes m n c t e more =
    let p : Pieces (piece_spelled e.piece) (encode_utf8 c) = record { ps = e.piece ∷ []; are = (e.is, tt); spells = sym (append-nil (piece_spelled e.piece)); means = sym e.means ∙ sym (append-nil (piece_meant e.piece)) } in
    let all = prepend (piece_spelled e.piece) (encode_utf8 c) e.rest m n p more in
    subst (λ k. Ends bytes (encode_utf8 c ++ m) (k + n)) e.long (subst (λ b. Ends b (encode_utf8 c ++ m) (length (piece_spelled e.piece) + n)) (sym e.spells) all)

module _ (go : List ℕ → Scan (List ℕ)) (inverts : Inverts go) where
  by_escape : (rest m : List ℕ) (n : ℕ) (scan : Scan ℕ) → escape_at (92 ∷ rest) ≡ scan → escape_then go (92 ∷ rest) scan ≡ Whole m n → Ends (92 ∷ rest) m n
  by_escape rest m n (Whole c t) e same =
      let w = was (encode_utf8 c) t (go (drop t (92 ∷ rest))) m n same in
      let x = escaped rest c t e in
      let inner = inverts (drop t (92 ∷ rest)) w.text w.after w.scanned in
      let more = subst (λ b. Ends b w.text w.after) x.behind_it inner in
      subst (λ k. Ends (92 ∷ rest) m k) (sym w.long) (subst (λ l. Ends (92 ∷ rest) l (t + w.after)) (sym w.joins) (one_piece (92 ∷ rest) w.text w.after c t x more))
  by_escape rest m n Short e same = absurd (cc)
  by_escape rest m n (Bad q) e same = absurd (cc)

  closing : (x : ℕ) (rest m : List ℕ) (n : ℕ) → x ≡ 34 → Whole [] 1 ≡ Whole m n → Ends (x ∷ rest) m n
  closing x rest m n is e = record { ps = []; rest = rest; are = tt; spells = ap (λ y. y ∷ rest) is; means = (let same : [] ≡ m = cc in sym same); long = (let same : 1 ≡ n = cc in sym same) }

  some_piece : (x : ℕ) (rest m : List ℕ) (n : ℕ) → piece_then go (x ∷ rest) ≡ Whole m n → Ends (x ∷ rest) m n
  unfolding piece_then
  some_piece x rest m n e = by_end (cond_or (nat_lt (length (x ∷ rest)) 1) Short by_quote (Whole m n) e)
    where
      by_slash : Scan (List ℕ)
      by_slash = cond (x == 92) (escape_then go (x ∷ rest) (escape_at (x ∷ rest))) (Bad 0)

      by_quote : Scan (List ℕ)
      by_quote = cond (x == 34) (Whole [] 1) by_slash

      third : (((x == 92) ≡ true) × (escape_then go (x ∷ rest) (escape_at (x ∷ rest)) ≡ Whole m n)) ⊎ (((x == 92) ≡ false) × (Bad 0 ≡ Whole m n)) → Ends (x ∷ rest) m n
      third (inl h) = let is = is_eq x 92 h.0 in subst (λ y. Ends (y ∷ rest) m n) (sym is) (by_escape rest m n (escape_at (92 ∷ rest)) refl (ap (λ y. escape_then go (y ∷ rest) (escape_at (y ∷ rest))) (sym is) ∙ h.1))
      third (inr h) = let wrong = h.1 in absurd (cc)

      second : (((x == 34) ≡ true) × (Whole [] 1 ≡ Whole m n)) ⊎ (((x == 34) ≡ false) × (by_slash ≡ Whole m n)) → Ends (x ∷ rest) m n
      second (inl h) = closing x rest m n (is_eq x 34 h.0) h.1
      second (inr h) = third (cond_or (x == 92) (escape_then go (x ∷ rest) (escape_at (x ∷ rest))) (Bad 0) (Whole m n) h.1)

      by_end : ((nat_lt (length (x ∷ rest)) 1 ≡ true) × (Short ≡ Whole m n)) ⊎ ((nat_lt (length (x ∷ rest)) 1 ≡ false) × (by_quote ≡ Whole m n)) → Ends (x ∷ rest) m n
      by_end (inl h) = let wrong = h.1 in absurd (cc)
      by_end (inr h) = second (cond_or (x == 34) (Whole [] 1) by_slash (Whole m n) h.1)

  no_piece : (m : List ℕ) (n : ℕ) → piece_then go [] ≡ Whole m n → ⊥
  unfolding piece_then
  no_piece m n e = absurd (cc)

  next_piece : (bytes m : List ℕ) (n : ℕ) → piece_then go bytes ≡ Whole m n → Ends bytes m n
  next_piece [] m n e = absurd (no_piece m n e)
  next_piece (x ∷ rest) m n e = some_piece x rest m n e

  broken_never : (b : Bool) (v : ℕ) (m : List ℕ) (n : ℕ) → cond b Short (Bad v) ≡ Whole m n → ⊥
  broken_never true v m n e = absurd (cc)
  broken_never false v m n e = absurd (cc)

  run_whole : (bytes m : List ℕ) (n run valid : ℕ) → All is_plain (take run bytes) → run ≤ length bytes → valid ≡ utf8_valid_len (take run bytes) → run_then go bytes run valid ≡ Whole m n → Ends bytes m n
  unfolding run_then
  run_whole bytes m n run valid all most is e = by_valid (cond_or (valid == run) (behind (take run bytes) run (piece_then go (drop run bytes))) (broken bytes run valid) (Whole m n) e)
    where
      good : valid ≡ run → behind (take run bytes) run (piece_then go (drop run bytes)) ≡ Whole m n → Ends bytes m n
      good same h =
          let w = was (take run bytes) run (piece_then go (drop run bytes)) m n h in
          let front = take run bytes in
          let size : length front ≡ run = omega (arith, length-take run bytes) in
          let text : IsUtf8 front = subst IsUtf8 (take_all (utf8_valid_len front) front (omega arith)) (valid_front front) in
          let p = plain_pieces front text all in
          let more = next_piece (drop run bytes) w.text w.after w.scanned in
          let whole = prepend front front (drop run bytes) w.text w.after p more in
          subst (λ k. Ends bytes m k) (ap (λ k. k + w.after) size ∙ sym w.long) (subst (λ l. Ends bytes l (length front + w.after)) (sym w.joins) (subst (λ b. Ends b (front ++ w.text) (length front + w.after)) (take-append-drop run bytes) whole))

      by_valid : (((valid == run) ≡ true) × (behind (take run bytes) run (piece_then go (drop run bytes)) ≡ Whole m n)) ⊎ (((valid == run) ≡ false) × (broken bytes run valid ≡ Whole m n)) → Ends bytes m n
      by_valid (inl h) = good (is_eq valid run h.0) h.1
      by_valid (inr h) = absurd (broken_never ((run == length bytes) && ends_early (utf8_error_len (drop valid (take run bytes)))) valid m n h.1)

run_most : (p : ℕ → Bool) (xs : List ℕ) → prefix_len p xs ≤ length xs
run_most p [] = omega arith
run_most p (x ∷ xs) = by_b (p x) (run_most p xs)
  where
    by_b : (b : Bool) → prefix_len p xs ≤ length xs → cond b (1 + prefix_len p xs) 0 ≤ length (x ∷ xs)
    by_b true h = omega arith
    by_b false h = omega arith

turns_invert : (k : ℕ) → Inverts (turns k)
turns_invert zero bytes m n e = absurd (cc)
turns_invert (suc k) bytes m n e = run_whole (turns k) (turns_invert k) bytes m n (prefix_len is_plain bytes) (utf8_valid_len (take (prefix_len is_plain bytes) bytes)) (all_front is_plain bytes) (run_most is_plain bytes) refl e

pub pieces_invert : Inverts pieces_at
unfolding pieces_at
pieces_invert bytes m n e = turns_invert (suc (length bytes)) bytes m n e

-- ---- with its opening quote

pub no_text : text_at [] ≡ Short
unfolding text_at
no_text = refl

pub some_text : (x : ℕ) (rest : List ℕ) → text_at (x ∷ rest) ≡ cond (x == 34) (moved 1 (pieces_at rest)) (Bad 0)
unfolding text_at
some_text x rest = cond_false (nat_lt (length (x ∷ rest)) 1) Short (cond (x == 34) (moved 1 (pieces_at rest)) (Bad 0)) (grind (arith, nat_tests))

pub unmoved : (scan : Scan (List ℕ)) (m : List ℕ) (n : ℕ) → moved 1 scan ≡ Whole m n → (k : ℕ) × (scan ≡ Whole m k) × (n ≡ 1 + k)
unmoved (Whole t a) m n e = (a, (let same : t ≡ m = cc in ap (λ l. Whole l a) same), (let same : 1 + a ≡ n = cc in sym same))
unmoved Short m n e = absurd (cc)
unmoved (Bad q) m n e = absurd (cc)

pub of_ends : (rest m : List ℕ) (n k : ℕ) → Ends rest m k → n ≡ 1 + k → GoodText (34 ∷ rest) m n
of_ends rest m n k e size =
    let front = 34 ∷ (all_spelled e.ps ++ 34 ∷ []) in
    (front, e.rest, ap (λ r. 34 ∷ r) (e.spells ∙ sym (append_more (all_spelled e.ps) (34 ∷ []) e.rest)), omega (arith, size, e.long, length-append (all_spelled e.ps) (34 ∷ [])), (e.ps, e.are, e.means, refl))

pub text_good : (bytes m : List ℕ) (n : ℕ) → text_at bytes ≡ Whole m n → GoodText bytes m n
text_good [] m n e = let wrong : Short ≡ Whole m n = sym no_text ∙ e in absurd (cc)
text_good (x ∷ rest) m n e = by_quote (cond_or (x == 34) (moved 1 (pieces_at rest)) (Bad 0) (Whole m n) (sym (some_text x rest) ∙ e))
  where
    by_quote : (((x == 34) ≡ true) × (moved 1 (pieces_at rest) ≡ Whole m n)) ⊎ (((x == 34) ≡ false) × (Bad 0 ≡ Whole m n)) → GoodText (x ∷ rest) m n
    by_quote (inl h) =
        let is = is_eq x 34 h.0 in
        let u = unmoved (pieces_at rest) m n h.1 in
        subst (λ y. GoodText (y ∷ rest) m n) (sym is) (of_ends rest m n u.0 (pieces_invert rest m u.0 u.1) u.2)
    by_quote (inr h) = let wrong = h.1 in absurd (cc)

pub text_read : (bytes m : List ℕ) (n : ℕ) → GoodText bytes m n → text_at bytes ≡ Whole m n
text_read bytes m n (front, rest, is, size, spells) = ap text_at is ∙ spelled_text m front rest spells ∙ ap (Whole m) (sym size)
