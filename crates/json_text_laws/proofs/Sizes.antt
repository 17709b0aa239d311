-- How many bytes a piece has is told by its first ones.
use Rattle.std.proofs.Common.{◌≡◌, ℕ, zero, suc, ◌+◌, ◌-◌, ◌*◌, ◌/◌, ◌<◌, ◌≤◌, Bool, true, false, cond, List, [], ◌∷◌, ◌++◌, length, take, refl, sym, ap, ◌∙◌, subst, arith, ◌⊎◌, inl, inr}
use Rattle.std.specs.Prelude.{not, nat_lt, nat_le, ◌==◌, ◌&&◌}
use Rattle.std.specs.Char.{encode_utf8, digit_value}
use Rattle.std.proofs.lemmas.Bool.Decides.{nat_tests}
use Rattle.json_text.specs.Escape.{is_high}
use Rattle.json_text.specs.Grammar.{Piece, plain, short, unit, pair, IsPiece, piece_spelled}
use Rattle.json_text_laws.proofs.Choices.{cond_true, cond_false, either_way}
use Rattle.json_text_laws.proofs.Strings.{Four, four_of, short_is}
use Rattle.json_text_laws.proofs.Read.{both_true, small_first}
use Rattle.json_text_laws.proofs.Open.{two_spelled, three_spelled, four_spelled, high_digits}
use Rattle.json_text_laws.proofs.Ends.{scalar_bounds}
use Rattle.json_text_laws.specs.Strings.{character_size, begins_high, piece_size}

-- ---- by the first bytes

sized_first : (x : ℕ) (rest : List ℕ) → (x == 92) ≡ false → piece_size (x ∷ rest) ≡ character_size x
unfolding piece_size
sized_first x rest e = cond_true (not (x == 92)) (character_size x) _ (ap not e)

sized_letter : (x y : ℕ) (rest : List ℕ) → (x == 92) ≡ true → (y == 117) ≡ false → piece_size (x ∷ y ∷ rest) ≡ 2
unfolding piece_size
sized_letter x y rest e f = cond_false (not (x == 92)) (character_size x) _ (ap not e) ∙ cond_true (not (y == 117)) 2 _ (ap not f)

sized_unit : (x y : ℕ) (rest : List ℕ) → (x == 92) ≡ true → (y == 117) ≡ true → piece_size (x ∷ y ∷ rest) ≡ cond (begins_high rest) 12 6
unfolding piece_size
sized_unit x y rest e f = cond_false (not (x == 92)) (character_size x) _ (ap not e) ∙ cond_false (not (y == 117)) 2 _ (ap not f)

sized_none : piece_size [] ≡ 1
unfolding piece_size
sized_none = refl

sized_slash : (x : ℕ) → (x == 92) ≡ true → piece_size (x ∷ []) ≡ 2
unfolding piece_size
sized_slash x e = cond_false (not (x == 92)) (character_size x) 2 (ap not e)

pub sized_quote : (rest : List ℕ) → piece_size (34 ∷ rest) ≡ 1
unfolding piece_size
sized_quote rest = refl

size_one : (x : ℕ) → x < 0xC2 → character_size x ≡ 1
size_one x h = cond_true (nat_lt x 0xC2) 1 _ (grind (arith, nat_tests))

size_two : (x : ℕ) → 0xC2 ≤ x → x < 0xE0 → character_size x ≡ 2
size_two x l h = cond_false (nat_lt x 0xC2) 1 _ (grind (arith, nat_tests)) ∙ cond_true (nat_lt x 0xE0) 2 _ (grind (arith, nat_tests))

size_three : (x : ℕ) → 0xE0 ≤ x → x < 0xF0 → character_size x ≡ 3
size_three x l h = cond_false (nat_lt x 0xC2) 1 _ (grind (arith, nat_tests)) ∙ cond_false (nat_lt x 0xE0) 2 _ (grind (arith, nat_tests)) ∙ cond_true (nat_lt x 0xF0) 3 _ (grind (arith, nat_tests))

size_four : (x : ℕ) → 0xF0 ≤ x → x < 0xF5 → character_size x ≡ 4
size_four x l h =
    cond_false (nat_lt x 0xC2) 1 _ (grind (arith, nat_tests)) ∙ cond_false (nat_lt x 0xE0) 2 _ (grind (arith, nat_tests)) ∙ cond_false (nat_lt x 0xF0) 3 _ (grind (arith, nat_tests))
    ∙ cond_true (nat_lt x 0xF5) 4 1 (grind (arith, nat_tests))

size_some : (x : ℕ) → 1 ≤ character_size x
size_some x = by_tests (nat_lt x 0xC2) (nat_lt x 0xE0) (nat_lt x 0xF0) (nat_lt x 0xF5)
  where
    by_tests : (a b c d : Bool) → 1 ≤ cond a 1 (cond b 2 (cond c 3 (cond d 4 1)))
    by_tests true b c d = omega arith
    by_tests false true c d = omega arith
    by_tests false false true d = omega arith
    by_tests false false false true = omega arith
    by_tests false false false false = omega arith

-- ---- of a whole piece

other : (x n : ℕ) → (x ≡ n → ⊥) → (x == n) ≡ false
other x n h = grind (arith, nat_tests)

of_first : (x n : ℕ) (rest : List ℕ) → (x ≡ 92 → ⊥) → character_size x ≡ n → piece_size (x ∷ rest) ≡ n
of_first x n rest h e = sized_first x rest (other x 92 h) ∙ e

abbrev Sized : List ℕ → List ℕ → Type 0
Sized tail spelled = piece_size (spelled ++ tail) ≡ length spelled

plain_sized : (c : ℕ) (tail : List ℕ) → IsPiece (plain c) → Sized tail (encode_utf8 c)
plain_sized c tail is = by_a (either_way (nat_lt c 128)) (either_way (nat_lt c 2048)) (either_way (nat_lt c 65536))
  where
    by_a : (nat_lt c 128 ≡ true) ⊎ (nat_lt c 128 ≡ false) → (nat_lt c 2048 ≡ true) ⊎ (nat_lt c 2048 ≡ false) → (nat_lt c 65536 ≡ true) ⊎ (nat_lt c 65536 ≡ false) → Sized tail (encode_utf8 c)
    by_a (inl p) q r = let low : c < 128 = grind (arith, nat_tests) in subst (Sized tail) (sym (small_first c low)) (of_first c 1 tail is.3 (size_one c (omega arith)))
    by_a (inr p) (inl q) r =
        let low : 128 ≤ c = grind (arith, nat_tests) in
        let high : c < 2048 = grind (arith, nat_tests) in
        subst (Sized tail) (sym (two_spelled c low high)) (of_first (192 + c / 64) 2 _ (λ e. omega arith) (size_two (192 + c / 64) (omega arith) (omega arith)))
    by_a (inr p) (inr q) (inl r) =
        let low : 2048 ≤ c = grind (arith, nat_tests) in
        let high : c < 65536 = grind (arith, nat_tests) in
        subst (Sized tail) (sym (three_spelled c low high)) (of_first (224 + c / 4096) 3 _ (λ e. omega arith) (size_three (224 + c / 4096) (omega arith) (omega arith)))
    by_a (inr p) (inr q) (inr r) =
        let low : 65536 ≤ c = grind (arith, nat_tests) in
        let high = (scalar_bounds c is.0).0 in
        subst (Sized tail) (sym (four_spelled c low)) (of_first (240 + c / 262144) 4 _ (λ e. omega arith) (size_four (240 + c / 262144) (omega arith) (omega arith)))

five_true : (a b c d e : Bool) → a ≡ true → b ≡ true → c ≡ true → d ≡ true → e ≡ true → (a && b && c && d && e) ≡ true
five_true a b c d e p q r s t = cc

high_begins : (a b d e : ℕ) (tail : List ℕ) → digit_value a ≡ 13 → 8 ≤ digit_value b → digit_value b ≤ 11 → digit_value d ≤ 15 → digit_value e ≤ 15 → begins_high (a ∷ b ∷ d ∷ e ∷ tail) ≡ true
high_begins a b d e tail p q r s t =
    five_true (digit_value a == 13) (nat_le 8 (digit_value b)) (nat_le (digit_value b) 11) (nat_le (digit_value d) 15) (nat_le (digit_value e) 15) (grind (arith, nat_tests)) (grind (arith, nat_tests)) (grind (arith, nat_tests)) (grind (arith, nat_tests)) (grind (arith, nat_tests))

begun_high : (a b d e : ℕ) (tail : List ℕ) → begins_high (a ∷ b ∷ d ∷ e ∷ tail) ≡ true → (digit_value a ≡ 13) × (8 ≤ digit_value b) × (digit_value b ≤ 11)
begun_high a b d e tail h =
    let p = both_true _ (nat_le (digit_value e) 15) h in
    let q = both_true _ (nat_le (digit_value d) 15) p.0 in
    let r = both_true _ (nat_le (digit_value b) 11) q.0 in
    let s = both_true (digit_value a == 13) (nat_le 8 (digit_value b)) r.0 in
    let s0 = s.0 in let s1 = s.1 in let r1 = r.1 in
    (grind (arith, nat_tests), grind (arith, nat_tests), grind (arith, nat_tests))

no_high : (a b d e code : ℕ) (tail : List ℕ) → digit_value d ≤ 15 → digit_value e ≤ 15 → digit_value a * 4096 + digit_value b * 256 + digit_value d * 16 + digit_value e ≡ code → (code < 0xd800) ⊎ (0xe000 ≤ code)
    → begins_high (a ∷ b ∷ d ∷ e ∷ tail) ≡ false
no_high a b d e code tail s t is outside = by_test (either_way (begins_high (a ∷ b ∷ d ∷ e ∷ tail))) outside
  where
    by_test : (begins_high (a ∷ b ∷ d ∷ e ∷ tail) ≡ true) ⊎ (begins_high (a ∷ b ∷ d ∷ e ∷ tail) ≡ false) → (code < 0xd800) ⊎ (0xe000 ≤ code) → begins_high (a ∷ b ∷ d ∷ e ∷ tail) ≡ false
    by_test (inl h) (inl o) = let k = begun_high a b d e tail h in let k0 = k.0 in let k1 = k.1 in absurd (omega arith)
    by_test (inl h) (inr o) = let k = begun_high a b d e tail h in let k0 = k.0 in let k2 = k.2 in absurd (omega arith)
    by_test (inr h) o = h

unit_sized : (digits : List ℕ) (code : ℕ) (tail : List ℕ) → Four digits code → (code < 0xd800) ⊎ (0xe000 ≤ code) → Sized tail (92 ∷ 117 ∷ digits)
unit_sized digits code tail f outside =
    subst (λ ds. Sized tail (92 ∷ 117 ∷ ds)) (sym f.is)
    (sized_unit 92 117 (f.a ∷ f.b ∷ f.c ∷ f.d ∷ tail) refl refl ∙ cond_false {A = ℕ} _ 12 6 (no_high f.a f.b f.c f.d code tail f.third f.fourth f.value outside))

is_high_true : (u : ℕ) → 0xd800 ≤ u → u < 0xdc00 → is_high u ≡ true
is_high_true u p q = grind (arith, nat_tests)

pair_sized : (first second : List ℕ) (high low : ℕ) (tail : List ℕ) → Four first high → Four second low → 0xd800 ≤ high → high < 0xdc00 → Sized tail (92 ∷ 117 ∷ (first ++ (92 ∷ 117 ∷ second)))
pair_sized first second high low tail f g p q =
    subst (λ ds. Sized tail (92 ∷ 117 ∷ (ds ++ (92 ∷ 117 ∷ second)))) (sym f.is) (subst (λ ds. Sized tail (92 ∷ 117 ∷ ((f.a ∷ f.b ∷ f.c ∷ f.d ∷ []) ++ (92 ∷ 117 ∷ ds)))) (sym g.is)
    (let k = high_digits (digit_value f.a) (digit_value f.b) (digit_value f.c) (digit_value f.d) f.first f.second f.third f.fourth (ap is_high f.value ∙ is_high_true high p q) in
    sized_unit 92 117 (f.a ∷ f.b ∷ f.c ∷ f.d ∷ 92 ∷ 117 ∷ g.a ∷ g.b ∷ g.c ∷ g.d ∷ tail) refl refl
    ∙ cond_true {A = ℕ} _ 12 6 (high_begins f.a f.b f.c f.d (92 ∷ 117 ∷ g.a ∷ g.b ∷ g.c ∷ g.d ∷ tail) k.0 k.1 k.2 f.third f.fourth)))

pub piece_sized : (p : Piece) (tail : List ℕ) → IsPiece p → piece_size (piece_spelled p ++ tail) ≡ length (piece_spelled p)
piece_sized (plain c) tail is = plain_sized c tail is
piece_sized (short letter c) tail is = sized_letter 92 letter tail refl (short_is letter c is).1
piece_sized (unit digits code) tail is = unit_sized digits code tail (four_of digits code is.0) is.1
piece_sized (pair first high second low) tail is = pair_sized first second high low tail (four_of first high is.0) (four_of second low is.3) is.1 is.2

-- ---- of what is cut there

keeps_first : (x n : ℕ) (rest : List ℕ) → 1 ≤ n → take n (x ∷ rest) ≡ x ∷ take (n - 1) rest
keeps_first x zero rest h = absurd (omega arith)
keeps_first x (suc n) rest h = let e : n ≡ suc n - 1 = omega arith in ap (λ k. x ∷ take k rest) e

unit_long : (b : Bool) → 6 ≤ cond b 12 6
unit_long true = omega arith
unit_long false = omega arith

unit_cut : (x y : ℕ) (rest more : List ℕ) → (x == 92) ≡ true → (y == 117) ≡ true → cond (begins_high rest) 12 6 ≤ length (x ∷ y ∷ rest)
    → piece_size (take (cond (begins_high rest) 12 6) (x ∷ y ∷ rest) ++ more) ≡ cond (begins_high rest) 12 6
unit_cut x y [] more e f h = let l = unit_long (begins_high []) in absurd (omega arith)
unit_cut x y (a ∷ []) more e f h = let l = unit_long (begins_high (a ∷ [])) in absurd (omega arith)
unit_cut x y (a ∷ b ∷ []) more e f h = let l = unit_long (begins_high (a ∷ b ∷ [])) in absurd (omega arith)
unit_cut x y (a ∷ b ∷ d ∷ []) more e f h = let l = unit_long (begins_high (a ∷ b ∷ d ∷ [])) in absurd (omega arith)
unit_cut x y (a ∷ b ∷ d ∷ z ∷ rest) more e f h = by_test (begins_high (a ∷ b ∷ d ∷ z ∷ rest)) refl
  where
    by_test : (t : Bool) → begins_high (a ∷ b ∷ d ∷ z ∷ rest) ≡ t → piece_size (take (cond t 12 6) (x ∷ y ∷ a ∷ b ∷ d ∷ z ∷ rest) ++ more) ≡ cond t 12 6
    by_test true g = sized_unit x y (a ∷ b ∷ d ∷ z ∷ (take 6 rest ++ more)) e f ∙ cond_true {A = ℕ} _ 12 6 g
    by_test false g = sized_unit x y (a ∷ b ∷ d ∷ z ∷ more) e f ∙ cond_false {A = ℕ} _ 12 6 g

abbrev Cut : List ℕ → List ℕ → ℕ → Type 0
Cut rest more n = n ≤ length rest → piece_size (take n rest ++ more) ≡ n

pub cut_sized : (rest more : List ℕ) → Cut rest more (piece_size rest)
cut_sized [] more h = absurd (omega (arith, sized_none, h))
cut_sized (x ∷ rest) more h = by_slash (either_way (x == 92)) rest h
  where
    by_letter : (x == 92) ≡ true → (y : ℕ) (s : List ℕ) → ((y == 117) ≡ true) ⊎ ((y == 117) ≡ false) → Cut (x ∷ y ∷ s) more (piece_size (x ∷ y ∷ s))
    by_letter e y s (inl f) = subst (Cut (x ∷ y ∷ s) more) (sym (sized_unit x y s e f)) (λ h. unit_cut x y s more e f h)
    by_letter e y s (inr f) = subst (Cut (x ∷ y ∷ s) more) (sym (sized_letter x y s e f)) (λ h. sized_letter x y more e f)

    by_slash : ((x == 92) ≡ true) ⊎ ((x == 92) ≡ false) → (r : List ℕ) → Cut (x ∷ r) more (piece_size (x ∷ r))
    by_slash (inl e) [] = λ h. absurd (omega (arith, sized_slash x e, h))
    by_slash (inl e) (y ∷ s) = by_letter e y s (either_way (y == 117))
    by_slash (inr e) r =
        subst (Cut (x ∷ r) more) (sym (sized_first x r e))
        (λ h. ap (λ l. piece_size (l ++ more)) (keeps_first x (character_size x) r (size_some x)) ∙ sized_first x (take (character_size x - 1) r ++ more) e)

pub piece_some : (rest : List ℕ) → 1 ≤ piece_size rest
piece_some [] = omega (arith, sized_none)
piece_some (x ∷ rest) = by_slash (either_way (x == 92)) rest
  where
    by_letter : (x == 92) ≡ true → (y : ℕ) (s : List ℕ) → ((y == 117) ≡ true) ⊎ ((y == 117) ≡ false) → 1 ≤ piece_size (x ∷ y ∷ s)
    by_letter e y s (inl f) = let l = unit_long (begins_high s) in omega (arith, sized_unit x y s e f, l)
    by_letter e y s (inr f) = omega (arith, sized_letter x y s e f)

    by_slash : ((x == 92) ≡ true) ⊎ ((x == 92) ≡ false) → (r : List ℕ) → 1 ≤ piece_size (x ∷ r)
    by_slash (inl e) [] = omega (arith, sized_slash x e)
    by_slash (inl e) (y ∷ s) = by_letter e y s (either_way (y == 117))
    by_slash (inr e) r = omega (arith, sized_first x r e, size_some x)
