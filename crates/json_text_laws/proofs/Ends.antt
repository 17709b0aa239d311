-- Bytes in which no character begins, with more bytes behind.
use Rattle.std.proofs.Common.{◌≡◌, ℕ, zero, suc, ◌+◌, ◌/◌, ◌%◌, ◌<◌, ◌≤◌, Bool, true, false, cond, List, [], ◌∷◌, ◌++◌, length, take, drop, Option, Some, None, refl, sym, ap, ◌∙◌, subst, arith, ◌⊎◌, inl, inr, length-append}
use Rattle.std.specs.Prelude.{nat_lt, ◌==◌, slice_index}
use Rattle.std.specs.Int.{is_in_range}
use Rattle.std.specs.Char.{IsScalar, encode_utf8}
use Rattle.std.specs.Str.{IsUtf8}
use Rattle.std.specs.Str.Lossy.{utf8_valid_len, utf8_error_len, second_byte_min, second_byte_max}
use Rattle.std.proofs.lemmas.List.{take-append-drop}
use Rattle.std.proofs.lemmas.Bool.{cond_both}
use Rattle.std.proofs.lemmas.Bool.Decides.{nat_tests}
use Rattle.std.proofs.lemmas.Str.{utf8_valid_len_le, len_utf8_bounds, length-encode}
use lib.Utf8.{scalar, scalars, encodes, scalar_cases}
use Rattle.json_text.specs.Text.{ends_early}
use Rattle.json_text_laws.proofs.Choices.{cond_true, cond_false}
use Rattle.json_text_laws.proofs.Parts.{append_more}
use Rattle.json_text_laws.proofs.Characters.{valid_front, valid_behind}
use Rattle.json_text_laws.proofs.Read.{both_true}

pub front_index : (x more : List ℕ) (i : ℕ) → i < length x → slice_index (x ++ more) i ≡ slice_index x i
front_index [] more i h = absurd (omega arith)
front_index (a ∷ x) more zero h = refl
front_index (a ∷ x) more (suc i) h = front_index x more i (omega arith)

-- ---- a fault that is there stays

one_test : (t u i j : Bool) (o p : Option ℕ) (k : ℕ) → (t ≡ false → (u ≡ false) × (j ≡ i)) → (ends_early o ≡ false → ends_early p ≡ false)
    → ends_early (cond t None (cond i o (Some k))) ≡ false → ends_early (cond u None (cond j p (Some k))) ≡ false
one_test true u i j o p k f g e = absurd (cc)
one_test false u true j o p k f g e = let h = f refl in ap ends_early (cond_false u None (cond j p (Some k)) h.0 ∙ cond_true j p (Some k) h.1) ∙ g e
one_test false u false j o p k f g e = let h = f refl in ap ends_early (cond_false u None (cond j p (Some k)) h.0 ∙ cond_false j p (Some k) h.1)

last_test : (t u : Bool) (k : ℕ) → (t ≡ false → u ≡ false) → ends_early (cond t None (Some k)) ≡ false → ends_early (cond u None (Some k)) ≡ false
last_test true u k f e = absurd (cc)
last_test false u k f e = ap ends_early (cond_false u None (Some k) (f refl))

module _ (x more : List ℕ) where
  there : (n : ℕ) → nat_lt (length x) (suc n) ≡ false → n < length x
  there n e = grind (arith, nat_tests)

  longer : (n : ℕ) → nat_lt (length x) n ≡ false → nat_lt (length (x ++ more)) n ≡ false
  longer n e = let l = length-append x more in grind (arith, nat_tests)

  some_there : (length x == 0) ≡ false → 0 < length x
  some_there e = grind (arith, nat_tests)

  some_longer : (length x == 0) ≡ false → (length (x ++ more) == 0) ≡ false
  some_longer e = let l = length-append x more in grind (arith, nat_tests)

  second_in : 1 < length x → is_in_range (second_byte_min (slice_index (x ++ more) 0)) (second_byte_max (slice_index (x ++ more) 0)) (slice_index (x ++ more) 1)
      ≡ is_in_range (second_byte_min (slice_index x 0)) (second_byte_max (slice_index x 0)) (slice_index x 1)
  second_in h =
      ap (λ z. is_in_range (second_byte_min z) (second_byte_max z) (slice_index (x ++ more) 1)) (front_index x more 0 (omega arith))
      ∙ ap (is_in_range (second_byte_min (slice_index x 0)) (second_byte_max (slice_index x 0))) (front_index x more 1 h)

  pub fault_stays : ends_early (utf8_error_len x) ≡ false → ends_early (utf8_error_len (x ++ more)) ≡ false
  unfolding utf8_error_len
  fault_stays e =
      one_test (length x == 0) (length (x ++ more) == 0) (is_in_range 0xC2 0xF4 (slice_index x 0)) (is_in_range 0xC2 0xF4 (slice_index (x ++ more) 0)) _ _ 1
      (λ h. (some_longer h, ap (is_in_range 0xC2 0xF4) (front_index x more 0 (some_there h))))
      (λ e1. one_test (nat_lt (length x) 2) (nat_lt (length (x ++ more)) 2) _ _ _ _ 1 (λ h. (longer 2 h, second_in (there 1 h)))
      (λ e2. one_test (nat_lt (length x) 3) (nat_lt (length (x ++ more)) 3) (is_in_range 0x80 0xBF (slice_index x 2)) (is_in_range 0x80 0xBF (slice_index (x ++ more) 2)) _ _ 2
      (λ h. (longer 3 h, ap (is_in_range 0x80 0xBF) (front_index x more 2 (there 2 h))))
      (λ e3. last_test (nat_lt (length x) 4) (nat_lt (length (x ++ more)) 4) 3 (longer 4) e3) e2) e1) e

-- ---- a front of a character is no fault

abbrev Fine : List ℕ → Type 0
Fine w = (x : List ℕ) (y : ℕ) (e : List ℕ) → w ≡ x ++ (y ∷ e) → (x ≡ []) ⊎ (utf8_error_len x ≡ None)

no_end : (x : List ℕ) (y : ℕ) (e : List ℕ) → [] ≡ x ++ (y ∷ e) → ⊥
no_end [] y e h = absurd (cc)
no_end (a ∷ x) y e h = absurd (cc)

head_of : (a b : ℕ) (xs ys : List ℕ) → a ∷ xs ≡ b ∷ ys → a ≡ b
head_of a b xs ys e = cc

tail_of : (a b : ℕ) (xs ys : List ℕ) → a ∷ xs ≡ b ∷ ys → xs ≡ ys
tail_of a b xs ys e = cc

abbrev First : ℕ → Type 0
First a = is_in_range 0xC2 0xF4 a ≡ true

abbrev Second : ℕ → ℕ → Type 0
Second a b = is_in_range (second_byte_min a) (second_byte_max a) b ≡ true

abbrev Third : ℕ → Type 0
Third c = is_in_range 0x80 0xBF c ≡ true

open_one : (a : ℕ) → First a → utf8_error_len (a ∷ []) ≡ None
unfolding utf8_error_len
open_one a p = cond_true (is_in_range 0xC2 0xF4 a) None (Some 1) p

open_two : (a b : ℕ) → First a → Second a b → utf8_error_len (a ∷ b ∷ []) ≡ None
unfolding utf8_error_len
open_two a b p q = cond_true (is_in_range 0xC2 0xF4 a) _ (Some 1) p ∙ cond_true (is_in_range (second_byte_min a) (second_byte_max a) b) None (Some 1) q

open_three : (a b c : ℕ) → First a → Second a b → Third c → utf8_error_len (a ∷ b ∷ c ∷ []) ≡ None
unfolding utf8_error_len
open_three a b c p q r = cond_true (is_in_range 0xC2 0xF4 a) _ (Some 1) p ∙ cond_true (is_in_range (second_byte_min a) (second_byte_max a) b) _ (Some 1) q ∙ cond_true (is_in_range 0x80 0xBF c) None (Some 2) r

fine_one : (a : ℕ) → Fine (a ∷ [])
fine_one a [] y e h = inl refl
fine_one a (m ∷ x) y e h = absurd (no_end x y e (tail_of a m [] (x ++ (y ∷ e)) h))

fine_two : (a b : ℕ) → First a → Fine (a ∷ b ∷ [])
fine_two a b p [] y e h = inl refl
fine_two a b p (m ∷ []) y e h = inr (subst (λ z. utf8_error_len (z ∷ []) ≡ None) (head_of a m _ _ h) (open_one a p))
fine_two a b p (m ∷ n ∷ x) y e h = absurd (no_end x y e (tail_of b n [] (x ++ (y ∷ e)) (tail_of a m (b ∷ []) (n ∷ (x ++ (y ∷ e))) h)))

fine_three : (a b c : ℕ) → First a → Second a b → Fine (a ∷ b ∷ c ∷ [])
fine_three a b c p q [] y e h = inl refl
fine_three a b c p q (m ∷ []) y e h = inr (subst (λ z. utf8_error_len (z ∷ []) ≡ None) (head_of a m _ _ h) (open_one a p))
fine_three a b c p q (m ∷ n ∷ []) y e h =
    let is : a ∷ b ∷ [] ≡ m ∷ n ∷ [] = cc in
    inr (ap utf8_error_len (sym is) ∙ open_two a b p q)
fine_three a b c p q (m ∷ n ∷ o ∷ x) y e h =
    absurd (no_end x y e (tail_of c o [] (x ++ (y ∷ e)) (tail_of b n (c ∷ []) (o ∷ (x ++ (y ∷ e))) (tail_of a m (b ∷ c ∷ []) (n ∷ o ∷ (x ++ (y ∷ e))) h))))

fine_four : (a b c d : ℕ) → First a → Second a b → Third c → Fine (a ∷ b ∷ c ∷ d ∷ [])
fine_four a b c d p q r [] y e h = inl refl
fine_four a b c d p q r (m ∷ []) y e h = inr (subst (λ z. utf8_error_len (z ∷ []) ≡ None) (head_of a m _ _ h) (open_one a p))
fine_four a b c d p q r (m ∷ n ∷ []) y e h =
    let is : a ∷ b ∷ [] ≡ m ∷ n ∷ [] = cc in
    inr (ap utf8_error_len (sym is) ∙ open_two a b p q)
fine_four a b c d p q r (m ∷ n ∷ o ∷ []) y e h =
    let is : a ∷ b ∷ c ∷ [] ≡ m ∷ n ∷ o ∷ [] = cc in
    inr (ap utf8_error_len (sym is) ∙ open_three a b c p q r)
fine_four a b c d p q r (m ∷ n ∷ o ∷ s ∷ x) y e h =
    absurd (no_end x y e (tail_of d s [] (x ++ (y ∷ e)) (tail_of c o (d ∷ []) (s ∷ (x ++ (y ∷ e))) (tail_of b n (c ∷ d ∷ []) (o ∷ s ∷ (x ++ (y ∷ e))) (tail_of a m (b ∷ c ∷ d ∷ []) (n ∷ o ∷ s ∷ (x ++ (y ∷ e))) h)))))

in_range : (lo hi c : ℕ) → lo ≤ c → c ≤ hi → is_in_range lo hi c ≡ true
in_range lo hi c p q = grind (arith, nat_tests)

other : (a lo hi n : ℕ) → (a ≡ lo → ⊥) → cond (a == lo) hi n ≡ n
other a lo hi n h = cond_false (a == lo) hi n (grind (arith, nat_tests))

-- the least and the greatest second byte
least : (a b : ℕ) → 128 ≤ b → (a ≡ 0xE0 → 0xA0 ≤ b) → (a ≡ 0xF0 → 0x90 ≤ b) → second_byte_min a ≤ b
least a b low p q = cond_both (a == 0xE0) 0xA0 (cond (a == 0xF0) 0x90 0x80) (λ n. n ≤ b) (λ e. p (grind (arith, nat_tests))) (λ _. cond_both (a == 0xF0) 0x90 0x80 (λ n. n ≤ b) (λ e. q (grind (arith, nat_tests))) (λ _. low))

most : (a b : ℕ) → b ≤ 0xBF → (a ≡ 0xED → b ≤ 0x9F) → (a ≡ 0xF4 → b ≤ 0x8F) → b ≤ second_byte_max a
most a b high p q = cond_both (a == 0xED) 0x9F (cond (a == 0xF4) 0x8F 0xBF) (λ n. b ≤ n) (λ e. p (grind (arith, nat_tests))) (λ _. cond_both (a == 0xF4) 0x8F 0xBF (λ n. b ≤ n) (λ e. q (grind (arith, nat_tests))) (λ _. high))

-- no surrogate, and no more than 10FFFF hex
pub scalar_bounds : (c : ℕ) → IsScalar c → (c < 0x110000) × ((c < 0xd800) ⊎ (0xe000 ≤ c))
scalar_bounds c s = by_case (scalar_cases c s)
  where
    by_case : (c < 55296) ⊎ ((57344 ≤ c) × (c < 1114112)) → (c < 0x110000) × ((c < 0xd800) ⊎ (0xe000 ≤ c))
    by_case (inl h) = (omega arith, inl h)
    by_case (inr h) = (h.1, inr h.0)

two_fine : (c : ℕ) → 128 ≤ c → c < 2048 → Fine ((192 + c / 64) ∷ (128 + c % 64) ∷ [])
two_fine c low high = fine_two (192 + c / 64) (128 + c % 64) (in_range 0xC2 0xF4 (192 + c / 64) (omega arith) (omega arith))

three_fine : (c : ℕ) → 2048 ≤ c → c < 65536 → (c < 0xd800) ⊎ (0xe000 ≤ c) → Fine ((224 + c / 4096) ∷ (128 + (c / 64) % 64) ∷ (128 + c % 64) ∷ [])
three_fine c low high outside =
    let a = 224 + c / 4096 in
    let b = 128 + (c / 64) % 64 in
    fine_three a b (128 + c % 64) (in_range 0xC2 0xF4 a (omega arith) (omega arith))
    (in_range (second_byte_min a) (second_byte_max a) b (least a b (omega arith) (λ e. omega arith) (λ e. omega arith)) (most a b (omega arith) (surrogate outside) (λ e. omega arith)))
  where
    surrogate : (c < 0xd800) ⊎ (0xe000 ≤ c) → 224 + c / 4096 ≡ 0xED → 128 + (c / 64) % 64 ≤ 0x9F
    surrogate (inl h) e = omega arith
    surrogate (inr h) e = absurd (omega arith)

four_fine : (c : ℕ) → 65536 ≤ c → c < 0x110000 → Fine ((240 + c / 262144) ∷ (128 + (c / 4096) % 64) ∷ (128 + (c / 64) % 64) ∷ (128 + c % 64) ∷ [])
four_fine c low high =
    let a = 240 + c / 262144 in
    let b = 128 + (c / 4096) % 64 in
    fine_four a b (128 + (c / 64) % 64) (128 + c % 64) (in_range 0xC2 0xF4 a (omega arith) (omega arith))
    (in_range (second_byte_min a) (second_byte_max a) b (least a b (omega arith) (λ e. omega arith) (λ e. omega arith)) (most a b (omega arith) (λ e. omega arith) (λ e. omega arith)))
    (in_range 0x80 0xBF (128 + (c / 64) % 64) (omega arith) (omega arith))

pub character_fine : (c : ℕ) → IsScalar c → Fine (encode_utf8 c)
unfolding encode_utf8
character_fine c scalar =
    let next = λ (bits : ℕ). 128 + bits % 64 in
    let four = (240 + c / 262144) ∷ next (c / 4096) ∷ next (c / 64) ∷ next c ∷ [] in
    let three = (224 + c / 4096) ∷ next (c / 64) ∷ next c ∷ [] in
    let two = (192 + c / 64) ∷ next c ∷ [] in
    let bounds = scalar_bounds c scalar in
    cond_both (nat_lt c 128) (c ∷ []) (cond (nat_lt c 2048) two (cond (nat_lt c 65536) three four)) Fine (λ e. fine_one c) (λ f.
    cond_both (nat_lt c 2048) two (cond (nat_lt c 65536) three four) Fine (λ e. two_fine c (grind (arith, nat_tests)) (grind (arith, nat_tests))) (λ g.
    cond_both (nat_lt c 65536) three four Fine (λ e. three_fine c (grind (arith, nat_tests)) (grind (arith, nat_tests)) bounds.1) (λ h. four_fine c (grind (arith, nat_tests)) bounds.0)))

-- ---- where no character begins and there is a fault, none begins with more bytes behind

-- of two fronts of the same bytes, one is a front of the other
abbrev Fronts : List ℕ → List ℕ → Type 0
Fronts x w = ((e : List ℕ) × (x ≡ w ++ e)) ⊎ ((y : ℕ) × (e : List ℕ) × (w ≡ x ++ (y ∷ e)))

fronts : (x more w rest : List ℕ) → x ++ more ≡ w ++ rest → Fronts x w
fronts x more [] rest h = inl (x, refl)
fronts [] more (b ∷ w) rest h = inr (b, w, refl)
fronts (a ∷ x) more (b ∷ w) rest h = grown (head_of a b _ _ h) (fronts x more w rest (tail_of a b _ _ h))
  where
    grown : a ≡ b → Fronts x w → Fronts (a ∷ x) (b ∷ w)
    grown is (inl (e, same)) = inl (e, ap (λ z. z ∷ x) is ∙ ap (λ l. b ∷ l) same)
    grown is (inr (y, e, same)) = inr (y, e, ap (λ l. b ∷ l) same ∙ ap (λ z. z ∷ (x ++ (y ∷ e))) (sym is))

some_bytes : (c : ℕ) → 1 ≤ length (encode_utf8 c)
some_bytes c = omega (arith, (len_utf8_bounds c).0, length-encode c)

none_early : ends_early (utf8_error_len []) ≡ true
unfolding utf8_error_len
none_early = refl

module _ (x more : List ℕ) (none : utf8_valid_len x ≡ 0) (fault : ends_early (utf8_error_len x) ≡ false) where
  no_character : (c : ℕ) (rest : List ℕ) → IsScalar c → x ++ more ≡ encode_utf8 c ++ rest → ⊥
  no_character c rest scalar h = by_front (fronts x more (encode_utf8 c) rest h)
    where
      by_open : (x ≡ []) ⊎ (utf8_error_len x ≡ None) → ⊥
      by_open (inl e) = let wrong : true ≡ false = sym (ap (λ l. ends_early (utf8_error_len l)) e ∙ none_early) ∙ fault in absurd (cc)
      by_open (inr e) = let wrong : true ≡ false = sym (ap ends_early e) ∙ fault in absurd (cc)

      by_front : Fronts x (encode_utf8 c) → ⊥
      by_front (inl (e, same)) = let long = some_bytes c in let size = ap utf8_valid_len same ∙ valid_behind c scalar e in absurd (omega arith)
      by_front (inr (y, e, same)) = by_open (character_fine c scalar x y e same)

  pub still_none : utf8_valid_len (x ++ more) ≡ 0
  still_none = by_text (valid_front (x ++ more))
    where
      all : List ℕ
      all = x ++ more

      front_none : (l : List ℕ) (k : ℕ) → k ≤ length l → [] ≡ take k l → k ≡ 0
      front_none l zero most e = refl
      front_none [] (suc k) most e = absurd (omega arith)
      front_none (a ∷ l) (suc k) most e = absurd (cc)

      by_text : IsUtf8 (take (utf8_valid_len all) all) → utf8_valid_len all ≡ 0
      by_text ([], (s, is)) = front_none all (utf8_valid_len all) (utf8_valid_len_le all) is
      by_text (c ∷ cs, (s, is)) =
          let k = utf8_valid_len all in
          absurd (no_character c (encodes cs ++ drop k all) (both_true (scalar c) (scalars cs) s).0
          (sym (take-append-drop k all) ∙ ap (λ l. l ++ drop k all) (sym is) ∙ append_more (encode_utf8 c) (encodes cs) (drop k all)))

-- characters in front add their length
pub valid_behind_all : (cs x : List ℕ) → scalars cs ≡ true → utf8_valid_len (encodes cs ++ x) ≡ length (encodes cs) + utf8_valid_len x
valid_behind_all [] x s = omega arith
valid_behind_all (c ∷ cs) x s =
    let t = both_true (scalar c) (scalars cs) s in
    ap utf8_valid_len (append_more (encode_utf8 c) (encodes cs) x) ∙ valid_behind c t.0 (encodes cs ++ x) ∙ omega (arith, valid_behind_all cs x t.1, length-append (encode_utf8 c) (encodes cs))
