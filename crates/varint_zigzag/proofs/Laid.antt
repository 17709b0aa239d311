-- The shortest bytes of a number, eight at a time.
use Rattle.std.proofs.Common.{◌≡◌, ℕ, zero, suc, ◌+◌, ◌-◌, ◌*◌, ◌/◌, ◌%◌, ◌^◌, ◌<◌, ◌≤◌, inl, inr, List, [], ◌∷◌, ◌++◌, length, take, get_or, replicate, bit_and, arith, refl, sym, ap, ◌∙◌, length-take, length-append, append_assoc}
use Rattle.std.specs.Int.{w64, to_le_bytes}
use Rattle.std.proofs.lemmas.Nat.{mod-pow-add, pow-add, pow_pos, shr-shr, le_bytes_8}
use Rattle.std.proofs.lemmas.Nat.Bits.{and_high}
use Rattle.std.proofs.lemmas.List.{take_all, take-append-le}
use Rattle.std.proofs.Math.Pow.{pow_mono}
use Rattle.std.specs.Simd.Lanes.{number_l, digits_l}
use Rattle.varint_zigzag.specs.Varint.{shortest_in, shortest}
use Rattle.varint_zigzag.specs.Bounds.{large_or_small, shortest_last, shortest_more}
use Rattle.varint_zigzag.specs.Places.{AllBelow, AreGroups}
use Rattle.varint_zigzag.proofs.Words.{lanes_and}
use Rattle.varint_zigzag.proofs.Fronts.{word_of}
use Rattle.varint_zigzag.proofs.Tops.{Sized, wider}

-- ---- the groups, spread

high_of_56 : (x y : ℕ) → x < 268435456 → y < 268435456 → bit_and (x + 268435456 * y) 72057593769492480 ≡ 268435456 * y
high_of_56 x y hx hy = omega (arith, and_high (x + 268435456 * y) 28 28)

high_of_28 : (x y : ℕ) → x < 16384 → y < 16384 → bit_and (x + 16384 * y) 268419072 ≡ 16384 * y
high_of_28 x y hx hy = omega (arith, and_high (x + 16384 * y) 14 14)

high_of_14 : (x y : ℕ) → x < 128 → y < 128 → bit_and (x + 128 * y) 16256 ≡ 128 * y
high_of_14 x y hx hy = omega (arith, and_high (x + 128 * y) 7 7)

-- a step adds to the number what its high groups are worth more: fifteen times, three times, and once
abbrev pub spread_fours : ℕ → ℕ
spread_fours number = number + 15 * bit_and number 72057593769492480

abbrev pub spread_pairs : ℕ → ℕ
spread_pairs number = number + 3 * bit_and number 1152851136131088384

abbrev pub spread_ones : ℕ → ℕ
spread_ones number = number + bit_and number 4575727041462157184

fours_spread : (number a b : ℕ) → a < 268435456 → b < 268435456 → number ≡ a + 268435456 * b → spread_fours number ≡ number_l 4294967296 (a ∷ b ∷ [])
fours_spread number a b ha hb is =
    let high = high_of_56 a b ha hb in
    rw (is, high) (omega arith)

pairs_high : (a b c d : ℕ) → a < 16384 → b < 16384 → c < 16384 → d < 16384
    → bit_and (number_l 4294967296 ((a + 16384 * b) ∷ (c + 16384 * d) ∷ [])) 1152851136131088384 ≡ number_l 4294967296 (16384 * b ∷ 16384 * d ∷ [])
pairs_high a b c d ha hb hc hd =
    lanes_and 32 268419072 ((a + 16384 * b) ∷ (c + 16384 * d) ∷ []) (omega arith) (omega arith, (omega arith, tt))
    ∙ rw (high_of_28 a b ha hb, high_of_28 c d hc hd) refl

pairs_spread : (number a b c d : ℕ) → a < 16384 → b < 16384 → c < 16384 → d < 16384 → number ≡ number_l 4294967296 ((a + 16384 * b) ∷ (c + 16384 * d) ∷ [])
    → spread_pairs number ≡ number_l 65536 (a ∷ b ∷ c ∷ d ∷ [])
pairs_spread number a b c d ha hb hc hd is =
    let high = pairs_high a b c d ha hb hc hd in
    rw (is, high) (omega arith)

ones_high : (a b c d e f g h : ℕ) → a < 128 → b < 128 → c < 128 → d < 128 → e < 128 → f < 128 → g < 128 → h < 128
    → bit_and (number_l 65536 ((a + 128 * b) ∷ (c + 128 * d) ∷ (e + 128 * f) ∷ (g + 128 * h) ∷ [])) 4575727041462157184 ≡ number_l 65536 (128 * b ∷ 128 * d ∷ 128 * f ∷ 128 * h ∷ [])
ones_high a b c d e f g h ha hb hc hd he hf hg hh =
    lanes_and 16 16256 ((a + 128 * b) ∷ (c + 128 * d) ∷ (e + 128 * f) ∷ (g + 128 * h) ∷ []) (omega arith) (omega arith, (omega arith, (omega arith, (omega arith, tt))))
    ∙ rw (high_of_14 a b ha hb, high_of_14 c d hc hd, high_of_14 e f he hf, high_of_14 g h hg hh) refl

ones_spread : (number a b c d e f g h : ℕ) → a < 128 → b < 128 → c < 128 → d < 128 → e < 128 → f < 128 → g < 128 → h < 128
    → number ≡ number_l 65536 ((a + 128 * b) ∷ (c + 128 * d) ∷ (e + 128 * f) ∷ (g + 128 * h) ∷ [])
    → spread_ones number ≡ number_l 256 (a ∷ b ∷ c ∷ d ∷ e ∷ f ∷ g ∷ h ∷ [])
ones_spread number a b c d e f g h ha hb hc hd he hf hg hh is =
    let high = ones_high a b c d e f g h ha hb hc hd he hf hg hh in
    rw (is, high) (omega arith)

eight_spread : (number a b c d e f g h : ℕ) → a < 128 → b < 128 → c < 128 → d < 128 → e < 128 → f < 128 → g < 128 → h < 128 → number ≡ number_l 128 (a ∷ b ∷ c ∷ d ∷ e ∷ f ∷ g ∷ h ∷ [])
    → spread_ones (spread_pairs (spread_fours number)) ≡ number_l 256 (a ∷ b ∷ c ∷ d ∷ e ∷ f ∷ g ∷ h ∷ [])
eight_spread number a b c d e f g h ha hb hc hd he hf hg hh is =
    let fours = fours_spread number (a + 128 * b + 16384 * (c + 128 * d)) (e + 128 * f + 16384 * (g + 128 * h)) (omega arith) (omega arith) (omega arith) in
    let pairs = pairs_spread _ (a + 128 * b) (c + 128 * d) (e + 128 * f) (g + 128 * h) (omega arith) (omega arith) (omega arith) (omega arith) fours in
    ones_spread _ a b c d e f g h ha hb hc hd he hf hg hh pairs

pub spread_groups : (groups : List ℕ) → AreGroups groups → (number : ℕ) → number ≡ number_l 128 groups
    → spread_ones (spread_pairs (spread_fours number)) ≡ number_l 256 groups
spread_groups [] are number is = absurd (omega (arith, are.eight))
spread_groups (a ∷ []) are number is = absurd (omega (arith, are.eight))
spread_groups (a ∷ b ∷ []) are number is = absurd (omega (arith, are.eight))
spread_groups (a ∷ b ∷ c ∷ []) are number is = absurd (omega (arith, are.eight))
spread_groups (a ∷ b ∷ c ∷ d ∷ []) are number is = absurd (omega (arith, are.eight))
spread_groups (a ∷ b ∷ c ∷ d ∷ e ∷ []) are number is = absurd (omega (arith, are.eight))
spread_groups (a ∷ b ∷ c ∷ d ∷ e ∷ f ∷ []) are number is = absurd (omega (arith, are.eight))
spread_groups (a ∷ b ∷ c ∷ d ∷ e ∷ f ∷ g ∷ []) are number is = absurd (omega (arith, are.eight))
spread_groups (a ∷ b ∷ c ∷ d ∷ e ∷ f ∷ g ∷ h ∷ i ∷ rest) are number is = absurd (omega (arith, are.eight))
spread_groups (a ∷ b ∷ c ∷ d ∷ e ∷ f ∷ g ∷ h ∷ []) are number is =
    let s = are.small in
    eight_spread number a b c d e f g h s.0 s.1.0 s.1.1.0 s.1.1.1.0 s.1.1.1.1.0 s.1.1.1.1.1.0 s.1.1.1.1.1.1.0 s.1.1.1.1.1.1.1.0 is

-- ---- the groups of a number

digits_number : (k v : ℕ) → number_l 128 (digits_l 128 k v) ≡ v % 2 ^ (7 * k)
digits_number zero v = omega arith
digits_number (suc k) v =
    let e : 7 * suc k ≡ 7 * k + 7 = omega arith in
    ap (λ n. v % 128 + 128 * n) (digits_number k (v / 128)) ∙ omega (arith, mod-pow-add v (7 * k) 7) ∙ ap (λ n. v % 2 ^ n) (sym e)

digits_below : (k v : ℕ) → AllBelow 128 (digits_l 128 k v)
digits_below zero v = tt
digits_below (suc k) v = (omega arith, digits_below k (v / 128))

length-digits : (k v : ℕ) → length (digits_l 128 k v) ≡ k
length-digits zero v = refl
length-digits (suc k) v = ap suc (length-digits k (v / 128))

digits_are_groups : (v : ℕ) → AreGroups (digits_l 128 8 v)
digits_are_groups v = record { eight = length-digits 8 v; small = digits_below 8 v }

-- the first so many bytes have their high bit set
carried : ℕ → List ℕ → List ℕ
carried n [] = []
carried zero (g ∷ groups) = g ∷ carried zero groups
carried (suc n) (g ∷ groups) = (g + 128) ∷ carried n groups

carried_sum : (n : ℕ) (groups : List ℕ) → n ≤ length groups → number_l 256 (carried n groups) ≡ number_l 256 groups + number_l 256 (replicate n 128)
unfolding carried
carried_sum zero [] h = refl
carried_sum (suc n) [] h = absurd (omega arith)
carried_sum zero (g ∷ groups) h = let rest = carried_sum zero groups (omega arith) in omega arith
carried_sum (suc n) (g ∷ groups) h = let rest = carried_sum n groups (omega arith) in omega arith

length-carried : (n : ℕ) (groups : List ℕ) → length (carried n groups) ≡ length groups
unfolding carried
length-carried n [] = refl
length-carried zero (g ∷ groups) = ap suc (length-carried zero groups)
length-carried (suc n) (g ∷ groups) = ap suc (length-carried n groups)

carried_below : (n : ℕ) (groups : List ℕ) → AllBelow 128 groups → (i : ℕ) → get_or (carried n groups) i 0 < 256
unfolding carried
carried_below n [] small i = omega arith
carried_below zero (g ∷ groups) small zero = omega (arith, small.0)
carried_below zero (g ∷ groups) small (suc i) = carried_below zero groups small.1 i
carried_below (suc n) (g ∷ groups) small zero = omega (arith, small.0)
carried_below (suc n) (g ∷ groups) small (suc i) = carried_below n groups small.1 i

-- the bytes of a word
pub bytes_of : (bytes : List ℕ) (word : ℕ) → length bytes ≡ 8 → ((i : ℕ) → get_or bytes i 0 < 256) → word ≡ number_l 256 bytes → to_le_bytes w64 word ≡ bytes
bytes_of bytes word long small is = le_bytes_8 bytes word long small (is ∙ sym (word_of bytes long))

number_small : (bytes : List ℕ) → ((i : ℕ) → get_or bytes i 0 < 256) → number_l 256 bytes < 2 ^ (8 * length bytes)
number_small [] small = pow_pos 0
number_small (b ∷ bytes) small =
    let rest = number_small bytes (λ i. small (suc i)) in
    let e : 8 * suc (length bytes) ≡ 8 + 8 * length bytes = omega arith in
    let wide : 2 ^ (8 * suc (length bytes)) ≡ 256 * 2 ^ (8 * length bytes) = ap (λ k. 2 ^ k) e ∙ pow-add 2 8 (8 * length bytes) in
    omega (arith, rest, wide, small 0)

-- ---- the bytes of a short number

carried_shortest : (last fuel k v : ℕ) → last < fuel → last < k → v < 2 ^ (7 * suc last) → (0 < last → 2 ^ (7 * last) ≤ v) → take (suc last) (carried last (digits_l 128 k v)) ≡ shortest_in fuel v
unfolding carried
carried_shortest last zero k v few room below above = absurd (omega arith)
carried_shortest last (suc fuel) zero v few room below above = absurd (omega arith)
carried_shortest zero (suc fuel) (suc k) v few room below above =
    let same : v % 128 ≡ v = omega arith in
    ap (λ n. n ∷ []) same ∙ sym (shortest_last fuel v (omega arith))
carried_shortest (suc last) (suc fuel) (suc k) v few room below above =
    let floor = above (omega arith) in
    let one : 1 ≤ 2 ^ (7 * last) = pow_pos (7 * last) in
    let large : 128 ≤ v = omega (arith, wider last) in
    ap (λ bytes. (v % 128 + 128) ∷ bytes) (carried_shortest last fuel k (v / 128) (omega arith) (omega arith) (omega (arith, wider (suc last))) (λ _. omega (arith, wider last)))
    ∙ sym (shortest_more fuel v large)

-- ---- a word laid into the cells

front_of : (a b c : List ℕ) (n m : ℕ) → m ≡ length a + n → n ≤ length b → take m (a ++ b ++ c) ≡ a ++ take n b
front_of [] b c n m is h = ap (λ k. take k (b ++ c)) (omega arith) ∙ take-append-le n b c h
front_of (x ∷ a) b c n zero is h = absurd (omega arith)
front_of (x ∷ a) b c n (suc m) is h = ap (λ xs. x ∷ xs) (front_of a b c n m (omega arith) h)

pub laid_in : (old new bytes rest : List ℕ) (to n m : ℕ) → new ≡ take to old ++ bytes ++ rest → to ≤ length old → m ≡ to + n → n ≤ length bytes → take m new ≡ take to old ++ take n bytes
laid_in old new bytes rest to n m is within place few =
    ap (take m) is ∙ front_of (take to old) bytes rest n m (omega (arith, length-take to old)) few

-- what is laid of a short number
pub record Short (v word : ℕ) : Type 0 where
  pub fits : word < 2 ^ 64
  pub few : length (shortest v) ≤ 8
  pub long : length (to_le_bytes w64 word) ≡ 8
  pub laid : take (length (shortest v)) (to_le_bytes w64 word) ≡ shortest v

pub short_word : (v last spread : ℕ) → last < 8 → Sized v last → ((groups : List ℕ) → AreGroups groups → v ≡ number_l 128 groups → spread ≡ number_l 256 groups) → Short v (spread + number_l 256 (replicate (length (shortest v) - 1) 128))
unfolding shortest
short_word v last spread few sized spreads =
    let groups = digits_l 128 8 v in
    let size = sized.size in
    let long : length groups ≡ 8 = length-digits 8 v in
    let bound : 2 ^ (7 * suc last) ≤ 2 ^ 56 = let most : 7 * suc last ≤ 56 = omega arith in pow_mono most in
    let value : v ≡ number_l 128 groups = omega (arith, digits_number 8 v, bound, sized.below) in
    let is : spread ≡ number_l 256 groups = spreads groups (digits_are_groups v) value in
    let marks : length (shortest v) - 1 ≡ last = omega (arith, size) in
    let bytes = carried last groups in
    let word : spread + number_l 256 (replicate (length (shortest v) - 1) 128) ≡ number_l 256 bytes = ap (λ n. spread + number_l 256 (replicate n 128)) marks ∙ omega (arith, is, carried_sum last groups (omega (arith, long))) in
    let long_bytes : length bytes ≡ 8 = length-carried last groups ∙ long in
    let below = carried_below last groups (digits_below 8 v) in
    let same = bytes_of bytes _ long_bytes below word in
    let fits = number_small bytes below in
    record {
      fits = omega (arith, word, ap (λ k. 2 ^ (8 * k)) long_bytes, fits);
      few = omega (arith, size);
      long = ap length same ∙ long_bytes;
      laid = ap (take (length (shortest v))) same ∙ ap (λ k. take k bytes) size ∙ carried_shortest last 10 8 v (omega arith) few sized.below sized.above;
    }

-- ---- numbers of nine and ten bytes

more : ℕ → ℕ → ℕ
more zero fuel = fuel
more (suc k) fuel = suc (more k fuel)

all_carried_shortest : (k fuel v : ℕ) → 2 ^ (7 * k) ≤ v → shortest_in (more k fuel) v ≡ carried k (digits_l 128 k v) ++ shortest_in fuel (v / 2 ^ (7 * k))
unfolding carried more
all_carried_shortest zero fuel v large = ap (shortest_in fuel) (omega arith)
all_carried_shortest (suc k) fuel v large =
    let one : 1 ≤ 2 ^ (7 * k) = pow_pos (7 * k) in
    let wide = wider k in
    let many : 128 ≤ v = omega (arith, wide) in
    let e : 7 + 7 * k ≡ 7 * suc k = omega arith in
    shortest_more (more k fuel) v many
    ∙ ap (λ bytes. (v % 128 + 128) ∷ bytes) (all_carried_shortest k fuel (v / 128) (omega (arith, wide))
    ∙ ap (λ n. carried k (digits_l 128 k (v / 128)) ++ shortest_in fuel n) (shr-shr v 7 (7 * k) ∙ ap (λ n. v / 2 ^ n) e))

two_shortest : (top : ℕ) → 1 ≤ top → top < 256 → shortest_in 2 top ≡ take (1 + top / 128) (top ∷ 1 ∷ [])
two_shortest top some small =
    elim (large_or_small 128 top) as (λ _. shortest_in 2 top ≡ take (1 + top / 128) (top ∷ 1 ∷ [])) [
      | inl large ↦
          let one : top / 128 ≡ 1 = omega arith in
          let low : top % 128 + 128 ≡ top = omega arith in
          shortest_more 1 top large ∙ rw (low, one) (ap (λ bytes. top ∷ bytes) (shortest_last 0 1 (omega arith)))
      | inr below ↦
          let none : top / 128 ≡ 0 = omega arith in
          shortest_last 1 top below ∙ rw none refl
    ]

pub record LongWord (v word : ℕ) : Type 0 where
  pub fits : word < 2 ^ 64
  pub long : length (to_le_bytes w64 word) ≡ 8
  pub laid : to_le_bytes w64 word ++ take (1 + v / 72057594037927936 / 128) (v / 72057594037927936 ∷ 1 ∷ []) ≡ shortest v
  pub size : length (shortest v) ≡ 9 + v / 72057594037927936 / 128

pub long_word : (v spread : ℕ) → v < 2 ^ 64 → 2 ^ 56 ≤ v → ((groups : List ℕ) → AreGroups groups → v % 72057594037927936 ≡ number_l 128 groups → spread ≡ number_l 256 groups)
    → LongWord v (spread + 9259542123273814144)
unfolding shortest more
long_word v spread fits large spreads =
    let groups = digits_l 128 8 v in
    let top = v / 72057594037927936 in
    let long : length groups ≡ 8 = length-digits 8 v in
    let is : spread ≡ number_l 256 groups = spreads groups (digits_are_groups v) (sym (digits_number 8 v)) in
    let marks : number_l 256 (replicate 8 128) ≡ 9259542123273814144 = refl in
    let bytes = carried 8 groups in
    let word : spread + 9259542123273814144 ≡ number_l 256 bytes = omega (arith, is, marks, carried_sum 8 groups (omega (arith, long))) in
    let long_bytes : length bytes ≡ 8 = length-carried 8 groups ∙ long in
    let below = carried_below 8 groups (digits_below 8 v) in
    let same = bytes_of bytes _ long_bytes below word in
    let small = number_small bytes below in
    let whole : shortest_in 10 v ≡ bytes ++ take (1 + top / 128) (top ∷ 1 ∷ []) = all_carried_shortest 8 2 v large ∙ ap (λ xs. bytes ++ xs) (two_shortest top (omega arith) (omega arith)) in
    let few : top / 128 ≤ 1 = omega arith in
    record {
      fits = omega (arith, word, ap (λ k. 2 ^ (8 * k)) long_bytes, small);
      long = ap length same ∙ long_bytes;
      laid = ap (λ xs. xs ++ take (1 + top / 128) (top ∷ 1 ∷ [])) same ∙ sym whole;
      size = ap length whole ∙ length-append bytes (take (1 + top / 128) (top ∷ 1 ∷ [])) ∙ omega (arith, long_bytes, length-take (1 + top / 128) (top ∷ 1 ∷ []), few);
    }

-- what two writes leave
pub laid_twice : (old mid new bytes two rest last : List ℕ) (to n m : ℕ) → mid ≡ take to old ++ bytes ++ rest → length bytes ≡ 8 → new ≡ take (to + 8) mid ++ two ++ last → to + 8 ≤ length mid → to ≤ length old
    → m ≡ to + 8 + n → n ≤ length two → take m new ≡ take to old ++ (bytes ++ take n two)
laid_twice old mid new bytes two rest last to n m first long second room within place few =
    laid_in mid new two last (to + 8) n m second room place few
    ∙ ap (λ xs. xs ++ take n two) (laid_in old mid bytes rest to 8 (to + 8) first within refl (omega (arith, long)) ∙ ap (λ xs. take to old ++ xs) (take_all 8 bytes (omega (arith, long))))
    ∙ append_assoc (take to old) bytes (take n two)
