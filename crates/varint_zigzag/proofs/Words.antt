-- Numbers as lists of lanes, the lowest first, and what the masks of the code take from them.
use Rattle.std.proofs.Common.{◌≡◌, ℕ, ◌+◌, ◌-◌, ◌*◌, ◌/◌, ◌^◌, ◌<◌, List, [], ◌∷◌, map, length, replicate, bit_and, arith, refl, sym, ap, ◌∙◌}
use Rattle.std.proofs.lemmas.Nat.{and_block, and_mask}
use Rattle.std.proofs.lemmas.Nat.Bits.{and_high}
use Rattle.std.specs.Simd.Lanes.{number_l}
use Rattle.varint_zigzag.specs.Places.{AllBelow, AreGroups}

turned : (k a r : ℕ) → r + 2 ^ k * a ≡ a * 2 ^ k + r
turned k a r = omega arith

-- one mask in each lane
pub lanes_and : (k m : ℕ) (xs : List ℕ) → m < 2 ^ k → AllBelow (2 ^ k) xs → bit_and (number_l (2 ^ k) xs) (number_l (2 ^ k) (replicate (length xs) m)) ≡ number_l (2 ^ k) (map (λ x. bit_and x m) xs)
lanes_and k m [] small below = refl
lanes_and k m (x ∷ xs) small below =
    let rest = number_l (2 ^ k) xs in
    let masks = number_l (2 ^ k) (replicate (length xs) m) in
    ap (λ n. bit_and n (m + 2 ^ k * masks)) (turned k rest x) ∙ ap (bit_and (rest * 2 ^ k + x)) (turned k masks m)
    ∙ and_block k rest masks x m below.0 small
    ∙ ap (λ n. n * 2 ^ k + bit_and x m) (lanes_and k m xs small below.1)
    ∙ sym (turned k (number_l (2 ^ k) (map (λ y. bit_and y m) xs)) (bit_and x m))

-- ---- two groups of seven bits in sixteen, then two of fourteen in 32, then two of 28 in 64

high_of_16 : (x y : ℕ) → x < 128 → y < 128 → bit_and (x + 256 * y) 32512 ≡ 256 * y
high_of_16 x y hx hy = omega (arith, and_high (x + 256 * y) 7 8)

high_of_32 : (x y : ℕ) → x < 16384 → y < 16384 → bit_and (x + 65536 * y) 1073676288 ≡ 65536 * y
high_of_32 x y hx hy = omega (arith, and_high (x + 65536 * y) 14 16)

low_of_64 : (x y : ℕ) → x < 268435456 → bit_and (x + 4294967296 * y) 268435455 ≡ x
low_of_64 x y hx = omega (arith, and_mask (x + 4294967296 * y) 28)

high_of_64 : (x y : ℕ) → x < 268435456 → y < 268435456 → bit_and (x + 4294967296 * y) 1152921500311879680 ≡ 4294967296 * y
high_of_64 x y hx hy = omega (arith, and_high (x + 4294967296 * y) 28 32)

pairs_high : (a b c d e f g h : ℕ) → a < 128 → b < 128 → c < 128 → d < 128 → e < 128 → f < 128 → g < 128 → h < 128
    → bit_and (number_l 65536 ((a + 256 * b) ∷ (c + 256 * d) ∷ (e + 256 * f) ∷ (g + 256 * h) ∷ [])) 9151454082924314368 ≡ number_l 65536 (256 * b ∷ 256 * d ∷ 256 * f ∷ 256 * h ∷ [])
pairs_high a b c d e f g h ha hb hc hd he hf hg hh =
    lanes_and 16 32512 ((a + 256 * b) ∷ (c + 256 * d) ∷ (e + 256 * f) ∷ (g + 256 * h) ∷ []) (omega arith) (omega arith, (omega arith, (omega arith, (omega arith, tt))))
    ∙ rw (high_of_16 a b ha hb, high_of_16 c d hc hd, high_of_16 e f he hf, high_of_16 g h hg hh) refl

fours_high : (a b c d : ℕ) → a < 16384 → b < 16384 → c < 16384 → d < 16384
    → bit_and (number_l 4294967296 ((a + 65536 * b) ∷ (c + 65536 * d) ∷ [])) 4611404544524353536 ≡ number_l 4294967296 (65536 * b ∷ 65536 * d ∷ [])
fours_high a b c d ha hb hc hd =
    lanes_and 32 1073676288 ((a + 65536 * b) ∷ (c + 65536 * d) ∷ []) (omega arith) (omega arith, (omega arith, tt))
    ∙ rw (high_of_32 a b ha hb, high_of_32 c d hc hd) refl

-- a fold takes from the word what its high groups are worth less: one half, three quarters, and the last by two masks
abbrev pub fold_pairs : ℕ → ℕ
fold_pairs word = word - bit_and word 9151454082924314368 / 2

abbrev pub fold_fours : ℕ → ℕ
fold_fours word = word - 3 * (bit_and word 4611404544524353536 / 4)

abbrev pub fold_last : ℕ → ℕ
fold_last word = bit_and word 268435455 + bit_and word 1152921500311879680 / 16

pairs_fold : (word a b c d e f g h : ℕ) → a < 128 → b < 128 → c < 128 → d < 128 → e < 128 → f < 128 → g < 128 → h < 128 → word ≡ number_l 256 (a ∷ b ∷ c ∷ d ∷ e ∷ f ∷ g ∷ h ∷ [])
    → fold_pairs word ≡ number_l 65536 ((a + 128 * b) ∷ (c + 128 * d) ∷ (e + 128 * f) ∷ (g + 128 * h) ∷ [])
pairs_fold word a b c d e f g h ha hb hc hd he hf hg hh is =
    let lanes : word ≡ number_l 65536 ((a + 256 * b) ∷ (c + 256 * d) ∷ (e + 256 * f) ∷ (g + 256 * h) ∷ []) = omega arith in
    let high = pairs_high a b c d e f g h ha hb hc hd he hf hg hh in
    rw (lanes, high) (omega arith)

fours_fold : (word a b c d : ℕ) → a < 16384 → b < 16384 → c < 16384 → d < 16384 → word ≡ number_l 65536 (a ∷ b ∷ c ∷ d ∷ [])
    → fold_fours word ≡ number_l 4294967296 ((a + 16384 * b) ∷ (c + 16384 * d) ∷ [])
fours_fold word a b c d ha hb hc hd is =
    let lanes : word ≡ number_l 4294967296 ((a + 65536 * b) ∷ (c + 65536 * d) ∷ []) = omega arith in
    let high = fours_high a b c d ha hb hc hd in
    rw (lanes, high) (omega arith)

last_fold : (word a b : ℕ) → a < 268435456 → b < 268435456 → word ≡ number_l 4294967296 (a ∷ b ∷ [])
    → fold_last word ≡ a + 268435456 * b
last_fold word a b ha hb is =
    let lanes : word ≡ a + 4294967296 * b = omega arith in
    let low = low_of_64 a b ha in
    let high = high_of_64 a b ha hb in
    rw (lanes, low, high) (omega arith)

eight_gathered : (word a b c d e f g h : ℕ) → a < 128 → b < 128 → c < 128 → d < 128 → e < 128 → f < 128 → g < 128 → h < 128 → word ≡ number_l 256 (a ∷ b ∷ c ∷ d ∷ e ∷ f ∷ g ∷ h ∷ [])
    → fold_last (fold_fours (fold_pairs word)) ≡ number_l 128 (a ∷ b ∷ c ∷ d ∷ e ∷ f ∷ g ∷ h ∷ [])
eight_gathered word a b c d e f g h ha hb hc hd he hf hg hh is =
    let pairs = pairs_fold word a b c d e f g h ha hb hc hd he hf hg hh is in
    let fours = fours_fold _ (a + 128 * b) (c + 128 * d) (e + 128 * f) (g + 128 * h) (omega arith) (omega arith) (omega arith) (omega arith) pairs in
    last_fold _ (a + 128 * b + 16384 * (c + 128 * d)) (e + 128 * f + 16384 * (g + 128 * h)) (omega arith) (omega arith) fours ∙ omega arith

pub gathered_groups : (groups : List ℕ) → AreGroups groups → (word : ℕ) → word ≡ number_l 256 groups
    → fold_last (fold_fours (fold_pairs word)) ≡ number_l 128 groups
gathered_groups [] are word is = absurd (omega (arith, are.eight))
gathered_groups (a ∷ []) are word is = absurd (omega (arith, are.eight))
gathered_groups (a ∷ b ∷ []) are word is = absurd (omega (arith, are.eight))
gathered_groups (a ∷ b ∷ c ∷ []) are word is = absurd (omega (arith, are.eight))
gathered_groups (a ∷ b ∷ c ∷ d ∷ []) are word is = absurd (omega (arith, are.eight))
gathered_groups (a ∷ b ∷ c ∷ d ∷ e ∷ []) are word is = absurd (omega (arith, are.eight))
gathered_groups (a ∷ b ∷ c ∷ d ∷ e ∷ f ∷ []) are word is = absurd (omega (arith, are.eight))
gathered_groups (a ∷ b ∷ c ∷ d ∷ e ∷ f ∷ g ∷ []) are word is = absurd (omega (arith, are.eight))
gathered_groups (a ∷ b ∷ c ∷ d ∷ e ∷ f ∷ g ∷ h ∷ []) are word is =
    let s = are.small in
    eight_gathered word a b c d e f g h s.0 s.1.0 s.1.1.0 s.1.1.1.0 s.1.1.1.1.0 s.1.1.1.1.1.0 s.1.1.1.1.1.1.0 s.1.1.1.1.1.1.1.0 is
gathered_groups (a ∷ b ∷ c ∷ d ∷ e ∷ f ∷ g ∷ h ∷ i ∷ rest) are word is = absurd (omega (arith, are.eight))
