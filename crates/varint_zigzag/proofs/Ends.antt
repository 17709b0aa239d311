-- A word with the high bit of each byte that ends a number, and where its lowest bit stands.
use Rattle.std.proofs.Common.{◌≡◌, ℕ, zero, suc, ◌+◌, ◌-◌, ◌*◌, ◌/◌, ◌%◌, ◌^◌, ◌<◌, ◌≤◌, Bool, true, false, not, cond, nat_lt, List, [], ◌∷◌, map, length, replicate, bit_and, arith, refl, sym, ap, subst, ◌∙◌, add-zero}
use Rattle.std.specs.List.{prefix_len}
use Rattle.std.proofs.lemmas.Bool.Decides.{nat_tests}
use Rattle.std.proofs.lemmas.Nat.Bits.{and_high}
use Rattle.std.proofs.Math.Nat.{pow-succ', mul_assoc}
use Rattle.std.specs.Simd.Lanes.{number_l}
use lib.Count.{count_trailing_zeros, under}
use Rattle.varint_zigzag.specs.Places.{is_last, end_mark, AllBelow}
use Rattle.varint_zigzag.proofs.Words.{lanes_and}

-- ---- the word, from the high bits of the bytes

high_of : (b : ℕ) → b < 256 → bit_and b 128 + end_mark b ≡ 128
high_of b small = split (nat_lt b 128) refl
  where
    split : (t : Bool) → nat_lt b 128 ≡ t → bit_and b 128 + cond t 128 0 ≡ 128
    split true e = let last : b < 128 = grind (arith, nat_tests, e) in omega (arith, and_high b 1 7)
    split false e = let more : 128 ≤ b = grind (arith, nat_tests, e) in omega (arith, and_high b 1 7)

highs_of : (bytes : List ℕ) → AllBelow 256 bytes → number_l 256 (map (λ b. bit_and b 128) bytes) + number_l 256 (map end_mark bytes) ≡ number_l 256 (replicate (length bytes) 128)
highs_of [] small = refl
highs_of (b ∷ bytes) small = omega (arith, high_of b small.0, highs_of bytes small.1)

-- the high bits without those of the word are the marks
pub marks_of : (bytes : List ℕ) (word : ℕ) → length bytes ≡ 8 → AllBelow 256 bytes → word ≡ number_l 256 bytes
    → 9259542123273814144 - bit_and word 9259542123273814144 ≡ number_l 256 (map end_mark bytes)
marks_of bytes word long small is =
    let masked : bit_and (number_l 256 bytes) 9259542123273814144 ≡ number_l 256 (map (λ b. bit_and b 128) bytes) =
    subst (λ n. bit_and (number_l 256 bytes) (number_l 256 (replicate n 128)) ≡ number_l 256 (map (λ b. bit_and b 128) bytes)) long (lanes_and 8 128 bytes (omega arith) small) in
    let all : number_l 256 (replicate (length bytes) 128) ≡ 9259542123273814144 = ap (λ n. number_l 256 (replicate n 128)) long in
    let own : bit_and word 9259542123273814144 ≡ number_l 256 (map (λ b. bit_and b 128) bytes) = ap (λ n. bit_and n 9259542123273814144) is ∙ masked in
    omega (arith, own, highs_of bytes small, all)

-- ---- its lowest bit

zeros_of_even : (k n : ℕ) → count_trailing_zeros (suc k) (2 * n) ≡ suc (count_trailing_zeros k n)
unfolding count_trailing_zeros
zeros_of_even k n =
    let even : 2 * n % 2 ≡ 0 = omega arith in
    let half : 2 * n / 2 ≡ n = omega arith in
    λ i. under (even i) (count_trailing_zeros k (half i))

zeros_of_odd : (k n : ℕ) → count_trailing_zeros (suc k) (1 + 2 * n) ≡ 0
unfolding count_trailing_zeros
zeros_of_odd k n =
    let odd : (1 + 2 * n) % 2 ≡ 1 = omega arith in
    ap (λ r. under r (count_trailing_zeros k ((1 + 2 * n) / 2))) odd

-- each power of two is a zero more
zeros_below : (m k width word n : ℕ) → width ≡ k + m → word ≡ 2 ^ m * n → count_trailing_zeros width word ≡ count_trailing_zeros k n + m
zeros_below zero k width word n wide is =
    let own : width ≡ k = omega arith in
    let same : word ≡ n = omega arith in
    (λ i. count_trailing_zeros (own i) (same i)) ∙ sym (add-zero (count_trailing_zeros k n))
zeros_below (suc m) k width word n wide is =
    let own : width ≡ suc (k + m) = omega arith in
    let twice : word ≡ 2 * (2 ^ m * n) = is ∙ ap (λ p. p * n) (pow-succ' 2 m) ∙ mul_assoc 2 (2 ^ m) n in
    (λ i. count_trailing_zeros (own i) (twice i)) ∙ zeros_of_even (k + m) (2 ^ m * n) ∙ omega (arith, zeros_below m k (k + m) (2 ^ m * n) n refl refl)

-- the first byte of a word: its mark is the lowest bit, or all its bits are zeros
zeros_of_lane : (k rest before : ℕ) → (0 < rest → count_trailing_zeros (8 * k) rest ≡ 8 * before + 7) → (t : Bool) → 0 < cond t 128 0 + 256 * rest
    → count_trailing_zeros (8 * suc k) (cond t 128 0 + 256 * rest) ≡ 8 * cond (not t) (1 + before) 0 + 7
zeros_of_lane k rest before behind true some = zeros_below 7 (suc (8 * k)) _ _ (1 + 2 * rest) (omega arith) (omega arith) ∙ ap (λ n. n + 7) (zeros_of_odd (8 * k) rest)
zeros_of_lane k rest before behind false some = zeros_below 8 (8 * k) _ _ rest (omega arith) (omega arith) ∙ omega (arith, behind (omega arith))

zeros_of_marks : (k : ℕ) (bytes : List ℕ) → length bytes ≤ k → 0 < number_l 256 (map end_mark bytes)
    → count_trailing_zeros (8 * k) (number_l 256 (map end_mark bytes)) ≡ 8 * prefix_len (λ b. not (is_last b)) bytes + 7
zeros_of_marks k [] few some = absurd (omega arith)
zeros_of_marks zero (b ∷ bytes) few some = absurd (omega arith)
zeros_of_marks (suc k) (b ∷ bytes) few some =
    zeros_of_lane k (number_l 256 (map end_mark bytes)) (prefix_len (λ b. not (is_last b)) bytes) (zeros_of_marks k bytes (omega arith)) (is_last b) some

-- how many bytes stand before the first that ends a number
pub lowest_mark : (bytes : List ℕ) → length bytes ≤ 8 → 0 < number_l 256 (map end_mark bytes)
    → count_trailing_zeros 64 (number_l 256 (map end_mark bytes)) / 8 ≡ prefix_len (λ b. not (is_last b)) bytes
lowest_mark bytes few some = omega (arith, zeros_of_marks 8 bytes few some)
