-- Sixteen digits told from each other in the lanes of vectors.
use Rattle.std.proofs.Common.{◌≡◌, ℕ, zero, suc, ◌+◌, ◌-◌, ◌*◌, ◌/◌, ◌%◌, ◌^◌, ◌<◌, List, [], ◌∷◌, ◌++◌, length, map, replicate, refl, sym, ap, ap₂, ◌∙◌, arith, append-nil, append_assoc}
use lib.Lanes.{zip2, Each1, number_l, digits_l}
use Rattle.json_text.specs.Digits.{last_digits, parted}
use Rattle.json_text.proofs.LaidDigits.{joined}

abbrev twice : ℕ → ℕ
twice zero = zero
twice (suc n) = suc (suc (twice n))

map_each : (f g : ℕ → ℕ) (P : ℕ → Type 0) → ((x : ℕ) → P x → f x ≡ g x) → (xs : List ℕ) → Each1 P xs → map f xs ≡ map g xs
map_each f g P same [] each = refl
map_each f g P same (x ∷ xs) each = ap₂ (λ a b. a ∷ b) (same x each.0) (map_each f g P same xs each.1)

-- ---- lanes of another width, by way of bytes

abbrev by_fours : ℕ → ℕ
by_fours zero = zero
by_fours (suc n) = suc (suc (suc (suc (by_fours n))))

lanes_of_16 : (n m : ℕ) → digits_l 65536 n (number_l 256 (digits_l 256 (twice n) m)) ≡ digits_l 65536 n m
lanes_of_16 zero m = refl
lanes_of_16 (suc n) m =
    let rest = number_l 256 (digits_l 256 (twice n) (m / 256 / 256)) in
    let first : (m % 256 + 256 * (m / 256 % 256 + 256 * rest)) % 65536 ≡ m % 65536 = omega arith in
    let others : (m % 256 + 256 * (m / 256 % 256 + 256 * rest)) / 65536 ≡ rest = omega arith in
    let behind : m / 256 / 256 ≡ m / 65536 = omega arith in
    ap₂ (λ a b. a ∷ b) first (ap (digits_l 65536 n) others ∙ lanes_of_16 n (m / 256 / 256) ∙ ap (digits_l 65536 n) behind)

lanes_of_32 : (n m : ℕ) → digits_l 4294967296 n (number_l 256 (digits_l 256 (by_fours n) m)) ≡ digits_l 4294967296 n m
lanes_of_32 zero m = refl
lanes_of_32 (suc n) m =
    let last = m / 256 / 256 / 256 / 256 in
    let rest = number_l 256 (digits_l 256 (by_fours n) last) in
    let whole = m % 256 + 256 * (m / 256 % 256 + 256 * (m / 256 / 256 % 256 + 256 * (m / 256 / 256 / 256 % 256 + 256 * rest))) in
    let first : whole % 4294967296 ≡ m % 4294967296 = omega arith in
    let others : whole / 4294967296 ≡ rest = omega arith in
    let behind : last ≡ m / 4294967296 = omega arith in
    ap₂ (λ a b. a ∷ b) first (ap (digits_l 4294967296 n) others ∙ lanes_of_32 n last ∙ ap (digits_l 4294967296 n) behind)

-- ---- quotients and remainders side by side

spread_fours : (xs : List ℕ) → Each1 (λ x. x < 100000000) xs
    → digits_l 4294967296 (twice (length xs)) (number_l 18446744073709551616 (map (λ x. x / 10000 + x % 10000 * 4294967296) xs)) ≡ parted 10000 xs
unfolding parted
spread_fours [] each = refl
spread_fours (x ∷ xs) each =
    let small = each.0 in
    let rest = number_l 18446744073709551616 (map (λ x. x / 10000 + x % 10000 * 4294967296) xs) in
    let whole = x / 10000 + x % 10000 * 4294967296 + 18446744073709551616 * rest in
    let first : whole % 4294967296 ≡ x / 10000 = omega arith in
    let second : whole / 4294967296 % 4294967296 ≡ x % 10000 = omega arith in
    let others : whole / 4294967296 / 4294967296 ≡ rest = omega arith in
    ap₂ (λ a b. a ∷ b) first (ap₂ (λ a b. a ∷ b) second (ap (digits_l 4294967296 (twice (length xs))) others ∙ spread_fours xs each.1))

spread_pairs : (xs : List ℕ) → Each1 (λ x. x < 10000) xs
    → digits_l 65536 (twice (length xs)) (number_l 4294967296 (map (λ x. x / 100 + x % 100 * 65536) xs)) ≡ parted 100 xs
unfolding parted
spread_pairs [] each = refl
spread_pairs (x ∷ xs) each =
    let small = each.0 in
    let rest = number_l 4294967296 (map (λ x. x / 100 + x % 100 * 65536) xs) in
    let whole = x / 100 + x % 100 * 65536 + 4294967296 * rest in
    let first : whole % 65536 ≡ x / 100 = omega arith in
    let second : whole / 65536 % 65536 ≡ x % 100 = omega arith in
    let others : whole / 65536 / 65536 ≡ rest = omega arith in
    ap₂ (λ a b. a ∷ b) first (ap₂ (λ a b. a ∷ b) second (ap (digits_l 65536 (twice (length xs))) others ∙ spread_pairs xs each.1))

spread_digits : (xs : List ℕ) → Each1 (λ x. x < 100) xs
    → zip2 (λ a b. (a + b) % 256) (digits_l 256 (twice (length xs)) (number_l 65536 (map (λ x. x / 10 + x % 10 * 256) xs))) (replicate (twice (length xs)) 48) ≡ map (λ n. 48 + n) (parted 10 xs)
unfolding parted
spread_digits [] each = refl
spread_digits (x ∷ xs) each =
    let small = each.0 in
    let rest = number_l 65536 (map (λ x. x / 10 + x % 10 * 256) xs) in
    let whole = x / 10 + x % 10 * 256 + 65536 * rest in
    let first : (whole % 256 + 48) % 256 ≡ 48 + x / 10 = omega arith in
    let second : (whole / 256 % 256 + 48) % 256 ≡ 48 + x % 10 = omega arith in
    let others : whole / 256 / 256 ≡ rest = omega arith in
    ap₂ (λ a b. a ∷ b) first (ap₂ (λ a b. a ∷ b) second (ap (λ m. zip2 (λ a b. (a + b) % 256) (digits_l 256 (twice (length xs)) m) (replicate (twice (length xs)) 48)) others ∙ spread_digits xs each.1))

-- ---- the operators, lane by lane

abbrev pub half_32 : ℕ → ℕ
half_32 x = ((x + (18446744073709551616 - x * 3518437209 % 18446744073709551616 / 35184372088832 * 10000 % 18446744073709551616)) % 18446744073709551616 * 4294967296 % 18446744073709551616 + x * 3518437209 % 18446744073709551616 / 35184372088832) % 18446744073709551616

abbrev pub half_16 : ℕ → ℕ
half_16 x = (x * 65536 % 4294967296 + (4294967296 - x * 5243 % 4294967296 / 524288 * 6553599 % 4294967296)) % 4294967296

abbrev pub half_8 : ℕ → ℕ
half_8 x = (x * 256 % 65536 + (65536 - x * 103 % 65536 / 1024 * 2559 % 65536)) % 65536

half_32_is : (x : ℕ) → x < 100000000 → half_32 x ≡ x / 10000 + x % 10000 * 4294967296
half_32_is x small =
    let quotient : x * 3518437209 % 18446744073709551616 / 35184372088832 ≡ x / 10000 = omega arith in
    rw quotient (omega arith)

half_16_is : (x : ℕ) → x < 10000 → half_16 x ≡ x / 100 + x % 100 * 65536
half_16_is x small =
    let quotient : x * 5243 % 4294967296 / 524288 ≡ x / 100 = omega arith in
    rw quotient (omega arith)

half_8_is : (x : ℕ) → x < 100 → half_8 x ≡ x / 10 + x % 10 * 256
half_8_is x small =
    let quotient : x * 103 % 65536 / 1024 ≡ x / 10 = omega arith in
    rw quotient (omega arith)

-- ---- the steps

pub fours_are : (a b : ℕ) → a < 100000000 → b < 100000000
    → digits_l 4294967296 4 (number_l 256 (digits_l 256 16 (number_l 18446744073709551616 (half_32 a ∷ half_32 b ∷ [])))) ≡ parted 10000 (a ∷ b ∷ [])
fours_are a b first second =
    lanes_of_32 4 (number_l 18446744073709551616 (half_32 a ∷ half_32 b ∷ []))
    ∙ ap (λ xs. digits_l 4294967296 4 (number_l 18446744073709551616 xs)) (map_each half_32 (λ x. x / 10000 + x % 10000 * 4294967296) (λ x. x < 100000000) half_32_is (a ∷ b ∷ []) (first, (second, tt)))
    ∙ spread_fours (a ∷ b ∷ []) (first, (second, tt))

pub pairs_are : (v : List ℕ) → length v ≡ 4 → Each1 (λ x. x < 10000) v
    → digits_l 65536 8 (number_l 256 (digits_l 256 16 (number_l 4294967296
    (zip2 (λ a b. (a + (4294967296 - b)) % 4294967296) (zip2 (λ a b. a * 2 ^ b % 4294967296) v (replicate 4 16))
    (zip2 (λ a b. a * b % 4294967296) (zip2 (λ a b. a / 2 ^ b) (zip2 (λ a b. a * b % 4294967296) v (replicate 4 5243)) (replicate 4 19)) (replicate 4 6553599))))))
    ≡ parted 100 v
pairs_are [] long each = absurd (omega arith)
pairs_are (a ∷ []) long each = absurd (omega arith)
pairs_are (a ∷ b ∷ []) long each = absurd (omega arith)
pairs_are (a ∷ b ∷ c ∷ []) long each = absurd (omega arith)
pairs_are (a ∷ b ∷ c ∷ d ∷ e ∷ v) long each = absurd (omega arith)
pairs_are (a ∷ b ∷ c ∷ d ∷ []) long each =
    let v = a ∷ b ∷ c ∷ d ∷ [] in
    lanes_of_16 8 (number_l 4294967296 (map half_16 v))
    ∙ ap (λ xs. digits_l 65536 8 (number_l 4294967296 xs)) (map_each half_16 (λ x. x / 100 + x % 100 * 65536) (λ x. x < 10000) half_16_is v each)
    ∙ spread_pairs v each

pub digits_are : (v : List ℕ) → length v ≡ 8 → Each1 (λ x. x < 100) v
    → zip2 (λ a b. (a + b) % 256) (digits_l 256 16 (number_l 65536
    (zip2 (λ a b. (a + (65536 - b)) % 65536) (zip2 (λ a b. a * 2 ^ b % 65536) v (replicate 8 8))
    (zip2 (λ a b. a * b % 65536) (zip2 (λ a b. a / 2 ^ b) (zip2 (λ a b. a * b % 65536) v (replicate 8 103)) (replicate 8 10)) (replicate 8 2559))))) (replicate 16 48)
    ≡ map (λ n. 48 + n) (parted 10 v)
digits_are [] long each = absurd (omega arith)
digits_are (a ∷ []) long each = absurd (omega arith)
digits_are (a ∷ b ∷ []) long each = absurd (omega arith)
digits_are (a ∷ b ∷ c ∷ []) long each = absurd (omega arith)
digits_are (a ∷ b ∷ c ∷ d ∷ []) long each = absurd (omega arith)
digits_are (a ∷ b ∷ c ∷ d ∷ e ∷ []) long each = absurd (omega arith)
digits_are (a ∷ b ∷ c ∷ d ∷ e ∷ f ∷ []) long each = absurd (omega arith)
digits_are (a ∷ b ∷ c ∷ d ∷ e ∷ f ∷ g ∷ []) long each = absurd (omega arith)
digits_are (a ∷ b ∷ c ∷ d ∷ e ∷ f ∷ g ∷ h ∷ i ∷ v) long each = absurd (omega arith)
digits_are (a ∷ b ∷ c ∷ d ∷ e ∷ f ∷ g ∷ h ∷ []) long each =
    let v = a ∷ b ∷ c ∷ d ∷ e ∷ f ∷ g ∷ h ∷ [] in
    ap (λ xs. zip2 (λ a b. (a + b) % 256) (digits_l 256 16 (number_l 65536 xs)) (replicate 16 48)) (map_each half_8 (λ x. x / 10 + x % 10 * 256) (λ x. x < 100) half_8_is v each)
    ∙ spread_digits v each

-- ---- what each step asks

pub fours_below : (value : ℕ) → value < 10000000000000000 → Each1 (λ x. x < 10000) (parted 10000 (parted 100000000 (value ∷ [])))
unfolding parted
fours_below value few = (omega arith, (omega arith, (omega arith, (omega arith, tt))))

pub pairs_below : (xs : List ℕ) → Each1 (λ x. x < 10000) xs → Each1 (λ x. x < 100) (parted 100 xs)
unfolding parted
pairs_below [] each = tt
pairs_below (x ∷ xs) each = let small = each.0 in (omega arith, (omega arith, pairs_below xs each.1))

digits_below : (xs : List ℕ) → Each1 (λ x. x < 100) xs → Each1 (λ x. x < 10) (parted 10 xs)
unfolding parted
digits_below [] each = tt
digits_below (x ∷ xs) each = let small = each.0 in (omega arith, (omega arith, digits_below xs each.1))

-- ---- the last digits of each number, one number behind the other

abbrev each_last : ℕ → List ℕ → List ℕ
each_last k [] = []
each_last k (x ∷ xs) = last_digits k x ++ each_last k xs

halved : (b : ℕ) → 0 < 10 ^ b → (xs : List ℕ) → each_last (b + b) xs ≡ each_last b (parted (10 ^ b) xs)
unfolding parted
halved b some [] = refl
halved b some (x ∷ xs) =
    let whole : x / 10 ^ b * 10 ^ b + x % 10 ^ b ≡ x = omega arith in
    ap₂ (λ a c. a ++ c) (ap (last_digits (b + b)) (sym whole) ∙ joined b b (x / 10 ^ b) (x % 10 ^ b) (omega arith)) (halved b some xs)
    ∙ append_assoc (last_digits b (x / 10 ^ b)) (last_digits b (x % 10 ^ b)) (each_last b (parted (10 ^ b) xs))

singles : (xs : List ℕ) → Each1 (λ x. x < 10) xs → each_last 1 xs ≡ map (λ n. 48 + n) xs
unfolding last_digits
singles [] each = refl
singles (x ∷ xs) each =
    let small = each.0 in
    let digit : 48 + x % 10 ≡ 48 + x = omega arith in
    ap₂ (λ a b. a ∷ b) digit (singles xs each.1)

pub sixteen : (value : ℕ) → value < 10000000000000000 → map (λ n. 48 + n) (parted 10 (parted 100 (parted 10000 (parted 100000000 (value ∷ []))))) ≡ last_digits 16 value
sixteen value few =
    let pairs = parted 100 (parted 10000 (parted 100000000 (value ∷ []))) in
    let small = digits_below pairs (pairs_below (parted 10000 (parted 100000000 (value ∷ []))) (fours_below value few)) in
    sym (
    sym (append-nil (last_digits 16 value))
    ∙ halved 8 (omega arith) (value ∷ [])
    ∙ halved 4 (omega arith) (parted 100000000 (value ∷ []))
    ∙ halved 2 (omega arith) (parted 10000 (parted 100000000 (value ∷ [])))
    ∙ halved 1 (omega arith) pairs
    ∙ singles (parted 10 pairs) small)
