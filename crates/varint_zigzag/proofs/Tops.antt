-- How many bytes a number has whose highest bit is known, and the tables of it.
use Rattle.std.proofs.Common.{◌≡◌, ℕ, zero, suc, ◌+◌, ◌-◌, ◌*◌, ◌/◌, ◌%◌, ◌^◌, ◌<◌, ◌≤◌, inl, inr, Bool, true, ◌&&◌, T, eqb, eqb→eq, length, slice_index_or, replicate, bit_or, arith, refl, sym, ap, ◌∙◌, eq-zero-or-pos}
use Rattle.std.proofs.lemmas.Nat.{pow-add, pow_pos, or_block}
use Rattle.std.specs.Int.Bits.{or_zero_r}
use Rattle.std.proofs.Math.Pow.{pow_mono}
use Rattle.std.specs.Simd.Lanes.{number_l}
use lib.Ieee.Fits.{and_l, and_r}
use Rattle.varint_zigzag.specs.declared.cells.TheConstants.{COUNTS, MARKS}
use Rattle.varint_zigzag.specs.Varint.{shortest_in, shortest}
use Rattle.varint_zigzag.specs.Bounds.{large_or_small, shortest_last, shortest_more}
use Rattle.varint_zigzag.specs.Places.{HasTop}

-- ---- the highest bit

odd : (v : ℕ) → bit_or v 1 ≡ v / 2 * 2 + 1
odd v =
    let parts : v / 2 * 2 + v % 2 ≡ v = omega arith in
    ap (λ n. bit_or n 1) (sym parts) ∙ or_block 1 (v / 2) 0 (v % 2) 1 (omega arith) (omega arith) ∙ rest (v % 2) (omega arith) (v / 2)
  where
    rest : (r : ℕ) → r < 2 → (q : ℕ) → bit_or q 0 * 2 + bit_or r 1 ≡ q * 2 + 1
    rest zero h q = rw or_zero_r refl
    rest (suc zero) h q = rw or_zero_r refl
    rest (suc (suc r)) h q = absurd (omega arith)

below_power : (j k n : ℕ) → 2 ^ j ≤ n → n < 2 ^ k → j < k
below_power j k n low high =
    elim (large_or_small k j) as (λ _. j < k) [
      | inl large ↦ let more : 2 ^ k ≤ 2 ^ j = pow_mono large in absurd (omega arith)
      | inr small ↦ small
    ]

half_power : (k v : ℕ) → 0 < k → 2 ^ k ≤ v / 2 * 2 + 1 → 2 ^ k ≤ v
half_power zero v some h = absurd (omega arith)
half_power (suc k) v some h = let twice : 2 ^ suc k ≡ 2 * 2 ^ k = omega arith in omega (arith, twice)

pub has_top : (v top : ℕ) → 2 ^ top ≤ bit_or v 1 → bit_or v 1 < 2 * 2 ^ top → HasTop v top
has_top v top low high =
    let twice : 2 ^ suc top ≡ 2 * 2 ^ top = omega arith in
    record {
      below = omega (arith, odd v, twice);
      above = λ more. half_power top v more (omega (arith, odd v));
    }

pub some_bit : (v : ℕ) → 0 < bit_or v 1
some_bit v = omega (arith, odd v)

pub top_few : (v top : ℕ) → v < 2 ^ 56 → 2 ^ top ≤ bit_or v 1 → top < 56
top_few v top small low = below_power top 56 (bit_or v 1) low (omega (arith, odd v))

-- ---- seven bits a byte

pub wider : (k : ℕ) → 2 ^ (7 * suc k) ≡ 128 * 2 ^ (7 * k)
wider k = let e : 7 * suc k ≡ 7 + 7 * k = omega arith in ap (λ n. 2 ^ n) e ∙ pow-add 2 7 (7 * k)

size_in : (last fuel v : ℕ) → last < fuel → v < 2 ^ (7 * suc last) → (0 < last → 2 ^ (7 * last) ≤ v) → length (shortest_in fuel v) ≡ suc last
size_in last zero v few below above = absurd (omega arith)
size_in zero (suc fuel) v few below above = ap length (shortest_last fuel v (omega arith))
size_in (suc last) (suc fuel) v few below above =
    let floor = above (omega arith) in
    let one : 1 ≤ 2 ^ (7 * last) = pow_pos (7 * last) in
    let large : 128 ≤ v = omega (arith, wider last) in
    ap length (shortest_more fuel v large) ∙ ap suc (size_in last fuel (v / 128) (omega arith) (omega (arith, wider (suc last))) (λ _. omega (arith, wider last)))

-- a number of so many bytes besides the last
pub record Sized (v last : ℕ) : Type 0 where
  pub below : v < 2 ^ (7 * suc last)
  pub above : 0 < last → 2 ^ (7 * last) ≤ v
  pub size : length (shortest v) ≡ suc last

pub sized : (v top : ℕ) → top < 56 → HasTop v top → Sized v (top / 7)
unfolding shortest
sized v top few has =
    let last = top / 7 in
    let within : suc top ≤ 7 * suc last = omega arith in
    let over : 7 * last ≤ top = omega arith in
    let wide : 2 ^ suc top ≤ 2 ^ (7 * suc last) = pow_mono within in
    let less : 2 ^ (7 * last) ≤ 2 ^ top = pow_mono over in
    let below : v < 2 ^ (7 * suc last) = omega (arith, wide, has.below) in
    let above : 0 < last → 2 ^ (7 * last) ≤ v = λ more. omega (arith, less, has.above (omega arith)) in
    record { below = below; above = above; size = size_in last 10 v (omega arith) below above }

-- ---- the tables

abbrev is_right : ℕ → Bool
is_right t = eqb (slice_index_or COUNTS t 0) (suc (t / 7)) && eqb (slice_index_or MARKS t 0) (number_l 256 (replicate (t / 7) 128))

abbrev are_right : ℕ → Bool
are_right zero = true
are_right (suc t) = is_right t && are_right t

both_right : (t : ℕ) → T (is_right t) → (slice_index_or COUNTS t 0 ≡ suc (t / 7)) × (slice_index_or MARKS t 0 ≡ number_l 256 (replicate (t / 7) 128))
both_right t right = (eqb→eq _ _ (and_l _ _ right), eqb→eq _ _ (and_r _ _ right))

right_below : (n t : ℕ) → T (are_right n) → t < n → (slice_index_or COUNTS t 0 ≡ suc (t / 7)) × (slice_index_or MARKS t 0 ≡ number_l 256 (replicate (t / 7) 128))
right_below zero t all h = absurd (omega arith)
right_below (suc n) t all h =
    elim (eq-zero-or-pos (n - t)) [
      | inl z ↦ let e : t ≡ n = omega arith in rw e (both_right n (and_l _ (are_right n) all))
      | inr g ↦ right_below n t (and_r _ (are_right n) all) (omega arith)
    ]

pub count_of : (top v : ℕ) → top < 56 → HasTop v top → slice_index_or COUNTS top 0 ≡ length (shortest v)
count_of top v few has = (right_below 56 top tt few).0 ∙ sym (sized v top few has).size

pub marks_of : (top v : ℕ) → top < 56 → HasTop v top → slice_index_or MARKS top 0 ≡ number_l 256 (replicate (length (shortest v) - 1) 128)
marks_of top v few has =
    let last : top / 7 ≡ length (shortest v) - 1 = omega (arith, (sized v top few has).size) in
    (right_below 56 top tt few).1 ∙ ap (λ n. number_l 256 (replicate n 128)) last
