-- How many bytes a number takes, and how large it is.
use Rattle.std.proofs.Common.{◌≡◌, ℕ, zero, suc, ◌+◌, ◌-◌, ◌*◌, ◌/◌, ◌%◌, ◌^◌, ◌<◌, ◌≤◌, ◌⊎◌, inl, inr, List, [], ◌∷◌, length, Ok, Err, arith, sym, ◌∙◌, ap, subst}
use Rattle.std.specs.Prelude.{⊤, Result}
use Rattle.std.proofs.lemmas.Nat.{pow-add}
use Rattle.std.proofs.lemmas.Bool.Decides.{nat_tests}
use Rattle.varint_zigzag.specs.declared.fault.VarFault.{VarFault}
use Rattle.varint_zigzag.specs.declared.fault.VarFault.TheVariants.{Bad}
use Rattle.varint_zigzag.specs.Varint.{varint_at, below, shortest_in, shortest}

-- a number of so many bits takes one byte or more of so many
abbrev pub Found : ℕ → ℕ → Result (ℕ × ℕ) VarFault → Type 0
Found width size (Ok x) = (1 ≤ x.1) × (x.1 ≤ size) × (x.0 < 2 ^ width)
Found width size (Err fault) = ⊤

wide_part : (w : ℕ) → 7 ≤ w → 2 ^ w ≡ 128 * 2 ^ (w - 7)
wide_part w h = let e : w ≡ 7 + (w - 7) = omega arith in ap (λ k. 2 ^ k) e ∙ pow-add 2 7 (w - 7)

narrow_part : (w : ℕ) → w < 7 → 2 ^ (w - 7) ≡ 1
narrow_part w h = let e : w - 7 ≡ 0 = omega arith in ap (λ k. 2 ^ k) e

both_parts : (w low high : ℕ) → low < 128 → low < 2 ^ w → high < 2 ^ (w - 7) → low + 128 * high < 2 ^ w
both_parts w low high small fits h = grind (arith, wide_part w, narrow_part w)

found_below : (width low size : ℕ) (found : Result (ℕ × ℕ) VarFault) → low < 128 → low < 2 ^ width → Found (width - 7) size found → Found width (suc size) (below low found)
found_below width low size (Ok x) small fits h = (omega arith, omega (arith, h.1), both_parts width low x.0 small fits h.2)
found_below width low size (Err fault) small fits h = tt

pub large_or_small : (a b : ℕ) → (a ≤ b) ⊎ (b < a)
large_or_small a b = grind arith

pub at_bad : (most width b : ℕ) (bs : List ℕ) → 2 ^ width ≤ b % 128 → varint_at (suc most) width (b ∷ bs) ≡ Err Bad
at_bad most width b bs h = grind (arith, nat_tests)

pub at_last : (most width b : ℕ) (bs : List ℕ) → b % 128 < 2 ^ width → b < 128 → varint_at (suc most) width (b ∷ bs) ≡ Ok (b, 1)
at_last most width b bs h last = grind (arith, nat_tests)

pub at_more : (most width b : ℕ) (bs : List ℕ) → b % 128 < 2 ^ width → 128 ≤ b → varint_at (suc most) width (b ∷ bs) ≡ below (b % 128) (varint_at most (width - 7) bs)
at_more most width b bs h more = grind (arith, nat_tests)

pub varint_found : (most width : ℕ) (bytes : List ℕ) → Found width (length bytes) (varint_at most width bytes)
varint_found zero width bytes = tt
varint_found (suc most) width [] = tt
varint_found (suc most) width (b ∷ bs) =
    let M : Result (ℕ × ℕ) VarFault → Type 0 = λ r. Found width (suc (length bs)) r in
    elim (large_or_small (2 ^ width) (b % 128)) as (λ _. M (varint_at (suc most) width (b ∷ bs))) [
      | inl large ↦ subst M (sym (at_bad most width b bs large)) tt
      | inr fits ↦ elim (large_or_small 128 b) as (λ _. M (varint_at (suc most) width (b ∷ bs))) [
        | inl more ↦ subst M (sym (at_more most width b bs fits more)) (found_below width (b % 128) (length bs) (varint_at most (width - 7) bs) (omega arith) fits (varint_found most (width - 7) bs))
        | inr last ↦
            let same : b % 128 ≡ b = omega arith in
            subst M (sym (at_last most width b bs fits last)) (omega arith, omega arith, rw same at fits)
      ]
    ]

pub shortest_last : (fuel n : ℕ) → n < 128 → shortest_in (suc fuel) n ≡ n ∷ []
shortest_last fuel n h = grind (arith, nat_tests)

pub shortest_more : (fuel n : ℕ) → 128 ≤ n → shortest_in (suc fuel) n ≡ (n % 128 + 128) ∷ shortest_in fuel (n / 128)
shortest_more fuel n h = grind (arith, nat_tests)

in_most : (fuel groups n : ℕ) → n < 128 ^ suc groups → length (shortest_in fuel n) ≤ suc groups
in_most zero groups n h = omega arith
in_most (suc fuel) groups n h =
    elim (large_or_small 128 n) as (λ _. length (shortest_in (suc fuel) n) ≤ suc groups) [
      | inl large ↦ rw (shortest_more fuel n large) (elim groups as (λ k. n < 128 ^ suc k → suc (length (shortest_in fuel (n / 128))) ≤ suc k) [
        | zero ↦ λ h. absurd (omega arith)
        | suc k ↦ λ h. let small : n / 128 < 128 ^ suc k = omega arith in omega (arith, in_most fuel k (n / 128) small)
      ] h)
      | inr small ↦ rw (shortest_last fuel n small) (omega arith)
    ]

-- seven bits a byte
pub shortest_most : (groups n : ℕ) → n < 128 ^ suc groups → length (shortest n) ≤ suc groups
unfolding shortest
shortest_most groups n h = in_most 10 groups n h

in_fuel : (fuel n : ℕ) → length (shortest_in fuel n) ≤ fuel
in_fuel zero n = omega arith
in_fuel (suc fuel) n =
    elim (large_or_small 128 n) as (λ _. length (shortest_in (suc fuel) n) ≤ suc fuel) [
      | inl large ↦ rw (shortest_more fuel n large) (omega (arith, in_fuel fuel (n / 128)))
      | inr small ↦ rw (shortest_last fuel n small) (omega arith)
    ]

pub shortest_ten : (n : ℕ) → length (shortest n) ≤ 10
unfolding shortest
shortest_ten n = in_fuel 10 n
