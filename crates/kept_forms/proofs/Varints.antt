-- A varint whose last byte isn't 0, or that has one byte, has the fewest bytes of its number.
use Rattle.std.proofs.Common.{◌≡◌, ℕ, pos, negsuc, zero, suc, ◌+◌, ◌-◌, ◌*◌, ◌/◌, ◌%◌, ◌^◌, ◌<◌, ◌≤◌, inl, inr, Bool, true, false, cond, List, [], ◌∷◌, take, get_or, Ok, Err, refl, sym, ap, subst, ◌∙◌, arith}
use Rattle.std.specs.Prelude.{Result, ◌==◌}
use Rattle.std.proofs.lemmas.Bool.Decides.{nat_tests}
use Rattle.varint_zigzag.specs.declared.fault.VarFault.{VarFault}
use Rattle.varint_zigzag.specs.Bounds.{at_bad, at_last, at_more, large_or_small, shortest_last, shortest_more}
use Rattle.varint_zigzag.specs.Varint.{varint_at, below, shortest_in, shortest}
use Rattle.varint_zigzag.specs.Zigzag.{folded, unfolded}
use Rattle.kept_forms.proofs.Fronts.{Small}

-- the last of so many bytes isn't 0, or it is alone
abbrev pub Tight : List ℕ → ℕ → Type 0
Tight bytes count = 1 < count → 0 < get_or bytes (count - 1) 0

-- a number that was found so has the fewest bytes, and is 0 only by a byte 0
abbrev Fewest : ℕ → List ℕ → Result (ℕ × ℕ) VarFault → Type 0
Fewest fuel bytes (Ok x) = (1 ≤ x.1) × (Tight bytes x.1 → take x.1 bytes ≡ shortest_in fuel x.0) × (0 < get_or bytes (x.1 - 1) 0 → 0 < x.0)
Fewest fuel bytes (Err f) = Unit {0}

few_more : (fuel b : ℕ) (bytes : List ℕ) (found : Result (ℕ × ℕ) VarFault) → 128 ≤ b → b < 256 → Fewest fuel bytes found → Fewest (suc fuel) (b ∷ bytes) (below (b % 128) found)
few_more fuel b bytes (Err f) more byte few = tt
few_more fuel b bytes (Ok (number, zero)) more byte few = absurd (omega (arith, few.0))
few_more fuel b bytes (Ok (number, suc count)) more byte few = (omega arith, is, λ last. let high = some (behind last) in omega (arith, high))
  where
    whole : ℕ
    whole = b % 128 + 128 * number

    behind : 0 < get_or (b ∷ bytes) (suc count + 1 - 1) 0 → 0 < get_or bytes count 0
    behind last = let place : suc count + 1 - 1 ≡ suc count = omega arith in subst (λ n. 0 < get_or (b ∷ bytes) n 0) place last

    above : 0 < get_or bytes count 0 → 0 < get_or bytes (suc count - 1) 0
    above last = let place : count ≡ suc count - 1 = omega arith in subst (λ n. 0 < get_or bytes n 0) place last

    some : 0 < get_or bytes count 0 → 0 < number
    some last = few.2 (above last)

    is : Tight (b ∷ bytes) (suc count + 1) → take (suc count + 1) (b ∷ bytes) ≡ shortest_in (suc fuel) whole
    is tight =
        let last = behind (tight (omega arith)) in
        let high = some last in
        let rest : take (suc count) bytes ≡ shortest_in fuel number = few.1 (λ _. above last) in
        let first : whole % 128 + 128 ≡ b = omega (arith, more, byte) in
        let up : whole / 128 ≡ number = omega arith in
        let size : suc count + 1 ≡ suc (suc count) = omega arith in
        ap (λ n. take n (b ∷ bytes)) size
        ∙ ap (λ xs. b ∷ xs) rest
        ∙ ap (λ n. b ∷ shortest_in fuel n) (sym up)
        ∙ ap (λ n. n ∷ shortest_in fuel (whole / 128)) (sym first)
        ∙ sym (shortest_more fuel whole (omega (arith, high)))

few_found : (most fuel width : ℕ) (bytes : List ℕ) → most ≤ fuel → Small bytes → Fewest fuel bytes (varint_at most width bytes)
few_found zero fuel width bytes room small = tt
few_found (suc most) fuel width [] room small = tt
few_found (suc most) zero width (b ∷ bytes) room small = absurd (omega arith)
few_found (suc most) (suc fuel) width (b ∷ bytes) room small =
    let P : Result (ℕ × ℕ) VarFault → Type 0 = Fewest (suc fuel) (b ∷ bytes) in
    elim (large_or_small (2 ^ width) (b % 128)) as (λ _. P (varint_at (suc most) width (b ∷ bytes))) [
      | inl large ↦ subst P (sym (at_bad most width b bytes large)) tt
      | inr fits ↦ elim (large_or_small 128 b) as (λ _. P (varint_at (suc most) width (b ∷ bytes))) [
        | inl more ↦ subst P (sym (at_more most width b bytes fits more)) (few_more fuel b bytes (varint_at most (width - 7) bytes) more (omega (arith, small 0)) (few_found most fuel (width - 7) bytes (omega arith) (λ k. small (suc k))))
        | inr last ↦ subst P (sym (at_last most width b bytes fits last)) (omega arith, (λ _. sym (shortest_last fuel b last)), λ some. some)
      ]
    ]

pub fewest : (most width number count : ℕ) (bytes : List ℕ) → most ≤ 10 → Small bytes → varint_at most width bytes ≡ Ok (number, count) → Tight bytes count → take count bytes ≡ shortest number
unfolding shortest
fewest most width number count bytes room small found tight =
    let few : Fewest 10 bytes (Ok (number, count)) = subst (Fewest 10 bytes) found (few_found most 10 width bytes room small) in
    few.1 tight

pub folded_again : (number : ℕ) → folded (unfolded number) ≡ number
folded_again number = by_half (number % 2 == 0) refl
  where
    by_half : (even : Bool) → (number % 2 == 0) ≡ even → folded (cond even (pos (number / 2)) (negsuc (number / 2))) ≡ number
    by_half true e = grind (arith, nat_tests, e)
    by_half false e = grind (arith, nat_tests, e)
