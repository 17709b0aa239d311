-- What is found at the front of some bytes is the varint that they begin with.
use Rattle.std.proofs.Common.{◌≡◌, ℕ, zero, suc, ◌-◌, ◌%◌, ◌^◌, ◌<◌, ◌≤◌, inl, inr, List, [], ◌∷◌, length, take, get_or, Ok, Err, arith, sym, ◌∙◌, subst}
use Rattle.std.specs.Prelude.{Result, IfOk, IsErrOf}
use Rattle.varint_zigzag.specs.declared.fault.VarFault.{VarFault}
use Rattle.varint_zigzag.specs.declared.fault.VarFault.TheVariants.{Short, Bad}
use Rattle.varint_zigzag.specs.Varint.{varint_at, below, Spells, CanBecome, BeginsNone}
use Rattle.varint_zigzag.specs.Bounds.{large_or_small, at_bad, at_last, at_more}
use Rattle.varint_zigzag.proofs.Groups.{last_group, more_groups, none_in_no_bytes, short_at_end, short_behind, too_large, bad_behind}

-- what an answer says of the bytes
abbrev pub Means : ℕ → ℕ → List ℕ → Result (ℕ × ℕ) VarFault → Type 0
Means most width bytes (Ok x) = (x.1 ≤ length bytes) × Spells most width (take x.1 bytes) x.0
Means most width bytes (Err Short) = CanBecome most width bytes
Means most width bytes (Err Bad) = BeginsNone most width bytes

-- a group behind the first one is one of one group fewer
fewer : (most : ℕ) → most ≡ suc most - 1
fewer most = omega arith

behind : (most width b : ℕ) (bs : List ℕ) (found : Result (ℕ × ℕ) VarFault) → b < 256 → 128 ≤ b → b % 128 < 2 ^ width → Means most (width - 7) bs found → Means (suc most) width (b ∷ bs) (below (b % 128) found)
behind most width b bs (Ok x) byte more fits m = (omega (arith, m.0), more_groups (suc most) width b x.1 x.0 bs (omega arith) more byte fits (subst (λ k. Spells k (width - 7) (take x.1 bs) x.0) (fewer most) m.1))
behind most width b bs (Err Short) byte more fits m = short_behind (suc most) width b bs (omega arith) more byte fits (subst (λ k. CanBecome k (width - 7) bs) (fewer most) m)
behind most width b bs (Err Bad) byte more fits m = bad_behind (suc most) width b bs more (subst (λ k. BeginsNone k (width - 7) bs) (fewer most) m)

pub meant : (most width : ℕ) (bytes : List ℕ) → ((k : ℕ) → get_or bytes k 0 < 256) → Means most width bytes (varint_at most width bytes)
meant zero width bytes small = none_in_no_bytes width bytes
meant (suc most) width [] small = short_at_end (suc most) width (omega arith)
meant (suc most) width (b ∷ bs) small =
    let M : Result (ℕ × ℕ) VarFault → Type 0 = λ r. Means (suc most) width (b ∷ bs) r in
    elim (large_or_small (2 ^ width) (b % 128)) as (λ _. M (varint_at (suc most) width (b ∷ bs))) [
      | inl large ↦ subst M (sym (at_bad most width b bs large)) (too_large (suc most) width b bs large)
      | inr fits ↦ elim (large_or_small 128 b) as (λ _. M (varint_at (suc most) width (b ∷ bs))) [
        | inl more ↦ subst M (sym (at_more most width b bs fits more)) (behind most width b bs (varint_at most (width - 7) bs) (small 0) more fits (meant most (width - 7) bs (λ k. small (suc k))))
        | inr last ↦
            let same : b % 128 ≡ b = omega arith in
            subst M (sym (at_last most width b bs fits last)) (omega arith, last_group (suc most) width b bs (omega arith) last (rw same at fits))
      ]
    ]

-- ---- each of the three answers, however it was come by

pub found_of : (most width : ℕ) (bytes : List ℕ) (found : Result (ℕ × ℕ) VarFault) → ((k : ℕ) → get_or bytes k 0 < 256) → found ≡ varint_at most width bytes → IfOk found (λ x. Spells most width (take x.1 bytes) x.0)
found_of most width bytes (Ok x) small e = (subst (Means most width bytes) (sym e) (meant most width bytes small)).1
found_of most width bytes (Err fault) small e = tt

pub short_of : (most width : ℕ) (bytes : List ℕ) (found : Result (ℕ × ℕ) VarFault) → ((k : ℕ) → get_or bytes k 0 < 256) → found ≡ varint_at most width bytes → IsErrOf found Short → CanBecome most width bytes
short_of most width bytes found small e is = subst (Means most width bytes) (sym e ∙ is) (meant most width bytes small)

pub bad_of : (most width : ℕ) (bytes : List ℕ) (found : Result (ℕ × ℕ) VarFault) → ((k : ℕ) → get_or bytes k 0 < 256) → found ≡ varint_at most width bytes → IsErrOf found Bad → BeginsNone most width bytes
bad_of most width bytes found small e is = subst (Means most width bytes) (sym e ∙ is) (meant most width bytes small)
