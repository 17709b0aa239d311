-- Slots that are given and taken back.
use Rattle.std.proofs.Common.{◌≡◌, ◌⊎◌, inl, inr, ℕ, zero, suc, ◌+◌, ◌<◌, List, [], ◌∷◌, ◌++◌, length, get_or, Option, None, Some, refl, sym, ap, ◌∙◌, subst, arith}
use Rattle.std.specs.List.{slice_get, remove}
use Rattle.std.proofs.lemmas.Option.{slice_get_read}
use Rattle.stream_messages.specs.declared.scan.Wire.{Wire}
use Rattle.stream_messages.specs.declared.lane.Lane.{Lane}
use Rattle.stream_messages.specs.declared.lanes.Wrapping.{Wrapping}
use Rattle.stream_messages.specs.declared.slots.Slot.{Slot}
use Rattle.stream_messages.specs.Slots.{fresh_side, fresh_lanes, restarted_side, restarted, IsAt}
use Rattle.stream_messages.proofs.Places.{some_same, behind_cases}

pub length_removed : {X : Type 0} → (xs : List X) (at : ℕ) → at < length xs → length (remove xs at) + 1 ≡ length xs
length_removed [] at h = absurd (omega (arith, h))
length_removed (x ∷ xs) zero h = omega arith
length_removed (x ∷ xs) (suc at) h = omega (arith, length_removed xs at (omega (arith, h)))

restarted_fresh_side : (wire : Option Wire) (limit : ℕ) → restarted_side (fresh_side wire limit) ≡ fresh_side wire limit
restarted_fresh_side None limit = refl
restarted_fresh_side (Some wire) limit = refl

pub restarted_fresh : (w : Wrapping) → restarted (fresh_lanes w) ≡ fresh_lanes w
restarted_fresh w =
    ap (λ (c : Option Lane). record { client = c; upstream = restarted_side (fresh_side w.upstream w.limit) }) (restarted_fresh_side w.client w.limit)
    ∙ ap (λ (u : Option Lane). record { client = fresh_side w.client w.limit; upstream = u }) (restarted_fresh_side w.upstream w.limit)

-- a slot that was found is the one that is read there
pub is_read : (slots : List Slot) (number at : ℕ) (slot found : Slot) → at < length slots → slot ≡ get_or slots at slot → IsAt slots number at found → IsAt slots number at slot
is_read slots number at slot found within read is =
    let got : slice_get slots at ≡ Some slot = slice_get_read slots (length slots) at slot refl within read in
    record { is = got; number = ap (λ (s : Slot). s.number) (some_same (slice_get slots at) slot found got is.is) ∙ is.number }

-- what holds of each of some and of one more
pub one_more_of : {X : Type 0} → (P : X → Type 0) (xs : List X) (x : X) → ((i : ℕ) (y : X) → slice_get xs i ≡ Some y → P y) → P x → (i : ℕ) (y : X) → slice_get (xs ++ x ∷ []) i ≡ Some y → P y
one_more_of P xs x each here i y is = by (behind_cases xs x y i is)
  where
    by : ((i ≡ length xs) × (y ≡ x)) ⊎ (slice_get xs i ≡ Some y) → P y
    by (inl e) = subst P (sym e.1) here
    by (inr e) = each i y e
