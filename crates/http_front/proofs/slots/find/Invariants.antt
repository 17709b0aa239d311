use Rattle.std.proofs.Common.{◌≡◌, ℕ, ◌-◌, ◌<◌, ◌≤◌, length, Some}
use Rattle.std.specs.List.{slice_get}
use Rattle.http_front.specs.declared.slots.Slot.{Slot}
use Rattle.http_front.specs.Slots.{IsRising}
use Rattle.http_front.proofs.slots.find.Given as goal

-- a number that is looked for stands neither below nor above
abbrev pub invariant-halves : goal.invariant-halves
invariant-halves l = record {
  order : l.low ≤ l.high;
  within : l.high ≤ length l.slots;
  below : IsRising l.slots → (i : ℕ) (e : Slot) → i < l.low → slice_get l.slots i ≡ Some e → e.number < l.number;
  above : IsRising l.slots → (i : ℕ) (e : Slot) → l.high ≤ i → slice_get l.slots i ≡ Some e → l.number < e.number;
}

abbrev pub decreases-halves : goal.decreases-halves
decreases-halves l = l.high - l.low
