use Rattle.std.proofs.Common.{◌≡◌, ℕ, ◌-◌, ◌<◌, ◌≤◌, length, Some}
use Rattle.std.specs.List.{slice_get}
use Rattle.stream_messages.specs.declared.slots.Slot.{Slot}
use Rattle.stream_messages.specs.Slots.{IsRising}
use Rattle.stream_messages.proofs.slots.find.Given as goal

-- a number that is looked for stands neither below nor above
abbrev pub invariant-loop-low : goal.invariant-loop-low
invariant-loop-low l = record {
  order : l.low ≤ l.high;
  within : l.high ≤ length l.slots;
  below : IsRising l.slots → (i : ℕ) (e : Slot) → i < l.low → slice_get l.slots i ≡ Some e → e.number < l.number;
  above : IsRising l.slots → (i : ℕ) (e : Slot) → l.high ≤ i → slice_get l.slots i ≡ Some e → l.number < e.number;
}

abbrev pub decreases-loop-low : goal.decreases-loop-low
decreases-loop-low l = l.high - l.low
