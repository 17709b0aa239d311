use Rattle.std.proofs.Common.{◌≡◌, ◌≤◌, ◌-◌, ℕ, length, Some}
use Rattle.std.specs.List.{slice_get}
use Rattle.std.specs.Vec.{vec_capacity}
use Rattle.stream_messages.specs.Slots.{fresh_lanes, restarted}
use Rattle.stream_messages.proofs.slots.Slots.open.Given as goal

abbrev pub invariant-loop-alloc : goal.invariant-loop-alloc
invariant-loop-alloc l = record {
  within : length l.spare.items ≤ l.count;
  capacity : vec_capacity l.spare ≡ l.count;
  each : (i : ℕ) (x : _) → slice_get l.spare.items i ≡ Some x → restarted x.value ≡ fresh_lanes l.wrapping;
}

abbrev pub decreases-loop-alloc : goal.decreases-loop-alloc
decreases-loop-alloc l = l.count - length l.spare.items
