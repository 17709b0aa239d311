-- The slots of open sessions.
use Rattle.std.specs.Prelude.{◌≡◌, ◌⊎◌, ℕ, ◌+◌, ◌<◌, ◌≤◌, List, [], ◌∷◌, ◌++◌, length, Option, Some, option_map}
use Rattle.std.specs.List.{slice_get, remove}
use Rattle.std.proofs.Math.ListN.{set}
use Rattle.std.specs.Vec.{vec_capacity}
use Rattle.gate_hub.specs.Meaning.{Meaning, Link}
use Rattle.gate_hub.specs.declared.hub.Side.{Side}
use Rattle.stream_messages.specs.declared.scan.Wire.{Wire}
use Rattle.stream_messages.specs.declared.lane.Lane.{Lane}
use Rattle.stream_messages.specs.declared.lanes.Lanes.{Lanes}
use Rattle.stream_messages.specs.declared.lanes.Wrapping.{Wrapping}
use Rattle.stream_messages.specs.declared.slots.Slot.{Slot}
use Rattle.stream_messages.specs.declared.slots.Slots.{Slots}
use Rattle.stream_messages.specs.Lanes.{new_lane}
use Rattle.stream_messages.specs.Sessions.{LanesGo}

-- the numbers rise
abbrev pub IsRising : List Slot → Type 0
IsRising slots = (i j : ℕ) (d e : Slot) → i < j → slice_get slots i ≡ Some d → slice_get slots j ≡ Some e → d.number < e.number

-- the session with this number has a slot, at this place
pub record IsAt (slots : List Slot) (k at : ℕ) (slot : Slot) : Type 0 where
  pub is : slice_get slots at ≡ Some slot
  pub number : slot.number ≡ k

-- no slot is that of the session with this number
abbrev pub HasNone : List Slot → ℕ → Type 0
HasNone slots k = (at : ℕ) (slot : Slot) → IsAt slots k at slot → ⊥

-- a side to which nothing has happened
abbrev pub fresh_side : Option Wire → ℕ → Option Lane
fresh_side wire limit = option_map (λ w. new_lane w limit) wire

abbrev pub fresh_lanes : Wrapping → Lanes
fresh_lanes w = record { client = fresh_side w.client w.limit; upstream = fresh_side w.upstream w.limit }

-- the same side as if nothing had happened to it
abbrev pub restarted_side : Option Lane → Option Lane
restarted_side lane = option_map (λ (l : Lane). new_lane l.framer.wire l.framer.limit) lane

abbrev pub restarted : Lanes → Lanes
restarted lanes = record { client = restarted_side lanes.client; upstream = restarted_side lanes.upstream }

-- the free slots are for sides as these, and each list has room for all slots
pub record AreReady (w : Wrapping) (slots : Slots) : Type 0 where
  pub spare : (i : ℕ) (lanes : _) → slice_get slots.spare.items i ≡ Some lanes → restarted lanes.value ≡ fresh_lanes w
  pub open_room : length slots.open.items + length slots.spare.items ≤ vec_capacity slots.open
  pub spare_room : length slots.open.items + length slots.spare.items ≤ vec_capacity slots.spare

-- so many free slots
pub record AllSpare (w : Wrapping) (count : ℕ) (slots : Slots) : Type 0 where
  pub none_open : slots.open.items ≡ []
  pub free : length slots.spare.items ≡ count
  pub ready : AreReady w slots

-- the session got a free slot
pub record GotSlot (w : Wrapping) (k : ℕ) (a b : Slots) : Type 0 where
  pub slot : Slot
  pub number : slot.number ≡ k
  pub fresh : slot.lanes.value ≡ fresh_lanes w
  pub in_use : b.open.items ≡ a.open.items ++ slot ∷ []
  pub spare : length b.spare.items + 1 ≡ length a.spare.items

-- it got one, or none was free
abbrev pub Admits : Wrapping → ℕ → Slots → Slots → Type 0
Admits w k a b = GotSlot w k a b ⊎ ((length a.spare.items ≡ 0) × (b.open.items ≡ a.open.items) × (length b.spare.items ≡ 0))

-- the session gave its slot back
pub record GaveBack (k : ℕ) (a b : Slots) : Type 0 where
  pub at : ℕ
  pub slot : Slot
  pub was : IsAt a.open.items k at slot
  pub in_use : b.open.items ≡ remove a.open.items at
  pub count : length b.open.items + length b.spare.items ≡ length a.open.items + length a.spare.items
  pub ready : (w : Wrapping) → restarted slot.lanes.value ≡ fresh_lanes w → AreReady w a → AreReady w b

-- it gave one back, or had none
abbrev pub Releases : ℕ → Slots → Slots → Type 0
Releases k a b = GaveBack k a b ⊎ ((IsRising a.open.items → HasNone a.open.items k) × (b ≡ a))

-- a call on a side of the session, which has a slot
pub record GoesInSlot (old new : Meaning → Type 0) (k : ℕ) (side : Side) (Step : Link → Link → Type 0) (a b : Slots) : Type 0 where
  pub at : ℕ
  pub slot : Slot
  pub slot_after : Slot
  pub was : IsAt a.open.items k at slot
  pub number : slot_after.number ≡ k
  pub in_use : b.open.items ≡ set a.open.items at slot_after
  pub spare_left : length b.spare.items ≡ length a.spare.items
  pub ready : (w : Wrapping) → AreReady w a → AreReady w b
  pub goes : LanesGo old new slot.lanes.value slot_after.lanes.value k side Step
