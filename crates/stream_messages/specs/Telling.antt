-- What the hub over another one tells, over a meaning that the hub below tells.
use Rattle.std.specs.Prelude.{◌≡◌, ℕ, ◌+◌, true, false, List, [], Option, None, Some, length}
use Rattle.std.specs.List.{slice_get}
use Rattle.gate_hub.specs.Meaning.{Link, Told, Started, Meaning}
use Rattle.gate_hub.specs.Hubs.{Counts, NotStarted}
use Rattle.gate_hub.specs.declared.hub.Side.{Side}
use Rattle.gate_hub.specs.declared.hub.HubNext.{HubNext}
use Rattle.gate_hub.specs.declared.hub.HubNext.TheVariants as event
use Rattle.stream_messages.specs.declared.lanes.Lanes.{Lanes}
use Rattle.stream_messages.specs.declared.lanes.Wrapping.{Wrapping}
use Rattle.stream_messages.specs.declared.slots.Slot.{Slot}
use Rattle.stream_messages.specs.declared.slots.Slots.{Slots}
use Rattle.stream_messages.specs.Sessions.{WrapsSession}
use Rattle.stream_messages.specs.Slots.{IsRising, IsAt, HasNone, AreReady, Admits, Releases, GoesInSlot}

-- the slots in use; there is none before the hub has started
abbrev pub open_slots : Option Slots → List Slot
open_slots None = []
open_slots (Some slots) = slots.open.items

-- An open session stands as its slot says. One without a slot was never read to its end.
pub record InSlot (slots : List Slot) (k : ℕ) (lanes : Lanes) (outer : Told) : Type 0 where
  pub held : (at : ℕ) (slot : Slot) → IsAt slots k at slot → slot.lanes.value ≡ lanes
  pub missing : HasNone slots k → (outer.client.ended ≡ false) × (outer.upstream.ended ≡ false)

pub record TellsSession (w : Wrapping) (slots : List Slot) (k : ℕ) (inner outer : Told) : Type 0 where
  pub lanes : Lanes
  pub wraps : WrapsSession w lanes inner outer
  pub in_slot : outer.closed ≡ false → InSlot slots k lanes outer

-- There is one slot more than sessions that the hub was started for.
abbrev pub AreSlots : Wrapping → Option Started → Option Slots → Type 0
AreSlots w None slots = slots ≡ None
AreSlots w (Some started) None = ⊥
AreSlots w (Some started) (Some slots) = (length slots.open.items + length slots.spare.items ≡ started.sessions + 1) × AreReady w slots

-- A meaning that is told, over one that is told below: each session that was announced is the one below with its sides wrapped.
pub record Tells (w : Wrapping) (slots : Option Slots) (inner outer : Meaning) : Type 0 where
  pub announced : (k : ℕ) → (inner.session k).announced ≡ true → TellsSession w (open_slots slots) k (inner.session k) (outer.session k)
  pub unknown : (k : ℕ) → (inner.session k).announced ≡ false → outer.session k ≡ inner.session k
  pub known : (at : ℕ) (slot : Slot) → slice_get (open_slots slots) at ≡ Some slot → (inner.session slot.number).announced ≡ true
  pub rising : IsRising (open_slots slots)
  pub started : outer.started ≡ inner.started
  pub last_event : outer.last_event ≡ inner.last_event
  pub events : outer.events ≡ inner.events
  pub slots_are : AreSlots w outer.started slots

-- calls on a session without a slot count as faults of both its sides
abbrev pub counts_over : Counts → ℕ → Counts
counts_over below missing = record { faults = below.faults; link_faults = λ k s. below.link_faults k s + missing; waits = below.waits }

-- it tells over each meaning that is told below
abbrev pub TellsOver : (Meaning → Type 0) → Wrapping → Option Slots → Meaning → Type 0
TellsOver told w slots outer = (inner : Meaning) × told inner × Tells w slots inner outer

-- each meaning that is told before the start, of no session, is told so
abbrev pub TellsFresh : (Meaning → Type 0) → (Meaning → Type 0) → Type 0
TellsFresh told told' = (m : Meaning) → told m → NotStarted m → ((k : ℕ) → (m.session k).announced ≡ false) → told' m

-- ---- calls on the slots, of which there may be none yet

-- a session that was opened got a slot, if one was free
abbrev pub Follows : HubNext → Option Slots → Option Slots → Type 0
Follows (event.Opened k) None b = b ≡ None
Follows (event.Opened k) (Some s) b = (s' : Slots) × (b ≡ Some s') × ((w : Wrapping) → AreReady w s → AreReady w s' × Admits w k s s')
Follows (event.Ready k) a b = b ≡ a
Follows event.Stopped a b = b ≡ a
Follows event.Failed a b = b ≡ a

abbrev pub HasNoSlot : ℕ → Option Slots → Type 0
HasNoSlot k slots = IsRising (open_slots slots) → HasNone (open_slots slots) k

-- a call on a side of the session, which has a slot
abbrev pub GoesInSlots : (Meaning → Type 0) → (Meaning → Type 0) → ℕ → Side → (Link → Link → Type 0) → Option Slots → Option Slots → Type 0
GoesInSlots old new k side Step a b = (s : Slots) × (s' : Slots) × (a ≡ Some s) × (b ≡ Some s') × GoesInSlot old new k side Step s s'

-- the session has no slot any more
abbrev pub GivesBack : ℕ → Option Slots → Option Slots → Type 0
GivesBack k None b = b ≡ None
GivesBack k (Some s) b = (s' : Slots) × (b ≡ Some s') × ((w : Wrapping) → AreReady w s → Releases k s s')
