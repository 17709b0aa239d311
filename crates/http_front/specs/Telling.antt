-- What the hub over another one tells, over a meaning that the hub below tells.
use Rattle.std.specs.Prelude.{◌≡◌, ℕ, List, [], Bool, true, false, Option, None, Some}
use Rattle.std.specs.List.{slice_get}
use Rattle.gate_hub.specs.Meaning.{Link, Told, Started, Meaning, IsOpen}
use Rattle.gate_hub.specs.Hubs.{NotStarted}
use Rattle.gate_hub.specs.declared.hub.HubNext.{HubNext}
use Rattle.gate_hub.specs.declared.hub.HubNext.TheVariants as event
use Rattle.http_front.specs.declared.answers.Written.{Written}
use Rattle.http_front.specs.declared.answers.Written.TheVariants as written
use Rattle.http_front.specs.declared.slots.Given.{Given}
use Rattle.http_front.specs.declared.slots.Given.TheVariants as given
use Rattle.http_front.specs.declared.slots.Slot.{Slot}
use Rattle.http_front.specs.Fronts.{Reading}
use Rattle.http_front.specs.Slots.{Open, IsRising, IsAt, HasNone, Admits, Releases}
use Rattle.http_front.specs.Serving.{Wraps, GaveIn, WroteIn}

-- the slots in use; there is none before the hub has started
abbrev pub open_slots : Option Open → List Slot
open_slots None = []
open_slots (Some slots) = slots.slots

-- a side that is passed through
pub record PassesOn (inner outer : Link) : Type 0 where
  pub received : outer.received ≡ inner.received
  pub sent : outer.sent ≡ inner.sent
  pub ended : outer.ended ≡ inner.ended

-- An open session stands as its slot says. One without a slot was never read to its end.
pub record InSlot (slots : List Slot) (k : ℕ) (slot : Slot) (outer : Told) : Type 0 where
  pub held : (at : ℕ) (s : Slot) → IsAt slots k at s → s ≡ slot
  pub missing : HasNone slots k → (outer.client.ended ≡ false) × (outer.upstream.ended ≡ false)

pub record TellsSession (r : Reading) (slots : List Slot) (k : ℕ) (inner outer : Told) : Type 0 where
  pub slot : Slot
  pub client : Wraps r slot inner.client outer.client
  pub upstream : PassesOn inner.upstream outer.upstream
  pub announced : outer.announced ≡ inner.announced
  pub closed : outer.closed ≡ inner.closed
  pub in_slot : outer.closed ≡ false → InSlot slots k slot outer

-- Before it has started there are no slots, and once it has, those for bodies of this many bytes.
abbrev pub AreSlots : Reading → Option Started → Option Open → Type 0
AreSlots r None slots = slots ≡ None
AreSlots r (Some started) None = ⊥
AreSlots r (Some started) (Some slots) = slots.limit ≡ r.limit

-- A meaning that is told, over one that is told below: each session that was announced is the one below with its client wrapped.
-- Its own events and calls are others: a session that is marked is ready, and no call below is asked for that.
pub record Tells (r : Reading) (slots : Option Open) (stopped : Bool) (inner outer : Meaning) : Type 0 where
  pub announced : (k : ℕ) → (inner.session k).announced ≡ true → TellsSession r (open_slots slots) k (inner.session k) (outer.session k)
  pub unknown : (k : ℕ) → (inner.session k).announced ≡ false → outer.session k ≡ inner.session k
  pub open_in : (at : ℕ) (slot : Slot) → slice_get (open_slots slots) at ≡ Some slot → IsOpen slot.number outer
  pub rising : IsRising (open_slots slots)
  pub started : outer.started ≡ inner.started
  pub asked : outer.last_event ≡ None → inner.last_event ≡ None
  pub ends : outer.last_event ≡ Some event.Stopped → stopped ≡ true
  pub slots_are : AreSlots r outer.started slots

-- it tells over each meaning that is told below
abbrev pub TellsOver : (Meaning → Type 0) → Reading → Option Open → Bool → Meaning → Type 0
TellsOver told r slots stopped outer = (inner : Meaning) × told inner × Tells r slots stopped inner outer

-- each meaning that is told before the start, of no session, is told so
abbrev pub TellsFresh : (Meaning → Type 0) → (Meaning → Type 0) → Type 0
TellsFresh told told' = (m : Meaning) → told m → NotStarted m → ((k : ℕ) → (m.session k).announced ≡ false) → told' m

-- ---- calls on the slots, of which there may be none yet

-- the last event
abbrev pub stops : HubNext → Bool
stops (event.Opened k) = false
stops (event.Ready k) = false
stops event.Stopped = true
stops event.Failed = false

-- a session that was opened got a slot, if one was free
abbrev pub Follows : HubNext → Option Open → Option Open → Type 0
Follows (event.Opened k) None b = b ≡ None
Follows (event.Opened k) (Some s) b = (s' : Open) × (b ≡ Some s') × Admits k s s'
Follows (event.Ready k) a b = b ≡ a
Follows event.Stopped a b = b ≡ a
Follows event.Failed a b = b ≡ a

abbrev pub HasNoSlot : ℕ → Option Open → Type 0
HasNoSlot k slots = IsRising (open_slots slots) → HasNone (open_slots slots) k

-- a call on the slots
abbrev pub InSlots : (Open → Open → Type 0) → Option Open → Option Open → Type 0
InSlots Step a b = (s : Open) × (s' : Open) × (a ≡ Some s) × (b ≡ Some s') × Step s s'

-- a read of a client
abbrev pub Gave : (Meaning → Type 0) → (Meaning → Type 0) → Reading → ℕ → List ℕ → Given → Option Open → Option Open → Type 0
Gave told told' r k into (given.Got answer) a b = InSlots (GaveIn told told' r k into (given.Got answer)) a b
Gave told told' r k into given.Held a b = InSlots (GaveIn told told' r k into given.Held) a b
Gave told told' r k into given.Stray a b = HasNoSlot k a × (b ≡ a)

-- a write to a client
abbrev pub Wrote : (Meaning → Type 0) → (Meaning → Type 0) → Reading → ℕ → List ℕ → Written → Option Open → Option Open → Type 0
Wrote told told' r k from (written.Put answer) a b = InSlots (WroteIn told told' r k from (written.Put answer)) a b
Wrote told told' r k from written.Stray a b = b ≡ a

-- the session has no slot any more
abbrev pub GivesBack : ℕ → Option Open → Option Open → Type 0
GivesBack k None b = b ≡ None
GivesBack k (Some s) b = (s' : Open) × (b ≡ Some s') × Releases k s s'
