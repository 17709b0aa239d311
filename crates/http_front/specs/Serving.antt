-- A session's client as its slot stands, and what reads and writes make of it.
use Rattle.std.specs.Prelude.{◌≡◌, ℕ, ⊤, List, [], take, true, false, Some}
use Rattle.std.proofs.Math.ListN.{set}
use Rattle.gate_hub.specs.Meaning.{Link, Meaning}
use Rattle.gate_hub.specs.Hubs.{GotWithin, LinkReads, LinkWrites}
use Rattle.gate_hub.specs.declared.hub.LinkGot.{LinkGot}
use Rattle.gate_hub.specs.declared.hub.LinkGot.TheVariants as got
use Rattle.gate_hub.specs.declared.hub.LinkPut.TheVariants as put
use Rattle.http_front.specs.declared.answers.Written.{Written}
use Rattle.http_front.specs.declared.answers.Written.TheVariants as written
use Rattle.http_front.specs.declared.slots.Given.{Given}
use Rattle.http_front.specs.declared.slots.Given.TheVariants as given
use Rattle.http_front.specs.declared.slots.Slot.{Slot}
use Rattle.http_front.specs.declared.stage.Stage.TheVariants as stage
use Rattle.http_front.specs.Fronts.{Front, Reading, Fits, holds_back, is_answered}
use Rattle.http_front.specs.Moving.{Goes, Waits, carried}
use Rattle.http_front.specs.Slots.{Open, IsRising, IsAt, HasNone}

-- ---- what a read answers

-- at least one byte and no more than there is room for
abbrev pub GaveWithin : List ℕ → Given → Type 0
GaveWithin into (given.Got answer) = GotWithin into answer
GaveWithin into given.Held = ⊤
GaveWithin into given.Stray = ⊤

abbrev pub got_bytes : List ℕ → LinkGot → List ℕ
got_bytes into (got.Bytes n) = take n into
got_bytes into got.NotReady = []
got_bytes into got.End = []
got_bytes into got.Failed = []

abbrev pub given_bytes : List ℕ → Given → List ℕ
given_bytes into (given.Got answer) = got_bytes into answer
given_bytes into given.Held = []
given_bytes into given.Stray = []

-- Behind the end all was handed out. Where it isn't ready, nothing is to be handed out so far.
abbrev pub StandsGot : LinkGot → Front → Type 0
StandsGot (got.Bytes n) f = ⊤
StandsGot got.NotReady f = Waits f.stage f.input
StandsGot got.End f = f.stage ≡ stage.Over
StandsGot got.Failed f = ⊤

-- where the client is held back, an answer is awaited, or a body ended the session
abbrev pub StandsBehind : Given → Front → Type 0
StandsBehind (given.Got answer) f = StandsGot answer f
StandsBehind given.Held f = holds_back f.stage ≡ true
StandsBehind given.Stray f = ⊥

-- ---- a session's client

-- What it was given and what it was sent fit its slot. Behind the end all was handed out. Where the last read was not ready and
-- the session isn't marked, nothing is to be handed out so far.
pub record Wraps (r : Reading) (s : Slot) (inner outer : Link) : Type 0 where
  pub fits : Fits r s.front (carried inner outer.received outer.sent)
  pub ended : outer.ended ≡ true → s.front.stage ≡ stage.Over
  pub end_told : outer.last_read ≡ Some got.End → outer.ended ≡ true
  pub waits : outer.last_read ≡ Some got.NotReady → s.marked ≡ false → Waits s.front.stage s.front.input

-- a call on a client that stood as its slot did, and stands as it does
abbrev pub Serves : Reading → Slot → Slot → (Link → Link → Type 0) → Link → Link → Type 0
Serves r slot slot' Step a b = (outer : Link) → Wraps r slot a outer → (outer' : Link) × Step outer outer' × Wraps r slot' b outer'

-- a call on the client of the session, which has a slot
pub record GoesInSlot (told told' : Meaning → Type 0) (r : Reading) (k : ℕ) (Step : Link → Link → Type 0) (a b : Open) : Type 0 where
  pub at : ℕ
  pub slot : Slot
  pub slot_after : Slot
  pub was : IsAt a.slots k at slot
  pub number : slot_after.number ≡ k
  pub is : b ≡ record a { slots = set a.slots at slot_after }
  pub goes : Goes told told' k (Serves r slot slot_after Step)

-- the session has no slot
abbrev pub IsStray : ℕ → Open → Open → Type 0
IsStray k a b = (IsRising a.slots → HasNone a.slots k) × (b ≡ a)

-- a read of a client
abbrev pub GaveIn : (Meaning → Type 0) → (Meaning → Type 0) → Reading → ℕ → List ℕ → Given → Open → Open → Type 0
GaveIn told told' r k into (given.Got answer) a b = GoesInSlot told told' r k (LinkReads into answer) a b
GaveIn told told' r k into given.Held a b = GoesInSlot told told' r k (LinkReads into got.NotReady) a b
GaveIn told told' r k into given.Stray a b = IsStray k a b

-- an answer that was put is marked if it is whole
abbrev pub MarksIf : Written → Slot → Slot → Type 0
MarksIf (written.Put (put.Took n)) slot slot' = slot'.marked ≡ is_answered slot'.front.stage
MarksIf (written.Put put.NotReady) slot slot' = slot'.marked ≡ slot.marked
MarksIf (written.Put put.Failed) slot slot' = slot'.marked ≡ slot.marked
MarksIf written.Stray slot slot' = slot'.marked ≡ slot.marked

-- a write to a client
abbrev pub WroteIn : (Meaning → Type 0) → (Meaning → Type 0) → Reading → ℕ → List ℕ → Written → Open → Open → Type 0
WroteIn told told' r k from (written.Put answer) a b = GoesInSlot told told' r k (LinkWrites from answer) a b
WroteIn told told' r k from written.Stray a b = b ≡ a
