-- A side that is wrapped: what it gives and takes, over what the hub below received and sent.
use Rattle.std.specs.Prelude.{◌≡◌, ◌≢◌, ℕ, ⊤, Bool, true, List, [], Option, None, Some}
use Rattle.gate_hub.specs.Meaning.{Link, Meaning, link_of, IsOpen}
use Rattle.gate_hub.specs.Hubs.{AtSide, LinkReads, LinkWrites}
use Rattle.gate_hub.specs.declared.hub.Side.{Side}
use Rattle.gate_hub.specs.declared.hub.LinkGot.{LinkGot}
use Rattle.gate_hub.specs.declared.hub.LinkGot.TheVariants as got
use Rattle.gate_hub.specs.declared.hub.LinkPut.{LinkPut}
use Rattle.stream_messages.specs.declared.scan.Wire.{Wire}
use Rattle.stream_messages.specs.declared.lane.Lane.{Lane}
use Rattle.stream_messages.specs.declared.framer.Behind.{Behind}
use Rattle.stream_messages.specs.declared.framer.Behind.TheVariants as behind
use Rattle.stream_messages.specs.Framing.{FramerState, Stands, IsOut, new_framer}
use Rattle.stream_messages.specs.Stripping.{StripperState, StripsTo, new_stripper}
use Rattle.stream_messages.specs.Messages.{Framed}

abbrev pub new_lane : Wire → ℕ → Lane
new_lane wire limit = record { framer = new_framer wire limit; stripper = new_stripper }

-- the side below has ended, or the mark was the last
abbrev pub MayEnd : Behind → Bool → Type 0
MayEnd behind.Messages ended = ended ≡ true
MayEnd behind.Mark ended = ⊥
MayEnd behind.Nothing ended = ⊤
MayEnd behind.End ended = ended ≡ true

-- Reads of the side gave `outer.received` of what was received below. All of it was given where the last read was not ready, and
-- where the side has ended: then nothing of it is left.
pub record Reads (wire : Wire) (limit : ℕ) (s : FramerState) (inner outer : Link) : Type 0 where
  pub stands : Stands wire limit s inner.received inner.ended outer.received
  pub not_ready : outer.last_read ≡ Some got.NotReady → Framed wire limit inner.received inner.ended outer.received
  pub ended : outer.ended ≡ true → IsOut s × MayEnd s.behind inner.ended
  pub all : outer.ended ≡ true → Framed wire limit inner.received inner.ended outer.received
  pub end_told : outer.last_read ≡ Some got.End → outer.ended ≡ true

-- a read is under way that was asked of a side which stood so
pub record Underway (wire : Wire) (limit : ℕ) (s : FramerState) (inner outer : Link) : Type 0 where
  pub stands : Stands wire limit s inner.received inner.ended outer.received
  pub ended : outer.ended ≡ true → (s.fresh ≡ []) × (inner.ended ≡ true)

-- what was sent below is what was written, without the lengths
pub record Wraps (wire : Wire) (limit : ℕ) (lane : Lane) (inner outer : Link) : Type 0 where
  pub reads : Reads wire limit lane.framer inner outer
  pub writes : StripsTo lane.stripper outer.sent inner.sent

-- a side that is passed through
pub record PassesOn (inner outer : Link) : Type 0 where
  pub received : outer.received ≡ inner.received
  pub sent : outer.sent ≡ inner.sent
  pub ended : outer.ended ≡ inner.ended

abbrev pub WrapsSide : Option Wire → ℕ → Option Lane → Link → Link → Type 0
WrapsSide None limit None inner outer = PassesOn inner outer
WrapsSide None limit (Some lane) inner outer = ⊥
WrapsSide (Some wire) limit None inner outer = ⊥
WrapsSide (Some wire) limit (Some lane) inner outer = Wraps wire limit lane inner outer

-- of all that is told, a side of session k has changed so
pub record SideGoes (k : ℕ) (side : Side) (Step : Link → Link → Type 0) (a b : Meaning) : Type 0 where
  pub session : AtSide side Step (a.session k) (b.session k)
  pub others : (j : ℕ) → j ≢ k → b.session j ≡ a.session j
  pub started : b.started ≡ a.started
  pub last_event : b.last_event ≡ a.last_event
  pub events : b.events ≡ a.events

-- nothing was written
abbrev pub StaysSent : Link → Link → Type 0
StaysSent a b = (b.sent ≡ a.sent) × (b.last_write ≡ a.last_write)

-- nothing was read
abbrev pub StaysReceived : Link → Link → Type 0
StaysReceived a b = (b.received ≡ a.received) × (b.ended ≡ a.ended) × (b.last_read ≡ a.last_read)

-- Each meaning that is told below, and over which a side stands so, leads to one that is told, and over which the side stands as the
-- call has left it.
abbrev pub LinkGoes : (Meaning → Type 0) → (Meaning → Type 0) → ℕ → Side → (Link → Link → Type 0) → (Link → Link → Type 0) → (Link → Link → Type 0) → (Link → Link → Type 0) → Type 0
LinkGoes old new k side Over Below Step Over' =
    (a : Meaning) (outer : Link) → old a → IsOpen k a → Over (link_of (a.session k) side) outer
    → (b : Meaning) × new b × SideGoes k side Below a b × ((outer' : Link) × Step outer outer' × Over' (link_of (b.session k) side) outer')

-- the read whose side, below, was found to have ended
abbrev pub Ends : FramerState → FramerState → List ℕ → LinkGot → Type 0
Ends s s' into answer =
    (wire : Wire) (limit : ℕ) (inner outer : Link) → Underway wire limit s inner outer → inner.ended ≡ true → (outer' : Link) × LinkReads into answer outer outer' × Reads wire limit s' inner outer'

abbrev pub FramesReads : (Meaning → Type 0) → (Meaning → Type 0) → FramerState → FramerState → ℕ → Side → List ℕ → LinkGot → Type 0
FramesReads old new s s' k side into answer =
    (wire : Wire) (limit : ℕ) → LinkGoes old new k side (Reads wire limit s) StaysSent (LinkReads into answer) (Reads wire limit s')

abbrev pub StripsWrites : (Meaning → Type 0) → (Meaning → Type 0) → StripperState → StripperState → ℕ → Side → List ℕ → LinkPut → Type 0
StripsWrites old new s s' k side from answer =
    LinkGoes old new k side (λ inner outer. StripsTo s outer.sent inner.sent) StaysReceived (LinkWrites from answer) (λ inner outer. StripsTo s' outer.sent inner.sent)

abbrev pub Anything : Link → Link → Type 0
Anything a b = ⊤

-- a call on a side that stood so, and stands so
abbrev pub LaneGoes : (Meaning → Type 0) → (Meaning → Type 0) → Lane → Lane → ℕ → Side → (Link → Link → Type 0) → Type 0
LaneGoes old new lane lane' k side Step = (wire : Wire) (limit : ℕ) → LinkGoes old new k side (Wraps wire limit lane) Anything Step (Wraps wire limit lane')

abbrev pub OneSideGoes : (Meaning → Type 0) → (Meaning → Type 0) → Option Lane → Option Lane → ℕ → Side → (Link → Link → Type 0) → Type 0
OneSideGoes old new lane lane' k side Step =
    (wire : Option Wire) (limit : ℕ) → LinkGoes old new k side (WrapsSide wire limit lane) Anything Step (WrapsSide wire limit lane')
