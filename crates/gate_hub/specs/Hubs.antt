-- What the calls of a hub do to what it tells, and to its counts.
use Rattle.std.specs.Prelude.{◌≡◌, ◌≢◌, ℕ, ◌<◌, ◌≤◌, List, [], ◌∷◌, ◌++◌, length, take, true, false, None, Some, IsSome, ⊤}
use Rattle.gate_base.specs.Causes.{one_more}
use Rattle.gate_hub.specs.Meaning.{Link, Told, Started, HubCall, Asked, Read, Wrote, Closed, Meaning, new_session, reopened, IsOpen}
use Rattle.gate_hub.specs.declared.hub.Side.{Side}
use Rattle.gate_hub.specs.declared.hub.Side.TheVariants as side
use Rattle.gate_hub.specs.declared.hub.Began.{Began}
use Rattle.gate_hub.specs.declared.hub.Began.TheVariants as began
use Rattle.gate_hub.specs.declared.hub.HubNext.{HubNext}
use Rattle.gate_hub.specs.declared.hub.HubNext.TheVariants as event
use Rattle.gate_hub.specs.declared.hub.LinkGot.{LinkGot}
use Rattle.gate_hub.specs.declared.hub.LinkGot.TheVariants as got
use Rattle.gate_hub.specs.declared.hub.LinkPut.{LinkPut}
use Rattle.gate_hub.specs.declared.hub.LinkPut.TheVariants as put

-- the faults of `start` and `next` together, and of each session and side its faults and its answers that it isn't ready
pub record Counts : Type 0 where
  pub faults : ℕ
  pub link_faults : ℕ → Side → ℕ
  pub waits : ℕ → Side → ℕ

-- no count has fallen
pub record Later (a b : Counts) : Type 0 where
  pub faults : a.faults ≤ b.faults
  pub links : (k : ℕ) (s : Side) → a.link_faults k s ≤ b.link_faults k s
  pub waits : (k : ℕ) (s : Side) → a.waits k s ≤ b.waits k s

-- each meaning that was told and at which the call may be made leads to one that is told
abbrev pub Leads : (Meaning → Type 0) → (Meaning → Type 0) → (Meaning → Type 0) → (Meaning → Meaning → Type 0) → Type 0
Leads old new Can Step = (a : Meaning) → old a → Can a → ((b : Meaning) × new b × Step a b)

-- by this call session k alone has changed
pub record Changes (k : ℕ) (call : HubCall) (Step : Told → Told → Type 0) (a b : Meaning) : Type 0 where
  pub session : Step (a.session k) (b.session k)
  pub others : (j : ℕ) → j ≢ k → b.session j ≡ a.session j
  pub started : b.started ≡ a.started
  pub last_event : b.last_event ≡ a.last_event
  pub events : b.events ≡ a.events
  pub calls : b.calls ≡ a.calls ++ call ∷ []

-- a side that has ended answers each read that it has
abbrev pub LinkReads : List ℕ → LinkGot → Link → Link → Type 0
LinkReads into (got.Bytes n) a b = (a.ended ≡ false) × (b ≡ record a { received = a.received ++ take n into; last_read = Some (got.Bytes n) })
LinkReads into got.NotReady a b = (a.ended ≡ false) × (b ≡ record a { last_read = Some got.NotReady })
LinkReads into got.End a b = b ≡ record a { ended = true; last_read = Some got.End }
LinkReads into got.Failed a b = (a.ended ≡ false) × (b ≡ record a { last_read = Some got.Failed })

abbrev pub LinkWrites : List ℕ → LinkPut → Link → Link → Type 0
LinkWrites from (put.Took n) a b = b ≡ record a { sent = a.sent ++ take n from; last_write = Some (put.Took n) }
LinkWrites from put.NotReady a b = b ≡ record a { last_write = Some put.NotReady }
LinkWrites from put.Failed a b = b ≡ record a { last_write = Some put.Failed }

-- the side of the session has changed so, and nothing else of it
abbrev pub AtSide : Side → (Link → Link → Type 0) → Told → Told → Type 0
AtSide side.Client Step a b = (link : Link) × Step a.client link × (b ≡ record a { client = link })
AtSide side.Upstream Step a b = (link : Link) × Step a.upstream link × (b ≡ record a { upstream = link })

abbrev pub Closes : Told → Told → Type 0
Closes a b = b ≡ record a { closed = true }

-- a read of a side of session k into a slice of so many bytes, which holds these now
abbrev pub ReadLeads : ℕ → Side → ℕ → List ℕ → LinkGot → Meaning → Meaning → Type 0
ReadLeads k side size into answer = Changes k (Read k side size answer) (AtSide side (LinkReads into answer))

-- a write of these bytes to a side of session k
abbrev pub WriteLeads : ℕ → Side → List ℕ → LinkPut → Meaning → Meaning → Type 0
WriteLeads k side from answer = Changes k (Wrote k side (length from) answer) (AtSide side (LinkWrites from answer))

abbrev pub CloseLeads : ℕ → Meaning → Meaning → Type 0
CloseLeads k = Changes k (Closed k) Closes

-- an event has come: it is the last answer, and is counted
pub record Comes (k : ℕ) (event : HubNext) (after : Told) (a b : Meaning) : Type 0 where
  pub session : b.session k ≡ after
  pub others : (j : ℕ) → j ≢ k → b.session j ≡ a.session j
  pub started : b.started ≡ a.started
  pub last_event : b.last_event ≡ Some event
  pub events : b.events ≡ one_more a.events
  pub calls : b.calls ≡ a.calls ++ Asked event ∷ []

-- no event has come
pub record Answers (event : HubNext) (a b : Meaning) : Type 0 where
  pub sessions : (j : ℕ) → b.session j ≡ a.session j
  pub started : b.started ≡ a.started
  pub last_event : b.last_event ≡ Some event
  pub events : b.events ≡ a.events
  pub calls : b.calls ≡ a.calls ++ Asked event ∷ []

-- a new session has a number above every earlier one; an event of a session names one that is open
abbrev pub EventLeads : HubNext → Meaning → Meaning → Type 0
EventLeads (event.Opened k) a b =
    ((j : ℕ) → (a.session j).announced ≡ true → j < k) × Comes k (event.Opened k) new_session a b
EventLeads (event.Ready k) a b =
    IsOpen k a × Comes k (event.Ready k) (reopened (a.session k)) a b
EventLeads event.Stopped a b = Answers event.Stopped a b
EventLeads event.Failed a b = Answers event.Failed a b

-- once it has stopped no event follows
abbrev pub NextLeads : HubNext → Meaning → Meaning → Type 0
NextLeads answer a b = (a.last_event ≡ Some event.Stopped → answer ≡ event.Stopped) × EventLeads answer a b

abbrev pub NotStarted : Meaning → Type 0
NotStarted a = (a.started ≡ None) × (a.last_event ≡ None)

abbrev pub HasStarted : Meaning → Type 0
HasStarted a = IsSome a.started

-- what a `start` is given
abbrev pub started_with : List ℕ → List ℕ → ℕ → ℕ → Started
started_with listen upstream accept sessions = record { listen = listen; upstream = upstream; accept = accept; sessions = sessions }

abbrev pub StartLeads : Started → Began → Meaning → Meaning → Type 0
StartLeads started began.Done a b = b ≡ record a { started = Some started }
StartLeads started began.Failed a b = b ≡ a
StartLeads started (began.NotFound at) a b = b ≡ a
StartLeads started began.OutOfMemory a b = b ≡ a

-- at least one byte and no more than the slice holds
abbrev pub GotWithin : List ℕ → LinkGot → Type 0
GotWithin into (got.Bytes n) = (0 < n) × (n ≤ length into)
GotWithin into got.NotReady = ⊤
GotWithin into got.End = ⊤
GotWithin into got.Failed = ⊤

abbrev pub TookWithin : List ℕ → LinkPut → Type 0
TookWithin from (put.Took n) = (0 < n) × (n ≤ length from)
TookWithin from put.NotReady = ⊤
TookWithin from put.Failed = ⊤
