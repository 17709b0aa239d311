-- What the calls of a fan do to what it tells, and to its counts.
use Rattle.std.specs.Prelude.{◌≡◌, ◌≢◌, ℕ, ◌<◌, ◌≤◌, List, [], ◌∷◌, ◌++◌, length, true, None, Some, IsSome}
use Rattle.gate_base.specs.Causes.{one_more}
use Rattle.gate_hub.specs.Meaning.{Link}
use Rattle.gate_hub.specs.Hubs.{LinkReads, LinkWrites}
use Rattle.gate_hub.specs.declared.hub.Began.{Began}
use Rattle.gate_hub.specs.declared.hub.Began.TheVariants as began
use Rattle.gate_hub.specs.declared.hub.HubNext.{HubNext}
use Rattle.gate_hub.specs.declared.hub.HubNext.TheVariants as event
use Rattle.gate_hub.specs.declared.hub.LinkGot.{LinkGot}
use Rattle.gate_hub.specs.declared.hub.LinkPut.{LinkPut}
use Rattle.gate_fan.specs.Meaning.{Told, Started, FanCall, Asked, Read, Wrote, Closed, Meaning, new_session, reopened, IsOpen}
use Rattle.gate_fan.specs.declared.fan.Target.{Target}

-- the faults of `start` and `next` together, and of each session and port its faults and its answers that it isn't ready
pub record Counts : Type 0 where
  pub faults : ℕ
  pub link_faults : ℕ → ℕ → ℕ
  pub waits : ℕ → ℕ → ℕ

-- no count has fallen
pub record Later (a b : Counts) : Type 0 where
  pub faults : a.faults ≤ b.faults
  pub links : (k port : ℕ) → a.link_faults k port ≤ b.link_faults k port
  pub waits : (k port : ℕ) → a.waits k port ≤ b.waits k port

-- each meaning that was told and at which the call may be made leads to one that is told
abbrev pub Leads : (Meaning → Type 0) → (Meaning → Type 0) → (Meaning → Type 0) → (Meaning → Meaning → Type 0) → Type 0
Leads old new Can Step = (a : Meaning) → old a → Can a → ((b : Meaning) × new b × Step a b)

-- session k is open, and the port is one of so many targets or the client's
pub record HasPort (k port targets : ℕ) (m : Meaning) : Type 0 where
  pub open_one : IsOpen k m
  pub within : port ≤ targets

-- by this call session k alone has changed
pub record Changes (k : ℕ) (call : FanCall) (Step : Told → Told → Type 0) (a b : Meaning) : Type 0 where
  pub session : Step (a.session k) (b.session k)
  pub others : (j : ℕ) → j ≢ k → b.session j ≡ a.session j
  pub started : b.started ≡ a.started
  pub last_event : b.last_event ≡ a.last_event
  pub events : b.events ≡ a.events
  pub calls : b.calls ≡ a.calls ++ call ∷ []

-- the port of the session has changed so, and nothing else of it
pub record AtPort (port : ℕ) (Step : Link → Link → Type 0) (a b : Told) : Type 0 where
  pub changed : Step (a.link port) (b.link port)
  pub others : (other : ℕ) → other ≢ port → b.link other ≡ a.link other
  pub announced : b.announced ≡ a.announced
  pub closed : b.closed ≡ a.closed

abbrev pub Closes : Told → Told → Type 0
Closes a b = b ≡ record a { closed = true }

-- a read of a port of session k into a slice of so many bytes, which holds these now
abbrev pub ReadLeads : ℕ → ℕ → ℕ → List ℕ → LinkGot → Meaning → Meaning → Type 0
ReadLeads k port size into answer = Changes k (Read k port size answer) (AtPort port (LinkReads into answer))

-- a write of these bytes to a port of session k
abbrev pub WriteLeads : ℕ → ℕ → List ℕ → LinkPut → Meaning → Meaning → Type 0
WriteLeads k port from answer = Changes k (Wrote k port (length from) answer) (AtPort port (LinkWrites from answer))

abbrev pub CloseLeads : ℕ → Meaning → Meaning → Type 0
CloseLeads k = Changes k (Closed k) Closes

-- an event has come: it is the last answer, and is counted
pub record Comes (k : ℕ) (event : HubNext) (after : Told) (a b : Meaning) : Type 0 where
  pub session : b.session k ≡ after
  pub others : (j : ℕ) → j ≢ k → b.session j ≡ a.session j
  pub started : b.started ≡ a.started
  pub last_event : b.last_event ≡ Some event
  pub events : b.events ≡ one_more a.events
  pub calls : b.calls ≡ a.calls ++ Asked event ∷ []

-- no event has come
pub record Answers (event : HubNext) (a b : Meaning) : Type 0 where
  pub sessions : (j : ℕ) → b.session j ≡ a.session j
  pub started : b.started ≡ a.started
  pub last_event : b.last_event ≡ Some event
  pub events : b.events ≡ a.events
  pub calls : b.calls ≡ a.calls ++ Asked event ∷ []

-- a new session has a number above every earlier one; an event of a session names one that is open
abbrev pub EventLeads : HubNext → Meaning → Meaning → Type 0
EventLeads (event.Opened k) a b =
    ((j : ℕ) → (a.session j).announced ≡ true → j < k) × Comes k (event.Opened k) new_session a b
EventLeads (event.Ready k) a b =
    IsOpen k a × Comes k (event.Ready k) (reopened (a.session k)) a b
EventLeads event.Stopped a b = Answers event.Stopped a b
EventLeads event.Failed a b = Answers event.Failed a b

-- once it has stopped no event follows
abbrev pub NextLeads : HubNext → Meaning → Meaning → Type 0
NextLeads answer a b = (a.last_event ≡ Some event.Stopped → answer ≡ event.Stopped) × EventLeads answer a b

abbrev pub NotStarted : Meaning → Type 0
NotStarted a = (a.started ≡ None) × (a.last_event ≡ None)

abbrev pub HasStarted : Meaning → Type 0
HasStarted a = IsSome a.started

-- what a `start` is given
abbrev pub started_with : List ℕ → List Target → ℕ → ℕ → Started
started_with listen targets accept sessions = record { listen = listen; targets = targets; accept = accept; sessions = sessions }

abbrev pub StartLeads : Started → Began → Meaning → Meaning → Type 0
StartLeads started began.Done a b = b ≡ record a { started = Some started }
StartLeads started began.Failed a b = b ≡ a
StartLeads started (began.NotFound at) a b = b ≡ a
StartLeads started began.OutOfMemory a b = b ≡ a
