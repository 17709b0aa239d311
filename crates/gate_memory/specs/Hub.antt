-- What the hub in memory holds and tells, exactly.
use Rattle.std.specs.Prelude.{◌≡◌, ℕ, ⊤, ◌+◌, ◌≤◌, ◌⊎◌, List, [], ◌∷◌, ◌++◌, length, drop, get_or, ◌<◌, Bool, true, false, ◌&&◌, not, Option, None, Some, option_map, if◌then◌else◌}
use Rattle.std.specs.List.{slice_get}
use Rattle.std.proofs.Math.ListN.{set}
use Rattle.gate_base.specs.Bytes.{AreBytes}
use Rattle.gate_base.specs.Causes.{one_more}
use Rattle.gate_hub.specs.Meaning.{Told, Started, Meaning, unknown_session, reopened}
use Rattle.gate_memory.specs.Link.{LinkState, AreLinkBytes, new_link_state, unasked_link, arrives, finishes, gets_room, will_break, ReadsLink, WritesLink}
use Rattle.gate_hub.specs.Hubs.{Counts, Leads, HasStarted, NextLeads}
use Rattle.gate_hub.specs.declared.hub.Side.{Side}
use Rattle.gate_hub.specs.declared.hub.Side.TheVariants as side
use Rattle.gate_hub.specs.declared.hub.Began.{Began}
use Rattle.gate_hub.specs.declared.hub.Began.TheVariants as began
use Rattle.gate_hub.specs.declared.hub.HubNext.{HubNext}
use Rattle.gate_hub.specs.declared.hub.HubNext.TheVariants as event
use Rattle.gate_hub.specs.declared.hub.LinkGot.{LinkGot}
use Rattle.gate_hub.specs.declared.hub.LinkGot.TheVariants as got
use Rattle.gate_hub.specs.declared.hub.LinkPut.{LinkPut}
use Rattle.gate_hub.specs.declared.hub.LinkPut.TheVariants as put
use Rattle.gate_memory.specs.declared.link.Passed.{Passed}
use Rattle.gate_memory.specs.declared.link.Passed.TheVariants as passed
use Rattle.gate_memory.specs.declared.steps.HubStep.{HubStep}
use Rattle.gate_memory.specs.declared.steps.HubStep.TheVariants as step
use Rattle.gate_memory.specs.declared.hub.MemSession.{MemSession}
use Rattle.gate_memory.specs.declared.hub.StartedWith.{StartedWith}
use Rattle.gate_memory.specs.declared.hub.Performed.{Performed}
use Rattle.gate_memory.specs.declared.hub.Performed.TheVariants as performed
use Rattle.gate_memory.specs.declared.hub.Stepped.{Stepped}
use Rattle.gate_memory.specs.declared.hub.Stepped.TheVariants as stepped

-- the steps that are left, the most bytes of a call, the sessions in order, what it tells besides, and its counts
pub record HubState : Type 0 where
  pub steps : List HubStep
  pub chunk : ℕ
  pub sessions : List MemSession
  pub started : Option Started
  pub last_event : Option HubNext
  pub events : ℕ
  pub faults : ℕ
  pub strays : ℕ
  pub refused : ℕ

-- a hub to which nothing happened so far
abbrev pub new_hub : List HubStep → ℕ → HubState
new_hub steps chunk =
    record { steps = steps; chunk = chunk; sessions = []; started = None; last_event = None; events = 0; faults = 0; strays = 0; refused = 0 }

abbrev pub started_of : StartedWith → Started
started_of with = record { listen = with.listen; upstream = with.upstream; accept = with.accept; sessions = with.sessions }

abbrev pub told_of : MemSession → Told
told_of session = record { announced = true; closed = session.closed; client = session.client.told; upstream = session.upstream.told }

abbrev pub told_or_unknown : Option MemSession → Told
told_or_unknown None = unknown_session
told_or_unknown (Some session) = told_of session

-- a session by its number: the sessions are opened in order
abbrev pub session_at : List MemSession → ℕ → Told
session_at sessions k = told_or_unknown (slice_get sessions k)

abbrev pub is_open_at : List MemSession → ℕ → Bool
is_open_at sessions k = (session_at sessions k).announced && not (session_at sessions k).closed

abbrev pub mem_link_of : MemSession → Side → LinkState
mem_link_of session side.Client = session.client
mem_link_of session side.Upstream = session.upstream

abbrev pub faults_or_none : Option MemSession → Side → ℕ
faults_or_none None s = 0
faults_or_none (Some session) s = (mem_link_of session s).faults

abbrev pub waits_or_none : Option MemSession → Side → ℕ
waits_or_none None s = 0
waits_or_none (Some session) s = (mem_link_of session s).waits

-- the sessions have received bytes, and what arrives at them are bytes
abbrev pub AreSessionBytes : MemSession → Type 0
AreSessionBytes session = AreLinkBytes session.client × AreLinkBytes session.upstream

abbrev pub IsStepBytes : HubStep → Type 0
IsStepBytes step.Connect = ⊤
IsStepBytes (step.Arrive k side bytes) = AreBytes bytes
IsStepBytes (step.Finish k side) = ⊤
IsStepBytes (step.Room k side bytes) = ⊤
IsStepBytes (step.Break k side) = ⊤
IsStepBytes step.BreakNext = ⊤

abbrev pub AreSessionsBytes : List MemSession → Type 0
AreSessionsBytes [] = ⊤
AreSessionsBytes (session ∷ sessions) = AreSessionBytes session × AreSessionsBytes sessions

abbrev pub AreStepsBytes : List HubStep → Type 0
AreStepsBytes [] = ⊤
AreStepsBytes (step ∷ steps) = IsStepBytes step × AreStepsBytes steps

pub record AreHubBytes (hub : HubState) : Type 0 where
  pub steps : AreStepsBytes hub.steps
  pub sessions : AreSessionsBytes hub.sessions

-- the one meaning that it tells, but for its calls, of which it keeps no list; a text holds nothing but bytes
pub record TellsHub (hub : HubState) (m : Meaning) : Type 0 where
  pub session : (k : ℕ) → m.session k ≡ session_at hub.sessions k
  pub started : m.started ≡ hub.started
  pub last_event : m.last_event ≡ hub.last_event
  pub events : m.events ≡ hub.events
  pub bytes : AreHubBytes hub

-- a write at a session that isn't open is a stray one, and counts at each side
abbrev pub hub_counts : HubState → Counts
hub_counts hub = record { faults = hub.faults; link_faults = λ k s. hub.strays + faults_or_none (slice_get hub.sessions k) s; waits = λ k s. waits_or_none (slice_get hub.sessions k) s }

-- no count of a side has fallen
pub record NoCountFell (a b : MemSession) : Type 0 where
  pub faults : (s : Side) → (mem_link_of a s).faults ≤ (mem_link_of b s).faults
  pub waits : (s : Side) → (mem_link_of a s).waits ≤ (mem_link_of b s).waits

abbrev pub new_mem_session : MemSession
new_mem_session = record { closed = false; client = new_link_state; upstream = new_link_state }

-- ---- the steps of the outside, by the table

-- the session after its side was changed, where the change isn't passed over: its last answers are none
abbrev pub changed_session : Side → (LinkState → Option LinkState) → MemSession → Option MemSession
changed_session side.Client change s = option_map (λ link. record s { client = unasked_link link; upstream = unasked_link s.upstream }) (change s.client)
changed_session side.Upstream change s = option_map (λ link. record s { client = unasked_link s.client; upstream = unasked_link link }) (change s.upstream)

abbrev pub changed_or_none : Side → (LinkState → Option LinkState) → Option MemSession → Option MemSession
changed_or_none side change None = None
changed_or_none side change (Some s) = changed_session side change s

-- the event of a change, and the sessions after it; a session that is closed or unknown is passed over
abbrev pub ready : ℕ → Side → (LinkState → Option LinkState) → List MemSession → Option (HubNext × List MemSession)
ready k side change sessions =
    if is_open_at sessions k
    then option_map (λ s. (event.Ready k, set sessions k s)) (changed_or_none side change (slice_get sessions k))
    else None

-- the event that a step brings, and the sessions after it, or none where it is passed over
unfoldable pub step_of : HubStep → List MemSession → Option (HubNext × List MemSession)
step_of step.Connect sessions = Some (event.Opened (length sessions), sessions ++ new_mem_session ∷ [])
step_of (step.Arrive k side bytes) sessions = ready k side (arrives bytes) sessions
step_of (step.Finish k side) sessions = ready k side finishes sessions
step_of (step.Room k side bytes) sessions = ready k side (gets_room bytes) sessions
step_of (step.Break k side) sessions = ready k side will_break sessions
step_of step.BreakNext sessions = Some (event.Failed, sessions)

-- only a new session and bytes that arrive need memory
abbrev pub NeedsMemory : HubStep → Type 0
NeedsMemory step.Connect = ⊤
NeedsMemory (step.Arrive k side bytes) = ⊤
NeedsMemory (step.Finish k side) = ⊥
NeedsMemory (step.Room k side bytes) = ⊥
NeedsMemory (step.Break k side) = ⊥
NeedsMemory step.BreakNext = ⊥

-- events are counted, and faults
abbrev pub events_after : HubNext → ℕ → ℕ
events_after (event.Opened k) n = one_more n
events_after (event.Ready k) n = one_more n
events_after event.Stopped n = n
events_after event.Failed n = n

abbrev pub faults_after : HubNext → ℕ → ℕ
faults_after (event.Opened k) n = n
faults_after (event.Ready k) n = n
faults_after event.Stopped n = n
faults_after event.Failed n = one_more n

-- the hub after a step that brought an event
abbrev pub after_event : HubNext → List HubStep → List MemSession → HubState → HubState
after_event event steps sessions hub =
    record hub { steps = steps; sessions = sessions; last_event = Some event; events = events_after event hub.events; faults = faults_after event hub.faults }

-- the hub after a step that found no memory
abbrev pub after_refusal : List HubStep → HubState → HubState
after_refusal steps hub =
    record hub { steps = steps; last_event = Some event.Failed; faults = one_more hub.faults; refused = one_more hub.refused }

-- the step brings this answer, or found no memory
abbrev pub AnswersStep : HubStep → HubNext × List MemSession → List HubStep → HubState → HubState → HubNext → Type 0
AnswersStep step brought rest a b answer =
    ((answer ≡ brought.0) × (b ≡ after_event brought.0 rest brought.1 a))
    ⊎ (NeedsMemory step × (answer ≡ event.Failed) × (b ≡ after_refusal rest a))

-- what `next` does, by what its next step brings: a step that is passed over leads to the one behind it
abbrev pub NextBy : Option (HubNext × List MemSession) → HubStep → List HubStep → HubState → HubState → HubNext → Type 0 → Type 0
NextBy None step rest a b answer behind = behind
NextBy (Some brought) step rest a b answer behind = AnswersStep step brought rest a b answer

abbrev pub NextDoes : List HubStep → HubState → HubState → HubNext → Type 0
NextDoes [] a b answer = (answer ≡ event.Stopped) × (b ≡ record a { steps = []; last_event = Some event.Stopped })
NextDoes (step ∷ rest) a b answer = NextBy (step_of step a.sessions) step rest a b answer (NextDoes rest a b answer)

-- ---- what the code does with a step

-- what a step does to the sessions, as they are told
abbrev pub PerformsStep : List MemSession → List MemSession → Performed → Type 0
PerformsStep old new (performed.Opened k) = (k ≡ length old) × (new ≡ old ++ new_mem_session ∷ [])
PerformsStep old new (performed.Ready k) =
    (is_open_at old k ≡ true)
    × ((s : MemSession) × (s' : MemSession) × (s ≡ get_or old k s) × (new ≡ set old k s') × (told_of s' ≡ reopened (told_of s)) × NoCountFell s s')
PerformsStep old new performed.Broke = new ≡ old
PerformsStep old new performed.PassedOver = new ≡ old
PerformsStep old new performed.Refused = new ≡ old

-- and by the table, where `brings` is what the step brings and `needs` whether it needs memory
abbrev pub Brings : Option (HubNext × List MemSession) → Type 0 → List MemSession → Performed → Type 0
Brings brings needs new (performed.Opened k) = brings ≡ Some (event.Opened k, new)
Brings brings needs new (performed.Ready k) = brings ≡ Some (event.Ready k, new)
Brings brings needs new performed.Broke = brings ≡ Some (event.Failed, new)
Brings brings needs new performed.PassedOver = brings ≡ None
Brings brings needs new performed.Refused = (brought : HubNext × List MemSession) × (brings ≡ Some brought) × needs

-- what a change does to a session
abbrev pub MakesSession : Option MemSession → MemSession → MemSession → Passed → Type 0
MakesSession after a b passed.Performed = after ≡ Some b
MakesSession after a b passed.Over = (after ≡ None) × (b ≡ a)

abbrev pub Steps : HubState → HubState → Stepped → Type 0
Steps a b stepped.Over = (b ≡ record a { steps = drop 1 a.steps })
Steps a b (stepped.Event event) = (length b.steps < length a.steps) × Leads (TellsHub a) (TellsHub b) HasStarted (NextLeads event)

-- by the table: the first of its steps is passed over, or answered
abbrev pub StepsBy : HubState → HubState → Stepped → Type 0
StepsBy a b stepped.Over =
    (first : HubStep) × (rest : List HubStep) × (a.steps ≡ first ∷ rest) × (step_of first a.sessions ≡ None) × (b ≡ record a { steps = rest })
StepsBy a b (stepped.Event answer) =
    (first : HubStep) × (rest : List HubStep) × (a.steps ≡ first ∷ rest)
    × ((brought : HubNext × List MemSession) × (step_of first a.sessions ≡ Some brought) × AnswersStep first brought rest a b answer)

-- ---- the other calls

abbrev pub StartDoes : Started → Began → HubState → HubState → Type 0
StartDoes started began.Done a b = b ≡ record a { started = Some started }
StartDoes started began.Failed a b = ⊥
StartDoes started (began.NotFound at) a b = ⊥
StartDoes started began.OutOfMemory a b = b ≡ a

-- the side of the session has changed so, and nothing else of it
abbrev pub AtMemSide : Side → (LinkState → LinkState → Type 0) → MemSession → MemSession → Type 0
AtMemSide side.Client Step a b = (link : LinkState) × Step a.client link × (b ≡ record a { client = link })
AtMemSide side.Upstream Step a b = (link : LinkState) × Step a.upstream link × (b ≡ record a { upstream = link })

-- session k has changed so, and nothing else but what was counted of growths
pub record SessionDoes (k : ℕ) (Step : MemSession → MemSession → Type 0) (refused : ℕ) (a b : HubState) : Type 0 where
  pub before : MemSession
  pub after : MemSession
  pub was : slice_get a.sessions k ≡ Some before
  pub step : Step before after
  pub now : b ≡ record a { sessions = set a.sessions k after; refused = refused }

-- a read of a session that isn't open, which nobody is to make, finds the end
abbrev pub ReadDoes : Bool → ℕ → Side → List ℕ → LinkGot → HubState → HubState → Type 0
ReadDoes true k side into answer a b = SessionDoes k (AtMemSide side (ReadsLink a.chunk into answer)) a.refused a b
ReadDoes false k side into answer a b = (answer ≡ got.End) × (b ≡ a)

-- and a write to it fails
abbrev pub WriteDoes : Bool → ℕ → Side → List ℕ → LinkPut → HubState → HubState → Type 0
WriteDoes true k side from answer a b = SessionDoes k (AtMemSide side (WritesLink a.chunk from answer a.refused b.refused)) b.refused a b
WriteDoes false k side from answer a b = (answer ≡ put.Failed) × (b ≡ record a { strays = one_more a.strays })

abbrev pub CloseDoes : Bool → ℕ → HubState → HubState → Type 0
CloseDoes true k a b = SessionDoes k (λ s s'. s' ≡ record s { closed = true }) a.refused a b
CloseDoes false k a b = b ≡ a
