-- What the fan in memory holds and tells, exactly.
use Rattle.std.specs.Prelude.{◌≡◌, ℕ, ⊤, ◌+◌, ◌≤◌, ◌<◌, ◌⊎◌, List, [], ◌∷◌, ◌++◌, length, drop, Bool, true, false, Option, None, Some, option_map, if◌then◌else◌}
use Rattle.std.specs.List.{slice_get}
use Rattle.std.proofs.Math.ListN.{set}
use Rattle.gate_base.specs.Bytes.{AreBytes}
use Rattle.gate_base.specs.Causes.{one_more}
use Rattle.gate_hub.specs.declared.hub.Began.{Began}
use Rattle.gate_hub.specs.declared.hub.Began.TheVariants as began
use Rattle.gate_hub.specs.declared.hub.HubNext.{HubNext}
use Rattle.gate_hub.specs.declared.hub.HubNext.TheVariants as event
use Rattle.gate_hub.specs.declared.hub.LinkGot.{LinkGot}
use Rattle.gate_hub.specs.declared.hub.LinkGot.TheVariants as got
use Rattle.gate_hub.specs.declared.hub.LinkPut.{LinkPut}
use Rattle.gate_hub.specs.declared.hub.LinkPut.TheVariants as put
use Rattle.gate_fan.specs.Meaning.{Told, Started, Meaning}
use Rattle.gate_fan.specs.Fans.{Counts, Leads, HasStarted, NextLeads}
use Rattle.gate_fan.specs.declared.fan.Target.{Target}
use Rattle.gate_memory.specs.Link.{LinkState, AreLinkBytes, arrives, finishes, gets_room, will_break, ReadsLink, WritesLink}
use Rattle.gate_memory.specs.Hub.{events_after, faults_after}
use Rattle.gate_memory.specs.FanPorts.{SessionState, new_ports, port_of, has_port, told_of, told_or_unknown, changed_session, PortDoes, NoPortFell}
use Rattle.gate_memory.specs.declared.fan_steps.FanStep.{FanStep}
use Rattle.gate_memory.specs.declared.fan_steps.FanStep.TheVariants as step
use Rattle.gate_memory.specs.declared.fan.StartedWith.{StartedWith}
use Rattle.gate_memory.specs.declared.fan.Performed.{Performed}
use Rattle.gate_memory.specs.declared.fan.Performed.TheVariants as performed
use Rattle.gate_memory.specs.declared.fan.Stepped.{Stepped}
use Rattle.gate_memory.specs.declared.fan.Stepped.TheVariants as stepped

-- the steps that are left, the most bytes of a call, the sessions in order, what it tells besides, and its counts
pub record FanState : Type 0 where
  pub steps : List FanStep
  pub chunk : ℕ
  pub sessions : List SessionState
  pub started : Option Started
  pub last_event : Option HubNext
  pub events : ℕ
  pub faults : ℕ
  pub strays : ℕ
  pub refused : ℕ

-- a fan to which nothing happened so far
abbrev pub new_fan : List FanStep → ℕ → FanState
new_fan steps chunk =
    record { steps = steps; chunk = chunk; sessions = []; started = None; last_event = None; events = 0; faults = 0; strays = 0; refused = 0 }

abbrev pub started_of : StartedWith → Started
started_of with = record { listen = with.listen; targets = with.targets.items; accept = with.accept; sessions = with.sessions }

-- how many targets it was started with
abbrev pub targets_in : Option Started → ℕ
targets_in None = 0
targets_in (Some started) = length started.targets

abbrev pub targets_of : FanState → ℕ
targets_of fan = targets_in fan.started

-- a session by its number: the sessions are opened in order
abbrev pub session_at : List SessionState → ℕ → Told
session_at sessions k = told_or_unknown (slice_get sessions k)

abbrev pub has_port_or_none : Option SessionState → ℕ → Bool
has_port_or_none None port = false
has_port_or_none (Some session) port = has_port session port

-- the session is open and has this port
abbrev pub has_port_at : List SessionState → ℕ → ℕ → Bool
has_port_at sessions k port = has_port_or_none (slice_get sessions k) port

abbrev pub is_open_or_none : Option SessionState → Bool
is_open_or_none None = false
is_open_or_none (Some session) = if session.closed then false else true

abbrev pub is_open_at : List SessionState → ℕ → Bool
is_open_at sessions k = is_open_or_none (slice_get sessions k)

abbrev pub faults_or_none : Option SessionState → ℕ → ℕ
faults_or_none None port = 0
faults_or_none (Some session) port = (port_of session port).faults

abbrev pub waits_or_none : Option SessionState → ℕ → ℕ
waits_or_none None port = 0
waits_or_none (Some session) port = (port_of session port).waits

-- each session has a port for the client and one for each target
abbrev pub HavePorts : ℕ → List SessionState → Type 0
HavePorts targets [] = ⊤
HavePorts targets (session ∷ sessions) = (length session.ports ≡ targets + 1) × HavePorts targets sessions

-- the ports have received bytes, and what arrives at them are bytes
abbrev pub ArePortsBytes : List LinkState → Type 0
ArePortsBytes [] = ⊤
ArePortsBytes (port ∷ ports) = AreLinkBytes port × ArePortsBytes ports

abbrev pub IsStepBytes : FanStep → Type 0
IsStepBytes step.Connect = ⊤
IsStepBytes (step.Arrive k port bytes) = AreBytes bytes
IsStepBytes (step.Finish k port) = ⊤
IsStepBytes (step.Room k port bytes) = ⊤
IsStepBytes (step.Break k port) = ⊤
IsStepBytes step.BreakNext = ⊤

abbrev pub AreSessionsBytes : List SessionState → Type 0
AreSessionsBytes [] = ⊤
AreSessionsBytes (session ∷ sessions) = ArePortsBytes session.ports × AreSessionsBytes sessions

abbrev pub AreStepsBytes : List FanStep → Type 0
AreStepsBytes [] = ⊤
AreStepsBytes (step ∷ steps) = IsStepBytes step × AreStepsBytes steps

pub record AreFanBytes (fan : FanState) : Type 0 where
  pub steps : AreStepsBytes fan.steps
  pub sessions : AreSessionsBytes fan.sessions

-- the one meaning that it tells, but for its calls, of which it keeps no list; a text holds nothing but bytes
pub record TellsFan (fan : FanState) (m : Meaning) : Type 0 where
  pub session : (k : ℕ) → m.session k ≡ session_at fan.sessions k
  pub started : m.started ≡ fan.started
  pub last_event : m.last_event ≡ fan.last_event
  pub events : m.events ≡ fan.events
  pub bytes : AreFanBytes fan

-- a write at a session that isn't open, or to a port that it hasn't, is a stray one, and counts at each port
abbrev pub fan_counts : FanState → Counts
fan_counts fan = record { faults = fan.faults; link_faults = λ k port. fan.strays + faults_or_none (slice_get fan.sessions k) port; waits = λ k port. waits_or_none (slice_get fan.sessions k) port }

abbrev pub new_fan_session : ℕ → SessionState
new_fan_session targets = record { closed = false; ports = new_ports targets }

-- ---- the steps of the outside, by the table

abbrev pub changed_or_unknown : ℕ → (LinkState → Option LinkState) → Option SessionState → Option SessionState
changed_or_unknown port change None = None
changed_or_unknown port change (Some s) = changed_session port change s

-- the event of a change, and the sessions after it; a session that is closed or unknown is passed over, and so is a port that it hasn't
abbrev pub ready : ℕ → ℕ → (LinkState → Option LinkState) → List SessionState → Option (HubNext × List SessionState)
ready k port change sessions =
    if has_port_at sessions k port
    then option_map (λ s. (event.Ready k, set sessions k s)) (changed_or_unknown port change (slice_get sessions k))
    else None

-- the event that a step brings, and the sessions after it, or none where it is passed over; a new session has ports for so many targets
unfoldable pub step_of : ℕ → FanStep → List SessionState → Option (HubNext × List SessionState)
step_of targets step.Connect sessions = Some (event.Opened (length sessions), sessions ++ new_fan_session targets ∷ [])
step_of targets (step.Arrive k port bytes) sessions = ready k port (arrives bytes) sessions
step_of targets (step.Finish k port) sessions = ready k port finishes sessions
step_of targets (step.Room k port bytes) sessions = ready k port (gets_room bytes) sessions
step_of targets (step.Break k port) sessions = ready k port will_break sessions
step_of targets step.BreakNext sessions = Some (event.Failed, sessions)

-- only a new session and bytes that arrive need memory
abbrev pub NeedsMemory : FanStep → Type 0
NeedsMemory step.Connect = ⊤
NeedsMemory (step.Arrive k port bytes) = ⊤
NeedsMemory (step.Finish k port) = ⊥
NeedsMemory (step.Room k port bytes) = ⊥
NeedsMemory (step.Break k port) = ⊥
NeedsMemory step.BreakNext = ⊥

-- the fan after a step that brought an event
abbrev pub after_event : HubNext → List FanStep → List SessionState → FanState → FanState
after_event event steps sessions fan =
    record fan { steps = steps; sessions = sessions; last_event = Some event; events = events_after event fan.events; faults = faults_after event fan.faults }

-- the fan after a step that found no memory
abbrev pub after_refusal : List FanStep → FanState → FanState
after_refusal steps fan =
    record fan { steps = steps; last_event = Some event.Failed; faults = one_more fan.faults; refused = one_more fan.refused }

-- the step brings this answer, or found no memory
abbrev pub AnswersStep : FanStep → HubNext × List SessionState → List FanStep → FanState → FanState → HubNext → Type 0
AnswersStep step brought rest a b answer =
    ((answer ≡ brought.0) × (b ≡ after_event brought.0 rest brought.1 a))
    ⊎ (NeedsMemory step × (answer ≡ event.Failed) × (b ≡ after_refusal rest a))

-- what `next` does, by what its next step brings: a step that is passed over leads to the one behind it
abbrev pub NextBy : Option (HubNext × List SessionState) → FanStep → List FanStep → FanState → FanState → HubNext → Type 0 → Type 0
NextBy None step rest a b answer behind = behind
NextBy (Some brought) step rest a b answer behind = AnswersStep step brought rest a b answer

abbrev pub NextDoes : List FanStep → FanState → FanState → HubNext → Type 0
NextDoes [] a b answer = (answer ≡ event.Stopped) × (b ≡ record a { steps = []; last_event = Some event.Stopped })
NextDoes (step ∷ rest) a b answer = NextBy (step_of (targets_of a) step a.sessions) step rest a b answer (NextDoes rest a b answer)

-- ---- what the code does with a step

-- by the table, where `brings` is what the step brings and `needs` whether it needs memory
abbrev pub Brings : Option (HubNext × List SessionState) → Type 0 → List SessionState → List SessionState → Performed → Type 0
Brings brings needs old new (performed.Opened k) = brings ≡ Some (event.Opened k, new)
Brings brings needs old new (performed.Ready k) = brings ≡ Some (event.Ready k, new)
Brings brings needs old new performed.Broke = brings ≡ Some (event.Failed, new)
Brings brings needs old new performed.PassedOver = (brings ≡ None) × (new ≡ old)
Brings brings needs old new performed.Refused = (brought : HubNext × List SessionState) × (brings ≡ Some brought) × needs × (new ≡ old)

-- the first of its steps is passed over, or answered
abbrev pub StepsBy : FanState → FanState → Stepped → Type 0
StepsBy a b stepped.Over =
    (first : FanStep) × (rest : List FanStep) × (a.steps ≡ first ∷ rest) × (step_of (targets_of a) first a.sessions ≡ None) × (b ≡ record a { steps = rest })
StepsBy a b (stepped.Event answer) =
    (first : FanStep) × (rest : List FanStep) × (a.steps ≡ first ∷ rest)
    × ((brought : HubNext × List SessionState) × (step_of (targets_of a) first a.sessions ≡ Some brought) × AnswersStep first brought rest a b answer)

-- ---- the other calls

-- it hasn't started, no event was asked for, and no session opened
pub record IsUnused (fan : FanState) : Type 0 where
  pub unstarted : fan.started ≡ None
  pub unasked : fan.last_event ≡ None
  pub none : fan.sessions ≡ []

-- it starts once, before the first event; after that a start fails
abbrev pub StartDoes : Started → Began → FanState → FanState → Type 0
StartDoes started began.Done a b = IsUnused a × (b ≡ record a { started = Some started })
StartDoes started began.Failed a b = (IsUnused a → ⊥) × (b ≡ record a { faults = one_more a.faults })
StartDoes started (began.NotFound at) a b = ⊥
StartDoes started began.OutOfMemory a b = b ≡ a

-- session k has changed so, and nothing else but what was counted of growths
pub record SessionDoes (k : ℕ) (Step : SessionState → SessionState → Type 0) (refused : ℕ) (a b : FanState) : Type 0 where
  pub before : SessionState
  pub after : SessionState
  pub was : slice_get a.sessions k ≡ Some before
  pub step : Step before after
  pub now : b ≡ record a { sessions = set a.sessions k after; refused = refused }

-- a read of a session that isn't open or of a port that it hasn't, which nobody is to make, finds the end
abbrev pub ReadDoes : Bool → ℕ → ℕ → List ℕ → LinkGot → FanState → FanState → Type 0
ReadDoes true k port into answer a b = SessionDoes k (PortDoes port (ReadsLink a.chunk into answer)) a.refused a b
ReadDoes false k port into answer a b = (answer ≡ got.End) × (b ≡ a)

-- and a write to it fails
abbrev pub WriteDoes : Bool → ℕ → ℕ → List ℕ → LinkPut → FanState → FanState → Type 0
WriteDoes true k port from answer a b = SessionDoes k (PortDoes port (WritesLink a.chunk from answer a.refused b.refused)) b.refused a b
WriteDoes false k port from answer a b = (answer ≡ put.Failed) × (b ≡ record a { strays = one_more a.strays })

abbrev pub CloseDoes : Bool → ℕ → FanState → FanState → Type 0
CloseDoes true k a b = SessionDoes k (λ s s'. s' ≡ record s { closed = true }) a.refused a b
CloseDoes false k a b = b ≡ a
