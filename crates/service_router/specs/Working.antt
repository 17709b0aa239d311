-- The state of a router in the program, and what its calls do.
use Rattle.std.specs.Prelude.{◌≡◌, ◌⊎◌, ℕ, zero, suc, ◌+◌, ◌==◌, ◌^◌, ◌<◌, ◌≤◌, List, [], ◌∷◌, ◌++◌, length, map, drop, slice_set, if◌then◌else◌, Option, Some, None, IfSome}
use Rattle.std.specs.List.{All}
use Rattle.std.specs.Vec.{with_item}
use Rattle.framed_transport.specs.Frames.{IsCut, framed}
use Rattle.framed_transport.specs.Front.{Whole, front}
use Rattle.session_core.specs.Notes.{Note, call_notes, reply_notes}
use Rattle.session_core.specs.Rules.{Rules}
use Rattle.session_core.specs.Fits.{told}
use Rattle.session_core.specs.Rooms.{due_room}
use Rattle.session_core.specs.Steps.{Waits, Halts, of_upstream, of_client}
use Rattle.session_core.specs.Working.{StandsStill, IsFound}
use Rattle.session_core.specs.declared.state.SessionStep.{SessionStep}
use Rattle.session_core.specs.declared.state.SessionStep.TheVariants as step
use Rattle.session_core.specs.declared.state.Standstill.{Standstill}
use Rattle.session_core.specs.declared.state.TheConstants.{MOST_CALLS}
use Rattle.translate_verdicts.specs.declared.verdict.Cause.{Cause}
use Rattle.session_core.specs.declared.judge.ClientJudged.{ClientJudged}
use Rattle.session_core.specs.declared.judge.ClientJudged.TheVariants as client
use Rattle.session_core.specs.declared.judge.UpstreamJudged.TheVariants as upstream
use Rattle.service_router.specs.Rules.{RouteRules}
use Rattle.service_router.specs.Routing.{Routing}
use Rattle.service_router.specs.Judging.{rules_of}
use Rattle.service_router.specs.Standing.{Standing, History, Inbox, inbox_of}
use Rattle.service_router.specs.Inboxes.{HasRoom, without_frame}
use Rattle.service_router.specs.Fits.{led}
use Rattle.service_router.specs.Telling.{FitsTold}
use Rattle.service_router.specs.Steps.{as_session}
use Rattle.service_router.specs.Ends.{IsAtRest}
use Rattle.service_router.specs.Router.{Rooms}
use Rattle.service_router.specs.declared.call.OpenCall.{OpenCall}
use Rattle.service_router.specs.declared.router.TheConstants.{MOST_TARGETS}
use Rattle.service_router.specs.declared.state.State.{State}

abbrev pub standing : State → Standing
standing s = record {
  client = s.client;
  upstreams = s.ports.items;
  to_client = s.to_client.bytes;
  to_upstream = s.to_upstream.bytes;
  toward = s.toward;
  calls = s.calls.items;
}

-- what came of a port
abbrev pub inbox_in : ℕ → State → Inbox
inbox_in port s = inbox_of port (standing s)

-- what came of one port is this
abbrev pub with_inbox_in : ℕ → Inbox → State → State
with_inbox_in zero inbox s = record s { client = inbox }
with_inbox_in (suc u) inbox s = record s { ports = with_item s.ports u inbox }

-- the front frame of a target and the oldest call are gone
abbrev pub without_call : ℕ → State → State
without_call u s = record (with_inbox_in (suc u) (without_frame (inbox_in (suc u) s)) s) { calls = record (s.calls) { items = drop 1 s.calls.items } }

-- so many of the bytes that were due to a port are gone
abbrev pub let_go_in : ℕ → ℕ → State → State
let_go_in zero n s = record s { to_client = record (s.to_client) { bytes = drop n s.to_client.bytes } }
let_go_in (suc u) n s = if s.toward == u then record s { to_upstream = record (s.to_upstream) { bytes = drop n s.to_upstream.bytes } } else s

-- the rooms that it has
abbrev pub rooms_in : State → Rooms
rooms_in s = record {
  client = s.client.limit + 4;
  upstreams = map (λ (inbox : Inbox). inbox.limit + 4) s.ports.items;
  to_client = s.to_client.room;
  to_upstream = s.to_upstream.room;
  calls = s.calls.capacity;
}

-- its rooms serve for frames of the limit, so many calls and so many targets, and nothing in it passes its room
pub record IsReady (limit max_calls targets : ℕ) (s : State) : Type 0 where
  pub client : HasRoom limit s.client
  pub ports : All (HasRoom limit) s.ports.items
  pub small : limit < 2 ^ 24
  pub count : length s.ports.items ≡ targets
  pub some_targets : 0 < targets
  pub few_targets : targets ≤ MOST_TARGETS
  pub to_client_room : s.to_client.room ≡ due_room limit
  pub to_client_within : length s.to_client.bytes ≤ s.to_client.room
  pub to_upstream_room : s.to_upstream.room ≡ due_room limit
  pub to_upstream_within : length s.to_upstream.bytes ≤ s.to_upstream.room
  pub capacity : s.calls.capacity ≡ max_calls
  pub some : 0 < max_calls
  pub few : max_calls ≤ MOST_CALLS
  pub calls_within : length s.calls.items ≤ max_calls
  pub known_targets : All (λ (c : OpenCall). c.target < targets) s.calls.items

-- its rooms serve for its own limits
abbrev pub IsSound : State → Type 0
IsSound s = IsReady s.client.limit s.calls.capacity (length s.ports.items) s

-- what is known of the client's front frame is so
abbrev pub Knows : RouteRules → State → Type 0
Knows rules s = IfSome s.known (λ found. IsFound rules.judging s.client.limit s.client.held found)

-- what each call rests on: rooms that serve, a judge that has room for its frames and the same targets, and a stored verdict that is so
pub record Works (r : Routing) (s : State) : Type 0 where
  pub ready : IsSound s
  pub fits : s.client.limit ≤ r.longest
  pub targets : length s.ports.items ≡ length r.targets
  pub known : Knows (rules_of r) s

-- and what it leaves: rooms that serve for the same, and a stored verdict that is so
pub record Keeps (r : Routing) (old new : State) : Type 0 where
  pub ready : IsReady old.client.limit old.calls.capacity (length old.ports.items) new
  pub known : Knows (rules_of r) new

-- the later state fits what was told before and these notes, with what was added on the way
abbrev pub FitsTelling : Routing → State → State → List Note → (History → History) → Type 0
FitsTelling r old new added on =
    (h : History) (past : List Note) → FitsTold (rules_of r) old.client.limit old.calls.capacity h past (standing old) → FitsTold (rules_of r) old.client.limit old.calls.capacity (on h) (past ++ added) (standing new)

-- some notes were made, and it fits with these
abbrev pub FitsOn : Routing → State → State → (List Note → Type 0) → (History → History) → Type 0
FitsOn r old new tells on = (added : List Note) × tells added × FitsTelling r old new added on

-- the front frame of the oldest call's target has answered it, and this is told of it
pub record Answers (rules : Rules) (limit : ℕ) (s t : Standing) (added : List Note) : Type 0 where
  pub call : OpenCall
  pub calls : List OpenCall
  pub frame : List ℕ
  pub rest : List ℕ
  pub opened : s.calls ≡ call ∷ calls
  pub known : call.target < length s.upstreams
  pub none : s.to_client ≡ []
  pub whole : front limit (inbox_of (suc call.target) s).held ≡ Whole frame rest
  pub cut : IsCut limit (inbox_of (suc call.target) s).held frame rest
  pub refused : Option Cause
  pub answers : rules.replied call.call frame ≡ upstream.Answers refused
  pub noted : added ≡ reply_notes (suc call.target) (rules.replied call.call frame) (told ((inbox_of (suc call.target) s).taken + 1)) frame
  pub after :
      let inbox = inbox_of (suc call.target) s in
      t ≡ record s {
        to_client = framed (rules.reply call.call frame);
        calls = calls;
        upstreams = slice_set s.upstreams call.target (record inbox { held = rest; taken = told (inbox.taken + 1) });
      }

-- the client's inbox behind its front frame
abbrev pub asked_once : Inbox → List ℕ → Inbox
asked_once inbox rest = record inbox { held = rest; taken = told (inbox.taken + 1) }

-- the router behind a frame of the client with this verdict, output and answer, which goes to this target
abbrev pub TakesBy : ClientJudged → ℕ → List ℕ → List ℕ → List ℕ → Standing → Standing → Type 0
TakesBy (client.Halts h) target output answer rest s t = ⊥
TakesBy (client.Opens call) target output answer rest s t =
    t ≡ record s { client = asked_once s.client rest; to_upstream = framed output; toward = target; calls = s.calls ++ led target call ∷ [] }
TakesBy client.Goes target output answer rest s t =
    t ≡ record s { client = asked_once s.client rest; to_upstream = framed output; toward = target }
TakesBy (client.Refused cause) target output answer rest s t =
    (s.calls ≡ []) × (s.to_client ≡ []) × (t ≡ record s { client = asked_once s.client rest; to_client = framed answer })
TakesBy (client.Dropped cause) target output answer rest s t = t ≡ record s { client = asked_once s.client rest }

-- the client's front frame has been taken, and this is told of it
pub record Asks (rules : RouteRules) (limit max_calls : ℕ) (s t : Standing) (added : List Note) : Type 0 where
  pub frame : List ℕ
  pub rest : List ℕ
  pub none : s.to_upstream ≡ []
  pub few : length s.calls < max_calls
  pub whole : front limit s.client.held ≡ Whole frame rest
  pub cut : IsCut limit s.client.held frame rest
  pub takes : TakesBy (rules.judging.judged frame) (rules.target frame) (rules.judging.output frame) (rules.judging.answer frame) rest s t
  pub noted : added ≡ call_notes (rules.judging.judged frame) (told (s.client.taken + 1)) frame

-- what came of a look at the target of the oldest call, and what is told of it
abbrev pub LooksUp : Rules → ℕ → SessionStep → Standing → Standing → List Note → Type 0
LooksUp rules limit step.Waits s t added = (of_upstream rules limit (as_session s) ≡ Waits) × (t ≡ s) × (added ≡ [])
LooksUp rules limit (step.Halts h) s t added = (of_upstream rules limit (as_session s) ≡ Halts h) × (t ≡ s) × (added ≡ [])
LooksUp rules limit step.Takes s t added = Answers rules limit s t added

-- what came of a look at the client, and what is told of it
abbrev pub LooksDown : RouteRules → ℕ → ℕ → SessionStep → Standing → Standing → List Note → Type 0
LooksDown rules limit max_calls step.Waits s t added = (of_client rules.judging limit max_calls (as_session s) ≡ Waits) × (t ≡ s) × (added ≡ [])
LooksDown rules limit max_calls (step.Halts h) s t added = (of_client rules.judging limit max_calls (as_session s) ≡ Halts h) × (t ≡ s) × (added ≡ [])
LooksDown rules limit max_calls step.Takes s t added = Asks rules limit max_calls s t added

-- the same of a state, by its own limits
abbrev pub LooksUpIn : Routing → State → State → (List Note → Type 0) → SessionStep → Type 0
LooksUpIn r old new tells came = (added : List Note) × tells added × LooksUp (rules_of r).judging old.client.limit came (standing old) (standing new) added

abbrev pub LooksDownIn : Routing → State → State → (List Note → Type 0) → SessionStep → Type 0
LooksDownIn r old new tells came = (added : List Note) × tells added × LooksDown (rules_of r) old.client.limit old.calls.capacity came (standing old) (standing new) added

-- a frame was taken and this is told of it, or none can be
abbrev pub Goes : RouteRules → ℕ → ℕ → Standing → Standing → List Note → Option Standstill → Type 0
Goes rules limit max_calls s t added None = Answers rules.judging limit s t added ⊎ Asks rules limit max_calls s t added
Goes rules limit max_calls s t added (Some why) = (t ≡ s) × StandsStill rules.judging limit max_calls (as_session s) why × (added ≡ [])

abbrev pub GoesOn : Routing → State → State → (List Note → Type 0) → Option Standstill → Type 0
GoesOn r old new tells why = (added : List Note) × tells added × Goes (rules_of r) old.client.limit old.calls.capacity (standing old) (standing new) added why

-- between two calls the router is at rest, by the limits that it began with
abbrev pub IsSettledBy : Routing → State → State → Type 0
IsSettledBy r old s = IsAtRest (rules_of r) old.client.limit old.calls.capacity (standing s) s.outcome
