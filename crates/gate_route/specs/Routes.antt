-- What a router does, from its start to its last line.
use Rattle.std.specs.Prelude.{◌≡◌, ◌⊎◌, ℕ, List, length, true, false, Some, slice_get}
use Rattle.gate_base.specs.Causes.{Rose}
use Rattle.gate_fan.specs.Meaning.{Meaning, Started, Told}
use Rattle.gate_fan.specs.Fans.{Later, Leads, NotStarted, StartLeads}
use Rattle.gate_fan.specs.declared.fan.Fan.{Ghosts as Fan}
use Rattle.gate_fan.specs.declared.fan.Target.{Target}
use Rattle.gate_io.specs.declared.byte_streams.Sink.{Ghosts as Sink}
use Rattle.gate_hub.specs.declared.hub.Began.TheVariants as began
use Rattle.gate_hub.specs.declared.hub.HubNext.TheVariants as event
use Rattle.gate_hub.specs.declared.hub.Served.{Served}
use Rattle.service_router.specs.Judging.{rules_of}
use Rattle.service_router.specs.Router.{Seen}
use Rattle.service_router.specs.Routing.{Routing as Between}
use Rattle.service_router.specs.declared.outcome.RouteOutcome.{RouteOutcome}
use Rattle.route_server.specs.Serving.{IsHeld, HasClosed, is_over, Setting}
use Rattle.route_server.specs.Steps.{Outside, Serves, outside}
use Rattle.route_server.specs.Turning.{IsSettled}
use Rattle.gate_words.specs.declared.routing.Routing.{Routing}
use Rattle.session_core.specs.Notes.{Note}
use Rattle.refusal_lines.specs.Told.{Told as Telling, told_text}
use Rattle.peer_addresses.specs.Names.{name_in}
use Rattle.gate_start.specs.Streams.{Streams}
use Rattle.gate_start.specs.Starting.{SaysLast, SaysUnfound}
use Rattle.gate_start.specs.declared.start.Start.{Start}
use Rattle.gate_start.specs.declared.status.Ending.{Ending}
use Rattle.gate_start.specs.declared.status.Ending.TheVariants as endings
use Rattle.gate_start.specs.Served.{EndsBy}

-- what the fan is started with
abbrev pub routed_by : Routing → Started
routed_by r = record { listen = r.listen; targets = r.targets; accept = r.accept; sessions = r.sessions }

-- between whom the sessions go
abbrev pub between : Routing → Start → Between
between r start = record { declarations = start.schema; client = r.client; upstream = r.upstream; targets = r.targets; longest = r.limit }

-- how what is told of refused frames is spelled
abbrev pub routed_telling : Routing → Telling
routed_telling r = record { client = r.client; upstream = r.upstream; tells = r.tells_refusals; limit = r.limit }

-- the rules of each session, its most bytes of a frame and open calls, how many targets there are, how many sessions may be open,
-- and how much may be spent
abbrev pub routed_setting : Routing → Start → Setting
routed_setting r start = record {
  rules = rules_of (between r start);
  limit = r.limit;
  max_calls = r.calls;
  targets = length r.targets;
  sessions = r.sessions;
  events = r.events;
}

-- what a router finds, or leaves: what this fan tells and its counts, and the output
abbrev pub routed_from : {M : Type 0} → Fan M → M → Streams → Outside
routed_from fans fan x = record { told = fans.tells fan; counts = fans.counts fan; written = x.written; faults = x.output_faults }

-- the fan was started with what the words say, and from there it and the output are as a router of this setting leaves them, which
-- spells the lines of refused frames so; or it could not be started, and nothing was written
pub data RoutesAll {M : Type 0} (fans : Fan M) (r : Routing) (start : Start) (h h' : M) (a b : Streams) (ending : Ending) : Type 0 where
  Began : (mid : M) (result : Served) → b.left ≡ a.left → Later (fans.counts h) (fans.counts mid)
      → Leads (fans.tells h) (fans.tells mid) NotStarted (StartLeads (routed_by r) began.Done)
      → Serves (routed_setting r start) (told_text (routed_telling r)) (routed_from fans mid a) (routed_from fans h' b) result
      → EndsBy result (fans.counts mid).faults (fans.counts h').faults a b ending → RoutesAll fans r start h h' a b ending
  NotBegun : Leads (fans.tells h) (fans.tells h') NotStarted (StartLeads (routed_by r) began.Failed)
      → Rose (fans.counts h).faults (fans.counts h').faults → SaysLast endings.HubFault a b ending → RoutesAll fans r start h h' a b ending
  Unfound : (at : ℕ) (target : Target) → slice_get r.targets at ≡ Some target
      → Leads (fans.tells h) (fans.tells h') NotStarted (StartLeads (routed_by r) (began.NotFound at))
      → Rose (fans.counts h).faults (fans.counts h').faults → SaysUnfound (name_in target.address) a b ending → RoutesAll fans r start h h' a b ending
  NoMemory : Leads (fans.tells h) (fans.tells h') NotStarted (StartLeads (routed_by r) began.OutOfMemory)
      → SaysLast endings.OutOfMemory a b ending → RoutesAll fans r start h h' a b ending

-- a fan that was started, and the output, are left as a router of this setting leaves them
abbrev pub RoutesSessions : {M O : Type 0} → Fan M → Sink O → Routing → Start → M → O → M → O → Served → Type 0
RoutesSessions fans outputs r start fan output fan' output' result =
    let moment = outside fans.tells fans.counts outputs.written outputs.faults in
    Serves (routed_setting r start) (told_text (routed_telling r)) (moment fan output) (moment fan' output') result

-- a session was closed and has an outcome, or is settled, and these frames of it were refused
abbrev pub EndsOrRests : Setting → List Note → Told → Type 0
EndsOrRests set notes t =
    ((o : RouteOutcome) × HasClosed set o notes t)
    ⊎ ((router : Seen) × IsHeld set router notes t × IsSettled router t)

-- the fan has stopped, and so is each session that it announced
abbrev pub HasRouted : (Meaning → Type 0) → Routing → Start → Type 0
HasRouted told r start =
    (m : Meaning) × told m × (m.last_event ≡ Some event.Stopped)
    × ((k : ℕ) → (m.session k).announced ≡ true → (notes : List Note) × EndsOrRests (routed_setting r start) notes (m.session k))

-- the fan has neither stopped nor failed
abbrev pub RoutesOn : (Meaning → Type 0) → Type 0
RoutesOn told = (m : Meaning) × told m × (is_over m.last_event ≡ false)
