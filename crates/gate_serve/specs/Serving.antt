-- What a server does, from its start to its last line.
use Rattle.std.specs.Prelude.{◌≡◌, ◌<◌, ◌≤◌, ◌⊎◌, ℕ, List, length, true, false, Some, IfSome}
use Rattle.gate_base.specs.Causes.{Rose}
use Rattle.gate_hub.specs.Meaning.{Meaning, Started, Told}
use Rattle.gate_hub.specs.Hubs.{Counts, Later, Leads, NotStarted, StartLeads}
use Rattle.gate_hub.specs.declared.hub.Hub.{Ghosts as Hub}
use Rattle.gate_hub.specs.declared.hub.Side.{Side}
use Rattle.gate_hub.specs.declared.hub.Began.TheVariants as began
use Rattle.gate_hub.specs.declared.hub.HubNext.TheVariants as event
use Rattle.gate_hub.specs.declared.hub.Served.{Served}
use Rattle.session_judge.specs.Setting.{Setting}
use Rattle.session_judge.specs.Rules.{rules_of}
use Rattle.session_core.specs.Session.{Seen}
use Rattle.session_core.specs.declared.outcome.Outcome.{Outcome}
use Rattle.proxy_server.specs.Serving.{IsHeld, HasClosed, is_over, Setting as Sessions}
use Rattle.proxy_server.specs.Turning.{IsSettled}
use Rattle.proxy_server.specs.Steps.{Outside, Serves, outside}
use Rattle.gate_words.specs.declared.limits.TheConstants.{LEAST_LIMIT, GREATEST_LIMIT, MOST_CALLS}
use Rattle.gate_words.specs.declared.serving.Serving.{Serving}
use Rattle.gate_io.specs.declared.byte_streams.Sink.{Ghosts as Sink}
use Rattle.session_core.specs.Notes.{Note}
use Rattle.refusal_lines.specs.Told.{Told as Telling, told_text}
use Rattle.peer_addresses.specs.Names.{name_in}
use Rattle.gate_start.specs.Served.{EndsBy}
use Rattle.gate_start.specs.Streams.{Streams}
use Rattle.gate_start.specs.Starting.{SaysLast, SaysUnfound}
use Rattle.gate_start.specs.declared.start.Start.{Start}
use Rattle.gate_start.specs.declared.status.Ending.{Ending}
use Rattle.gate_start.specs.declared.status.Ending.TheVariants as endings

-- what the hub is started with
abbrev pub started_by : Serving → Started
started_by s = record { listen = s.listen; upstream = s.target; accept = s.accept; sessions = s.sessions }

-- between whom the sessions go
abbrev pub setting_by : Serving → Start → Setting
setting_by s start = record { declarations = start.schema; service = start.service; client = s.client; upstream = s.upstream; longest = s.limit }

-- how what is told of refused frames is spelled
abbrev pub telling_by : Serving → Telling
telling_by s = record { client = s.client; upstream = s.upstream; tells = s.tells_refusals; limit = s.limit }

-- the rules of each session, its most bytes of a frame and open calls, how many may be open, and how much may be spent
abbrev pub settings : Serving → Start → Sessions
settings s start = record { rules = rules_of (setting_by s start); limit = s.limit; max_calls = s.calls; sessions = s.sessions; events = s.events }

-- the numbers of the words lie in the ranges for which sessions can be opened, and the service is one that is declared
pub record CanServe (s : Serving) (start : Start) : Type 0 where
  pub least : LEAST_LIMIT ≤ s.limit
  pub limit : s.limit ≤ GREATEST_LIMIT
  pub some : 1 ≤ s.calls
  pub few : s.calls ≤ MOST_CALLS
  pub service : IfSome start.service (λ x. x.0 < length start.schema.services)

-- what a server finds, or leaves: what the hub tells and its counts, and the output
abbrev pub served_from : (Meaning → Type 0) → Counts → Streams → Outside
served_from told counts x = record { told = told; counts = counts; written = x.written; faults = x.output_faults }

-- the hub was started with what the words say, and from there it and the output are as a server of this setting leaves
-- them, which spells the lines of refused frames so; or it could not be started, and nothing was written
pub data ServesAll {H : Type 0} (tells : H → Meaning → Type 0) (counts : H → Counts) (s : Serving) (start : Start) (h h' : H) (a b : Streams) (ending : Ending) : Type 0 where
  Began : (mid : H) (result : Served) → b.left ≡ a.left → Later (counts h) (counts mid) → Leads (tells h) (tells mid) NotStarted (StartLeads (started_by s) began.Done)
      → Serves Setting rules_of (settings s start) (told_text (telling_by s)) (served_from (tells mid) (counts mid) a) (served_from (tells h') (counts h') b) result
      → EndsBy result (counts mid).faults (counts h').faults a b ending → ServesAll tells counts s start h h' a b ending
  NotBegun : Leads (tells h) (tells h') NotStarted (StartLeads (started_by s) began.Failed) → Rose (counts h).faults (counts h').faults → SaysLast endings.HubFault a b ending
      → ServesAll tells counts s start h h' a b ending
  Unfound : (at : ℕ) → Leads (tells h) (tells h') NotStarted (StartLeads (started_by s) (began.NotFound at)) → Rose (counts h).faults (counts h').faults
      → SaysUnfound (name_in s.target) a b ending → ServesAll tells counts s start h h' a b ending
  NoMemory : Leads (tells h) (tells h') NotStarted (StartLeads (started_by s) began.OutOfMemory) → SaysLast endings.OutOfMemory a b ending
      → ServesAll tells counts s start h h' a b ending

-- the same by what hubs tell of themselves
abbrev pub ServesHub : {H : Type 0} → Hub H → Serving → Start → H → H → Streams → Streams → Ending → Type 0
ServesHub hubs = ServesAll hubs.tells hubs.counts

-- a hub that was started, and the output, are left as a server of this setting leaves them
abbrev pub ServesSessions : {H O : Type 0} → Hub H → Sink O → Serving → Start → H → O → H → O → Served → Type 0
ServesSessions hubs outputs s start hub output hub' output' result =
    let moment = outside hubs.tells hubs.counts outputs.written outputs.faults in
    Serves Setting rules_of (settings s start) (told_text (telling_by s)) (moment hub output) (moment hub' output') result

-- a session was closed and has an outcome, or is settled, and these frames of it were refused
abbrev pub EndsOrRests : Serving → Start → List Note → Told → Type 0
EndsOrRests s start notes t =
    ((o : Outcome) × HasClosed (settings s start) o notes t)
    ⊎ ((session : Seen Setting) × IsHeld Setting rules_of (settings s start) session notes t × IsSettled Setting rules_of session t)

-- the hub has stopped, and so is each session that it announced
abbrev pub HasServed : (Meaning → Type 0) → Serving → Start → Type 0
HasServed told s start =
    (m : Meaning) × told m × (m.last_event ≡ Some event.Stopped)
    × ((k : ℕ) → (m.session k).announced ≡ true → (notes : List Note) × EndsOrRests s start notes (m.session k))

-- the hub has neither stopped nor failed
abbrev pub GoesOn : (Meaning → Type 0) → Type 0
GoesOn told = (m : Meaning) × told m × (is_over m.last_event ≡ false)

-- the counts of `NotReady` and of faults on the sides of sessions have not fallen
abbrev pub WaitsLater : {H : Type 0} → Hub H → H → H → Type 0
WaitsLater hubs hub hub' = (k : ℕ) (side : Side) → (hubs.counts hub).waits k side ≤ (hubs.counts hub').waits k side

abbrev pub LinkFaultsLater : {H : Type 0} → Hub H → H → H → Type 0
LinkFaultsLater hubs hub hub' = (k : ℕ) (side : Side) → (hubs.counts hub).link_faults k side ≤ (hubs.counts hub').link_faults k side
