-- What several routers at one address do.
use Rattle.std.specs.Prelude.{◌≡◌, ◌<◌, ◌≤◌, ◌⊎◌, ℕ, List, length, slice_index_or}
use Rattle.gate_fan.specs.Fans.{Later}
use Rattle.gate_fan.specs.declared.fan.Fan.{Ghosts as Fan}
use Rattle.gate_io.specs.declared.byte_streams.Sink.{Ghosts as Sink}
use Rattle.gate_io.specs.declared.files.Files.{Ghosts as Files}
use Rattle.gate_words.specs.Routing.{routed_part_of}
use Rattle.gate_words.specs.declared.limits.TheConstants.{GREATEST_LIMIT, MOST_CALLS, MOST_SESSIONS}
use Rattle.gate_words.specs.declared.options.Declared.{Declared}
use Rattle.gate_words.specs.declared.routing.Routing.{Routing}
use Rattle.gate_start.specs.Calls.{OnReport}
use Rattle.gate_start.specs.Endings.{code_of}
use Rattle.gate_route.specs.Routes.{RoutesAll}
use Rattle.gate_start.specs.Starting.{Starting, Halts, SaysLast}
use Rattle.gate_start.specs.declared.start.Start.{Start}
use Rattle.gate_start.specs.declared.status.Ending.{Ending}
use Rattle.gate_start.specs.declared.status.Ending.TheVariants as endings
use Rattle.gate_start.specs.declared.status.Status.{Status}
use Rattle.crew_exit.specs.declared.Exit.{Ghosts as Exit}
use Rattle.crew_server.specs.Workers.{OnWorker, Leaves, leaver, EndsAs}
use Rattle.crew_server.specs.declared.worker.Worker.{Worker}

-- the numbers of the words lie in the ranges for which sessions can be opened and shared
pub record CanRoute (r : Routing) : Type 0 where
  pub limit : r.limit ≤ GREATEST_LIMIT
  pub some : 1 ≤ r.calls
  pub few : r.calls ≤ MOST_CALLS
  pub sessions : r.sessions ≤ MOST_SESSIONS

-- a worker's router does what a router alone does by these words; or there was no memory for the words, and the fan is as it was
abbrev pub RoutesPart : {G O X : Type 0} → Sink O → Fan G → Routing → Start → Worker G O X → Worker G O X → Type 0
RoutesPart outputs fans r start w w' =
    OnWorker outputs (RoutesAll fans r start w.hub w'.hub) w w' ⊎ (OnWorker outputs (SaysLast endings.OutOfMemory) w w' × (w'.hub ≡ w.hub))

-- and no count has fallen; where it ended before its time, it has told the others so
pub record Routes {G O X : Type 0} (outputs : Sink O) (fans : Fan G) (exits : Exit X) (r : Routing) (start : Start) (w w' : Worker G O X) : Type 0 where
  pub routes : RoutesPart outputs fans r start w w'
  pub leaves : Leaves exits w'
  pub output_later : outputs.faults w.output ≤ outputs.faults w'.output
  pub fan_later : Later (fans.counts w.hub) (fans.counts w'.hub)

-- each worker does so with its part of the sessions
abbrev pub RouteEach : {G O X : Type 0} → Sink O → Fan G → Exit X → Routing → Start → List (Worker G O X) → List (Worker G O X) → Type 0
RouteEach {G} {O} {X} outputs fans exits r start ws ws' =
    (at : ℕ) (d : Worker G O X) → at < length ws
    → Routes outputs fans exits (routed_part_of r (length ws) at) start (slice_index_or ws at d) (slice_index_or ws' at d)

-- and the crew ends as the first worker whose router ended before its time
abbrev pub CrewRoutes : {E G O X : Type 0} → Sink O → Sink E → Fan G → Exit X → Routing → Start → E → List (Worker G O X) → E → List (Worker G O X) → Ending → Type 0
CrewRoutes outputs reports fans exits r start report ws report' ws' ending =
    RouteEach outputs fans exits r start ws ws' × EndsAs reports (leaver ws') report report' ending

-- the crew started from what these words declare; or it did not start, and no worker did anything
abbrev pub StartsRouters : {F E G O X : Type 0} → Files F → Sink O → Sink E → Fan G → Exit X → Routing → Declared → F → E → List (Worker G O X) → F → E → List (Worker G O X) → Ending → Type 0
StartsRouters drives outputs reports fans exits r words files report ws files' report' ws' ending =
    Starting (drives.holds files) words (drives.faults files) (drives.faults files')
    (λ start. CrewRoutes outputs reports fans exits r start report ws report' ws' ending)
    (λ stop. OnReport reports (Halts stop) report report' ending × (ws' ≡ ws))

-- and ended with this exit code
abbrev pub RunsRouters : {F E G O X : Type 0} → Files F → Sink O → Sink E → Fan G → Exit X → Routing → Declared → F → E → List (Worker G O X) → F → E → List (Worker G O X) → Status → Type 0
RunsRouters drives outputs reports fans exits r words files report ws files' report' ws' status =
    (ending : Ending) × (status.code ≡ code_of ending) × StartsRouters drives outputs reports fans exits r words files report ws files' report' ws' ending
