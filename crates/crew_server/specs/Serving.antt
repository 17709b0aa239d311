-- What several servers at one address do.
use Rattle.std.specs.Prelude.{◌≡◌, ◌<◌, ◌≤◌, ◌⊎◌, ℕ, List, length, slice_index_or, is_some, false}
use Rattle.gate_hub.specs.declared.hub.Hub.{Ghosts as Hub}
use Rattle.gate_io.specs.declared.byte_streams.Sink.{Ghosts as Sink}
use Rattle.gate_io.specs.declared.files.Files.{Ghosts as Files}
use Rattle.gate_words.specs.Peers.{is_http}
use Rattle.gate_words.specs.Serving.{part_of}
use Rattle.gate_words.specs.declared.options.Declared.{Declared}
use Rattle.gate_words.specs.declared.serving.Serving.{Serving}
use Rattle.gate_start.specs.Calls.{OnReport}
use Rattle.gate_start.specs.Endings.{code_of}
use Rattle.gate_serve.specs.Posts.{ServesByWords}
use Rattle.gate_serve.specs.Serving.{WaitsLater, LinkFaultsLater}
use Rattle.gate_start.specs.Starting.{Starting, Halts, SaysLast}
use Rattle.gate_start.specs.declared.start.Start.{Start}
use Rattle.gate_start.specs.declared.status.Ending.{Ending}
use Rattle.gate_start.specs.declared.status.Ending.TheVariants as endings
use Rattle.gate_start.specs.declared.status.Status.{Status}
use Rattle.crew_exit.specs.declared.Exit.{Ghosts as Exit}
use Rattle.crew_server.specs.Workers.{OnWorker, Leaves, leaver, EndsAs}
use Rattle.crew_server.specs.declared.worker.Worker.{Worker}

-- a worker's server does what a server alone does by these words; or there was no memory for the words, and the hub is as it was
abbrev pub ServesPart : {H O X : Type 0} → Sink O → Hub H → Serving → Start → Worker H O X → Worker H O X → Type 0
ServesPart outputs hubs s start w w' =
    OnWorker outputs (ServesByWords hubs s start w.hub w'.hub) w w' ⊎ (OnWorker outputs (SaysLast endings.OutOfMemory) w w' × (w'.hub ≡ w.hub))

-- and no count has fallen; where it ended before its time, it has told the others so
pub record Works {H O X : Type 0} (outputs : Sink O) (hubs : Hub H) (exits : Exit X) (s : Serving) (start : Start) (w w' : Worker H O X) : Type 0 where
  pub serves : ServesPart outputs hubs s start w w'
  pub leaves : Leaves exits w'
  pub output_later : outputs.faults w.output ≤ outputs.faults w'.output
  pub hub_faults : (hubs.counts w.hub).faults ≤ (hubs.counts w'.hub).faults
  pub hub_waits : is_http s.front ≡ false → WaitsLater hubs w.hub w'.hub
  pub hub_links : is_http s.front ≡ false → is_some s.unframed ≡ false → LinkFaultsLater hubs w.hub w'.hub

-- each worker does so with its part of the sessions
abbrev pub WorkEach : {H O X : Type 0} → Sink O → Hub H → Exit X → Serving → Start → List (Worker H O X) → List (Worker H O X) → Type 0
WorkEach {H} {O} {X} outputs hubs exits s start ws ws' =
    (at : ℕ) (d : Worker H O X) → at < length ws
    → Works outputs hubs exits (part_of s (length ws) at) start (slice_index_or ws at d) (slice_index_or ws' at d)

-- and the crew ends as the first worker whose server ended before its time
abbrev pub CrewServes : {E H O X : Type 0} → Sink O → Sink E → Hub H → Exit X → Serving → Start → E → List (Worker H O X) → E → List (Worker H O X) → Ending → Type 0
CrewServes outputs reports hubs exits s start report ws report' ws' ending =
    WorkEach outputs hubs exits s start ws ws' × EndsAs reports (leaver ws') report report' ending

-- the crew started from what these words declare; or it did not start, and no worker did anything
abbrev pub StartsCrew : {F E H O X : Type 0} → Files F → Sink O → Sink E → Hub H → Exit X → Serving → Declared → F → E → List (Worker H O X) → F → E → List (Worker H O X) → Ending → Type 0
StartsCrew drives outputs reports hubs exits s words files report ws files' report' ws' ending =
    Starting (drives.holds files) words (drives.faults files) (drives.faults files')
    (λ start. CrewServes outputs reports hubs exits s start report ws report' ws' ending)
    (λ stop. OnReport reports (Halts stop) report report' ending × (ws' ≡ ws))

-- and ended with this exit code
abbrev pub RunsCrew : {F E H O X : Type 0} → Files F → Sink O → Sink E → Hub H → Exit X → Serving → Declared → F → E → List (Worker H O X) → F → E → List (Worker H O X) → Status → Type 0
RunsCrew drives outputs reports hubs exits s words files report ws files' report' ws' status =
    (ending : Ending) × (status.code ≡ code_of ending) × StartsCrew drives outputs reports hubs exits s words files report ws files' report' ws' ending
