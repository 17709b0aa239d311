-- One worker of several, and how all of them end.
use Rattle.std.specs.Prelude.{◌≡◌, ◌⊎◌, ℕ, List, [], ◌∷◌, Option, Some, None, Bool, true, false, if◌then◌else◌}
use Rattle.std.specs.Io.KnownBytes.{Appends}
use Rattle.gate_base.specs.Causes.{Rose}
use Rattle.gate_io.specs.Fronts.{AppendsFront}
use Rattle.gate_io.specs.declared.byte_streams.Sink.{Ghosts as Sink}
use Rattle.gate_start.specs.Streams.{Streams, streams}
use Rattle.gate_start.specs.declared.status.Ending.{Ending}
use Rattle.gate_start.specs.declared.status.Ending.TheVariants as endings
use Rattle.crew_exit.specs.declared.Exit.{Ghosts as Exit}
use Rattle.crew_server.specs.declared.worker.Worker.{Worker}

-- the server stopped by itself
abbrev pub is_done : Ending → Bool
is_done endings.Done = true
is_done endings.Refused = false
is_done endings.Usage = false
is_done endings.StreamFault = false
is_done endings.ReadFault = false
is_done endings.WriteFault = false
is_done endings.FileFault = false
is_done endings.HubFault = false
is_done endings.BudgetSpent = false
is_done endings.OutOfMemory = false

-- a worker whose server ended before its time has told the others so
abbrev pub Leaves : {H O X : Type 0} → Exit X → Worker H O X → Type 0
Leaves exits worker = is_done worker.ending ≡ false → exits.has_left worker.exit ≡ true

-- a worker's server does this with the worker's output and with what the worker has to report, and ends as the worker does; it leaves
-- the input alone, whatever that is
abbrev pub OnWorker : {H O X : Type 0} → Sink O → (Streams → Streams → Ending → Type 0) → Worker H O X → Worker H O X → Type 0
OnWorker outputs Does w w' =
    (left : Option (List ℕ)) (input : ℕ) →
    Does (streams left (outputs.written w.output) (Some w.report.out.bytes) input (outputs.faults w.output) w.report.faults)
    (streams left (outputs.written w'.output) (Some w'.report.out.bytes) input (outputs.faults w'.output) w'.report.faults) w'.ending

-- the first worker whose server ended before its time
abbrev pub leaver : {H O X : Type 0} → List (Worker H O X) → Option (Worker H O X)
leaver [] = None
leaver (worker ∷ workers) = if is_done worker.ending then leaver workers else Some worker

-- this was reported, or a front of it where the report failed
pub record Reports {E : Type 0} (reports : Sink E) (lines : List ℕ) (report report' : E) : Type 0 where
  pub front : AppendsFront (reports.written report) (reports.written report') lines
  pub whole : Appends (reports.written report) (reports.written report') lines ⊎ Rose (reports.faults report) (reports.faults report')

-- the crew ends as this worker did, and what the worker had to report is reported; where there is none, all are done
abbrev pub EndsAs : {E H O X : Type 0} → Sink E → Option (Worker H O X) → E → E → Ending → Type 0
EndsAs reports None report report' ending = (ending ≡ endings.Done) × (report' ≡ report)
EndsAs reports (Some worker) report report' ending = (ending ≡ worker.ending) × Reports reports worker.report.out.bytes report report'
