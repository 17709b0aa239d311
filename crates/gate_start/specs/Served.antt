-- How a server that was started ends.
use Rattle.std.specs.Prelude.{◌≡◌, ◌⊎◌, ℕ, List, Option}
use Rattle.std.specs.Io.KnownBytes.{Appends}
use Rattle.gate_base.specs.Causes.{Rose}
use Rattle.gate_hub.specs.declared.hub.Served.{Served}
use Rattle.gate_hub.specs.declared.hub.Served.TheVariants as served
use Rattle.gate_io.specs.Fronts.{AppendsFront}
use Rattle.gate_io.specs.declared.byte_streams.Sink.{Ghosts as Sink}
use Rattle.gate_start.specs.Endings.{last_line}
use Rattle.gate_start.specs.Streams.{Streams, streams}
use Rattle.gate_start.specs.declared.status.Ending.{Ending}
use Rattle.gate_start.specs.declared.status.Ending.TheVariants as endings

-- this last line was reported, or a front of it where the report failed
pub record Reports (line : List ℕ) (a b : Streams) : Type 0 where
  pub front : AppendsFront a.reported b.reported line
  pub whole : Appends a.reported b.reported line ⊎ Rose a.report_faults b.report_faults

-- how the server ended, and its last line
abbrev pub EndsBy : Served → ℕ → ℕ → Streams → Streams → Ending → Type 0
EndsBy served.Stopped before now a b ending = (ending ≡ endings.Done) × (b.reported ≡ a.reported)
EndsBy served.HubFault before now a b ending = (ending ≡ endings.HubFault) × Rose before now × Reports (last_line endings.HubFault) a b
EndsBy served.WriteFault before now a b ending = (ending ≡ endings.WriteFault) × (b.reported ≡ a.reported)
EndsBy served.Budget before now a b ending = (ending ≡ endings.BudgetSpent) × Reports (last_line endings.BudgetSpent) a b
EndsBy served.OutOfMemory before now a b ending = (ending ≡ endings.OutOfMemory) × Reports (last_line endings.OutOfMemory) a b

-- the same by what the report tells, whatever the hub's counts and the output are
abbrev pub EndsServer : {E : Type 0} → Sink E → Served → E → E → Ending → Type 0
EndsServer reports result report report' ending =
    (left written written' : Option (List ℕ)) (input output output' before now : ℕ) → (result ≡ served.HubFault → Rose before now) →
    EndsBy result before now (streams left written (reports.written report) input output (reports.faults report))
    (streams left written' (reports.written report') input output' (reports.faults report')) ending
