-- How a command ends.
use Rattle.std.specs.Prelude.{◌≡◌, ◌⊎◌, ℕ, List, [], Option, codes}
use Rattle.std.specs.Io.KnownBytes.{Appends}
use Rattle.gate_base.specs.Causes.{Rose}
use Rattle.gate_io.specs.declared.byte_streams.Sink.{Ghosts as Sink}
use Rattle.gate_start.specs.declared.status.Ending.{Ending}
use Rattle.gate_start.specs.declared.status.Ending.TheVariants as endings

-- the exit code
abbrev pub code_of : Ending → ℕ
code_of endings.Done = 0
code_of endings.Refused = 1
code_of endings.Usage = 2
code_of endings.StreamFault = 3
code_of endings.ReadFault = 4
code_of endings.WriteFault = 5
code_of endings.FileFault = 6
code_of endings.HubFault = 7
code_of endings.BudgetSpent = 8
code_of endings.OutOfMemory = 9

-- the last line of the report, where one line tells all
unfoldable pub last_line : Ending → List ℕ
last_line endings.Done = []
last_line endings.Refused = []
last_line endings.Usage = []
last_line endings.StreamFault = []
last_line endings.ReadFault = codes "read fault\n"
last_line endings.WriteFault = []
last_line endings.FileFault = codes "file fault\n"
last_line endings.HubFault = codes "hub fault\n"
last_line endings.BudgetSpent = codes "budget spent\n"
last_line endings.OutOfMemory = codes "no memory\n"

-- the line was written, and the command ends as it is to; or the write failed, and the command ends with a write fault
abbrev pub EndsWith : List ℕ → Ending → Option (List ℕ) → Option (List ℕ) → ℕ → ℕ → Ending → Type 0
EndsWith line wanted old new before now ending = ((ending ≡ wanted) × Appends old new line) ⊎ ((ending ≡ endings.WriteFault) × Rose before now)

-- the same of a line that goes to this sink
abbrev pub SaysOn : {S : Type 0} → Sink S → List ℕ → Ending → S → S → Ending → Type 0
SaysOn sinks line wanted sink sink' ending = EndsWith line wanted (sinks.written sink) (sinks.written sink') (sinks.faults sink) (sinks.faults sink') ending
