-- What a command starts from, and how it ends where it doesn't start.
use Rattle.std.specs.Prelude.{◌≡◌, ◌⊎◌, ℕ, List, ◌++◌, Option, Some, None, Result, Ok, Err, ⊤}
use Rattle.std.specs.Io.KnownBytes.{Appends}
use Rattle.gate_base.specs.Causes.{Rose}
use Rattle.type_tables.specs.declared.declared.ServiceId.{ServiceId}
use Rattle.type_tables.specs.Declarations.{Declarations}
use Rattle.type_tables.specs.Known.{built_in}
use Rattle.type_tables.specs.Names.{value_of}
use Rattle.type_tables.specs.Roots.{only, rooted}
use Rattle.gate_words.specs.declared.options.Declared.{Declared}
use Rattle.gate_idl.specs.Refusals.{refusal_text}
use Rattle.gate_idl.specs.Opening.{IsOpened}
use Rattle.gate_io.specs.Fronts.{AppendsFront}
use Rattle.gate_start.specs.Endings.{last_line, EndsWith}
use Rattle.gate_start.specs.Lines.{usage_text, unfound_text}
use Rattle.gate_start.specs.Streams.{Streams}
use Rattle.gate_start.specs.declared.start.Start.{Start}
use Rattle.gate_start.specs.declared.start.NoStart.{NoStart}
use Rattle.gate_start.specs.declared.start.NoStart.TheVariants as stops
use Rattle.gate_start.specs.declared.status.Ending.{Ending}
use Rattle.gate_start.specs.declared.status.Ending.TheVariants as endings

-- what the files hold under each name
abbrev pub Holds : Type 0
Holds = List ℕ → Option (List ℕ)

-- ---- what a command starts from

-- what this file declares with all that it includes, or why it is refused, a file fault and want of memory aside
abbrev pub IsRead : Holds → List ℕ → Result Declarations NoStart → Type 0
IsRead holds name (Ok d) = IsOpened holds name (Ok d)
IsRead holds name (Err (stops.Refused refusal)) = IsOpened holds name (Err refusal)
IsRead holds name (Err stops.UnknownService) = ⊥
IsRead holds name (Err stops.FileFault) = ⊤
IsRead holds name (Err stops.OutOfMemory) = ⊤

-- nothing but the built-in failure is declared
abbrev pub IsBuiltIn : Result Declarations NoStart → Type 0
IsBuiltIn (Ok d) = d ≡ built_in
IsBuiltIn (Err stops.OutOfMemory) = ⊤
IsBuiltIn (Err stop) = ⊥

-- what the IDL declares, or without one nothing
abbrev pub IsDeclared : Holds → Option (List ℕ) → Result Declarations NoStart → Type 0
IsDeclared holds None result = IsBuiltIn result
IsDeclared holds (Some name) result = IsRead holds name result

-- the service of this name, or without a name the only one of the root file
abbrev pub IsService : Option (List ℕ) → Declarations → Option ServiceId → Type 0
IsService None d service = service ≡ only (rooted d.names)
IsService (Some name) d service = (found : ServiceId) × (value_of name d.names ≡ Some found) × (service ≡ Some found)

-- no service has this name
abbrev pub IsNoService : Option (List ℕ) → Declarations → Type 0
IsNoService None d = ⊥
IsNoService (Some name) d = value_of name d.names ≡ None

-- what a command starts from, or why it doesn't start
abbrev pub IsStart : Holds → Declared → Result Start NoStart → Type 0
IsStart holds words (Ok s) = IsDeclared holds words.idl (Ok s.schema) × IsService words.service s.schema s.service
IsStart holds words (Err stops.UnknownService) = (d : Declarations) × IsDeclared holds words.idl (Ok d) × IsNoService words.service d
IsStart holds words (Err (stops.Refused refusal)) = IsDeclared holds words.idl (Err (stops.Refused refusal))
IsStart holds words (Err stops.FileFault) = ⊤
IsStart holds words (Err stops.OutOfMemory) = ⊤

-- the files tell what they hold, or no file is named
abbrev pub IsToldBy : Option Holds → Option (List ℕ) → Holds → Type 0
IsToldBy told idl holds = (told ≡ Some holds) ⊎ (idl ≡ None)

-- the files' count of faults rose where a fetch failed, and stands as it was where none did
abbrev pub HasCause : {X : Type 0} → Result X NoStart → ℕ → ℕ → Type 0
HasCause (Ok x) before now = now ≡ before
HasCause (Err (stops.Refused refusal)) before now = now ≡ before
HasCause (Err stops.UnknownService) before now = now ≡ before
HasCause (Err stops.FileFault) before now = Rose before now
HasCause (Err stops.OutOfMemory) before now = now ≡ before

-- ---- what is said where a command doesn't start

-- nothing was read, nothing was written to the output, and this line was reported; where the report failed a front of it was
-- written, and the command ends with a write fault
pub record Says (line : List ℕ) (wanted : Ending) (a b : Streams) (ending : Ending) : Type 0 where
  pub left : b.left ≡ a.left
  pub written : b.written ≡ a.written
  pub front : AppendsFront a.reported b.reported line
  pub ends : EndsWith line wanted a.reported b.reported a.report_faults b.report_faults ending

-- the same with a last line, which leaves the ending as it is where the line isn't written
pub record SaysLast (wanted : Ending) (a b : Streams) (ending : Ending) : Type 0 where
  pub left : b.left ≡ a.left
  pub written : b.written ≡ a.written
  pub front : AppendsFront a.reported b.reported (last_line wanted)
  pub whole : Appends a.reported b.reported (last_line wanted) ⊎ Rose a.report_faults b.report_faults
  pub is : ending ≡ wanted

-- the lines of a hub that knows no address for this name
abbrev pub unfound_lines : List ℕ → List ℕ
unfound_lines name = unfound_text name ++ last_line endings.HubFault

-- the same with these lines, where a hub knows no address for the name of a target
pub record SaysUnfound (name : List ℕ) (a b : Streams) (ending : Ending) : Type 0 where
  pub left : b.left ≡ a.left
  pub written : b.written ≡ a.written
  pub front : AppendsFront a.reported b.reported (unfound_lines name)
  pub whole : Appends a.reported b.reported (unfound_lines name) ⊎ Rose a.report_faults b.report_faults
  pub is : ending ≡ endings.HubFault

-- how a command ends that doesn't start; the line of a refusal may want memory
abbrev pub Halts : NoStart → Streams → Streams → Ending → Type 0
Halts (stops.Refused refusal) a b ending = Says (refusal_text refusal) endings.Refused a b ending ⊎ SaysLast endings.OutOfMemory a b ending
Halts stops.UnknownService a b ending = Says usage_text endings.Usage a b ending
Halts stops.FileFault a b ending = SaysLast endings.FileFault a b ending
Halts stops.OutOfMemory a b ending = SaysLast endings.OutOfMemory a b ending

-- a command started from what the files declare, and did this from there; or it did not start, and this holds
pub data Starting (told : Option Holds) (words : Declared) (before now : ℕ) (Then : Start → Type 0) (Else : NoStart → Type 0) : Type 0 where
  Goes : (s : Start) → ((holds : Holds) → IsToldBy told words.idl holds → IsStart holds words (Ok s)) → HasCause {X = Start} (Ok s) before now →
      Then s → Starting told words before now Then Else
  Stops : (stop : NoStart) → ((holds : Holds) → IsToldBy told words.idl holds → IsStart holds words (Err stop)) → HasCause {X = Start} (Err stop) before now →
      Else stop → Starting told words before now Then Else
