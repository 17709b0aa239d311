-- What the check of an IDL says.
use Rattle.std.specs.Prelude.{◌≡◌, ◌⊎◌, ℕ, List, Option, Some, Ok, Err, ◌++◌, length, codes, decimal}
use Rattle.type_tables.specs.Declarations.{Declarations}
use Rattle.type_tables.specs.Structs.{declared_structs}
use Rattle.gate_io.specs.declared.files.Files.{Ghosts as Files}
use Rattle.gate_start.specs.Streams.{Streams}
use Rattle.gate_start.specs.Writing.{Tells}
use Rattle.gate_start.specs.Starting.{Holds, IsRead, HasCause, Halts, SaysLast}
use Rattle.gate_start.specs.declared.start.NoStart.{NoStart}
use Rattle.gate_start.specs.declared.status.Ending.{Ending}
use Rattle.gate_start.specs.declared.status.Ending.TheVariants as endings

-- ok files=N structs=N services=N
unfoldable pub ok_text : ℕ → ℕ → ℕ → List ℕ
ok_text files structs services = codes "ok files=" ++ decimal files ++ codes " structs=" ++ decimal structs ++ codes " services=" ++ decimal services ++ codes "\n"

-- the files, the structs, unions and exceptions, and the services that are declared
abbrev pub declared_text : Declarations → List ℕ
declared_text d = ok_text d.files (declared_structs d.structs) (length d.services)

-- how much is declared was written, or its memory was not found
abbrev pub TellsDeclared : Declarations → Streams → Streams → Ending → Type 0
TellsDeclared d a b ending = Tells (declared_text d) a b ending ⊎ SaysLast endings.OutOfMemory a b ending

-- the IDL of this root file is good, and how much it declares was written; or it is refused, or can't be read
pub data Checks (told : Option Holds) (file : List ℕ) (before now : ℕ) (a b : Streams) (ending : Ending) : Type 0 where
  Good : (d : Declarations) → ((holds : Holds) → told ≡ Some holds → IsRead holds file (Ok d)) → HasCause {X = Declarations} (Ok d) before now →
      Tells (declared_text d) a b ending → Checks told file before now a b ending
  Bad : (stop : NoStart) → ((holds : Holds) → told ≡ Some holds → IsRead holds file (Err stop)) → HasCause {X = Declarations} (Err stop) before now →
      Halts stop a b ending → Checks told file before now a b ending

-- the same by what files tell of themselves
abbrev pub ChecksFile : {F : Type 0} → Files F → List ℕ → F → F → Streams → Streams → Ending → Type 0
ChecksFile drives file files files' = Checks (drives.holds files) file (drives.faults files) (drives.faults files')
