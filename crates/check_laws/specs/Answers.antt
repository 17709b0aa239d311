-- The answer of a check, in the words of the grammar.
use Rattle.std.specs.Prelude.{◌⊎◌, ℕ, List, Option, Some, None, Ok, Err}
use Rattle.idl_names.specs.Files.{FileTree}
use Rattle.idl_rules.specs.declared.row.IdlFault.{IdlFault}
use Rattle.idl_resolve.specs.Refused.{IsFirst}
use Rattle.idl_schema.specs.Schema.{declarations_of}
use Rattle.idl_consts.specs.declared.row.ConstFault.{ConstFault}
use Rattle.type_tables.specs.Declarations.{Declarations}
use Rattle.gate_idl.specs.declared.refusal.Refusal.{Refusal}
use Rattle.gate_idl.specs.Opening.{AllFit, IsMisfit, Opened, misfit, refused}
use Rattle.gate_streams.specs.Checking.{declared_text}
use Rattle.gate_start.specs.Streams.{Streams}
use Rattle.gate_start.specs.Starting.{Halts}
use Rattle.gate_start.specs.Writing.{Tells}
use Rattle.gate_start.specs.declared.start.NoStart.TheVariants as stops
use Rattle.gate_start.specs.declared.status.Ending.{Ending}
use Rattle.check_laws.specs.Held.{AreHeld, IsRefusedText}

-- What an IDL is by what its files hold: a text of them is refused where it is wrong; or all of them are documents, and the first refusal of what these
-- declare is told, or of a value of theirs, or they are good and have these declarations.
pub data IsAnswered (holds : List ℕ → Option (List ℕ)) : Opened → Type 0 where
  bad_text : (fault : IdlFault) → IsRefusedText holds fault.file fault.offset fault.row → IsAnswered holds (Err (refused fault))
  unlawful : (files : List FileTree) (fault : IdlFault) → AreHeld holds files → IsFirst files (Some fault) → IsAnswered holds (Err (refused fault))
  unfit : (files : List FileTree) (fault : ConstFault) → AreHeld holds files → IsFirst files None → IsMisfit files fault → IsAnswered holds (Err (misfit fault))
  good : (files : List FileTree) → AreHeld holds files → IsFirst files None → AllFit files → IsAnswered holds (Ok (declarations_of files))

-- how much is declared was written
pub record SaysGood (holds : List ℕ → Option (List ℕ)) (a b : Streams) (ending : Ending) : Type 0 where
  pub declared : Declarations
  pub is : IsAnswered holds (Ok declared)
  pub told : Tells (declared_text declared) a b ending

-- the refusal was reported
pub record SaysBad (holds : List ℕ → Option (List ℕ)) (a b : Streams) (ending : Ending) : Type 0 where
  pub refusal : Refusal
  pub is : IsAnswered holds (Err refusal)
  pub told : Halts (stops.Refused refusal) a b ending

-- a file could not be read, or memory was not found
abbrev pub SaysNothing : Streams → Streams → Ending → Type 0
SaysNothing a b ending = Halts stops.FileFault a b ending ⊎ Halts stops.OutOfMemory a b ending

abbrev pub SaysWhatIs : (List ℕ → Option (List ℕ)) → Streams → Streams → Ending → Type 0
SaysWhatIs holds a b ending = SaysGood holds a b ending ⊎ (SaysBad holds a b ending ⊎ SaysNothing a b ending)
