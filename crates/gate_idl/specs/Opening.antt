-- What an IDL declares, by what the files hold.
use Rattle.std.specs.Prelude.{◌≡◌, ℕ, List, Option, Some, None, Result, Ok, Err, ⊤}
use Rattle.gate_base.specs.Causes.{Rose}
use Rattle.idl_names.specs.Files.{FileTree}
use Rattle.idl_rules.specs.declared.row.IdlFault.{IdlFault}
use Rattle.idl_files.specs.declared.fault.LoadError.{LoadError}
use Rattle.idl_files.specs.declared.fault.LoadError.TheVariants as errors
use Rattle.idl_files.specs.Walk.{walked}
use Rattle.idl_resolve.specs.Refused.{IsFirst}
use Rattle.idl_schema.specs.Schema.{declarations_of}
use Rattle.idl_consts.specs.declared.row.ConstFault.{ConstFault}
use Rattle.idl_consts.specs.Told.{IsTold}
use Rattle.type_tables.specs.Declarations.{Declarations}
use Rattle.gate_idl.specs.declared.opening.Stop.{Stop}
use Rattle.gate_idl.specs.declared.opening.Stop.TheVariants.{Refused, FileFault, OutOfMemory}
use Rattle.gate_idl.specs.declared.refusal.Refusal.{Refusal}
use Rattle.gate_idl.specs.declared.refusal.ErrorCode.TheVariants as rows

abbrev pub Opened : Type 0
Opened = Result Declarations Refusal

abbrev pub refused : IdlFault → Refusal
refused f = record { file = f.file; offset = f.offset; row = rows.Declared f.row }

-- why files that are not loaded stop a command; what tables can't have never comes, so it has no word of its own
abbrev pub stop_by : LoadError → Stop
stop_by (errors.Idl fault) = Refused (refused fault)
stop_by errors.FileFault = FileFault
stop_by errors.OutOfMemory = OutOfMemory
stop_by errors.NoTables = OutOfMemory

abbrev pub misfit : ConstFault → Refusal
misfit f = record { file = f.file; offset = f.offset; row = rows.Value f.row }

-- a constant or preset of these files doesn't fit its type
abbrev pub IsMisfit : List FileTree → ConstFault → Type 0
IsMisfit files f = IsTold files 0 files (Some (f.file, (f.offset, f.row)))

abbrev pub AllFit : List FileTree → Type 0
AllFit files = IsTold files 0 files None

-- what the root file and all that it includes declare, or the first refusal: of a file that can't be loaded, else of a
-- declaration, else of a constant or a preset
pub data IsOpened (holds : List ℕ → Option (List ℕ)) (root : List ℕ) : Opened → Type 0 where
  Unloaded : (fault : IdlFault) → walked holds root ≡ Err fault → IsOpened holds root (Err (refused fault))
  Unlawful : (files : List FileTree) (fault : IdlFault) → walked holds root ≡ Ok files → IsFirst files (Some fault) → IsOpened holds root (Err (refused fault))
  Unfit : (files : List FileTree) (fault : ConstFault) → walked holds root ≡ Ok files → IsFirst files None → IsMisfit files fault → IsOpened holds root (Err (misfit fault))
  Good : (files : List FileTree) → walked holds root ≡ Ok files → IsFirst files None → AllFit files → IsOpened holds root (Ok (declarations_of files))

-- an answer is what the definition gives, a file fault and want of memory aside
abbrev pub Opens : (Opened → Type 0) → Result Declarations Stop → Type 0
Opens Is (Ok declarations) = Is (Ok declarations)
Opens Is (Err (Refused refusal)) = Is (Err refusal)
Opens Is (Err FileFault) = ⊤
Opens Is (Err OutOfMemory) = ⊤

-- the schema of files whose values all fit, or the first that doesn't
abbrev pub Checks : List FileTree → Declarations → Result Declarations Stop → Type 0
Checks files schema (Ok declarations) = (declarations ≡ schema) × AllFit files
Checks files schema (Err (Refused refusal)) = (fault : ConstFault) × IsMisfit files fault × (refusal ≡ misfit fault)
Checks files schema (Err FileFault) = ⊥
Checks files schema (Err OutOfMemory) = ⊤

-- the files' count of faults rose where a fetch failed, and stands as it was where none did
abbrev pub HasCause : {X : Type 0} → Result X Stop → ℕ → ℕ → Type 0
HasCause (Ok x) before now = now ≡ before
HasCause (Err (Refused refusal)) before now = now ≡ before
HasCause (Err FileFault) before now = Rose before now
HasCause (Err OutOfMemory) before now = now ≡ before
