-- What loading an IDL answers.
use Rattle.std.specs.Prelude.{◌≡◌, ◌⊎◌, ℕ, ◌<◌, ◌≤◌, List, length, Option, Some, None, Result, Ok, Err, ⊤}
use Rattle.type_tables.specs.Declarations.{Declarations}
use Rattle.idl_names.specs.Files.{FileTree, file_trees}
use Rattle.idl_names.specs.Meaning.{HasFewDefinitions}
use Rattle.idl_files.specs.declared.fault.LoadError.{LoadError}
use Rattle.idl_files.specs.declared.fault.LoadError.TheVariants as errors
use Rattle.idl_files.specs.Answers.{AllWhole}
use Rattle.idl_files.specs.Walk.{walked}
use Rattle.idl_schema.specs.Schema.{declarations_of}
use Rattle.idl_schema.specs.Stands.{CanStand}
use Rattle.idl_resolve.specs.declared.loading.Loaded.{Loaded}
use Rattle.idl_resolve.specs.Refused.{IsFirst}

-- files with the schema of what they declare: each include has its file, nothing is refused, and the schema is what they mean
pub record Resolved (files : List FileTree) (schema : Declarations) : Type 0 where
  pub some : 0 < length files
  pub within : length files ≤ 256
  pub whole : AllWhole (length files) files
  pub few : HasFewDefinitions files
  pub lawful : IsFirst files None
  pub means : schema ≡ declarations_of files

-- the schema of files that are there, or their first refusal, or lawful declarations that tables can't have; want of memory aside
abbrev pub Resolves : List FileTree → Result Declarations LoadError → Type 0
Resolves files (Ok schema) = IsFirst files None × (schema ≡ declarations_of files)
Resolves files (Err (errors.Idl fault)) = IsFirst files (Some fault)
Resolves files (Err errors.FileFault) = ⊥
Resolves files (Err errors.OutOfMemory) = ⊤
Resolves files (Err errors.NoTables) = IsFirst files None × (CanStand (declarations_of files) → ⊥)

-- an IDL over what the files hold is what the walk gives, or its first refusal, or else the first of what is declared, or declares what
-- tables can't have; a file fault and want of memory aside
abbrev pub Loads : (List ℕ → Option (List ℕ)) → List ℕ → Result Loaded LoadError → Type 0
Loads holds root (Ok loaded) = walked holds root ≡ Ok (file_trees loaded.documents)
Loads holds root (Err (errors.Idl fault)) = (walked holds root ≡ Err fault) ⊎ ((files : List FileTree) × ((walked holds root ≡ Ok files) × IsFirst files (Some fault)))
Loads holds root (Err errors.FileFault) = ⊤
Loads holds root (Err errors.OutOfMemory) = ⊤
Loads holds root (Err errors.NoTables) = (files : List FileTree) × ((walked holds root ≡ Ok files) × (IsFirst files None × (CanStand (declarations_of files) → ⊥)))

abbrev pub IsResolved : Loaded → Type 0
IsResolved loaded = Resolved (file_trees loaded.documents) loaded.schema
