-- Which fault of all values is told.
use Rattle.std.specs.Prelude.{◌≡◌, ◌<◌, ◌^◌, ℕ, suc, List, length, [], ◌∷◌, ◌++◌, Option, Some, None, Bool, true, false, if◌then◌else◌, nat_lt, Result, Ok, Err}
use Rattle.idl_document.specs.Trees.{DefinitionTree, const_of, struct_of, service_of, FunctionTree, FieldTree, TypeTree}
use Rattle.idl_document.specs.Item.{ValueItem}
use Rattle.idl_names.specs.Files.{FileTree}
use Rattle.idl_names.specs.Meaning.{HasFewDefinitions}
use Rattle.idl_consts.specs.declared.row.ConstError.{ConstError}
use Rattle.idl_consts.specs.declared.row.ConstError.TheVariants as errors
use Rattle.idl_consts.specs.Course.{Course, course}
use Rattle.idl_consts.specs.Following.{Fault, IsFirst}
use Rattle.idl_consts.specs.Meant.{type_of}
use Rattle.idl_consts.specs.Rows.{rank_of}

-- a value, and the type that is asked for at its place
abbrev pub Asked : Type 0
Asked = TypeTree × List ValueItem

abbrev pub preset_by : TypeTree → Option (List ValueItem) → List Asked
preset_by ty None = []
preset_by ty (Some items) = (ty, items) ∷ []

-- the preset of a field, if it has one
abbrev pub preset_of : FieldTree → List Asked
preset_of f = preset_by f.ty f.preset

-- the presets of fields
abbrev pub presets : List FieldTree → List Asked
presets [] = []
presets (f ∷ fs) = preset_of f ++ presets fs

abbrev pub function_values : List FunctionTree → List Asked
function_values [] = []
function_values (f ∷ fs) = presets f.args ++ presets f.throws ++ function_values fs

abbrev pub definition_values : DefinitionTree → List Asked
definition_values (const_of name ty items) = (ty, items) ∷ []
definition_values (struct_of kin name fields) = presets fields
definition_values (service_of name base functions) = function_values functions
definition_values definition = []

abbrev pub all_values : List DefinitionTree → List Asked
all_values [] = []
all_values (x ∷ xs) = definition_values x ++ all_values xs

-- the fault that is told of two: the one with the least offset, and at one offset the lower row
abbrev pub is_before : Fault → Fault → Bool
is_before a b = if nat_lt a.0 b.0 then true else if nat_lt b.0 a.0 then false else nat_lt (rank_of a.1) (rank_of b.1)

abbrev pub lesser : Option Fault → Option Fault → Option Fault
lesser None b = b
lesser (Some a) None = Some a
lesser (Some a) (Some b) = if is_before b a then Some b else Some a

-- the course of a value that is written in a file, where its own type is asked for
abbrev pub asked_course : List FileTree → ℕ → Asked → Course
asked_course d file v = course d file (type_of d file v.0) v.1

-- the fault that is told of the values of a file behind one that was found before
abbrev pub IsLeast : List FileTree → ℕ → Option Fault → List Asked → Option Fault → Type 0
IsLeast d file before [] told = told ≡ before
IsLeast d file before (v ∷ vs) told =
    (first : Option Fault) × (IsFirst d (asked_course d file v) first) × (IsLeast d file (lesser before first) vs told)

-- the name of a file, an offset in it and a row
abbrev pub Told : Type 0
Told = List ℕ × Fault

-- the fault of a file is told, or else what the later files have
abbrev pub told_by : List ℕ → Option Fault → (Option Told → Type 0) → Option Told → Type 0
told_by name None later told = later told
told_by name (Some fault) later told = told ≡ Some (name, fault)

-- what is told of the files from this one on: the fault of the first that has one
abbrev pub IsTold : List FileTree → ℕ → List FileTree → Option Told → Type 0
IsTold d file [] told = told ≡ None
IsTold d file (f ∷ fs) told =
    (least : Option Fault) × (IsLeast d file None (all_values f.document.definitions) least) × (told_by f.name least (IsTold d (suc file) fs) told)

-- what a call answered, unless memory ran out
abbrev pub Answers : List FileTree → Result (Unit {0}) ConstError → Type 0
Answers d (Ok u) = IsTold d 0 d None
Answers d (Err (errors.Idl fault)) = IsTold d 0 d (Some (fault.file, (fault.offset, fault.row)))
Answers d (Err errors.OutOfMemory) = Unit {0}

-- the documents of files that were loaded: the places of files and of definitions have 32 bits
pub record IsReady (d : List FileTree) : Type 0 where
  pub few : HasFewDefinitions d
  pub files : length d < 2 ^ 32
