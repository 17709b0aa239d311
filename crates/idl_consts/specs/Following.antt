-- Names in values are followed to the values of their constants.
use Rattle.std.specs.Prelude.{◌≡◌, ◌⊎◌, ℕ, zero, suc, List, Option, Some, None}
use Rattle.idl_document.specs.Trees.{DefinitionTree, const_of}
use Rattle.idl_names.specs.declared.documents.Spot.{Spot}
use Rattle.idl_names.specs.Files.{FileTree}
use Rattle.idl_consts.specs.declared.row.ConstRow.{ConstRow}
use Rattle.idl_consts.specs.declared.row.ConstRow.TheVariants as rows
use Rattle.idl_consts.specs.Course.{Course, ends, fails, stands, course}
use Rattle.idl_consts.specs.Meant.{Meant, definition_of}

-- an offset, and the row of what is refused there
abbrev pub Fault : Type 0
Fault = ℕ × ConstRow

-- what was found of a value: its first fault or none, or else names are still to be followed
pub data Found : Type 0 where
  open_still : Found
  found : Option Fault → Found

abbrev pub defined_course : List FileTree → Spot → Meant → Option DefinitionTree → Course
defined_course d spot m (Some (const_of name ty items)) = course d spot.file m items
defined_course d spot m definition = ends

-- the course of the value of the constant at a spot, where this type is asked for
unfoldable pub constant_course : List FileTree → Spot → Meant → Course
constant_course d spot m = defined_course d spot m (definition_of d spot)

-- A fault of a value that stands in through a name is told at the name.
abbrev pub stood : ℕ → Found → Found → Found
stood at open_still later = open_still
stood at (found None) later = later
stood at (found (Some fault)) later = found (Some (at, fault.1))

-- what is found along a course, where that is found through a name
abbrev pub along : (Spot → Meant → Found) → Course → Found
along through ends = found None
along through (fails at row) = found (Some (at, row))
along through (stands at spot m rest) = stood at (through spot m) (along through rest)

-- what is found through a name, where no more than so many names are followed one from the other
abbrev pub through : List FileTree → ℕ → Spot → Meant → Found
through d zero spot m = open_still
through d (suc n) spot m = along (through d n) (constant_course d spot m)

-- through the name nothing is refused
abbrev pub IsFree : List FileTree → Spot → Meant → Type 0
IsFree d spot m = (n : ℕ) × (through d n spot m ≡ found None)

-- something of this row is
abbrev pub IsRefused : List FileTree → Spot → Meant → ConstRow → Type 0
IsRefused d spot m row = (n : ℕ) × (at : ℕ) × (through d n spot m ≡ found (Some (at, row)))

-- however many names are followed, there is always another: constants lead back to themselves
abbrev pub IsEndless : List FileTree → Spot → Meant → Type 0
IsEndless d spot m = (n : ℕ) → through d n spot m ≡ open_still

-- why a name is refused
abbrev pub IsWrong : List FileTree → Spot → Meant → ConstRow → Type 0
IsWrong d spot m row = IsRefused d spot m row ⊎ ((row ≡ rows.CycleOfConstants) × IsEndless d spot m)

-- the first fault of a course, if it has any
abbrev pub IsFirst : List FileTree → Course → Option Fault → Type 0
IsFirst d ends told = told ≡ None
IsFirst d (fails at row) told = told ≡ Some (at, row)
IsFirst d (stands at spot m rest) told =
    (IsFree d spot m × IsFirst d rest told) ⊎ ((row : ConstRow) × (IsWrong d spot m row) × (told ≡ Some (at, row)))

-- what a name's row is: none where nothing is refused through it
abbrev pub IsRow : List FileTree → Spot → Meant → Option ConstRow → Type 0
IsRow d spot m None = IsFree d spot m
IsRow d spot m (Some row) = IsWrong d spot m row
