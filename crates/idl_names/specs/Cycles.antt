-- What leads round.
use Rattle.std.specs.Prelude.{◌≡◌, ℕ, ◌<◌, List, [], ◌++◌, Bool, true, false, length, slice_get, Option, Some, None, option_and_then, unwrap_or}
use Rattle.idl_document.specs.declared.document.Name.{Name}
use Rattle.idl_document.specs.Trees.{DefinitionTree, const_of, typedef_of, enum_of, struct_of, service_of, TypeTree, base_at, named_at, map_at, set_at, list_at}
use Rattle.idl_names.specs.declared.cycles.Cycle.{Cycle}
use Rattle.idl_names.specs.declared.cycles.Cycle.TheVariants as cycles
use Rattle.idl_rules.specs.declared.scopes.Scope.TheVariants as scopes
use Rattle.idl_names.specs.declared.documents.Spot.{Spot}
use Rattle.idl_names.specs.Files.{FileTree}
use Rattle.idl_names.specs.Meaning.{meaning, spot_at}
use Rattle.idl_names.specs.Sets.{Has, listed_spot}
use Rattle.idl_names.specs.Targets.{definition_at}

-- what the names in a type mean, also those within its containers
abbrev pub type_spots : List FileTree → ℕ → TypeTree → List Spot
type_spots files file (base_at at word) = []
type_spots files file (named_at at word) = listed_spot (meaning files file scopes.Types word)
type_spots files file (map_at at key value) = type_spots files file key ++ type_spots files file value
type_spots files file (set_at at element) = type_spots files file element
type_spots files file (list_at at element) = type_spots files file element

abbrev pub base_spots : List FileTree → ℕ → Option Name → List Spot
base_spots files file None = []
base_spots files file (Some name) = listed_spot (meaning files file scopes.Services name.text)

-- a typedef leads to what its type names, a service to the one that it extends
abbrev pub definition_spots : List FileTree → ℕ → DefinitionTree → List Spot
definition_spots files file (typedef_of name ty) = type_spots files file ty
definition_spots files file (service_of name base functions) = base_spots files file base
definition_spots files file (const_of name ty value) = []
definition_spots files file (enum_of name members) = []
definition_spots files file (struct_of kin name fields) = []

abbrev pub spots_by : List FileTree → ℕ → Option DefinitionTree → List Spot
spots_by files file None = []
spots_by files file (Some definition) = definition_spots files file definition

unfoldable pub next_spots : List FileTree → Spot → List Spot
next_spots files spot = spots_by files spot.file (definition_at files spot)

-- one leads to another, in one step or more
pub data LeadsTo (files : List FileTree) : Spot → Spot → Type 0 where
  at_once : (from to : Spot) → Has (next_spots files from) to → LeadsTo files from to
  onward : (from mid to : Spot) → Has (next_spots files from) mid → LeadsTo files mid to → LeadsTo files from to

-- what one leads to
abbrev pub IsReached : List FileTree → Spot → List Spot → Type 0
IsReached files from spots = (to : Spot) → (Has spots to → LeadsTo files from to) × (LeadsTo files from to → Has spots to)

-- it leads to itself
abbrev pub IsOnCycle : List FileTree → Spot → Type 0
IsOnCycle files spot = LeadsTo files spot spot

-- it leads to one that leads to itself
abbrev pub LeadsIntoCycle : List FileTree → Spot → Type 0
LeadsIntoCycle files spot = (other : Spot) × (LeadsTo files spot other × IsOnCycle files other)

-- what is told of a spot is so
abbrev pub IsTold : List FileTree → Spot → Cycle → Type 0
IsTold files spot cycles.Absent = LeadsIntoCycle files spot → ⊥
IsTold files spot cycles.Ahead = LeadsIntoCycle files spot × (IsOnCycle files spot → ⊥)
IsTold files spot cycles.On = IsOnCycle files spot

-- what is told of the definition at a spot
abbrev pub cycle_at : List (List Cycle) → Spot → Cycle
cycle_at told spot = unwrap_or (option_and_then (λ row. slice_get row spot.definition) (slice_get told spot.file)) cycles.Absent

-- whether each of these is among the others
abbrev pub AreAmong : List Spot → List Spot → Bool → Type 0
AreAmong spots others true = (spot : Spot) → Has spots spot → Has others spot
AreAmong spots others false = (spot : Spot) × (Has spots spot × (Has others spot → ⊥))

-- what is told of each definition of one file
abbrev pub RowTells : List FileTree → ℕ → ℕ → List Cycle → Type 0
RowTells files file count row = (length row ≡ count) × ((place : ℕ) → place < count → IsTold files (spot_at file place) (unwrap_or (slice_get row place) cycles.Absent))

-- whether one of these leads to itself
abbrev pub TellsAny : List FileTree → List Spot → Bool → Type 0
TellsAny files spots true = (spot : Spot) × (Has spots spot × IsOnCycle files spot)
TellsAny files spots false = (spot : Spot) → Has spots spot → IsOnCycle files spot → ⊥

-- whether this one leads to itself
abbrev pub TellsRound : List FileTree → Spot → Bool → Type 0
TellsRound files spot true = IsOnCycle files spot
TellsRound files spot false = IsOnCycle files spot → ⊥

abbrev pub TellsCycles : List FileTree → List (List Cycle) → Type 0
TellsCycles files told = (spot : Spot) → IsTold files spot (cycle_at told spot)

abbrev pub is_on : Cycle → Bool
is_on cycles.Absent = false
is_on cycles.Ahead = false
is_on cycles.On = true

abbrev pub is_absent : Cycle → Bool
is_absent cycles.Absent = true
is_absent cycles.Ahead = false
is_absent cycles.On = false
