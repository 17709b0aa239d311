-- What the names of a file may not be.
use Rattle.std.specs.Prelude.{ℕ, suc, List, [], ◌∷◌, ◌++◌, Bool, true, false, not, ◌||◌, if◌then◌else◌, is_some, slice_get, Option, Some, None}
use Rattle.idl_document.specs.declared.document.Kin.TheVariants as kins
use Rattle.idl_document.specs.declared.document.Name.{Name}
use Rattle.idl_document.specs.Trees.{DefinitionTree, FunctionTree, const_of, typedef_of, enum_of, struct_of, service_of, FieldTree, TypeTree, base_at, named_at, map_at, set_at, list_at}
use Rattle.idl_rules.specs.declared.row.IdlRow.{IdlRow}
use Rattle.idl_rules.specs.declared.row.IdlRow.TheVariants as rows
use Rattle.idl_rules.specs.Doubles.{when}
use Rattle.idl_rules.specs.Order.{Refusal}
use Rattle.idl_names.specs.declared.cycles.Cycle.{Cycle}
use Rattle.idl_rules.specs.declared.scopes.Scope.{Scope}
use Rattle.idl_rules.specs.declared.scopes.Scope.TheVariants as scopes
use Rattle.idl_names.specs.declared.documents.Spot.{Spot}
use Rattle.idl_names.specs.Cycles.{cycle_at, is_absent, is_on}
use Rattle.idl_names.specs.declared.names.Names.{Names}
use Rattle.idl_names.specs.Files.{FileTree, file_trees}
use Rattle.idl_names.specs.Meaning.{meaning, spot_at}
use Rattle.idl_names.specs.Targets.{TargetTree, written_in, enum_spot, struct_spot, target_of}

-- the files that names are looked up in
abbrev pub files_of : Names → List FileTree
files_of names = file_trees names.files.now

-- whether any scope has this name
abbrev pub is_known : List FileTree → ℕ → List ℕ → Bool
is_known files file word = is_some (meaning files file scopes.Types word) || is_some (meaning files file scopes.Constants word) || is_some (meaning files file scopes.Services word)

-- a name that this scope has not: the row, where only others have it
abbrev pub word_refusals : List FileTree → ℕ → Scope → IdlRow → ℕ → List ℕ → List Refusal
word_refusals files file scope row at word = when (not (is_some (meaning files file scope word))) at (if is_known files file word then row else rows.UnknownName)

abbrev pub type_refusals : List FileTree → ℕ → TypeTree → List Refusal
type_refusals files file (base_at at word) = []
type_refusals files file (named_at at word) = word_refusals files file scopes.Types rows.NotAType at word
type_refusals files file (map_at at key value) = type_refusals files file key ++ type_refusals files file value
type_refusals files file (set_at at element) = type_refusals files file element
type_refusals files file (list_at at element) = type_refusals files file element

abbrev pub fields_refusals : List FileTree → ℕ → List FieldTree → List Refusal
fields_refusals files file [] = []
fields_refusals files file (f ∷ fs) = type_refusals files file f.ty ++ fields_refusals files file fs

-- the offset of a type
abbrev pub offset_of : TypeTree → ℕ
offset_of (base_at at word) = at
offset_of (named_at at word) = at
offset_of (map_at at key value) = at
offset_of (set_at at element) = at
offset_of (list_at at element) = at

abbrev pub leads_round : List (List Cycle) → Option Spot → Bool
leads_round told None = false
leads_round told (Some spot) = not (is_absent (cycle_at told spot))

-- whether a type is a name that leads into a cycle
abbrev pub is_round : List FileTree → List (List Cycle) → ℕ → TypeTree → Bool
is_round files told file (named_at at word) = leads_round told (meaning files file scopes.Types word)
is_round files told file (base_at at word) = false
is_round files told file (map_at at key value) = false
is_round files told file (set_at at element) = false
is_round files told file (list_at at element) = false

-- what is known not to be an exception; a name without a meaning is refused as such
abbrev pub is_other : Option TargetTree → Bool
is_other None = false
is_other (Some (struct_spot kins.Exception spot)) = false
is_other (Some (struct_spot kins.Struct spot)) = true
is_other (Some (struct_spot kins.Union spot)) = true
is_other (Some (enum_spot spot)) = true
is_other (Some (written_in file ty)) = true

-- only an exception is thrown; a type that leads into a cycle is not asked
abbrev pub is_refused : Bool → Bool → Bool
is_refused true other = false
is_refused false other = other

-- whether what is thrown is known not to be an exception
abbrev pub is_refused_type : List FileTree → List (List Cycle) → ℕ → TypeTree → Bool
is_refused_type files told file ty = is_refused (is_round files told file ty) (is_other (target_of files file ty))

abbrev pub thrown_refusals : List FileTree → List (List Cycle) → ℕ → TypeTree → List Refusal
thrown_refusals files told file ty = when (is_refused_type files told file ty) (offset_of ty) rows.NotAnException

abbrev pub throws_refusals : List FileTree → List (List Cycle) → ℕ → List FieldTree → List Refusal
throws_refusals files told file [] = []
throws_refusals files told file (f ∷ fs) = type_refusals files file f.ty ++ thrown_refusals files told file f.ty ++ throws_refusals files told file fs

abbrev pub returned_refusals : List FileTree → ℕ → Option TypeTree → List Refusal
returned_refusals files file None = []
returned_refusals files file (Some ty) = type_refusals files file ty

abbrev pub function_refusals : List FileTree → List (List Cycle) → ℕ → FunctionTree → List Refusal
function_refusals files told file f = returned_refusals files file f.returns ++ fields_refusals files file f.args ++ throws_refusals files told file f.throws

abbrev pub functions_refusals : List FileTree → List (List Cycle) → ℕ → List FunctionTree → List Refusal
functions_refusals files told file [] = []
functions_refusals files told file (f ∷ fs) = function_refusals files told file f ++ functions_refusals files told file fs

abbrev pub base_refusals : List FileTree → ℕ → Option Name → List Refusal
base_refusals files file None = []
base_refusals files file (Some name) = word_refusals files file scopes.Services rows.NotAService name.at name.text

-- what leads to itself is refused at its name
abbrev pub cycle_refusals : List (List Cycle) → Spot → Name → IdlRow → List Refusal
cycle_refusals told spot name row = when (is_on (cycle_at told spot)) name.at row

abbrev pub definition_refusals : List FileTree → List (List Cycle) → Spot → DefinitionTree → List Refusal
definition_refusals files told spot (const_of name ty value) = type_refusals files spot.file ty
definition_refusals files told spot (typedef_of name ty) = type_refusals files spot.file ty ++ cycle_refusals told spot name rows.TypedefCycle
definition_refusals files told spot (enum_of name members) = []
definition_refusals files told spot (struct_of kin name fields) = fields_refusals files spot.file fields
definition_refusals files told spot (service_of name base functions) =
    base_refusals files spot.file base ++ functions_refusals files told spot.file functions ++ cycle_refusals told spot name rows.ServiceCycle

-- from this place on
abbrev pub definitions_refusals : List FileTree → List (List Cycle) → ℕ → ℕ → List DefinitionTree → List Refusal
definitions_refusals files told file place [] = []
definitions_refusals files told file place (d ∷ ds) = definition_refusals files told (spot_at file place) d ++ definitions_refusals files told file (suc place) ds

abbrev pub file_refusals : List FileTree → List (List Cycle) → ℕ → Option FileTree → List Refusal
file_refusals files told file None = []
file_refusals files told file (Some tree) = definitions_refusals files told file 0 tree.document.definitions

-- what the names of one file are refused for, where it is told of each definition how it stands to cycles
unfoldable pub name_refusals : List FileTree → List (List Cycle) → ℕ → List Refusal
name_refusals files told file = file_refusals files told file (slice_get files file)
