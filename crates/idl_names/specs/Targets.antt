-- What a type is, where its typedefs are followed.
use Rattle.std.specs.Prelude.{ℕ, zero, suc, ◌+◌, List, [], ◌∷◌, length, slice_get, Option, Some, None, option_and_then}
use Rattle.idl_document.specs.declared.document.Kin.{Kin}
use Rattle.idl_document.specs.Trees.{DefinitionTree, const_of, typedef_of, enum_of, struct_of, service_of, TypeTree, base_at, named_at, map_at, set_at, list_at}
use Rattle.idl_rules.specs.declared.scopes.Scope.TheVariants as scopes
use Rattle.idl_names.specs.declared.documents.Spot.{Spot}
use Rattle.idl_names.specs.Files.{FileTree}
use Rattle.idl_names.specs.Meaning.{meaning}

-- where typedefs end: at a type with a word of its own or a container, as it is written in a file, at an enum, or at a struct
pub data TargetTree : Type 0 where
  written_in : ℕ → TypeTree → TargetTree
  enum_spot : Spot → TargetTree
  struct_spot : Kin → Spot → TargetTree

-- one step: an end, or the type of a typedef in its own file
pub data StepTree : Type 0 where
  ends : TargetTree → StepTree
  follows : ℕ → TypeTree → StepTree

-- the definition at a spot
abbrev pub definition_at : List FileTree → Spot → Option DefinitionTree
definition_at files spot = option_and_then (λ tree. slice_get tree.document.definitions spot.definition) (slice_get files spot.file)

abbrev pub declared_step : Spot → DefinitionTree → Option StepTree
declared_step spot (typedef_of name ty) = Some (follows spot.file ty)
declared_step spot (enum_of name members) = Some (ends (enum_spot spot))
declared_step spot (struct_of kin name fields) = Some (ends (struct_spot kin spot))
declared_step spot (const_of name ty value) = None
declared_step spot (service_of name base functions) = None

abbrev pub spot_step : List FileTree → Spot → Option StepTree
spot_step files spot = option_and_then (declared_step spot) (definition_at files spot)

-- what a type leads to; None at a name that means no type
abbrev pub type_step : List FileTree → ℕ → TypeTree → Option StepTree
type_step files file (base_at at word) = Some (ends (written_in file (base_at at word)))
type_step files file (named_at at word) = option_and_then (spot_step files) (meaning files file scopes.Types word)
type_step files file (map_at at key value) = Some (ends (written_in file (map_at at key value)))
type_step files file (set_at at element) = Some (ends (written_in file (set_at at element)))
type_step files file (list_at at element) = Some (ends (written_in file (list_at at element)))

abbrev pub chased_by : (ℕ → TypeTree → Option TargetTree) → Option StepTree → Option TargetTree
chased_by next None = None
chased_by next (Some (ends target)) = Some target
chased_by next (Some (follows file ty)) = next file ty

-- the end, if it is at most so many steps away
unfoldable pub chased : List FileTree → ℕ → ℕ → TypeTree → Option TargetTree
chased files zero file ty = None
chased files (suc steps) file ty = chased_by (chased files steps) (type_step files file ty)

abbrev pub definition_count : List FileTree → ℕ
definition_count [] = 0
definition_count (t ∷ ts) = length t.document.definitions + definition_count ts

-- what a type is; None at a name that means no type, and where typedefs lead round: then there are more steps than definitions
unfoldable pub target_of : List FileTree → ℕ → TypeTree → Option TargetTree
target_of files file ty = chased files (suc (definition_count files)) file ty
