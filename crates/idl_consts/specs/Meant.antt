-- What a written type means: typedefs stand for their targets, and the names of enums and structs for these.
use Rattle.std.specs.Prelude.{ℕ, zero, suc, ◌<◌, List, Option, Some, None, slice_get, option_and_then}
use Rattle.idl_document.specs.declared.document.BaseWord.{BaseWord}
use Rattle.idl_document.specs.Trees.{DefinitionTree, typedef_of, enum_of, struct_of, TypeTree, base_at, named_at, map_at, set_at, list_at, type_tree}
use Rattle.idl_rules.specs.declared.scopes.Scope.TheVariants as scopes
use Rattle.idl_names.specs.declared.documents.Spot.{Spot}
use Rattle.idl_names.specs.Files.{FileTree}
use Rattle.idl_names.specs.Meaning.{meaning}
use Rattle.idl_names.specs.Targets.{definition_count}
use Rattle.idl_consts.specs.declared.types.TypeRef.{TypeRef}
use Rattle.idl_consts.specs.declared.types.Shape.{Shape}
use Rattle.idl_consts.specs.declared.types.Shape.TheVariants as shapes
use Rattle.idl_consts.specs.declared.types.Step.{Step}
use Rattle.idl_consts.specs.declared.types.Step.TheVariants as steps

-- a set and a list have values of one form
pub data Meant : Type 0 where
  base : BaseWord → Meant
  enumeration : Spot → Meant
  structure : Spot → Meant
  mapping : Meant → Meant → Meant
  sequence : Meant → Meant
  unknown : Meant

-- the definition at a spot
abbrev pub definition_of : List FileTree → Spot → Option DefinitionTree
definition_of d spot = option_and_then (λ f. slice_get f.document.definitions spot.definition) (slice_get d spot.file)

-- the types that names mean, by the file in which they are written
abbrev pub NamedTypes : Type 0
NamedTypes = ℕ → List ℕ → Meant

-- a type, where names mean this
abbrev pub type_by : NamedTypes → ℕ → TypeTree → Meant
type_by named file (base_at at word) = base word
type_by named file (named_at at word) = named file word
type_by named file (map_at at key value) = mapping (type_by named file key) (type_by named file value)
type_by named file (set_at at element) = sequence (type_by named file element)
type_by named file (list_at at element) = sequence (type_by named file element)

abbrev pub defined_type : NamedTypes → Spot → Option DefinitionTree → Meant
defined_type named spot (Some (typedef_of name ty)) = type_by named spot.file ty
defined_type named spot (Some (enum_of name members)) = enumeration spot
defined_type named spot (Some (struct_of kin name fields)) = structure spot
defined_type named spot definition = unknown

abbrev pub spot_type : List FileTree → NamedTypes → Option Spot → Meant
spot_type d named None = unknown
spot_type d named (Some spot) = defined_type named spot (definition_of d spot)

-- what a name means where no more than so many typedefs are followed
abbrev pub named_type : List FileTree → ℕ → ℕ → List ℕ → Meant
named_type d zero file word = unknown
named_type d (suc left) file word = spot_type d (named_type d left) (meaning d file scopes.Types word)

-- the type that is written in a file; no chain of typedefs that ends is longer than all definitions together
abbrev pub type_of : List FileTree → ℕ → TypeTree → Meant
type_of d file ty = type_by (named_type d (definition_count d)) file ty

-- the type that a reference leads to
abbrev pub meant_at : List FileTree → TypeRef → Meant
meant_at d t = type_by (named_type d t.left) t.file (type_tree t.ty.now)

abbrev pub meant_by : List FileTree → Shape → Meant
meant_by d (shapes.Base word) = base word
meant_by d (shapes.Enum spot) = enumeration spot
meant_by d (shapes.Struct spot) = structure spot
meant_by d (shapes.Map key value) = mapping (meant_at d key) (meant_at d value)
meant_by d (shapes.Sequence element) = sequence (meant_at d element)
meant_by d shapes.Unknown = unknown

abbrev pub meant_next : List FileTree → Step → Meant
meant_next d (steps.Done shape) = meant_by d shape
meant_next d (steps.Next t) = meant_at d t

-- fewer typedefs are left to follow
abbrev pub left_below : ℕ → Step → Type 0
left_below left (steps.Done shape) = Unit {0}
left_below left (steps.Next t) = t.left < left
