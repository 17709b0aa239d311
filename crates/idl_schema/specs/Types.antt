-- What a type of the text means.
use Rattle.std.specs.Prelude.{◌≡◌, ℕ, zero, suc, ◌+◌, List, [], ◌∷◌, ◌++◌, length, Option, Some, None}
use Rattle.idl_document.specs.declared.document.BaseWord.{BaseWord}
use Rattle.idl_document.specs.declared.document.BaseWord.TheVariants as words
use Rattle.idl_document.specs.Trees.{DefinitionTree, typedef_of, enum_of, struct_of, TypeTree, base_at, named_at, map_at, set_at, list_at, type_tree}
use Rattle.type_tables.specs.declared.declared.Ty.{Ty}
use Rattle.type_tables.specs.declared.declared.Ty.TheVariants as types
use Rattle.type_tables.specs.declared.declared.TyId.{TyId}
use Rattle.idl_rules.specs.declared.scopes.Scope.TheVariants as scopes
use Rattle.idl_names.specs.declared.documents.Spot.{Spot}
use Rattle.idl_names.specs.Files.{FileTree}
use Rattle.idl_names.specs.Meaning.{meaning}
use Rattle.idl_names.specs.Targets.{definition_at, definition_count}
use Rattle.idl_schema.specs.declared.numbers.First.{First}
use Rattle.idl_schema.specs.declared.types.Resolution.{Resolution}
use Rattle.idl_schema.specs.declared.types.TypeOrAlias.{TypeOrAlias}
use Rattle.idl_schema.specs.declared.types.TypeOrAlias.TheVariants as meants
use Rattle.type_tables.specs.Declarations.{Declarations}
use Rattle.idl_schema.specs.Adding.{with_types}
use Rattle.idl_schema.specs.Numbers.{parts, first_of}

abbrev pub base_ty : BaseWord → Ty
base_ty words.Bool = types.Bool
base_ty words.I8 = types.I8
base_ty words.I16 = types.I16
base_ty words.I32 = types.I32
base_ty words.I64 = types.I64
base_ty words.Double = types.Double
base_ty words.Text = types.Text
base_ty words.Blob = types.Blob
base_ty words.Uuid = types.Uuid

abbrev pub part : ℕ → TyId
part n = record { 0 = n }

-- a type that is no name; the first of its parts has this number
abbrev pub plain_ty : ℕ → TypeTree → Ty
plain_ty base (base_at at word) = base_ty word
plain_ty base (named_at at word) = types.Unknown
plain_ty base (map_at at key value) = types.Map (part base) (part (base + 1))
plain_ty base (set_at at element) = types.Set (part base)
plain_ty base (list_at at element) = types.List (part base)

-- a name means a type, or what stands in a typedef: its file, the number of its first part, and the type there
pub data Target : Type 0 where
  found : Ty → Target
  further : ℕ → ℕ → TypeTree → Target

abbrev pub target_of : TypeOrAlias → Target
target_of (meants.Found ty) = found ty
target_of (meants.Alias e) = further e.file e.base (type_tree e.tree.now)

abbrev pub target_by : ℕ → Option DefinitionTree → Option First → Target
target_by file (Some (typedef_of name ty)) (Some n) = further file n.types ty
target_by file (Some (enum_of name members)) (Some n) = found (types.Enum (record { 0 = n.enums }))
target_by file (Some (struct_of kin name fields)) (Some n) = found (types.Struct (record { 0 = n.structs }))
target_by file definition n = found types.Unknown

abbrev pub target_at : List FileTree → Option Spot → Target
target_at files None = found types.Unknown
target_at files (Some spot) = target_by spot.file (definition_at files spot) (first_of files spot)

-- what a name of a type means in the file at this place
unfoldable pub target : List FileTree → ℕ → List ℕ → Target
target files file word = target_at files (meaning files file scopes.Types word)

abbrev pub ty_by : Target → (ℕ → ℕ → TypeTree → Ty) → Ty
ty_by (found ty) follow = ty
ty_by (further file base tree) follow = follow file base tree

-- where so many typedefs are followed, each in its own file
abbrev pub followed : ℕ → List FileTree → ℕ → ℕ → TypeTree → Ty
followed zero files file base tree = plain_ty base tree
followed (suc n) files file base (named_at at word) = ty_by (target files file word) (followed n files)
followed (suc n) files file base tree = plain_ty base tree

abbrev pub ty_resolution : List FileTree → Resolution → Ty
ty_resolution files a = ty_by (target_of a.meant) (followed a.left files)

-- the type that an expression of the file at this place means; the first of its parts has the number `base`
unfoldable pub ty_in : List FileTree → ℕ → ℕ → TypeTree → Ty
ty_in files file base tree = followed (suc (definition_count files)) files file base tree

-- the parts of a type: those right within it, and then theirs
abbrev pub part_types : (ℕ → TypeTree → Ty) → ℕ → TypeTree → List Ty
part_types ty base (map_at at key value) =
    ty (base + 2) key ∷ ty (base + 2 + parts key) value ∷ (part_types ty (base + 2) key ++ part_types ty (base + 2 + parts key) value)
part_types ty base (set_at at element) = ty (base + 1) element ∷ part_types ty (base + 1) element
part_types ty base (list_at at element) = ty (base + 1) element ∷ part_types ty (base + 1) element
part_types ty base tree = []

-- of a set or a list: what is within it, and its parts
abbrev pub element_types : (ℕ → TypeTree → Ty) → ℕ → TypeTree → List Ty
element_types ty base element = ty (base + 1) element ∷ part_types ty (base + 1) element

-- of a map: the key and the value within it, and their parts
abbrev pub pair_types : (ℕ → TypeTree → Ty) → ℕ → TypeTree → TypeTree → List Ty
pair_types ty base key value =
    ty (base + 2) key ∷ ty (base + 2 + parts key) value ∷ (part_types ty (base + 2) key ++ part_types ty (base + 2 + parts key) value)

-- the types of a map's key and value, where the first of its parts has this number
abbrev pub AreWithin : (ℕ → TypeTree → Ty) → ℕ → TypeTree → TypeTree → Ty × Ty → Type 0
AreWithin ty base key value tys = (tys.0 ≡ ty (base + 2) key) × (tys.1 ≡ ty (base + 2 + parts key) value)

-- with these types behind the parts that there are
module _ (ty : ℕ → TypeTree → Ty) (d : Declarations) where
  abbrev pub with_parts : TypeTree → Declarations
  with_parts tree = with_types d (part_types ty (length d.types) tree)

  abbrev pub with_element : TypeTree → Declarations
  with_element element = with_types d (element_types ty (length d.types) element)

  abbrev pub with_pair : TypeTree → TypeTree → Declarations
  with_pair key value = with_types d (pair_types ty (length d.types) key value)
