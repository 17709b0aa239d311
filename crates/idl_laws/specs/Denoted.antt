-- What a type in the tables of a schema denotes.
use Rattle.std.specs.Prelude.{◌≡◌, ℕ, List, slice_get, Some}
use Rattle.idl_document.specs.Trees.{TypeTree}
use Rattle.idl_names.specs.Files.{FileTree}
use Rattle.type_tables.specs.declared.declared.Ty.{Ty}
use Rattle.type_tables.specs.declared.declared.Ty.TheVariants as types
use Rattle.type_tables.specs.declared.declared.TyId.{TyId}
use Rattle.idl_schema.specs.Types.{base_ty}
use Rattle.idl_laws.specs.Counts.{enum_number, struct_number}
use Rattle.idl_laws.specs.TypeMeanings.{TypeMeaning, base_type, enum_at, struct_at, map_of, set_of, list_of, TypeOf}

-- the part with this number is so
abbrev pub IsPart : List Ty → (Ty → Type 0) → TyId → Type 0
IsPart parts P number = (ty : Ty) × (slice_get parts number.0 ≡ Some ty) × P ty

-- a base type by its name, an enum or a struct by its number, a container by what the numbers of its parts denote
abbrev pub Denotes : List FileTree → List Ty → Ty → TypeMeaning → Type 0
Denotes files parts ty (base_type word) = ty ≡ base_ty word
Denotes files parts ty (enum_at spot) = ty ≡ types.Enum (record { 0 = enum_number files spot })
Denotes files parts ty (struct_at spot) = ty ≡ types.Struct (record { 0 = struct_number files spot })
Denotes files parts ty (map_of k v) =
    (key value : TyId) × (ty ≡ types.Map key value) × IsPart parts (λ t. Denotes files parts t k) key × IsPart parts (λ t. Denotes files parts t v) value
Denotes files parts ty (set_of e) = (element : TyId) × (ty ≡ types.Set element) × IsPart parts (λ t. Denotes files parts t e) element
Denotes files parts ty (list_of e) = (element : TyId) × (ty ≡ types.List element) × IsPart parts (λ t. Denotes files parts t e) element

-- it denotes what a type means that is written in the file at this place
pub record IsTypeOf (files : List FileTree) (parts : List Ty) (file : ℕ) (tree : TypeTree) (ty : Ty) : Type 0 where
  pub meaning : TypeMeaning
  pub means : TypeOf files file tree meaning
  pub denotes : Denotes files parts ty meaning
