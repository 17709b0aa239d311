-- The types of a text, by what their typedefs lead to.
use Rattle.std.specs.Prelude.{◌≡◌, ◌⊎◌, ℕ, List, Option, Some, None}
use Rattle.idl_document.specs.declared.document.Name.{Name}
use Rattle.idl_document.specs.Trees.{TypeTree, typedef_of}
use Rattle.type_tables.specs.declared.declared.Ty.{Ty}
use Rattle.type_tables.specs.declared.declared.Ty.TheVariants as types
use Rattle.idl_names.specs.declared.documents.Spot.{Spot}
use Rattle.idl_names.specs.Files.{FileTree}
use Rattle.idl_names.specs.Targets.{TargetTree, written_in, enum_spot, struct_spot, definition_at}
use Rattle.idl_schema.specs.declared.numbers.First.{First}
use Rattle.idl_schema.specs.Numbers.{first_of}
use Rattle.idl_schema.specs.Types.{plain_ty, ty_in}

-- the number of the enum, or of the struct, that stands at a spot
abbrev pub IsEnum : Ty → Option First → Type 0
IsEnum ty None = ⊥
IsEnum ty (Some n) = ty ≡ types.Enum (record { 0 = n.enums })

abbrev pub IsStruct : Ty → Option First → Type 0
IsStruct ty None = ⊥
IsStruct ty (Some n) = ty ≡ types.Struct (record { 0 = n.structs })

-- what a typedef of this file stands for, with the number that the first of its parts takes there
pub record IsAliased (files : List FileTree) (ty : Ty) (file : ℕ) (tree : TypeTree) : Type 0 where
  pub spot : Spot
  pub name : Name
  pub first : First
  pub there : spot.file ≡ file
  pub declared : definition_at files spot ≡ Some (typedef_of name tree)
  pub numbered : first_of files spot ≡ Some first
  pub means : ty ≡ plain_ty first.types tree

-- what a type expression means whose first part has the number `base`: an enum or a struct by its number, itself, or what a typedef stands for
module _ (files : List FileTree) (file base : ℕ) (tree : TypeTree) where
  abbrev pub IsMeant : Ty → TargetTree → Type 0
  IsMeant ty (enum_spot spot) = IsEnum ty (first_of files spot)
  IsMeant ty (struct_spot kin spot) = IsStruct ty (first_of files spot)
  IsMeant ty (written_in place written) = ((place ≡ file) × (written ≡ tree) × (ty ≡ plain_ty base tree)) ⊎ IsAliased files ty place written

  -- the type that the expression has in the schema means this
  abbrev pub HasMeaning : TargetTree → Type 0
  HasMeaning t = IsMeant (ty_in files file base tree) t
