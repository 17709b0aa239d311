-- What is refused through constants, where their own types are asked for.
use Rattle.std.specs.Prelude.{◌≡◌, ℕ, List, Option, Some, slice_get}
use Rattle.idl_document.specs.Trees.{DefinitionTree, const_of}
use Rattle.idl_names.specs.declared.documents.Spot.{Spot}
use Rattle.idl_names.specs.Files.{FileTree}
use Rattle.idl_consts.specs.declared.knowing.Known.{Known}
use Rattle.idl_consts.specs.declared.row.ConstRow.{ConstRow}
use Rattle.idl_consts.specs.Following.{IsRow}
use Rattle.idl_consts.specs.Meant.{Meant, unknown, definition_of, type_of}

abbrev pub own_by : List FileTree → Spot → Option DefinitionTree → Meant
own_by d spot (Some (const_of name ty items)) = type_of d spot.file ty
own_by d spot definition = unknown

-- the type that the constant at a spot has
abbrev pub own_type : List FileTree → Spot → Meant
own_type d spot = own_by d spot (definition_of d spot)

-- what is refused through the constant at a spot, where its own type is asked for
abbrev pub IsOwnRow : List FileTree → Spot → Option ConstRow → Type 0
IsOwnRow d spot row = IsRow d spot (own_type d spot) row

-- each row that stands in the list is that of its spot
abbrev pub AreRows : List FileTree → List (Option (Spot × Option ConstRow)) → Type 0
AreRows d rows = (i : ℕ) (spot : Spot) (row : Option ConstRow) → slice_get rows i ≡ Some (Some (spot, row)) → IsOwnRow d spot row

abbrev pub IsSound : List FileTree → Known → Type 0
IsSound d known = AreRows d known.rows.items
