-- Where a document first nests deeper than a number of levels: the offset of the type or the value that opens the level that is too many.
use Rattle.std.specs.Prelude.{ℕ, zero, suc, List, [], ◌∷◌, Option, Some, None}
use Rattle.idl_document.specs.Item.{ValueItem, whole, double, literal, named, list_begin, list_end, map_begin, map_end}
use Rattle.idl_document.specs.Trees.{DefinitionTree, const_of, typedef_of, enum_of, struct_of, service_of, DocumentTree, FieldTree, FunctionTree, TypeTree, base_at, named_at, map_at, set_at, list_at}

abbrev pub first_of : Option ℕ → Option ℕ → Option ℕ
first_of None o = o
first_of (Some at) o = Some at

-- of a type, with so many levels left
abbrev pub type_deep : ℕ → TypeTree → Option ℕ
type_deep levels (base_at at word) = None
type_deep levels (named_at at word) = None
type_deep zero (map_at at key value) = Some at
type_deep (suc levels) (map_at at key value) = first_of (type_deep levels key) (type_deep levels value)
type_deep zero (set_at at element) = Some at
type_deep (suc levels) (set_at at element) = type_deep levels element
type_deep zero (list_at at element) = Some at
type_deep (suc levels) (list_at at element) = type_deep levels element

-- of a value's items
abbrev pub items_deep : ℕ → List ValueItem → Option ℕ
items_deep levels [] = None
items_deep levels (whole at z ∷ items) = items_deep levels items
items_deep levels (double at text ∷ items) = items_deep levels items
items_deep levels (literal at text ∷ items) = items_deep levels items
items_deep levels (named at text ∷ items) = items_deep levels items
items_deep zero (list_begin at ∷ items) = Some at
items_deep (suc levels) (list_begin at ∷ items) = items_deep levels items
items_deep levels (list_end ∷ items) = items_deep (suc levels) items
items_deep zero (map_begin at ∷ items) = Some at
items_deep (suc levels) (map_begin at ∷ items) = items_deep levels items
items_deep levels (map_end ∷ items) = items_deep (suc levels) items

module _ (levels : ℕ) where
  abbrev pub preset_deep : Option (List ValueItem) → Option ℕ
  preset_deep None = None
  preset_deep (Some items) = items_deep levels items

  abbrev pub field_deep : FieldTree → Option ℕ
  field_deep f = first_of (type_deep levels f.ty) (preset_deep f.preset)

  abbrev pub fields_deep : List FieldTree → Option ℕ
  fields_deep [] = None
  fields_deep (f ∷ fs) = first_of (field_deep f) (fields_deep fs)

  abbrev pub returns_deep : Option TypeTree → Option ℕ
  returns_deep None = None
  returns_deep (Some ty) = type_deep levels ty

  abbrev pub function_deep : FunctionTree → Option ℕ
  function_deep f = first_of (returns_deep f.returns) (first_of (fields_deep f.args) (fields_deep f.throws))

  abbrev pub functions_deep : List FunctionTree → Option ℕ
  functions_deep [] = None
  functions_deep (f ∷ fs) = first_of (function_deep f) (functions_deep fs)

  abbrev pub definition_deep : DefinitionTree → Option ℕ
  definition_deep (const_of name ty value) = first_of (type_deep levels ty) (items_deep levels value)
  definition_deep (typedef_of name ty) = type_deep levels ty
  definition_deep (enum_of name members) = None
  definition_deep (struct_of kin name fields) = fields_deep fields
  definition_deep (service_of name base functions) = functions_deep functions

  abbrev pub definitions_deep : List DefinitionTree → Option ℕ
  definitions_deep [] = None
  definitions_deep (d ∷ ds) = first_of (definition_deep d) (definitions_deep ds)

  abbrev pub document_deep : DocumentTree → Option ℕ
  document_deep d = definitions_deep d.definitions
