-- Documents as trees, without where they lie in memory.
use Rattle.std.specs.Prelude.{ℕ, ℤ, List, map, Option, option_map}
use Rattle.idl_document.specs.declared.document.Asked.{Asked}
use Rattle.idl_document.specs.declared.document.BaseWord.{BaseWord}
use Rattle.idl_document.specs.declared.document.Definition.{Definition}
use Rattle.idl_document.specs.declared.document.Definition.TheVariants as definitions
use Rattle.idl_document.specs.declared.document.Document.{Document}
use Rattle.idl_document.specs.declared.document.FieldDecl.{FieldDecl}
use Rattle.idl_document.specs.declared.document.Function.{Function}
use Rattle.idl_document.specs.declared.document.Kin.{Kin}
use Rattle.idl_document.specs.declared.document.Member.{Member}
use Rattle.idl_document.specs.declared.document.Name.{Name}
use Rattle.idl_document.specs.declared.document.TypeExpr.{TypeExpr}
use Rattle.idl_document.specs.declared.document.TypeForm.{TypeForm}
use Rattle.idl_document.specs.declared.document.TypeForm.TheVariants as types
use Rattle.idl_document.specs.Item.{ValueItem}
use Rattle.idl_document.specs.Items.{items_of_value}

-- a type, each part at the offset of its first byte
pub data TypeTree : Type 0 where
  base_at : ℕ → BaseWord → TypeTree
  named_at : ℕ → List ℕ → TypeTree
  map_at : ℕ → TypeTree → TypeTree → TypeTree
  set_at : ℕ → TypeTree → TypeTree
  list_at : ℕ → TypeTree → TypeTree

abbrev pub form_tree : ℕ → TypeForm → TypeTree
form_tree at (types.Base word) = base_at at word
form_tree at (types.Named name) = named_at at name
form_tree at (types.Map' p key_at key q value_at value) = map_at at (form_tree key_at key) (form_tree value_at value)
form_tree at (types.Set' p element_at element) = set_at at (form_tree element_at element)
form_tree at (types.List' p element_at element) = list_at at (form_tree element_at element)

abbrev pub type_tree : TypeExpr → TypeTree
type_tree t = form_tree t.at t.form

-- a field
pub record FieldTree : Type 0 where
  pub id : Option (ℕ × ℤ)
  pub asked : Asked
  pub ty : TypeTree
  pub name : Name
  pub preset : Option (List ValueItem)

abbrev pub field_tree : FieldDecl → FieldTree
field_tree f = record { id = f.id; asked = f.asked; ty = type_tree f.ty; name = f.name; preset = option_map items_of_value f.preset }

abbrev pub field_trees : List FieldDecl → List FieldTree
field_trees fields = map field_tree fields

-- a method
pub record FunctionTree : Type 0 where
  pub oneway : Option ℕ
  pub returns : Option TypeTree
  pub name : Name
  pub args : List FieldTree
  pub throws : List FieldTree

abbrev pub function_tree : Function → FunctionTree
function_tree f = record { oneway = f.oneway; returns = option_map type_tree f.returns; name = f.name; args = field_trees f.args; throws = field_trees f.throws }

abbrev pub function_trees : List Function → List FunctionTree
function_trees functions = map function_tree functions

-- a declaration
pub data DefinitionTree : Type 0 where
  const_of : Name → TypeTree → List ValueItem → DefinitionTree
  typedef_of : Name → TypeTree → DefinitionTree
  enum_of : Name → List Member → DefinitionTree
  struct_of : Kin → Name → List FieldTree → DefinitionTree
  service_of : Name → Option Name → List FunctionTree → DefinitionTree

abbrev pub definition_tree : Definition → DefinitionTree
definition_tree (definitions.Const name ty value) = const_of name (type_tree ty) (items_of_value value)
definition_tree (definitions.Typedef name ty) = typedef_of name (type_tree ty)
definition_tree (definitions.Enum name members) = enum_of name members
definition_tree (definitions.Struct kin name fields) = struct_of kin name (field_trees fields)
definition_tree (definitions.Service name base functions) = service_of name base (function_trees functions)

abbrev pub definition_trees : List Definition → List DefinitionTree
definition_trees all = map definition_tree all

-- a document
pub record DocumentTree : Type 0 where
  pub includes : List Name
  pub definitions : List DefinitionTree

abbrev pub document_tree : Document → DocumentTree
document_tree d = record { includes = d.includes; definitions = definition_trees d.definitions }
