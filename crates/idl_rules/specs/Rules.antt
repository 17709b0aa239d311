-- What one file may not declare, whatever other files declare.
use Rattle.std.specs.Prelude.{ℕ, List, [], ◌∷◌, ◌++◌, map, Option, Some, None, Bool, true, false}
use Rattle.idl_document.specs.declared.document.Name.{Name}
use Rattle.idl_document.specs.Trees.{DefinitionTree, const_of, typedef_of, enum_of, struct_of, service_of, FunctionTree, DocumentTree, FieldTree, TypeTree}
use Rattle.idl_rules.specs.declared.row.IdlRow.TheVariants as rows
use Rattle.idl_rules.specs.declared.scopes.Scope.{Scope}
use Rattle.idl_rules.specs.declared.scopes.Scope.TheVariants as scopes
use Rattle.idl_rules.specs.Doubles.{double_names, when}
use Rattle.idl_rules.specs.Ids.{id_refusals}
use Rattle.idl_rules.specs.Order.{Refusal}
use Rattle.idl_rules.specs.Values.{value_refusals}

abbrev pub listed_name : Option Name → List Name
listed_name None = []
listed_name (Some name) = name ∷ []

-- the name that a declaration puts into a scope
abbrev pub name_in : Scope → DefinitionTree → List Name
name_in scopes.Constants (const_of name ty value) = name ∷ []
name_in scopes.Types (typedef_of name ty) = name ∷ []
name_in scopes.Types (enum_of name members) = name ∷ []
name_in scopes.Types (struct_of kin name fields) = name ∷ []
name_in scopes.Services (service_of name base functions) = name ∷ []
name_in scope definition = []

abbrev pub names_in : Scope → List DefinitionTree → List Name
names_in scope [] = []
names_in scope (d ∷ ds) = name_in scope d ++ names_in scope ds

-- a struct's fields, a method's arguments, or what it throws
abbrev pub field_refusals : List FieldTree → List Refusal
field_refusals fields = double_names rows.DuplicateFieldName (map (λ f. f.name) fields) ++ id_refusals fields

-- something comes back: a result, or what is thrown
abbrev pub answers : Option TypeTree → List FieldTree → Bool
answers (Some ty) throws = true
answers None (t ∷ ts) = true
answers None [] = false

abbrev pub oneway_by : Option ℕ → Bool → List Refusal
oneway_by None answered = []
oneway_by (Some at) answered = when answered at rows.OnewayWithResult

-- a method that is not answered returns nothing and throws nothing
abbrev pub oneway_refusals : FunctionTree → List Refusal
oneway_refusals f = oneway_by f.oneway (answers f.returns f.throws)

abbrev pub method_refusals : FunctionTree → List Refusal
method_refusals f = oneway_refusals f ++ field_refusals f.args ++ field_refusals f.throws

abbrev pub methods_refusals : List FunctionTree → List Refusal
methods_refusals [] = []
methods_refusals (f ∷ fs) = method_refusals f ++ methods_refusals fs

-- within one declaration
abbrev pub inner_refusals : DefinitionTree → List Refusal
inner_refusals (const_of name ty value) = []
inner_refusals (typedef_of name ty) = []
inner_refusals (enum_of name members) = double_names rows.DuplicateName (map (λ m. m.name) members) ++ value_refusals members
inner_refusals (struct_of kin name fields) = field_refusals fields
inner_refusals (service_of name base functions) = double_names rows.DuplicateName (map (λ f. f.name) functions) ++ methods_refusals functions

abbrev pub all_inner : List DefinitionTree → List Refusal
all_inner [] = []
all_inner (d ∷ ds) = inner_refusals d ++ all_inner ds

-- within one scope of a file
abbrev pub scope_refusals : Scope → List DefinitionTree → List Refusal
scope_refusals scope definitions = double_names rows.DuplicateName (names_in scope definitions)

abbrev pub definitions_refusals : List DefinitionTree → List Refusal
definitions_refusals ds = scope_refusals scopes.Types ds ++ scope_refusals scopes.Constants ds ++ scope_refusals scopes.Services ds ++ all_inner ds

abbrev pub rule_refusals : DocumentTree → List Refusal
rule_refusals d = definitions_refusals d.definitions
