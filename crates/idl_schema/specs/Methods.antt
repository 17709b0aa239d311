-- The methods of a service, and the structs that their arguments and results travel as.
use Rattle.std.specs.Prelude.{ℕ, ◌+◌, List, [], ◌∷◌, ◌++◌, length, is_some}
use Rattle.idl_document.specs.Trees.{FunctionTree, TypeTree}
use Rattle.type_tables.specs.declared.declared.Form.TheVariants as forms
use Rattle.type_tables.specs.declared.declared.MethodInfo.{MethodInfo}
use Rattle.type_tables.specs.declared.declared.StructId.{StructId}
use Rattle.type_tables.specs.declared.declared.Ty.{Ty}
use Rattle.type_tables.specs.declared.tables.StructDecl.{StructDecl}
use Rattle.type_tables.specs.Declarations.{Declarations}
use Rattle.idl_schema.specs.Adding.{with_structs}
use Rattle.idl_schema.specs.Fields.{fields_from, fields_types, success, returns_types}
use Rattle.idl_schema.specs.Numbers.{fields_parts, returns_parts, method_parts}

abbrev pub struct_id : ℕ → StructId
struct_id n = record { 0 = n }

module _ (ty : ℕ → TypeTree → Ty) where
  abbrev pub args_struct : ℕ → FunctionTree → StructDecl
  args_struct base f = record { form = forms.Args; fields = fields_from ty 0 base f.args }

  -- behind the arguments: the result, and then what is thrown
  abbrev pub result_struct : ℕ → FunctionTree → StructDecl
  result_struct base f = record { form = forms.Result; fields = success ty base f.returns ++ fields_from ty 0 (base + returns_parts f.returns) f.throws }

  abbrev pub result_types : ℕ → FunctionTree → List Ty
  result_types base f = returns_types ty base f.returns ++ fields_types ty (base + returns_parts f.returns) f.throws

  abbrev pub methods_structs : ℕ → List FunctionTree → List StructDecl
  methods_structs base [] = []
  methods_structs base (f ∷ fs) = args_struct base f ∷ result_struct (base + fields_parts f.args) f ∷ methods_structs (base + method_parts f) fs

  abbrev pub methods_types : ℕ → List FunctionTree → List Ty
  methods_types base [] = []
  methods_types base (f ∷ fs) = fields_types ty base f.args ++ result_types (base + fields_parts f.args) f ++ methods_types (base + method_parts f) fs

module _ (ty : ℕ → TypeTree → Ty) (d : Declarations) where
  -- with the struct that a method's arguments travel as
  abbrev pub with_args : FunctionTree → Declarations
  with_args f = with_structs d (fields_types ty (length d.types) f.args) (args_struct ty (length d.types) f ∷ [])

  -- with the struct that a method's result travels as
  abbrev pub with_result : FunctionTree → Declarations
  with_result f = with_structs d (result_types ty (length d.types) f) (result_struct ty (length d.types) f ∷ [])

  -- with both structs of each method
  abbrev pub with_all_structs : List FunctionTree → Declarations
  with_all_structs fs = with_structs d (methods_types ty (length d.types) fs) (methods_structs ty (length d.types) fs)

abbrev pub method_info : ℕ → FunctionTree → MethodInfo
method_info n f = record { args = struct_id n; result = struct_id (n + 1); oneway = is_some f.oneway }

-- the methods, where the structs of the first begin with this number
abbrev pub methods_from : ℕ → List FunctionTree → List (List ℕ × MethodInfo)
methods_from n [] = []
methods_from n (f ∷ fs) = (f.name.text, method_info n f) ∷ methods_from (n + 2) fs
