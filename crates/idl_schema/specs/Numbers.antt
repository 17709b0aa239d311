-- The numbers of what is declared: file by file, in the order of the text.
use Rattle.std.specs.Prelude.{ℕ, ◌+◌, ◌*◌, List, [], ◌∷◌, length, Option, Some, None, slice_get, option_and_then, option_map}
use Rattle.idl_document.specs.declared.document.TypeExpr.{TypeExpr}
use Rattle.idl_document.specs.Trees.{DefinitionTree, FunctionTree, const_of, typedef_of, enum_of, struct_of, service_of, FieldTree, TypeTree, base_at, named_at, map_at, set_at, list_at, type_tree}
use Rattle.idl_names.specs.declared.documents.Spot.{Spot}
use Rattle.idl_names.specs.Files.{FileTree}
use Rattle.idl_schema.specs.declared.numbers.First.{First}

-- how many types are parts of a type
abbrev pub parts : TypeTree → ℕ
parts (base_at at word) = 0
parts (named_at at word) = 0
parts (map_at at key value) = 2 + parts key + parts value
parts (set_at at element) = 1 + parts element
parts (list_at at element) = 1 + parts element

abbrev pub fields_parts : List FieldTree → ℕ
fields_parts [] = 0
fields_parts (f ∷ fs) = parts f.ty + fields_parts fs

abbrev pub returns_parts : Option TypeTree → ℕ
returns_parts None = 0
returns_parts (Some ty) = parts ty

abbrev pub method_parts : FunctionTree → ℕ
method_parts f = fields_parts f.args + returns_parts f.returns + fields_parts f.throws

abbrev pub methods_parts : List FunctionTree → ℕ
methods_parts [] = 0
methods_parts (f ∷ fs) = method_parts f + methods_parts fs

-- a service takes a number, and each method two of a struct: its arguments and its result
abbrev pub after_service : First → List FunctionTree → First
after_service n functions =
    record n { structs = n.structs + 2 * length functions; services = n.services + 1; types = n.types + methods_parts functions }

-- a struct, union or exception takes one number of a struct
abbrev pub after : First → DefinitionTree → First
after n (const_of name ty value) = n
after n (typedef_of name ty) = record n { types = n.types + parts ty }
after n (enum_of name members) = record n { enums = n.enums + 1 }
after n (struct_of kin name fields) = record n { structs = n.structs + 1; types = n.types + fields_parts fields }
after n (service_of name base functions) = after_service n functions

-- the first numbers that each definition takes
abbrev pub numbers_in : First → List DefinitionTree → List First
numbers_in n [] = []
numbers_in n (d ∷ ds) = n ∷ numbers_in (after n d) ds

abbrev pub after_all : First → List DefinitionTree → First
after_all n [] = n
after_all n (d ∷ ds) = after_all (after n d) ds

abbrev pub files_numbers : First → List FileTree → List (List First)
files_numbers n [] = []
files_numbers n (f ∷ fs) = numbers_in n f.document.definitions ∷ files_numbers (after_all n f.document.definitions) fs

-- struct 0 is the built-in one
abbrev pub start : First
start = record { structs = 1; enums = 0; services = 0; types = 0 }

unfoldable pub numbers_of : List FileTree → List (List First)
numbers_of files = files_numbers start files

abbrev pub number_in : List (List First) → Spot → Option First
number_in numbers spot = option_and_then (λ ns. slice_get ns spot.definition) (slice_get numbers spot.file)

-- the first numbers that the definition at a spot takes
abbrev pub first_of : List FileTree → Spot → Option First
first_of files spot = number_in (numbers_of files) spot

abbrev pub option_tree : Option TypeExpr → Option TypeTree
option_tree ty = option_map type_tree ty
