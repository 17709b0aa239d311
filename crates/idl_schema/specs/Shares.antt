-- What each definition adds to a schema.
use Rattle.std.specs.Prelude.{ℕ, ℤ, suc, ◌==◌, List, [], ◌∷◌, ◌++◌, map, Option, Some, None, Bool, false, if◌then◌else◌, option_map, slice_get}
use Rattle.idl_document.specs.declared.document.Name.{Name}
use Rattle.idl_document.specs.Trees.{DefinitionTree, FunctionTree, const_of, typedef_of, enum_of, struct_of, service_of}
use Rattle.idl_rules.specs.Values.{member_values}
use Rattle.idl_rules.specs.declared.scopes.Scope.TheVariants as scopes
use Rattle.idl_names.specs.declared.documents.Spot.{Spot}
use Rattle.idl_names.specs.Files.{FileTree}
use Rattle.idl_names.specs.Meaning.{meaning, included}
use Rattle.idl_names.specs.Paths.{base_name}
use Rattle.type_tables.specs.declared.declared.ServiceId.{ServiceId}
use Rattle.type_tables.specs.declared.declared.Ty.{Ty}
use Rattle.type_tables.specs.declared.services.ServiceDecl.{ServiceDecl}
use Rattle.type_tables.specs.declared.tables.StructDecl.{StructDecl}
use Rattle.type_tables.specs.Declarations.{Declarations}
use Rattle.type_tables.specs.Roots.{with_name}
use Rattle.type_tables.specs.Services.{number}
use Rattle.idl_schema.specs.declared.numbers.First.{First}
use Rattle.idl_schema.specs.Fields.{fields_from, fields_types, form_of}
use Rattle.idl_schema.specs.Methods.{methods_from, methods_structs, methods_types}
use Rattle.idl_schema.specs.Numbers.{after, after_all, first_of}
use Rattle.idl_schema.specs.Types.{part_types, ty_in}
use Rattle.idl_schema.specs.Adding.{firsts}

-- in the order of the numbers
pub record Share : Type 0 where
  pub types : List Ty
  pub enums : List (List ℤ)
  pub structs : List StructDecl
  pub services : List ServiceDecl
  pub names : List (List ℕ × ServiceId)

abbrev pub none : Share
none = record { types = []; enums = []; structs = []; services = []; names = [] }

abbrev pub both : Share → Share → Share
both s t = record {
  types = s.types ++ t.types;
  enums = s.enums ++ t.enums;
  structs = s.structs ++ t.structs;
  services = s.services ++ t.services;
  names = s.names ++ t.names;
}

abbrev pub with_share : Declarations → Share → Declarations
with_share d s = record d {
  types = d.types ++ s.types;
  enums = d.enums ++ s.enums;
  structs = d.structs ++ s.structs;
  services = d.services ++ s.services;
  names = d.names ++ s.names;
}

abbrev pub service_number : Option First → Option ServiceId
service_number None = None
service_number (Some n) = Some (number n.services)

abbrev pub base_at : List FileTree → Option Spot → Option ServiceId
base_at files None = None
base_at files (Some spot) = service_number (first_of files spot)

abbrev pub base_by : List FileTree → ℕ → Option Name → Option ServiceId
base_by files file None = None
base_by files file (Some name) = base_at files (meaning files file scopes.Services name.text)

-- the number of the service that is extended
unfoldable pub base_of : List FileTree → ℕ → Option Name → Option ServiceId
base_of files file name = base_by files file name

abbrev pub is_place : ℕ → Option ℕ → Bool
is_place file None = false
is_place file (Some place) = place == file

abbrev pub prefix_by : List FileTree → ℕ → Option (List ℕ) → Option (List ℕ) → Option (List ℕ)
prefix_by files file None other = other
prefix_by files file (Some prefix) other = if is_place file (included files 0 prefix) then Some (prefix ++ 46 ∷ []) else other

-- of the paths that the root includes, the first whose base name means this file there
abbrev pub prefix_in : List FileTree → ℕ → List Name → Option (List ℕ)
prefix_in files file [] = None
prefix_in files file (path ∷ paths) = prefix_by files file (base_name path.text) (prefix_in files file paths)

abbrev pub root_paths : Option FileTree → List Name
root_paths None = []
root_paths (Some root) = root.document.includes

-- what stands before the names of a file's services in the root file: nothing for its own, a base name and a dot for those
-- of a file that it includes; those of other files have no name there
unfoldable pub prefix_of : List FileTree → ℕ → Option (List ℕ)
prefix_of files file = if file == 0 then Some [] else prefix_in files file (root_paths (slice_get files 0))

abbrev pub root_name : Option (List ℕ) → List ℕ → Option (List ℕ)
root_name prefix name = option_map (λ p. p ++ name) prefix

-- what a service adds that has this name in the root file
abbrev pub service_share : List FileTree → ℕ → First → Option (List ℕ) → Option Name → List FunctionTree → Share
service_share files file n name base functions = record {
  types = methods_types (ty_in files file) n.types functions;
  enums = [];
  structs = methods_structs (ty_in files file) n.types functions;
  services = record { base = base_of files file base; methods = methods_from n.structs functions } ∷ [];
  names = with_name [] name (number n.services);
}

-- with a service behind all that there is
abbrev pub with_service : Declarations → List FileTree → ℕ → Option (List ℕ) → Option Name → List FunctionTree → Declarations
with_service d files file name base functions = with_share d (service_share files file (firsts d) name base functions)

-- what a definition of the file at this place adds, where these are the first numbers
abbrev pub share : List FileTree → ℕ → First → DefinitionTree → Share
share files file n (const_of name ty value) = none
share files file n (typedef_of name ty) = record none { types = part_types (ty_in files file) n.types ty }
share files file n (enum_of name members) = record none { enums = map (λ v. v.1) (member_values members) ∷ [] }
share files file n (struct_of kin name fields) = record none {
  types = fields_types (ty_in files file) n.types fields;
  structs = record { form = form_of kin; fields = fields_from (ty_in files file) 0 n.types fields } ∷ [];
}
share files file n (service_of name base functions) = service_share files file n (root_name (prefix_of files file) name.text) base functions

abbrev pub shares : List FileTree → ℕ → First → List DefinitionTree → Share
shares files file n [] = none
shares files file n (d ∷ ds) = both (share files file n d) (shares files file (after n d) ds)

-- what the files from this place on add
abbrev pub files_shares : List FileTree → ℕ → First → List FileTree → Share
files_shares files file n [] = none
files_shares files file n (f ∷ fs) = both (shares files file n f.document.definitions) (files_shares files (suc file) (after_all n f.document.definitions) fs)
