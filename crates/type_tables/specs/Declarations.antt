-- What a schema is seen as: the lists of what is declared.
use Rattle.std.specs.Prelude.{ℕ, ℤ, ◌<◌, ◌+◌, ◌^◌, List, [], ◌∷◌, ◌++◌, length, Option}
use Rattle.type_tables.specs.declared.declared.FieldInfo.{FieldInfo}
use Rattle.type_tables.specs.declared.declared.Form.{Form}
use Rattle.type_tables.specs.declared.declared.MethodInfo.{MethodInfo}
use Rattle.type_tables.specs.declared.declared.ServiceId.{ServiceId}
use Rattle.type_tables.specs.declared.declared.Ty.{Ty}
use Rattle.type_tables.specs.declared.services.ServiceDecl.{ServiceDecl}
use Rattle.type_tables.specs.declared.tables.StructDecl.{StructDecl}
use Rattle.type_tables.specs.Roots.{with_name}
use Rattle.type_tables.specs.Services.{number, services_with, methods_of}
use Rattle.type_tables.specs.Structs.{fields_of, structs_with}

-- each list in the order of the numbers; a service's name stands beside its number
pub record Declarations : Type 0 where
  pub types : List Ty
  pub enums : List (List ℤ)
  pub structs : List StructDecl
  pub services : List ServiceDecl
  pub names : List (List ℕ × ServiceId)
  pub files : ℕ

-- there is room for one more of each kind of things
pub record HasRoom (d : Declarations) : Type 0 where
  pub types : length d.types + 1 < 2 ^ 32
  pub enums : length d.enums + 1 < 2 ^ 32
  pub structs : length d.structs + 1 < 2 ^ 32
  pub services : length d.services + 1 < 2 ^ 32

abbrev pub nothing : Declarations
nothing = record { types = []; enums = []; structs = []; services = []; names = []; files = 0 }

abbrev pub with_type : Declarations → Ty → Declarations
with_type d ty = record d { types = d.types ++ ty ∷ [] }

abbrev pub with_enum : Declarations → List ℤ → Declarations
with_enum d members = record d { enums = d.enums ++ members ∷ [] }

-- a struct without fields last
abbrev pub with_struct : Declarations → Form → Declarations
with_struct d form = record d { structs = d.structs ++ record { form = form; fields = [] } ∷ [] }

-- a struct with its fields last
abbrev pub with_fields : Declarations → Form → List FieldInfo → Declarations
with_fields d form fields = record d { structs = d.structs ++ record { form = form; fields = fields } ∷ [] }

-- one field more of a struct
abbrev pub with_field : Declarations → ℕ → FieldInfo → Declarations
with_field d s field = record d { structs = structs_with d.structs s (fields_of d.structs s ++ field ∷ []) }

-- a service without methods last
abbrev pub with_service : Declarations → Option (List ℕ) → Option ServiceId → Declarations
with_service d name base = record d {
  services = d.services ++ record { base = base; methods = [] } ∷ [];
  names = with_name d.names name (number (length d.services));
}

-- one method more of a service
abbrev pub with_method : Declarations → ℕ → List ℕ → MethodInfo → Declarations
with_method d s name method = record d { services = services_with d.services s (methods_of d.services s ++ (name, method) ∷ []) }

-- the number of files
abbrev pub with_files : Declarations → ℕ → Declarations
with_files d files = record d { files = files }
