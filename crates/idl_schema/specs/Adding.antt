-- A schema that grows.
use Rattle.std.specs.Prelude.{ℕ, List, ◌++◌, length}
use Rattle.type_tables.specs.declared.declared.Ty.{Ty}
use Rattle.type_tables.specs.declared.tables.StructDecl.{StructDecl}
use Rattle.type_tables.specs.declared.declared.MethodInfo.{MethodInfo}
use Rattle.type_tables.specs.Declarations.{Declarations}
use Rattle.type_tables.specs.Services.{services_with, methods_of}
use Rattle.idl_schema.specs.declared.numbers.First.{First}

abbrev pub with_types : Declarations → List Ty → Declarations
with_types d types = record d { types = d.types ++ types }

abbrev pub with_structs : Declarations → List Ty → List StructDecl → Declarations
with_structs d types structs = record d { types = d.types ++ types; structs = d.structs ++ structs }

-- more methods of one service
abbrev pub with_methods : Declarations → ℕ → List (List ℕ × MethodInfo) → Declarations
with_methods d s methods = record d { services = services_with d.services s (methods_of d.services s ++ methods) }

-- the numbers of the next things
abbrev pub firsts : Declarations → First
firsts d = record { structs = length d.structs; enums = length d.enums; services = length d.services; types = length d.types }
