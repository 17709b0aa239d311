-- That the tables of a schema have nothing besides what the files of an IDL declare.
use Rattle.std.specs.Prelude.{◌≡◌, ◌+◌, List, length, slice_get, Some}
use Rattle.idl_names.specs.Files.{FileTree}
use Rattle.type_tables.specs.Declarations.{Declarations}
use Rattle.type_tables.specs.Known.{failure_struct}
use Rattle.idl_laws.specs.Counts.{all_definitions, enums_of, services_of, structs_of, total}

-- As many of each kind as the files declare, and before the structs the built-in TApplicationException. Each definition has numbers of its own, so none
-- is left over.
pub record HasNoMore (files : List FileTree) (d : Declarations) : Type 0 where
  pub enums : length d.enums ≡ total enums_of (all_definitions files)
  pub structs : length d.structs ≡ 1 + total structs_of (all_definitions files)
  pub built_in : slice_get d.structs 0 ≡ Some failure_struct
  pub services : length d.services ≡ total services_of (all_definitions files)
  pub counted : d.files ≡ length files
