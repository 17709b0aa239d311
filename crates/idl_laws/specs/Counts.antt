-- The numbers of enums, structs and services: how many are declared before them, file by file and in the order of the text.
use Rattle.std.specs.Prelude.{ℕ, ◌+◌, ◌*◌, List, [], ◌∷◌, ◌++◌, length, take, slice_get, Option, Some, None}
use Rattle.idl_document.specs.Trees.{DefinitionTree, enum_of, struct_of, service_of}
use Rattle.idl_names.specs.declared.documents.Spot.{Spot}
use Rattle.idl_names.specs.Files.{FileTree}

abbrev pub all_definitions : List FileTree → List DefinitionTree
all_definitions [] = []
all_definitions (f ∷ fs) = f.document.definitions ++ all_definitions fs

abbrev pub definitions_in : Option FileTree → List DefinitionTree
definitions_in None = []
definitions_in (Some f) = f.document.definitions

-- those of earlier files, and those that stand before it in its own
abbrev pub definitions_before : List FileTree → Spot → List DefinitionTree
definitions_before files spot = all_definitions (take spot.file files) ++ take spot.definition (definitions_in (slice_get files spot.file))

abbrev pub total : (DefinitionTree → ℕ) → List DefinitionTree → ℕ
total count [] = 0
total count (d ∷ ds) = count d + total count ds

abbrev pub enums_of : DefinitionTree → ℕ
enums_of (enum_of name members) = 1
enums_of definition = 0

abbrev pub services_of : DefinitionTree → ℕ
services_of (service_of name base functions) = 1
services_of definition = 0

-- a struct, union or exception is one; a method has two, its arguments and its result
abbrev pub structs_of : DefinitionTree → ℕ
structs_of (struct_of kin name fields) = 1
structs_of (service_of name base functions) = 2 * length functions
structs_of definition = 0

abbrev pub enum_number : List FileTree → Spot → ℕ
enum_number files spot = total enums_of (definitions_before files spot)

abbrev pub service_number : List FileTree → Spot → ℕ
service_number files spot = total services_of (definitions_before files spot)

-- of a service: the first of its methods; struct 0 is the built-in TApplicationException
abbrev pub struct_number : List FileTree → Spot → ℕ
struct_number files spot = 1 + total structs_of (definitions_before files spot)
