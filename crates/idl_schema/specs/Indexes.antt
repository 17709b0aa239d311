-- What names and types are looked up in.
use Rattle.std.specs.Prelude.{List}
use Rattle.idl_names.specs.Files.{FileTree, file_trees}
use Rattle.idl_schema.specs.declared.index.SchemaIndex.{SchemaIndex}

abbrev pub files_of : SchemaIndex → List FileTree
files_of s = file_trees s.names.now.files.now
