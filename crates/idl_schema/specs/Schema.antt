-- The schema of the files of an IDL.
use Rattle.std.specs.Prelude.{List, length}
use Rattle.idl_names.specs.Files.{FileTree}
use Rattle.type_tables.specs.Declarations.{Declarations, with_files}
use Rattle.type_tables.specs.Known.{built_in}
use Rattle.idl_schema.specs.Numbers.{start}
use Rattle.idl_schema.specs.Shares.{files_shares, with_share}

-- the built-in struct, and then what each definition adds: file by file, in the order of the text
unfoldable pub declarations_of : List FileTree → Declarations
declarations_of files = with_files (with_share built_in (files_shares files 0 start files)) (length files)
