-- What names are looked up in, and what is found there.
use Rattle.std.specs.Prelude.{List, Option, option_map}
use Rattle.std.specs.Borrow.{Bor}
use Rattle.std.specs.Option.{option_copied}
use Rattle.idl_document.specs.Trees.{DefinitionTree, definition_tree}
use Rattle.idl_document.specs.declared.document.Definition.{Definition}
use Rattle.idl_names.specs.Files.{FileTree, file_trees}
use Rattle.idl_consts.specs.declared.view.View.{View}

abbrev pub files_of : View → List FileTree
files_of v = file_trees v.names.now.files.now

-- a definition that was found, as a tree
abbrev pub found_tree : Option (Bor Definition) → Option DefinitionTree
found_tree found = option_map definition_tree (option_copied found)
