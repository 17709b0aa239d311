-- Files as trees, without where they lie in memory.
use Rattle.std.specs.Prelude.{ℕ, List, map}
use Rattle.idl_document.specs.Trees.{DocumentTree, document_tree}
use Rattle.idl_names.specs.declared.documents.FileDoc.{FileDoc}

-- a file: its name, what it declares, and the place of each file that it includes
pub record FileTree : Type 0 where
  pub name : List ℕ
  pub document : DocumentTree
  pub includes : List ℕ

abbrev pub file_tree : FileDoc → FileTree
file_tree f = record { name = f.name; document = document_tree f.document; includes = f.includes }

abbrev pub file_trees : List FileDoc → List FileTree
file_trees files = map file_tree files
