use Rattle.idl_names.specs.Files.{file_trees}
use Rattle.idl_typedefs.specs.AliasLinks.{Follows}
use Rattle.idl_typedefs.proofs.typedefs.Typedefs.note_file.Given as goal

abbrev pub invariant-definitions : goal.invariant-definitions
invariant-definitions l = Follows (file_trees l.names.files.now) l.self
