use Rattle.idl_names.specs.Files.{file_trees}
use Rattle.idl_typedefs.specs.AliasLinks.{Follows}
use Rattle.idl_typedefs.proofs.typedefs.Typedefs.build.Given as goal

abbrev pub invariant-loop-place : goal.invariant-loop-place
invariant-loop-place l = Follows (file_trees l.names.files.now) l.typedefs
