use Rattle.std.proofs.Common.{take}
use Rattle.idl_names.specs.Files.{file_trees}
use Rattle.idl_names.specs.Index.{AreIndexed}
use Rattle.idl_names.proofs.names.index_of.Given as goal

abbrev pub invariant-loop-file : goal.invariant-loop-file
invariant-loop-file l = AreIndexed (file_trees (take l.file-index l.files)) l.index.items
