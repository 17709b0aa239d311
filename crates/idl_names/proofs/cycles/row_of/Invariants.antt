use Rattle.idl_names.specs.Cycles.{RowTells}
use Rattle.idl_names.specs.Files.{file_trees}
use Rattle.idl_names.proofs.cycles.row_of.Given as goal

abbrev pub invariant-loop-place : goal.invariant-loop-place
invariant-loop-place l = RowTells (file_trees l.names.files.now) l.file l.place l.list.items
