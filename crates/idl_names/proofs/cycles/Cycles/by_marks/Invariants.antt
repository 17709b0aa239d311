use Rattle.idl_names.specs.Files.{file_trees}
use Rattle.idl_names.proofs.Rounds.{FilesTold}
use Rattle.idl_names.proofs.cycles.Cycles.by_marks.Given as goal

abbrev pub invariant-loop-place : goal.invariant-loop-place
invariant-loop-place l = FilesTold (file_trees l.names.files.now) l.place l.rows.items
