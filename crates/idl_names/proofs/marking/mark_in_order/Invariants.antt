use Rattle.idl_names.specs.Files.{file_trees}
use Rattle.idl_names.specs.Marks.{AreMarked}
use Rattle.idl_names.proofs.marking.mark_in_order.Given as goal

abbrev pub invariant-loop-spot : goal.invariant-loop-spot
invariant-loop-spot l = AreMarked (file_trees l.names.files.now) l.marks
