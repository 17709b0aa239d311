use Rattle.idl_names.specs.Files.{file_trees}
use Rattle.idl_names.specs.Marks.{Gains}
use Rattle.idl_names.proofs.marking.add_sources.Given as goal

abbrev pub invariant-loop-source : goal.invariant-loop-source
invariant-loop-source l = Gains (file_trees l.names.files.now) l.set l.fn.to l.fn.round l.round
