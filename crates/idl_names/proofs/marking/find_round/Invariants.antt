use Rattle.std.proofs.Common.{◌-◌, ◌^◌}
use Rattle.idl_names.specs.Files.{file_trees}
use Rattle.idl_names.specs.Marks.{IsRound}
use Rattle.idl_names.proofs.marking.find_round.Given as goal

abbrev pub invariant-spots : goal.invariant-spots
invariant-spots l = IsRound (file_trees l.names.files.now) l.fn.from l.set l.round

abbrev pub decreases-spots : goal.decreases-spots
decreases-spots l = 2 ^ 63 - l.i
