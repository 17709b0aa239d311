use Rattle.std.proofs.Common.{◌-◌, ◌^◌}
use Rattle.idl_names.specs.Files.{file_trees}
use Rattle.idl_names.proofs.Reaching.{IsReaching}
use Rattle.idl_names.proofs.leading.reach_fresh.Given as goal

abbrev pub invariant-spots : goal.invariant-spots
invariant-spots l = IsReaching (file_trees l.names.files.now) l.marks l.fn.from l.set l.i

abbrev pub decreases-spots : goal.decreases-spots
decreases-spots l = 2 ^ 63 - l.i
