use Rattle.std.proofs.Common.{◌≡◌, ◌+◌, ◌-◌, Some}
use Rattle.idl_names.specs.Files.{file_trees}
use Rattle.idl_typedefs.specs.AliasLinks.{reached}
use Rattle.idl_typedefs.proofs.walk.follow.Given as goal

abbrev pub invariant-names : goal.invariant-names
invariant-names l = reached (file_trees l.names.files.now) l.steps l.fn.spot ≡ Some l.at

abbrev pub decreases-names : goal.decreases-names
decreases-names l = l.limit + 1 - l.steps
