use Rattle.std.proofs.Common.{◌≡◌}
use Rattle.idl_consts.specs.Keys.{literal_at}
use Rattle.idl_names.specs.Targets.{definition_count}
use Rattle.idl_consts.specs.Views.{files_of}
use Rattle.idl_consts.proofs.keys.literal_at.Given as goal

abbrev pub invariant-chain : goal.invariant-chain
invariant-chain l = literal_at (files_of l.view) l.left l.at ≡ literal_at (files_of l.fn.view) (definition_count (files_of l.fn.view)) l.fn.spot

abbrev pub decreases-chain : goal.decreases-chain
decreases-chain l = l.left
