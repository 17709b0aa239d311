use Rattle.std.proofs.Common.{◌≡◌}
use Rattle.idl_consts.specs.Meant.{meant_at}
use Rattle.idl_consts.specs.Views.{files_of}
use Rattle.idl_consts.proofs.types.resolve.Given as goal

abbrev pub invariant-chain : goal.invariant-chain
invariant-chain l = meant_at (files_of l.view) l.at ≡ meant_at (files_of l.fn.view) l.fn.start

abbrev pub decreases-chain : goal.decreases-chain
decreases-chain l = l.at.left
