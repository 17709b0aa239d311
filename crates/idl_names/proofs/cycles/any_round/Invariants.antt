use Rattle.std.proofs.Common.{◌≡◌, ◌<◌, ◌-◌, ◌^◌, ℕ, slice_get, Some}
use Rattle.idl_names.specs.declared.documents.Spot.{Spot}
use Rattle.idl_names.specs.Cycles.{IsOnCycle}
use Rattle.idl_names.specs.Files.{file_trees}
use Rattle.idl_names.proofs.cycles.any_round.Given as goal

abbrev pub invariant-spots : goal.invariant-spots
invariant-spots l = (k : ℕ) (spot : Spot) → k < l.i → slice_get l.set k ≡ Some spot → IsOnCycle (file_trees l.names.files.now) spot → ⊥

abbrev pub decreases-spots : goal.decreases-spots
decreases-spots l = 2 ^ 63 - l.i
