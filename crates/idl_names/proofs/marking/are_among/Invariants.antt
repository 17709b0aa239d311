use Rattle.std.proofs.Common.{◌≡◌, ◌<◌, ◌-◌, ◌^◌, ℕ, slice_get, Some}
use Rattle.idl_names.specs.declared.documents.Spot.{Spot}
use Rattle.idl_names.specs.Sets.{Has}
use Rattle.idl_names.proofs.marking.are_among.Given as goal

abbrev pub invariant-spots : goal.invariant-spots
invariant-spots l = (k : ℕ) (s : Spot) → k < l.i → slice_get l.spots k ≡ Some s → Has l.others s

abbrev pub decreases-spots : goal.decreases-spots
decreases-spots l = 2 ^ 63 - l.i
