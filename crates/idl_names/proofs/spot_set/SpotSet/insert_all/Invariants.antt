use Rattle.std.proofs.Common.{◌≡◌, ◌-◌, ◌^◌, take}
use Rattle.idl_names.specs.Sets.{with_all}
use Rattle.idl_names.proofs.spot_set.SpotSet.insert_all.Given as goal

abbrev pub invariant-spots : goal.invariant-spots
invariant-spots l = l.self ≡ with_all l.fn.self (take l.i l.others)

abbrev pub decreases-spots : goal.decreases-spots
decreases-spots l = 2 ^ 63 - l.i
