-- The least number above one more.
use Rattle.std.proofs.Common.{◌≡◌, ◌+◌, ◌≤◌, List, [], ◌∷◌, ◌++◌, arith}
use Rattle.mio_crew.specs.declared.handed.Handed.{Handed}
use Rattle.mio_crew.specs.Handing.{above}

pub above_more : (before : List Handed) (handed : Handed) → above before ≤ handed.number → above (before ++ handed ∷ []) ≡ handed.number + 1
above_more [] handed least = omega arith
above_more (first ∷ others) handed least = omega (arith, above_more others handed (omega arith))
