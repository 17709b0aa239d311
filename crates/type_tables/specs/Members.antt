-- The members of an enum, and the same numbers in order.
use Rattle.std.specs.Prelude.{ℤ, List}
use Rattle.std.specs.Ordering.{int_cmp}
use Rattle.std.specs.List.Sorted.{IsSorted, IsPermutation}

pub record IsOrdered (members sorted : List ℤ) : Type 0 where
  pub rising : IsSorted int_cmp sorted
  pub same : IsPermutation members sorted
