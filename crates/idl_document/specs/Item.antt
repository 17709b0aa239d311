-- The items of a value.
use Rattle.std.specs.Prelude.{ℕ, ℤ, List}

-- each with the offset of its first byte; a list's items are those of its values, a map's those of each key and its value in turn
pub data ValueItem : Type 0 where
  whole : ℕ → ℤ → ValueItem
  double : ℕ → List ℕ → ValueItem
  literal : ℕ → List ℕ → ValueItem
  named : ℕ → List ℕ → ValueItem
  list_begin : ℕ → ValueItem
  list_end : ValueItem
  map_begin : ℕ → ValueItem
  map_end : ValueItem
