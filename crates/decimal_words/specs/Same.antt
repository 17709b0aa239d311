-- Whether two words are the same.
use Rattle.std.specs.Prelude.{ℕ, List, Bool, nat_eq}
use Rattle.std.specs.Cmp.Lexicographic.{pointwise}

abbrev pub is : List ℕ → List ℕ → Bool
is word other = pointwise nat_eq word other
