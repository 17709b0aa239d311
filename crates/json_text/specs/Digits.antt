-- The last digits of a number.
use Rattle.std.specs.Prelude.{ℕ, zero, suc, ◌+◌, ◌/◌, ◌%◌, List, [], ◌∷◌, ◌++◌}

-- so many of them, with zeros in front where it has fewer
unfoldable pub last_digits : ℕ → ℕ → List ℕ
last_digits zero n = []
last_digits (suc k) n = last_digits k (n / 10) ++ (48 + n % 10) ∷ []

-- each number as its quotient and its remainder
unfoldable pub parted : ℕ → List ℕ → List ℕ
parted by [] = []
parted by (n ∷ ns) = n / by ∷ n % by ∷ parted by ns
