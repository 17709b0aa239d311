-- Words that are empty, and what stands for a number that is missing.
use Rattle.std.specs.Prelude.{ℕ, List, [], ◌∷◌, Option, Some, None, Bool, true, false}

abbrev pub is_empty : List ℕ → Bool
is_empty [] = true
is_empty (c ∷ cs) = false

-- a number that isn't given
abbrev pub or_else : ℕ → Option ℕ → ℕ
or_else default None = default
or_else default (Some n) = n
