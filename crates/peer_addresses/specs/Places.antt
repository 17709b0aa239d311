-- Where a byte stands in a word.
use Rattle.std.specs.Prelude.{ℕ, suc, ◌==◌, List, [], ◌∷◌, if◌then◌else◌}

-- the place of the first byte of this value, or the length where there is none
abbrev pub place : ℕ → List ℕ → ℕ
place mark [] = 0
place mark (c ∷ cs) = if c == mark then 0 else suc (place mark cs)
