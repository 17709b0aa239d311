-- Bytes.
use Rattle.std.specs.Prelude.{⊤, ℕ, ◌<◌, List, [], ◌∷◌}

abbrev pub AreBytes : List ℕ → Type 0
AreBytes [] = ⊤
AreBytes (x ∷ xs) = (x < 256) × AreBytes xs
