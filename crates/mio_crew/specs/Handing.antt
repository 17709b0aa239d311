-- The numbers of the connections that one server hands to another.
use Rattle.std.specs.Prelude.{ℕ, ◌+◌, List, [], ◌∷◌, max}
use Rattle.mio_crew.specs.declared.handed.Handed.{Handed}

-- the least number above all of these
abbrev pub above : List Handed → ℕ
above [] = 0
above (handed ∷ others) = max (handed.number + 1) (above others)
