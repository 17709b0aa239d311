-- The open levels as a list, the innermost first.
use Rattle.std.specs.Prelude.{List, [], ◌∷◌, Option, Some, None}
use Rattle.type_walk.specs.declared.levels.Level.{Level}

abbrev pub first_of : List Level → Option Level
first_of [] = None
first_of (level ∷ up) = Some level

abbrev pub rest_of : List Level → List Level
rest_of [] = []
rest_of (level ∷ up) = up
