-- Where the levels lie in memory.
use Rattle.std.specs.Prelude.{ℕ, zero, suc, ◌-◌, List, [], ◌∷◌, Option, Some, None, slice_index_or, nat_lt, if◌then◌else◌}
use Rattle.type_walk.specs.declared.levels.Level.{Level}
use Rattle.type_walk.specs.declared.levels.Level.TheVariants.{Unknown}
use Rattle.type_walk.specs.declared.levels.Places.{Places}
use Rattle.type_walk.specs.declared.levels.TheConstants.{NEAR}

abbrev pub far_at : Option (List Level) → ℕ → Level
far_at None i = Unknown
far_at (Some far) i = slice_index_or far i Unknown

-- the level at a place, the outermost at 0
abbrev pub level_at : Places → ℕ → Level
level_at places i = if nat_lt i NEAR then slice_index_or places.near i Unknown else far_at places.far (i - NEAR)

-- the first levels, the last of them first
abbrev pub outer_levels : Places → ℕ → List Level
outer_levels places zero = []
outer_levels places (suc depth) = level_at places depth ∷ outer_levels places depth

-- the innermost level, and behind it the outer ones
abbrev pub nested : Level → Places → ℕ → List Level
nested top outer zero = []
nested top outer (suc depth) = top ∷ outer_levels outer depth
