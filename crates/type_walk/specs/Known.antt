-- What a walk keeps: each number in it is one of its schema's, and below an unknown level nothing is known.
use Rattle.std.specs.Prelude.{◌≡◌, ◌<◌, ℕ, zero, suc, List, [], ◌∷◌, length}
use Rattle.type_tables.specs.declared.declared.Ty.{Ty}
use Rattle.type_tables.specs.declared.declared.Ty.TheVariants as types
use Rattle.type_tables.specs.Declarations.{Declarations}
use Rattle.type_tables.specs.Known.{IsKnown}
use Rattle.type_walk.specs.declared.levels.Level.{Level}
use Rattle.type_walk.specs.declared.open.OpenLevels.{OpenLevels}
use Rattle.type_walk.specs.Positions.{Position}
use Rattle.type_walk.specs.declared.levels.Level.TheVariants as levels

-- the numbers in a level are this schema's
abbrev pub IsKnownLevel : Declarations → Level → Type 0
IsKnownLevel d levels.Unknown = Unit {0}
IsKnownLevel d (levels.Fields s) = s.0 < length d.structs
IsKnownLevel d (levels.Elements element) = IsKnown d element
IsKnownLevel d (levels.Keys key value) = IsKnown d key × IsKnown d value
IsKnownLevel d (levels.Values key value) = IsKnown d key × IsKnown d value

abbrev pub AreKnown : Declarations → List Level → Type 0
AreKnown d [] = Unit {0}
AreKnown d (level ∷ up) = IsKnownLevel d level × AreKnown d up

-- so many levels of which nothing is known, inside the known ones
abbrev pub shaded : ℕ → List Level → List Level
shaded zero known = known
shaded (suc n) known = levels.Unknown ∷ shaded n known

-- nothing is known of what stands below an unknown level
abbrev pub IsShaded : ℕ → Ty → Type 0
IsShaded zero ty = Unit {0}
IsShaded (suc n) ty = ty ≡ types.Unknown

-- the position at which this is open
abbrev pub position_of : Declarations → OpenLevels → Position
position_of d o = record { schema = d; levels = shaded o.unknown o.known; next = o.next }

pub record IsSound (d : Declarations) (o : OpenLevels) : Type 0 where
  pub levels : AreKnown d o.known
  pub next : IsKnown d o.next
  pub below : IsShaded o.unknown o.next

-- a position at which so many levels are open and nothing is known
abbrev pub unknown_at : Declarations → ℕ → Position
unknown_at d open_levels = record { schema = d; levels = shaded open_levels []; next = types.Unknown }
