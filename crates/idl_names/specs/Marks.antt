-- What is known of how definitions stand to cycles.
use Rattle.std.specs.Prelude.{◌≡◌, ◌⊎◌, List, [], Bool, true, false, ◌||◌, if◌then◌else◌}
use Rattle.idl_names.specs.declared.documents.Spot.{Spot}
use Rattle.idl_names.specs.declared.marks.Marks.{Marks}
use Rattle.idl_names.specs.Cycles.{IsOnCycle, LeadsIntoCycle, LeadsTo, next_spots}
use Rattle.idl_names.specs.Files.{FileTree}
use Rattle.idl_names.specs.Sets.{Has, is_among}

abbrev pub no_marks : Marks
no_marks = record { absent = []; ahead = []; on = [] }

abbrev pub IsKnown : Marks → Spot → Type 0
IsKnown marks spot = Has marks.absent spot ⊎ (Has marks.ahead spot ⊎ Has marks.on spot)

abbrev pub knows : Marks → Spot → Bool
knows marks spot = is_among spot marks.absent || (is_among spot marks.ahead || is_among spot marks.on)

-- each mark is so, and what a known one leads to is known
pub record AreMarked (files : List FileTree) (marks : Marks) : Type 0 where
  pub absent : (spot : Spot) → Has marks.absent spot → LeadsIntoCycle files spot → ⊥
  pub ahead : (spot : Spot) → Has marks.ahead spot → LeadsIntoCycle files spot × (IsOnCycle files spot → ⊥)
  pub on : (spot : Spot) → Has marks.on spot → IsOnCycle files spot
  pub closed : (spot next : Spot) → IsKnown marks spot → Has (next_spots files spot) next → IsKnown marks next

-- what one leads to at once, unless it is known
unfoldable pub fresh_spots : List FileTree → Marks → Spot → List Spot
fresh_spots files marks spot = if knows marks spot then [] else next_spots files spot

-- what one leads to, but for what lies behind known ones
pub record IsBeyond (files : List FileTree) (marks : Marks) (from : Spot) (set : List Spot) : Type 0 where
  pub sound : (to : Spot) → Has set to → LeadsTo files from to
  pub first : (to : Spot) → Has (next_spots files from) to → Has set to
  pub closed : (spot : Spot) → Has set spot → IsKnown marks spot ⊎ ((to : Spot) → Has (next_spots files spot) to → Has set to)

abbrev pub is_covered : Marks → List Spot → Spot → Bool
is_covered marks others spot = knows marks spot || is_among spot others

-- whether each of these is known, or among the others
abbrev pub AreCovered : List Spot → Marks → List Spot → Bool → Type 0
AreCovered spots marks others true = (spot : Spot) → Has spots spot → IsKnown marks spot ⊎ Has others spot
AreCovered spots marks others false = (spot : Spot) × (Has spots spot × (IsKnown marks spot ⊎ Has others spot → ⊥))

-- each stands in the set and leads to this one, or is it
abbrev pub IsRound : List FileTree → Spot → List Spot → List Spot → Type 0
IsRound files from set round = (spot : Spot) → Has round spot → Has set spot × ((spot ≡ from) ⊎ LeadsTo files spot from)

-- what was added stands in the set and leads to this one at once
abbrev pub Gains : List FileTree → List Spot → Spot → List Spot → List Spot → Type 0
Gains files set to old new = (spot : Spot) → Has new spot → Has old spot ⊎ (Has set spot × Has (next_spots files spot) to)
