-- How an item changes what is known of the struct or container that it stands in.
use Rattle.std.specs.Prelude.{◌≡◌, ⊤, ℕ, suc, ◌+◌, ◌-◌, List, ◌∷◌, Bool, true, false, Some, length}
use Rattle.thrift_value.specs.Items.{Item}
use Rattle.protocol_traits.specs.Follow.{depth_after}
use Rattle.type_tables.specs.Declarations.{Declarations}
use Rattle.type_tables.specs.Known.{IsKnown}
use Rattle.type_walk.specs.declared.levels.Level.{Level}
use Rattle.type_walk.specs.Known.{IsKnownLevel}
use Rattle.type_walk.specs.Positions.{Position, called_for, standing, after}
use Rattle.message_show.specs.declared.open_level.OpenLevel.{OpenLevel}
use Rattle.message_show.specs.declared.open_level.LevelStep.{LevelStep}
use Rattle.message_show.specs.declared.open_level.LevelStep.TheVariants as turns
use Rattle.message_show.specs.Line.{opens}

-- the position in a level that is open in these
abbrev pub at : Declarations → OpenLevel → List Level → Position
at d here up = record { schema = d; levels = here.known ∷ up; next = here.next }

-- the position behind an item
abbrev pub behind : Declarations → LevelStep → OpenLevel → List Level → Position
behind d turns.Open here up = at d here up
behind d (turns.Opened inner) here up = standing d (inner ∷ here.known ∷ up)
behind d turns.Closed here up = standing d up

-- whether the next item is the first of its level
abbrev pub begins : LevelStep → OpenLevel → Bool
begins turns.Open here = here.first
begins (turns.Opened inner) here = true
begins turns.Closed here = false

-- how many levels are open behind it
abbrev pub depth_behind : LevelStep → ℕ → ℕ
depth_behind turns.Open depth = depth
depth_behind (turns.Opened inner) depth = depth + 1
depth_behind turns.Closed depth = depth - 1

-- the numbers in what is known are this schema's
abbrev pub IsSound : Declarations → OpenLevel → Type 0
IsSound d here = IsKnownLevel d here.known × IsKnown d here.next

-- where a struct or container has begun, what is declared in it is this schema's, and the level around it goes on behind a value
abbrev pub IsSpent : Declarations → LevelStep → OpenLevel → Type 0
IsSpent d turns.Open here = ⊤
IsSpent d (turns.Opened inner) here = IsKnownLevel d inner × (here.next ≡ called_for (Some here.known)) × (here.first ≡ false)
IsSpent d turns.Closed here = ⊤

-- an item was gone past, and this is what it was
pub record Passes (d : Declarations) (old new : OpenLevel) (item : Item) (turn : LevelStep) : Type 0 where
  pub after : (up : List Level) → behind d turn new up ≡ after (at d old up) item
  pub first : begins turn new ≡ opens item
  pub depth : (up : List Level) → length (behind d turn new up).levels ≡ depth_after item (suc (length up))
  pub sound : IsSound d new
