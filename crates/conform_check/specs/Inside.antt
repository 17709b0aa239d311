-- Where the next value of each open struct or container stands, and which fields stood in it.
use Rattle.std.specs.Prelude.{ℕ, ℤ, pos, ◌+◌, List, [], ◌∷◌, ◌++◌, if◌then◌else◌, nat_lt}
use Rattle.thrift_value.specs.Items.{Item, field, stop, struct_begin, map_begin, set_begin, list_begin, end}
use Rattle.conform_check.specs.declared.step.Step.{Step}
use Rattle.conform_check.specs.declared.step.Step.TheVariants as steps

-- where the next value of an open struct or container stands, and the ids of the fields that stood in it, in order
pub record Inside : Type 0 where
  pub step : Step
  pub seen : List ℤ

-- at the beginning of a struct or container
abbrev pub opened : Step → Inside
opened step = record { step = step; seen = [] }

abbrev pub in_fields : Inside
in_fields = opened (steps.Field (pos 0))

-- the next place in a container; a size is below 2^31, so no place is that of the greatest u32
abbrev pub next_place : ℕ → ℕ
next_place n = if nat_lt n 4294967295 then n + 1 else n

-- behind an element the next one, behind a key its value, and behind that the next key
abbrev pub next_step : Step → Step
next_step (steps.Field id) = steps.Field id
next_step (steps.Item n) = steps.Item (next_place n)
next_step (steps.Key n) = steps.Part n
next_step (steps.Part n) = steps.Key (next_place n)

-- a value has come where the innermost level called for one
abbrev pub advanced : List Inside → List Inside
advanced [] = []
advanced (here ∷ up) = record { step = next_step here.step; seen = here.seen } ∷ up

abbrev pub closed : List Inside → List Inside
closed [] = []
closed (here ∷ up) = advanced up

abbrev pub announced : ℤ → List Inside → List Inside
announced id [] = []
announced id (here ∷ up) = record { step = steps.Field id; seen = here.seen ++ id ∷ [] } ∷ up

-- the open structs and containers behind an item, the innermost first
abbrev pub inside_after : Item → List Inside → List Inside
inside_after (field id kind) open_levels = announced id open_levels
inside_after stop open_levels = closed open_levels
inside_after end open_levels = closed open_levels
inside_after struct_begin open_levels = in_fields ∷ open_levels
inside_after (map_begin key value size) open_levels = opened (steps.Key 0) ∷ open_levels
inside_after (set_begin kind size) open_levels = opened (steps.Item 0) ∷ open_levels
inside_after (list_begin kind size) open_levels = opened (steps.Item 0) ∷ open_levels
inside_after item open_levels = advanced open_levels

-- where the next value of the innermost level stands, and which fields stood in it
abbrev pub top_step : List Inside → Step
top_step [] = in_fields.step
top_step (here ∷ up) = here.step

abbrev pub top_seen : List Inside → List ℤ
top_seen [] = []
top_seen (here ∷ up) = here.seen

abbrev pub outer : List Inside → List Inside
outer [] = []
outer (here ∷ up) = up

-- the path that leads through these levels, the innermost first, and on by these steps
abbrev pub path_to : List Inside → List Step → List Step
path_to [] path = path
path_to (here ∷ up) path = path_to up (here.step ∷ path)
