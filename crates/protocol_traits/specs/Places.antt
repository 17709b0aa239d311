-- Where the levels lie in memory.
use Rattle.std.specs.Prelude.{ℕ, pos, zero, suc, ◌-◌, List, [], ◌∷◌, Option, Some, None, slice_index_or, nat_lt, if◌then◌else◌}
use Rattle.protocol_traits.specs.declared.nest.Slot.{Slot}
use Rattle.protocol_traits.specs.declared.nest.Slot.TheVariants.{Fields}
use Rattle.protocol_traits.specs.declared.nest.Places.{Places}

abbrev pub far_at : Option (List Slot) → ℕ → Slot
far_at None i = Fields (pos 0)
far_at (Some far) i = slice_index_or far i (Fields (pos 0))

-- the level at a place, the outermost at 0
abbrev pub slot_at : Places → ℕ → Slot
slot_at places i = if nat_lt i 16 then slice_index_or places.near i (Fields (pos 0)) else far_at places.far (i - 16)

-- the first levels, the last of them first
abbrev pub levels : Places → ℕ → List Slot
levels places zero = []
levels places (suc depth) = slot_at places depth ∷ levels places depth

-- the innermost level, and behind it the outer ones
abbrev pub nested : Slot → Places → ℕ → List Slot
nested top outer zero = []
nested top outer (suc depth) = top ∷ levels outer depth
