-- The open levels as a list, the innermost first.
use Rattle.std.specs.Prelude.{List, [], ◌∷◌, Option, Some, None}
use Rattle.protocol_traits.specs.declared.nest.Slot.{Slot}

abbrev pub first_of : List Slot → Option Slot
first_of [] = None
first_of (slot ∷ up) = Some slot

abbrev pub rest_of : List Slot → List Slot
rest_of [] = []
rest_of (slot ∷ up) = up
