-- How an event changes the open levels.
use Rattle.std.specs.Prelude.{ℕ, pos, ◌+◌, ◌-◌, List, [], ◌∷◌}
use Rattle.protocol_traits.specs.declared.nest.Slot.{Slot}
use Rattle.protocol_traits.specs.declared.nest.Slot.TheVariants as slots
use Rattle.protocol_traits.specs.Stack.{rest_of}
use Rattle.thrift_value.specs.Items.{Item, field, stop, struct_begin, map_begin, set_begin, list_begin, end}

-- a value has been read where the innermost level called for one
abbrev pub spent : List Slot → List Slot
spent [] = []
spent (slots.Fields last ∷ up) = slots.Fields last ∷ up
spent (slots.Value kind id ∷ up) = slots.Fields id ∷ up
spent (slots.Elements kind left ∷ up) = slots.Elements kind (left - 1) ∷ up
spent (slots.Keys key value left ∷ up) = slots.Values key value left ∷ up
spent (slots.Values key value left ∷ up) = slots.Keys key value (left - 1) ∷ up

-- the levels after an item
abbrev pub after : Item → List Slot → List Slot
after (field id kind) nest = slots.Value kind id ∷ rest_of nest
after stop nest = rest_of nest
after end nest = rest_of nest
after struct_begin nest = slots.Fields (pos 0) ∷ spent nest
after (map_begin key value size) nest = slots.Keys key value size ∷ spent nest
after (set_begin kind size) nest = slots.Elements kind size ∷ spent nest
after (list_begin kind size) nest = slots.Elements kind size ∷ spent nest
after item nest = spent nest

-- how many levels are open after an item
abbrev pub depth_after : Item → ℕ → ℕ
depth_after stop depth = depth - 1
depth_after end depth = depth - 1
depth_after struct_begin depth = depth + 1
depth_after (map_begin key value size) depth = depth + 1
depth_after (set_begin kind size) depth = depth + 1
depth_after (list_begin kind size) depth = depth + 1
depth_after item depth = depth
