-- The open levels where an item ends.
use Rattle.std.specs.Prelude.{pos, List, [], ◌∷◌, length, Option, Some, None, Bool, true, false, nat_le, ◌==◌, ◌&&◌, if◌then◌else◌}
use Rattle.thrift_value.specs.declared.kind.Kind.{Kind}
use Rattle.thrift_value.specs.declared.kind.Kind.TheVariants as kinds
use Rattle.protocol_traits.specs.declared.nest.Slot.{Slot}
use Rattle.protocol_traits.specs.declared.nest.Slot.TheVariants as slots
use Rattle.protocol_traits.specs.Follow.{spent}
use Rattle.stream_messages.specs.declared.parts.Next.{Next}
use Rattle.stream_messages.specs.declared.parts.Next.TheVariants as next
use Rattle.stream_messages.specs.declared.levels.Settled.{Settled}
use Rattle.stream_messages.specs.declared.levels.Settled.TheVariants as settled

-- the kind of the value that a level calls for
abbrev pub kind_called : Slot → Option Kind
kind_called (slots.Fields last) = None
kind_called (slots.Value kind id) = Some kind
kind_called (slots.Elements kind left) = Some kind
kind_called (slots.Keys key value left) = Some key
kind_called (slots.Values key value left) = Some value

abbrev pub nests : Kind → Bool
nests kinds.Struct = true
nests kinds.Map = true
nests kinds.Set = true
nests kinds.List = true
nests kind = false

-- of a container nothing is left
abbrev pub has_ended : Slot → Bool
has_ended (slots.Elements kind left) = left == 0
has_ended (slots.Keys key value left) = left == 0
has_ended slot = false

abbrev pub is_field : Slot → Bool
is_field (slots.Value kind id) = true
is_field slot = false

-- without the containers of which nothing is left
abbrev pub closed : List Slot → List Slot
closed [] = []
closed (slot ∷ up) = if has_ended slot then closed up else slot ∷ up

-- behind the begin of a struct, or behind a bool that was told
abbrev pub opened_value : Bool → Slot → List Slot → Kind → List Slot
opened_value told slot up kinds.Struct = slots.Fields (pos 0) ∷ spent (slot ∷ up)
opened_value told slot up kinds.Bool = if told && is_field slot then spent (slot ∷ up) else slot ∷ up
opened_value told slot up kind = slot ∷ up

abbrev pub opened_kind : Bool → Slot → List Slot → Option Kind → Settled × List Slot
opened_kind told slot up None = (settled.Item, slot ∷ up)
opened_kind told slot up (Some kind) =
    if nests kind && nat_le 256 (length (slot ∷ up)) then (settled.TooDeep, slot ∷ up)
    else (settled.Item, opened_value told slot up kind)

unfoldable pub opened : Bool → List Slot → Settled × List Slot
opened told [] = (settled.Whole, [])
opened told (slot ∷ up) = opened_kind told slot up (kind_called slot)

abbrev pub settles : Bool → List Slot → Settled × List Slot
settles told nest = opened told (closed nest)

-- a value that is a level has begun
abbrev pub opens : Slot → List Slot → Next × List Slot
opens slot [] = (next.Bad, [])
opens slot (level ∷ up) = if nat_le 256 (length (level ∷ up)) then (next.Bad, level ∷ up) else (next.Ended, slot ∷ spent (level ∷ up))

-- the innermost level is this now
abbrev pub puts : Slot → List Slot → List Slot
puts slot [] = []
puts slot (level ∷ up) = slot ∷ up
