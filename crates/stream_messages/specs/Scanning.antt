-- A message that is gone through: what one byte does.
use Rattle.std.specs.Prelude.{ℕ, ℤ, pos, ◌+◌, ◌-◌, ◌^◌, min, List, [], ◌∷◌, Bool, true, false, nat_le, if◌then◌else◌}
use Rattle.thrift_value.specs.declared.kind.Kind.{Kind}
use Rattle.protocol_traits.specs.declared.nest.Slot.{Slot}
use Rattle.protocol_traits.specs.declared.nest.Slot.TheVariants as slots
use Rattle.stream_messages.specs.declared.scan.Wire.{Wire}
use Rattle.stream_messages.specs.declared.scan.Wire.TheVariants as wires
use Rattle.stream_messages.specs.declared.scan.Taken.{Taken}
use Rattle.stream_messages.specs.declared.scan.Taken.TheVariants as took
use Rattle.stream_messages.specs.declared.levels.Settled.{Settled}
use Rattle.stream_messages.specs.declared.levels.Settled.TheVariants as settled
use Rattle.stream_messages.specs.declared.parts.Next.{Next}
use Rattle.stream_messages.specs.declared.parts.Next.TheVariants as next
use Rattle.stream_messages.specs.declared.parts.Part.{Part}
use Rattle.stream_messages.specs.declared.parts.Part.TheVariants as part
use Rattle.stream_messages.specs.declared.parts.BinaryPart.TheVariants as binary
use Rattle.stream_messages.specs.declared.parts.CompactPart.TheVariants as compact
use Rattle.stream_messages.specs.Parts.{any_or_end}
use Rattle.stream_messages.specs.Levels.{settles}
use Rattle.stream_messages.specs.Binary as of_binary
use Rattle.stream_messages.specs.Compact as of_compact

-- the protocol, the most bytes of a message, those that were read of it, what the next byte is part of, and the open levels
pub record Scanning : Type 0 where
  pub wire : Wire
  pub limit : ℕ
  pub taken : ℕ
  pub part : Part
  pub nest : List Slot

abbrev pub first_part : Wire → Part
first_part wires.Binary = part.Binary binary.Start
first_part wires.Compact = part.Compact compact.Start

abbrev pub begins : Wire → ℕ → Scanning
begins wire limit = record { wire = wire; limit = limit; taken = 0; part = first_part wire; nest = slots.Fields (pos 0) ∷ [] }

abbrev pub tells_bools : Wire → Bool
tells_bools wires.Binary = false
tells_bools wires.Compact = true

abbrev pub field_in : Wire → ℤ → ℕ → List Slot → Next × List Slot
field_in wires.Binary last byte nest = of_binary.field_of byte nest
field_in wires.Compact last byte nest = of_compact.field_of last byte nest

abbrev pub value_in : Wire → Kind → ℕ → List Slot → Next × List Slot
value_in wires.Binary kind byte nest = of_binary.value_of kind byte nest
value_in wires.Compact kind byte nest = of_compact.value_of kind byte nest

-- the first byte of the item that the innermost level calls for
abbrev pub item_of : Wire → ℕ → List Slot → Next × List Slot
item_of wire byte [] = (next.Bad, [])
item_of wire byte (slots.Fields last ∷ up) = field_in wire last byte (slots.Fields last ∷ up)
item_of wire byte (slots.Value kind id ∷ up) = value_in wire kind byte (slots.Value kind id ∷ up)
item_of wire byte (slots.Elements kind left ∷ up) = value_in wire kind byte (slots.Elements kind left ∷ up)
item_of wire byte (slots.Keys key value left ∷ up) = value_in wire key byte (slots.Keys key value left ∷ up)
item_of wire byte (slots.Values key value left ∷ up) = value_in wire value byte (slots.Values key value left ∷ up)

abbrev pub step_of : Wire → Part → ℕ → List Slot → Next × List Slot
step_of wire part.Item byte nest = item_of wire byte nest
step_of wire (part.Any left) byte nest = (any_or_end (left - 1), nest)
step_of wire (part.Binary p) byte nest = of_binary.step_of p byte nest
step_of wire (part.Compact p) byte nest = of_compact.step_of p byte nest

-- the next byte is part of this, if the limit leaves one
abbrev pub waits : Part → Scanning → Taken × Scanning
waits p s = (if nat_le s.limit s.taken then took.Over else took.More, record s { part = p })

abbrev pub with_levels : Scanning → List Slot → Scanning
with_levels s nest = record s { nest = nest }

abbrev pub settled_in : Scanning → Settled → Taken × Scanning
settled_in s settled.Whole = (took.Whole, s)
settled_in s settled.TooDeep = (took.Bad, s)
settled_in s settled.Item = waits part.Item s

abbrev pub settles_in : Scanning → Taken × Scanning
settles_in s = settled_in (with_levels s (settles (tells_bools s.wire) s.nest).1) (settles (tells_bools s.wire) s.nest).0

abbrev pub led_by : Scanning → Next → Taken × Scanning
led_by s (next.Part p) = waits p s
led_by s next.Bad = (took.Bad, s)
led_by s next.Ended = settles_in s

abbrev pub counted : Scanning → Scanning
counted s = record s { taken = min (s.taken + 1) (2 ^ 64 - 1) }

abbrev pub takes : ℕ → Scanning → Taken × Scanning
takes byte s = led_by (with_levels (counted s) (step_of s.wire s.part byte s.nest).1) (step_of s.wire s.part byte s.nest).0
