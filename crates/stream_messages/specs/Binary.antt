-- What one byte of a message leads to in the Binary protocol: the part that follows, or that an item ended, and the open levels.
use Rattle.std.specs.Prelude.{ℕ, ◌+◌, ◌-◌, ◌*◌, List, [], ◌∷◌, Option, Some, None, Bool, nat_lt, nat_le, ◌==◌, ◌&&◌, if◌then◌else◌}
use Rattle.std.specs.Int.{w16, from_be_bytes, cast_signed}
use Rattle.thrift_value.specs.declared.kind.Kind.{Kind}
use Rattle.thrift_value.specs.declared.kind.Kind.TheVariants as kinds
use Rattle.thrift_value.specs.declared.kind.MessageType.{MessageType}
use Rattle.protocol_traits.specs.declared.nest.Slot.{Slot}
use Rattle.protocol_traits.specs.declared.nest.Slot.TheVariants as slots
use Rattle.protocol_traits.specs.Follow.{spent}
use Rattle.protocol_traits.specs.Stack.{rest_of}
use Rattle.binary_protocol.specs.Codes.{kind_of_code, type_of_code}
use Rattle.stream_messages.specs.declared.parts.Next.{Next}
use Rattle.stream_messages.specs.declared.parts.Next.TheVariants as next
use Rattle.stream_messages.specs.declared.parts.Part.TheVariants as part
use Rattle.stream_messages.specs.declared.parts.BinaryPart.{BinaryPart}
use Rattle.stream_messages.specs.declared.parts.BinaryPart.TheVariants as binary
use Rattle.stream_messages.specs.declared.parts.BinarySized.{BinarySized}
use Rattle.stream_messages.specs.declared.parts.BinarySized.TheVariants as sizes
use Rattle.stream_messages.specs.Parts.{any_or_end}
use Rattle.stream_messages.specs.Levels.{opens, puts}

abbrev pub on_if : Bool → BinaryPart → Next
on_if right p = if right then next.Part (part.Binary p) else next.Bad

abbrev pub name_behind : ℕ → Next
name_behind left = if left == 0 then next.Part (part.Binary binary.OldType) else next.Part (part.Binary (binary.OldName left))

abbrev pub type_behind : Option MessageType → Next → Next
type_behind None after = next.Bad
type_behind (Some mtype) after = after

abbrev pub strict_type : ℕ → Next
strict_type byte = type_behind (type_of_code byte) (next.Part (part.Binary (binary.Size sizes.StrictName 4 0)))

abbrev pub old_type : ℕ → Next
old_type byte = type_behind (type_of_code byte) (any_or_end 4)

-- ---- sizes

abbrev pub map_sized : Kind → Kind → ℕ → List Slot → Next × List Slot
map_sized key value number nest = if number == 0 then (next.Ended, spent nest) else opens (slots.Keys key value number) nest

unfoldable pub sized : BinarySized → ℕ → List Slot → Next × List Slot
sized sizes.StrictName number nest = (any_or_end (number + 4), nest)
sized sizes.OldName number nest = (name_behind number, nest)
sized sizes.Text number nest = (any_or_end number, spent nest)
sized (sizes.Set kind) number nest = opens (slots.Elements kind number) nest
sized (sizes.List kind) number nest = opens (slots.Elements kind number) nest
sized (sizes.Map key value) number nest = map_sized key value number nest

-- The first of four bytes tells the sign. A number of 2^23 or more passes 2^31 - 1 with one byte more.
unfoldable pub size_of : BinarySized → ℕ → ℕ → ℕ → List Slot → Next × List Slot
size_of of left number byte nest =
    if nat_le 4 left && nat_le 128 byte then (next.Bad, nest)
    else if nat_le 8388608 number then (next.Bad, nest)
    else if nat_le left 1 then sized of (number * 256 + byte) nest
    else (next.Part (part.Binary (binary.Size of (left - 1) (number * 256 + byte))), nest)

-- ---- the header

unfoldable pub begin : ℕ → List Slot → Next × List Slot
begin byte nest =
    if nat_lt byte 128 then size_of sizes.OldName 4 0 byte nest
    else (on_if (byte == 128) binary.Version, nest)

-- ---- fields and values

abbrev pub field_kind : Option Kind → Next
field_kind None = next.Bad
field_kind (Some kind) = next.Part (part.Binary (binary.Id kind))

unfoldable pub field_of : ℕ → List Slot → Next × List Slot
field_of byte nest = if byte == 0 then (next.Ended, rest_of nest) else (field_kind (kind_of_code byte), nest)

unfoldable pub id_end : Kind → ℕ → ℕ → List Slot → Next × List Slot
id_end kind high low nest = (next.Ended, puts (slots.Value kind (cast_signed w16 (from_be_bytes w16 (high ∷ low ∷ [])))) nest)

abbrev pub wide : ℕ → List Slot → Next × List Slot
wide bytes nest = (any_or_end (bytes - 1), spent nest)

abbrev pub sized_behind : (Kind → BinarySized) → Option Kind → Next
sized_behind of None = next.Bad
sized_behind of (Some kind) = next.Part (part.Binary (binary.Size (of kind) 4 0))

abbrev pub set_of : ℕ → Next
set_of byte = sized_behind (λ kind. sizes.Set kind) (kind_of_code byte)

abbrev pub list_of : ℕ → Next
list_of byte = sized_behind (λ kind. sizes.List kind) (kind_of_code byte)

-- a map's kind byte names a kind, or is 0
abbrev pub key_kind_of : ℕ → Option Kind → Next
key_kind_of byte None = on_if (byte == 0) (binary.ValueKind None)
key_kind_of byte (Some kind) = next.Part (part.Binary (binary.ValueKind (Some kind)))

abbrev pub key_kind : ℕ → Next
key_kind byte = key_kind_of byte (kind_of_code byte)

abbrev pub value_kind_of : ℕ → Option Kind → Option Kind → Next
value_kind_of byte key None = on_if (byte == 0) (binary.NoPairs 4)
value_kind_of byte None (Some value) = next.Part (part.Binary (binary.NoPairs 4))
value_kind_of byte (Some key) (Some value) = next.Part (part.Binary (binary.Size (sizes.Map key value) 4 0))

abbrev pub value_kind : Option Kind → ℕ → Next
value_kind key byte = value_kind_of byte key (kind_of_code byte)

unfoldable pub no_pairs : ℕ → ℕ → List Slot → Next × List Slot
no_pairs left byte nest =
    if byte == 0
    then (if nat_lt 1 left then (next.Part (part.Binary (binary.NoPairs (left - 1))), nest) else (next.Ended, spent nest))
    else (next.Bad, nest)

unfoldable pub value_of : Kind → ℕ → List Slot → Next × List Slot
value_of kinds.Bool byte nest = if nat_lt 1 byte then (next.Bad, nest) else wide 1 nest
value_of kinds.I8 byte nest = wide 1 nest
value_of kinds.I16 byte nest = wide 2 nest
value_of kinds.I32 byte nest = wide 4 nest
value_of kinds.I64 byte nest = wide 8 nest
value_of kinds.Double byte nest = wide 8 nest
value_of kinds.Uuid byte nest = wide 16 nest
value_of kinds.Str byte nest = size_of sizes.Text 4 0 byte nest
value_of kinds.Struct byte nest = (next.Bad, nest)
value_of kinds.Set byte nest = (set_of byte, nest)
value_of kinds.List byte nest = (list_of byte, nest)
value_of kinds.Map byte nest = (key_kind byte, nest)

-- a byte of what has begun
unfoldable pub step_of : BinaryPart → ℕ → List Slot → Next × List Slot
step_of binary.Start byte nest = begin byte nest
step_of binary.Version byte nest = (on_if (byte == 1) binary.Unused, nest)
step_of binary.Unused byte nest = (next.Part (part.Binary binary.StrictType), nest)
step_of binary.StrictType byte nest = (strict_type byte, nest)
step_of (binary.OldName left) byte nest = (name_behind (left - 1), nest)
step_of binary.OldType byte nest = (old_type byte, nest)
step_of (binary.Size of left number) byte nest = size_of of left number byte nest
step_of (binary.Id kind) byte nest = (next.Part (part.Binary (binary.IdEnd kind byte)), nest)
step_of (binary.IdEnd kind high) byte nest = id_end kind high byte nest
step_of (binary.ValueKind key) byte nest = (value_kind key byte, nest)
step_of (binary.NoPairs left) byte nest = no_pairs left byte nest
