-- What one byte of a message leads to in the Compact protocol: the part that follows, or that an item ended, and the open levels.
use Rattle.std.specs.Prelude.{ℕ, ℤ, ◌+◌, ◌-◌, ◌*◌, ◌/◌, ◌%◌, ◌^◌, min, List, Option, Some, None, Bool, nat_lt, nat_le, ◌==◌, if◌then◌else◌}
use Rattle.varint_zigzag.specs.Zigzag.{unfolded}
use Rattle.thrift_value.specs.declared.kind.Kind.{Kind}
use Rattle.thrift_value.specs.declared.kind.Kind.TheVariants as kinds
use Rattle.thrift_value.specs.declared.kind.MessageType.{MessageType}
use Rattle.protocol_traits.specs.declared.nest.Slot.{Slot}
use Rattle.protocol_traits.specs.declared.nest.Slot.TheVariants as slots
use Rattle.protocol_traits.specs.Follow.{spent}
use Rattle.protocol_traits.specs.Stack.{rest_of}
use Rattle.compact_protocol.specs.Codes.{kind_of, type_of}
use Rattle.compact_protocol.specs.Scan.{next_id}
use Rattle.stream_messages.specs.declared.parts.Next.{Next}
use Rattle.stream_messages.specs.declared.parts.Next.TheVariants as next
use Rattle.stream_messages.specs.declared.parts.Part.TheVariants as part
use Rattle.stream_messages.specs.declared.parts.CompactPart.{CompactPart}
use Rattle.stream_messages.specs.declared.parts.CompactPart.TheVariants as compact
use Rattle.stream_messages.specs.declared.parts.CompactSized.{CompactSized}
use Rattle.stream_messages.specs.declared.parts.CompactSized.TheVariants as sizes
use Rattle.stream_messages.specs.declared.parts.CompactPassed.{CompactPassed}
use Rattle.stream_messages.specs.declared.parts.CompactPassed.TheVariants as whose
use Rattle.stream_messages.specs.Parts.{any_or_end}
use Rattle.stream_messages.specs.Levels.{opens, puts}

abbrev pub goes_on : CompactPart → Next
goes_on p = next.Part (part.Compact p)

-- ---- the header

abbrev pub begin : ℕ → Next
begin byte = if byte == 130 then goes_on compact.Version else next.Bad

abbrev pub sequence_behind : Option MessageType → Next
sequence_behind None = next.Bad
sequence_behind (Some mtype) = goes_on (compact.Passed whose.Sequence 5 32)

abbrev pub version : ℕ → Next
version byte = if byte % 32 == 1 then sequence_behind (type_of (byte / 32)) else next.Bad

-- ---- numbers

-- the low seven bits of a byte are more than so many bits hold
abbrev pub is_wide : ℕ → ℕ → Bool
is_wide byte width = nat_le (2 ^ min width 7) (byte % 128)

abbrev pub passed_end : CompactPassed → List Slot → Next × List Slot
passed_end whose.Sequence nest = (goes_on (compact.Number sizes.Name 32 1 0), nest)
passed_end whose.Value nest = (next.Ended, spent nest)

unfoldable pub passed : CompactPassed → ℕ → ℕ → ℕ → List Slot → Next × List Slot
passed of most width byte nest =
    if is_wide byte width then (next.Bad, nest)
    else if nat_lt byte 128 then passed_end of nest
    else if nat_le most 1 then (next.Bad, nest)
    else (goes_on (compact.Passed of (most - 1) (width - 7)), nest)

unfoldable pub id_read : Kind → ℕ → List Slot → Next × List Slot
id_read kind number nest = if nat_lt number 65536 then (next.Ended, puts (slots.Value kind (unfolded number)) nest) else (next.Bad, nest)

abbrev pub map_read : ℕ → List Slot → Next × List Slot
map_read number nest = if number == 0 then (next.Ended, spent nest) else (goes_on (compact.Kinds number), nest)

unfoldable pub size_read : CompactSized → ℕ → List Slot → Next × List Slot
size_read sizes.Name number nest = (any_or_end number, nest)
size_read sizes.Text number nest = (any_or_end number, spent nest)
size_read (sizes.Set kind) number nest = opens (slots.Elements kind number) nest
size_read (sizes.List kind) number nest = opens (slots.Elements kind number) nest
size_read sizes.Map number nest = map_read number nest
size_read (sizes.Id kind) number nest = (next.Bad, nest)

-- a size is less than 2^31
abbrev pub small_read : CompactSized → ℕ → List Slot → Next × List Slot
small_read of number nest = if nat_lt number 2147483648 then size_read of number nest else (next.Bad, nest)

unfoldable pub numbered : CompactSized → ℕ → List Slot → Next × List Slot
numbered (sizes.Id kind) number nest = id_read kind number nest
numbered of number nest = small_read of number nest

-- the sum with this byte is so great, and a fifth byte is the last
abbrev pub summed : CompactSized → ℕ → ℕ → ℕ → ℕ → List Slot → Next × List Slot
summed of width unit sum byte nest =
    if nat_lt sum 4294967296
    then (if nat_lt byte 128 then numbered of sum nest
    else if nat_lt 2097152 unit then (next.Bad, nest)
    else (goes_on (compact.Number of (width - 7) (unit * 128) sum), nest))
    else (next.Bad, nest)

unfoldable pub number_of : CompactSized → ℕ → ℕ → ℕ → ℕ → List Slot → Next × List Slot
number_of of width unit sum byte nest =
    if is_wide byte width then (next.Bad, nest) else summed of width unit (sum + unit * (byte % 128)) byte nest

-- ---- maps, fields and values

abbrev pub kinds_read : ℕ → Option Kind → Option Kind → List Slot → Next × List Slot
kinds_read pairs None value nest = (next.Bad, nest)
kinds_read pairs (Some key) None nest = (next.Bad, nest)
kinds_read pairs (Some key) (Some value) nest = opens (slots.Keys key value pairs) nest

unfoldable pub kinds_of : ℕ → ℕ → List Slot → Next × List Slot
kinds_of pairs byte nest = kinds_read pairs (kind_of (byte / 16)) (kind_of (byte % 16)) nest

abbrev pub id_behind : Kind → Option ℤ → List Slot → Next × List Slot
id_behind kind None nest = (next.Bad, nest)
id_behind kind (Some id) nest = (next.Ended, puts (slots.Value kind id) nest)

unfoldable pub field_behind : ℤ → Kind → ℕ → List Slot → Next × List Slot
field_behind last kind above nest =
    if above == 0 then (goes_on (compact.Number (sizes.Id kind) 16 1 0), nest) else id_behind kind (next_id last above) nest

abbrev pub field_kind : ℤ → ℕ → Option Kind → List Slot → Next × List Slot
field_kind last byte None nest = (next.Bad, nest)
field_kind last byte (Some kind) nest = field_behind last kind (byte / 16) nest

unfoldable pub field_of : ℤ → ℕ → List Slot → Next × List Slot
field_of last byte nest = if byte == 0 then (next.Ended, rest_of nest) else field_kind last byte (kind_of (byte % 16)) nest

abbrev pub wide : ℕ → List Slot → Next × List Slot
wide bytes nest = (any_or_end (bytes - 1), spent nest)

-- the kind of the elements, and their number where it is less than 15
abbrev pub elements_read : (Kind → CompactSized) → Option Kind → ℕ → List Slot → Next × List Slot
elements_read of None byte nest = (next.Bad, nest)
elements_read of (Some kind) byte nest =
    if nat_lt byte 240 then opens (slots.Elements kind (byte / 16)) nest else (goes_on (compact.Number (of kind) 32 1 0), nest)

unfoldable pub set_of : ℕ → List Slot → Next × List Slot
set_of byte nest = elements_read (λ kind. sizes.Set kind) (kind_of (byte % 16)) byte nest

unfoldable pub list_of : ℕ → List Slot → Next × List Slot
list_of byte nest = elements_read (λ kind. sizes.List kind) (kind_of (byte % 16)) byte nest

unfoldable pub value_of : Kind → ℕ → List Slot → Next × List Slot
value_of kinds.Bool byte nest = if nat_lt 2 byte then (next.Bad, nest) else wide 1 nest
value_of kinds.I8 byte nest = wide 1 nest
value_of kinds.Double byte nest = wide 8 nest
value_of kinds.Uuid byte nest = wide 16 nest
value_of kinds.I16 byte nest = passed whose.Value 5 16 byte nest
value_of kinds.I32 byte nest = passed whose.Value 5 32 byte nest
value_of kinds.I64 byte nest = passed whose.Value 10 64 byte nest
value_of kinds.Str byte nest = number_of sizes.Text 32 1 0 byte nest
value_of kinds.Map byte nest = number_of sizes.Map 32 1 0 byte nest
value_of kinds.Struct byte nest = (next.Bad, nest)
value_of kinds.Set byte nest = set_of byte nest
value_of kinds.List byte nest = list_of byte nest

-- a byte of what has begun
unfoldable pub step_of : CompactPart → ℕ → List Slot → Next × List Slot
step_of compact.Start byte nest = (begin byte, nest)
step_of compact.Version byte nest = (version byte, nest)
step_of (compact.Passed of most width) byte nest = passed of most width byte nest
step_of (compact.Number of width unit sum) byte nest = number_of of width unit sum byte nest
step_of (compact.Kinds pairs) byte nest = kinds_of pairs byte nest
