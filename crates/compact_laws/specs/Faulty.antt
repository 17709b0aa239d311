-- Which bytes are none of a part that is called for, and for which reason.
use Rattle.std.specs.Prelude.{ℕ, ◌≡◌, ◌⊎◌, pos, ◌+ℤ◌, ◌<ℤ◌, ◌/◌, ◌%◌, ◌<◌, ◌≤◌, ◌^◌, List, Some, None, take, slice_index}
use Rattle.varint_zigzag.specs.Varint.{Spells, BeginsNone}
use Rattle.thrift_value.specs.declared.kind.Kind.{Kind}
use Rattle.protocol_traits.specs.declared.fault.Reason.{Reason}
use Rattle.protocol_traits.specs.declared.fault.Reason.TheVariants as reasons
use Rattle.compact_protocol.specs.Codes.{kind_of, type_of}
use Rattle.compact_laws.specs.Called.{Part, protocol_byte, version_byte, field_byte, bool_byte, elements_byte, kinds_byte, varint_part, size_part}
use Rattle.compact_laws.specs.Extent.{varint_end}

-- By the part's first byte, if it has one: a protocol's byte that isn't 82 (hexadecimal); a version in the low five bits that isn't 1, or
-- where it is, a type in the high three that is none; a field's byte that isn't 0 with a low half that is no kind, or with a kind and a
-- high half by which the id passes 32767; a bool above 2; a kind of elements that is none; one of a map's two kinds that is none. And by
-- more bytes: no varint of so many bits begins there; or one for a size does, of a number above 2^31 - 1.
abbrev pub IsFaulty : Part → Reason → List ℕ → Type 0
IsFaulty protocol_byte reasons.BadVersion bytes = slice_index bytes 0 ≡ 130 → ⊥
IsFaulty version_byte reasons.BadVersion bytes = slice_index bytes 0 % 32 ≡ 1 → ⊥
IsFaulty version_byte reasons.BadType bytes = (slice_index bytes 0 % 32 ≡ 1) × (type_of (slice_index bytes 0 / 32) ≡ None)
IsFaulty (field_byte last) reasons.BadKind bytes = (slice_index bytes 0 ≡ 0 → ⊥) × (kind_of (slice_index bytes 0 % 16) ≡ None)
IsFaulty (field_byte last) reasons.BadId bytes =
    (1 ≤ slice_index bytes 0 / 16) × ((kind : Kind) × (kind_of (slice_index bytes 0 % 16) ≡ Some kind)) × (pos 32767 <ℤ (last +ℤ pos (slice_index bytes 0 / 16)))
IsFaulty bool_byte reasons.BadBool bytes = 2 < slice_index bytes 0
IsFaulty elements_byte reasons.BadKind bytes = kind_of (slice_index bytes 0 % 16) ≡ None
IsFaulty kinds_byte reasons.BadKind bytes = (kind_of (slice_index bytes 0 / 16) ≡ None) ⊎ (kind_of (slice_index bytes 0 % 16) ≡ None)
IsFaulty (varint_part most width) reasons.BadVarint bytes = BeginsNone most width bytes
IsFaulty size_part reasons.BadVarint bytes = BeginsNone 5 32 bytes
IsFaulty size_part reasons.BadSize bytes = (n : ℕ) × Spells 5 32 (take (varint_end 5 bytes) bytes) n × (2 ^ 31 ≤ n)
IsFaulty part reason bytes = ⊥
