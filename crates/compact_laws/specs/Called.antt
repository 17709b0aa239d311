-- Which part of a message is called for at a place of a frame, by what is spelled before it.
use Rattle.std.specs.Prelude.{◌≡◌, ◌⊎◌, ℕ, ℤ, pos, ◌+◌, ◌*◌, ◌≤◌, List, [], ◌∷◌, ◌++◌, length, take}
use Rattle.varint_zigzag.specs.Varint.{Spells}
use Rattle.thrift_value.specs.declared.kind.Kind.{Kind}
use Rattle.thrift_value.specs.declared.kind.Kind.TheVariants as kinds
use Rattle.thrift_value.specs.declared.kind.MessageType.{MessageType}
use Rattle.thrift_value.specs.Items.{Item}
use Rattle.thrift_value.specs.Trees.{Message, items_of_members}
use Rattle.protocol_traits.specs.declared.nest.Slot.{Slot}
use Rattle.protocol_traits.specs.declared.nest.Slot.TheVariants as slots
use Rattle.compact_protocol.specs.Codes.{type_code}
use Rattle.compact_protocol.specs.Grammar.{IsKind, IsSize, SpellsHeader, CompactSpells}
use Rattle.compact_laws.specs.Fronts.{Leads}
use Rattle.compact_laws.specs.Refused.{IsViable}

-- What may be called for: of the header the protocol's byte and the one with the version and the type; a field's first byte behind the
-- field with this id, or the end of the struct; a bool's byte; the first byte of a list or a set; the byte with a map's kinds; a varint of
-- at most so many bytes, and so many bits; a size or a length; a value that 256 levels lie around. In what else there is, as the eight
-- bytes of a double, no bytes are wrong.
pub data Part : Type 0 where
  protocol_byte : Part
  version_byte : Part
  field_byte : ℤ → Part
  bool_byte : Part
  elements_byte : Part
  kinds_byte : Part
  varint_part : ℕ → ℕ → Part
  size_part : Part
  level_part : Part

-- In each of these definitions some bytes of the header or of the item stand already.

-- The protocol's byte 82 (hexadecimal), the version 1 and the type, the sequence number, and the name's length.
abbrev pub HeaderCalls : List ℕ → Part → Type 0
HeaderCalls begun part =
    ((begun ≡ []) × (part ≡ protocol_byte))
    ⊎ ((begun ≡ 130 ∷ []) × (part ≡ version_byte))
    ⊎ ((mtype : MessageType) × (begun ≡ 130 ∷ (32 * type_code mtype + 1) ∷ []) × (part ≡ varint_part 5 32))
    ⊎ ((mtype : MessageType) × (number : List ℕ) × (n : ℕ) × Spells 5 32 number n × (begun ≡ 130 ∷ (32 * type_code mtype + 1) ∷ number) × (part ≡ size_part))

-- a field's first byte, and behind one of the long form its id
abbrev pub FieldCalls : ℤ → List ℕ → Part → Type 0
FieldCalls last begun part = ((begun ≡ []) × (part ≡ field_byte last)) ⊎ ((kind : Kind) × (code : ℕ) × IsKind kind code × (begun ≡ code ∷ []) × (part ≡ varint_part 5 16))

-- the first byte of a list or a set, and behind one of the long form the size
abbrev pub ElementsCall : List ℕ → Part → Type 0
ElementsCall begun part = ((begun ≡ []) × (part ≡ elements_byte)) ⊎ ((kind : Kind) × (code : ℕ) × IsKind kind code × (begun ≡ (240 + code) ∷ []) × (part ≡ size_part))

-- the size of a map, and behind one that isn't 0 the kinds
abbrev pub PairsCall : List ℕ → Part → Type 0
PairsCall begun part = ((begun ≡ []) × (part ≡ size_part)) ⊎ ((size : ℕ) × (1 ≤ size) × IsSize size begun × (part ≡ kinds_byte))

-- a struct, map, set or list where so many levels are open
abbrev pub LevelCalls : ℕ → List ℕ → Part → Type 0
LevelCalls depth begun part = (depth ≡ 256) × (begun ≡ []) × (part ≡ level_part)

-- a value of this kind where so many levels are open
abbrev pub ValueCalls : ℕ → Kind → List ℕ → Part → Type 0
ValueCalls depth kinds.Bool begun part = (begun ≡ []) × (part ≡ bool_byte)
ValueCalls depth kinds.I16 begun part = (begun ≡ []) × (part ≡ varint_part 5 16)
ValueCalls depth kinds.I32 begun part = (begun ≡ []) × (part ≡ varint_part 5 32)
ValueCalls depth kinds.I64 begun part = (begun ≡ []) × (part ≡ varint_part 10 64)
ValueCalls depth kinds.Str begun part = (begun ≡ []) × (part ≡ size_part)
ValueCalls depth kinds.Struct begun part = LevelCalls depth begun part
ValueCalls depth kinds.Set begun part = LevelCalls depth begun part ⊎ ElementsCall begun part
ValueCalls depth kinds.List begun part = LevelCalls depth begun part ⊎ ElementsCall begun part
ValueCalls depth kinds.Map begun part = LevelCalls depth begun part ⊎ PairsCall begun part
ValueCalls depth kind begun part = ⊥

-- where the innermost of so many levels goes on
abbrev pub ItemCalls : ℕ → Slot → List ℕ → Part → Type 0
ItemCalls depth (slots.Fields last) begun part = FieldCalls last begun part
ItemCalls depth (slots.Value kind id) begun part = ((kind ≡ kinds.Bool) → ⊥) × ValueCalls depth kind begun part
ItemCalls depth (slots.Elements kind left) begun part = (1 ≤ left) × ValueCalls depth kind begun part
ItemCalls depth (slots.Keys key value left) begun part = (1 ≤ left) × ValueCalls depth key begun part
ItemCalls depth (slots.Values key value left) begun part = ValueCalls depth value begun part

-- Some message begins with these bytes: with its header, the first items of its body up to a level that goes on, and bytes that the level
-- calls for this part behind.
pub record BodyCalls (before : List ℕ) (part : Part) : Type 0 where
  pub message : Message
  pub more : List ℕ
  pub spells : CompactSpells message (before ++ more)
  pub header : List ℕ
  pub front : List ℕ
  pub begun : List ℕ
  pub laid : before ≡ header ++ (front ++ begun)
  pub head : SpellsHeader message header
  pub items : List Item
  pub others : List Item
  pub are : items_of_members message.body ≡ items ++ others
  pub slot : Slot
  pub up : List Slot
  pub lead : Leads (slots.Fields (pos 0) ∷ []) items front (slot ∷ up)
  pub calls : ItemCalls (length (slot ∷ up)) slot begun part

-- Some message begins with what stands before this place of the bytes, and the part is called for there.
abbrev pub IsCalled : Part → List ℕ → ℕ → Type 0
IsCalled part bytes place = (IsViable (take place bytes) × HeaderCalls (take place bytes) part) ⊎ BodyCalls (take place bytes) part
