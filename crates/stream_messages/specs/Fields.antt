-- Whole items of the Binary protocol at the front of some bytes: headers, and the fields of a struct.
use Rattle.std.specs.Prelude.{◌≡◌, ℕ, ℤ, ◌+◌, ◌*◌, ◌<◌, ◌≤◌, List, ◌∷◌, length, drop, Ok}
use Rattle.thrift_value.specs.declared.kind.Kind.{Kind}
use Rattle.thrift_value.specs.declared.kind.Kind.TheVariants as kinds
use Rattle.protocol_traits.specs.declared.nest.Slot.{Slot}
use Rattle.protocol_traits.specs.declared.nest.Slot.TheVariants as slots
use Rattle.protocol_traits.specs.Stack.{rest_of}
use Rattle.binary_protocol.specs.Scan.{elements_at}
use Rattle.stream_messages.specs.declared.fields.Field.{Field}
use Rattle.stream_messages.specs.declared.scan.Wire.{Wire}
use Rattle.stream_messages.specs.declared.scan.Wire.TheVariants as wires
use Rattle.stream_messages.specs.declared.levels.Settled.TheVariants as settled
use Rattle.stream_messages.specs.declared.parts.Part.TheVariants as part
use Rattle.stream_messages.specs.declared.parts.BinaryPart.TheVariants as binary
use Rattle.stream_messages.specs.Levels.{settles}
use Rattle.stream_messages.specs.Scanning.{tells_bools}
use Rattle.stream_messages.specs.Feeding.{goes, run}

-- Item after item, so many of the bytes lead from these levels to others, and there a byte is called for.
pub data Spans (wire : Wire) : List ℕ → List Slot → ℕ → List Slot → Type 0 where
  nothing : (bytes : List ℕ) (nest : List Slot) → Spans wire bytes nest 0 nest
  item : (bytes : List ℕ) (nest ended next last : List Slot) (n m : ℕ) → run wire bytes part.Item nest ≡ goes ended n
      → settles (tells_bools wire) ended ≡ (settled.Item, next) → Spans wire (drop n bytes) next m last → Spans wire bytes nest (n + m) last

-- how many bytes a value of a kind has, if any bytes are such a value; 0 for the other kinds
abbrev pub width : Kind → ℕ
width kinds.I8 = 1
width kinds.I16 = 2
width kinds.I32 = 4
width kinds.I64 = 8
width kinds.Double = 8
width kinds.Uuid = 16
width kind = 0

-- The bytes begin with a field of this kind and id, where one may stand. Its value may be a level.
pub record IsHead (nest : List Slot) (bytes : List ℕ) (kind : Kind) (id : ℤ) : Type 0 where
  pub last : ℤ
  pub up : List Slot
  pub nest_is : nest ≡ slots.Fields last ∷ up
  pub shallow : length up < 255
  pub long : 3 ≤ length bytes
  pub ran : run wires.Binary bytes part.Item (slots.Fields last ∷ up) ≡ goes (slots.Value kind id ∷ up) 3

-- a value of this kind, with all that is in it, is the first bytes, so many
pub record IsValue (kind : Kind) (bytes : List ℕ) (n : ℕ) : Type 0 where
  pub within : n ≤ length bytes
  pub is_no_struct : kind ≡ kinds.Struct → ⊥
  pub spans : (id : ℤ) (up : List Slot) → length up < 255 → Spans wires.Binary bytes (slots.Value kind id ∷ up) n (slots.Fields id ∷ up)

-- A list or set of values whose bytes may be any is the first bytes, so many: the kind and the number of its elements, and these.
pub record AreElements (bytes : List ℕ) (n : ℕ) : Type 0 where
  pub kind : Kind
  pub count : ℕ
  pub wide : 0 < width kind
  pub found : elements_at bytes ≡ Ok ((kind, count), 5)
  pub size : n ≡ count * width kind + 5
  pub within : n ≤ length bytes

-- a field with its value is the first bytes
pub record IsField (nest : List Slot) (bytes : List ℕ) (field : Field) : Type 0 where
  pub some : 0 < length nest
  pub moves : 0 < field.size
  pub within : field.size ≤ length bytes
  pub spans : Spans wires.Binary bytes nest field.size (slots.Fields field.id ∷ rest_of nest)

-- a header is the first bytes, so many
pub record IsHeader (bytes : List ℕ) (n : ℕ) : Type 0 where
  pub within : n ≤ length bytes
  pub ran : (last : ℤ) (up : List Slot) → run wires.Binary bytes (part.Binary binary.Start) (slots.Fields last ∷ up) ≡ goes (slots.Fields last ∷ up) n
