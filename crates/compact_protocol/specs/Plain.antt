-- What is written: the plain spelling of each item and of a header ("Compact protocol encoding", Apache Thrift, with
-- the shortest form wherever there is a choice).
use Rattle.std.specs.Prelude.{ℕ, ℤ, pos, ◌+◌, ◌%◌, ◌-ℤ◌, ◌*◌, List, [], ◌∷◌, ◌++◌, length, reverse, Bool, true, false, Option, Some, None, nat_lt, int_lt, nat_abs, if◌then◌else◌}
use Rattle.std.specs.Int.{w8, w32, cast_unsigned}
use Rattle.varint_zigzag.specs.Varint.{shortest}
use Rattle.varint_zigzag.specs.Zigzag.{folded}
use Rattle.thrift_value.specs.declared.kind.Kind.{Kind}
use Rattle.thrift_value.specs.declared.kind.Kind.TheVariants as kinds
use Rattle.thrift_value.specs.Items.{Item, field, stop, bool_value, i8_value, i16_value, i32_value, i64_value, double_value, text, number_text, unknown_text, struct_begin, empty_map, map_begin, set_begin, list_begin, end, uuid_value}
use Rattle.protocol_traits.specs.declared.fault.Bar.{Bar}
use Rattle.protocol_traits.specs.declared.fault.Bar.TheVariants as bars
use Rattle.protocol_traits.specs.declared.nest.Slot.{Slot}
use Rattle.protocol_traits.specs.declared.nest.Slot.TheVariants as slots
use Rattle.protocol_traits.specs.Heads.{Header}
use Rattle.protocol_traits.specs.Follow.{after}
use Rattle.compact_protocol.specs.Codes.{code_of, flag_code, type_code}

-- The writer: the open levels, and the id before that of the field that was begun last.
pub record Writer : Type 0 where
  pub nest : List Slot
  pub before : ℤ

abbrev pub begun : Writer
begun = record { nest = slots.Fields (pos 0) ∷ []; before = pos 0 }

-- only what is read from JSON without computing it can't be written
abbrev pub bar : Item → Option Bar
bar (number_text bytes) = Some bars.Double
bar (unknown_text bytes) = Some bars.UnknownString
bar item = None

-- what an id lies above the last, where that is 1 to 15
unfoldable pub short_step : ℤ → ℤ → Option ℕ
short_step last id =
    if int_lt (pos 0) (id -ℤ last) then (if int_lt (id -ℤ last) (pos 16) then Some (nat_abs (id -ℤ last)) else None) else None

-- a field's byte: what its id lies above the last, over its kind; else the kind, and the id's 16 bits in full
abbrev pub field_with : Option ℕ → ℤ → ℕ → List ℕ
field_with (Some step) id code = (16 * step + code) ∷ []
field_with None id code = code ∷ shortest (folded id % 65536)

unfoldable pub field_spelling : ℤ → ℤ → ℕ → List ℕ
field_spelling last id code = field_with (short_step last id) id code

-- the last id of the innermost struct
abbrev pub last_of : List Slot → ℤ
last_of (slots.Fields last ∷ up) = last
last_of nest = pos 0

-- a bool field is written with its value
abbrev pub writes_later : Kind → Bool
writes_later kinds.Bool = true
writes_later kind = false

-- a bool in a struct is told by its field's byte, elsewhere it has a byte of its own
abbrev pub bool_spelling : ℤ → List Slot → Bool → List ℕ
bool_spelling before (slots.Value kind id ∷ up) b = field_spelling before id (flag_code b)
bool_spelling before nest b = flag_code b ∷ []

unfoldable pub elements_spelling : Kind → ℕ → List ℕ
elements_spelling kind size =
    if nat_lt size 15 then (16 * size + code_of kind) ∷ []
    else (240 + code_of kind) ∷ shortest size

unfoldable pub string_spelling : List ℕ → List ℕ
string_spelling bytes = shortest (length bytes) ++ bytes

unfoldable pub spelling : Writer → Item → List ℕ
spelling w (field id kind) = if writes_later kind then [] else field_spelling (last_of w.nest) id (code_of kind)
spelling w stop = 0 ∷ []
spelling w (bool_value b) = bool_spelling w.before w.nest b
spelling w (i8_value n) = cast_unsigned w8 n ∷ []
spelling w (i16_value n) = shortest (folded n)
spelling w (i32_value n) = shortest (folded n)
spelling w (i64_value n) = shortest (folded n)
spelling w (double_value bytes) = reverse bytes
spelling w (text bytes) = string_spelling bytes
spelling w (number_text bytes) = []
spelling w (unknown_text bytes) = []
spelling w struct_begin = []
spelling w empty_map = 0 ∷ []
spelling w (map_begin key value size) = shortest size ++ (16 * code_of key + code_of value) ∷ []
spelling w (set_begin kind size) = elements_spelling kind size
spelling w (list_begin kind size) = elements_spelling kind size
spelling w end = []
spelling w (uuid_value bytes) = bytes

abbrev pub before_of : Writer → Item → ℤ
before_of w (field id kind) = last_of w.nest
before_of w item = w.before

-- the writer after an item
abbrev pub follows : Writer → Item → Writer
follows w item = record { nest = after item w.nest; before = before_of w item }

-- the byte 82 (hexadecimal), version and type, the sequence number's 32 bits and the name
unfoldable pub head_spelling : Header → List ℕ
head_spelling h = 130 ∷ (32 * type_code h.mtype + 1) ∷ (shortest (cast_unsigned w32 h.seq) ++ string_spelling h.name)
