-- The plain spelling: no whitespace, and each item with the marks before it.
use Rattle.std.specs.Prelude.{ℕ, ℤ, pos, List, [], ◌∷◌, ◌++◌, length, Bool, true, false, ◌||◌, Option, Some, None, if◌then◌else◌, ◌==◌}
use Rattle.std.specs.Fmt.{signed_decimal}
use Rattle.thrift_value.specs.declared.kind.Kind.{Kind}
use Rattle.thrift_value.specs.declared.kind.Kind.TheVariants as kinds
use Rattle.thrift_value.specs.declared.kind.MessageType.{MessageType}
use Rattle.thrift_value.specs.declared.kind.MessageType.TheVariants as types
use Rattle.thrift_value.specs.Items.{Item, field, stop, bool_value, i8_value, i16_value, i32_value, i64_value, double_value, text, number_text, unknown_text, struct_begin, empty_map, map_begin, set_begin, list_begin, end, uuid_value}
use Rattle.protocol_traits.specs.declared.proto.Hint.{Hint}
use Rattle.protocol_traits.specs.declared.proto.Hint.TheVariants as hints
use Rattle.protocol_traits.specs.declared.proto.Mark.{Mark}
use Rattle.protocol_traits.specs.declared.fault.Bar.{Bar}
use Rattle.protocol_traits.specs.declared.fault.Bar.TheVariants as bars
use Rattle.protocol_traits.specs.declared.nest.Slot.{Slot}
use Rattle.protocol_traits.specs.declared.nest.Slot.TheVariants as slots
use Rattle.protocol_traits.specs.Stack.{first_of}
use Rattle.protocol_traits.specs.Follow.{after as levels_after}
use Rattle.protocol_traits.specs.Heads.{Header}
use Rattle.json_text.specs.Plain.{text_spelling}
use Rattle.json_text.specs.Blob.{blob_spelling}
use Rattle.json_protocol.specs.declared.opening.Opening.{Opening}
use Rattle.json_protocol.specs.declared.opening.Opening.TheVariants as openings
use Rattle.json_protocol.specs.Reading.{opening_after}
use Rattle.std.specs.Str.{is_utf8}

-- the open levels, and what was written of the innermost
pub record Writer : Type 0 where
  pub nest : List Slot
  pub opening : Opening

abbrev pub begun : Writer
begun = record { nest = slots.Fields (pos 0) ∷ []; opening = openings.Body }

abbrev pub after : Writer → Item → Mark → Writer
after w it mark = record { nest = levels_after it w.nest; opening = opening_after it }

-- ---- bars

-- text that is no UTF-8 has no spelling, and nothing tells how to spell a string of which nothing is known
abbrev pub string_bar : List ℕ → Hint → Option Bar
string_bar bytes hints.Text = if is_utf8 bytes then None else Some bars.NotUtf8
string_bar bytes hints.Blob = None
string_bar bytes hints.Unknown = Some bars.UnknownString

abbrev pub is_uuid : Kind → Bool
is_uuid kinds.Uuid = true
is_uuid kind = false

abbrev pub kind_bar : Bool → Option Bar
kind_bar uuid = if uuid then Some bars.Uuid else None

-- doubles, loose texts and uuids have no spelling, nor a container with the kind uuid
abbrev pub bar : Item → Mark → Option Bar
bar (double_value bytes) mark = Some bars.Double
bar (number_text bytes) mark = Some bars.Double
bar (text bytes) mark = string_bar bytes mark.hint
bar (unknown_text bytes) mark = Some bars.UnknownString
bar (uuid_value bytes) mark = Some bars.Uuid
bar (map_begin key value size) mark = kind_bar (is_uuid key || is_uuid value)
bar (set_begin kind size) mark = kind_bar (is_uuid kind)
bar (list_begin kind size) mark = kind_bar (is_uuid kind)
bar it mark = None

abbrev pub name_bar : List ℕ → Option Bar
name_bar name = if is_utf8 name then None else Some bars.NotUtf8

-- ---- words

abbrev pub quoted : List ℕ → List ℕ
quoted word = 34 ∷ word ++ 34 ∷ []

-- tf, i8, i16, i32, i64, dbl, str, rec, map, set, lst; TJSON has no name for uuid, which stands for i8 in an empty map
abbrev pub kind_name : Kind → List ℕ
kind_name kinds.Bool = 116 ∷ 102 ∷ []
kind_name kinds.I8 = 105 ∷ 56 ∷ []
kind_name kinds.I16 = 105 ∷ 49 ∷ 54 ∷ []
kind_name kinds.I32 = 105 ∷ 51 ∷ 50 ∷ []
kind_name kinds.I64 = 105 ∷ 54 ∷ 52 ∷ []
kind_name kinds.Double = 100 ∷ 98 ∷ 108 ∷ []
kind_name kinds.Str = 115 ∷ 116 ∷ 114 ∷ []
kind_name kinds.Struct = 114 ∷ 101 ∷ 99 ∷ []
kind_name kinds.Map = 109 ∷ 97 ∷ 112 ∷ []
kind_name kinds.Set = 115 ∷ 101 ∷ 116 ∷ []
kind_name kinds.List = 108 ∷ 115 ∷ 116 ∷ []
kind_name kinds.Uuid = 105 ∷ 56 ∷ []

abbrev pub flag : Bool → List ℕ
flag true = 49 ∷ []
flag false = 48 ∷ []

-- a number, in quotes where it is a key
abbrev pub number : Bool → List ℕ → List ℕ
number key digits = if key then quoted digits else digits

-- ---- the marks before an item, by what the innermost level calls for

-- the brace of the body, or the brace of the value before, and a comma
abbrev pub field_lead : Opening → Option Slot → List ℕ
field_lead openings.Body (Some (slots.Fields last)) = 123 ∷ []
field_lead openings.Old (Some (slots.Fields last)) = 125 ∷ 44 ∷ []
field_lead opening top = []

abbrev pub stop_lead : Opening → Option Slot → List ℕ
stop_lead openings.Body (Some (slots.Fields last)) = 123 ∷ []
stop_lead openings.Old (Some (slots.Fields last)) = 125 ∷ []
stop_lead opening top = []

-- the brace of a map's pairs
abbrev pub end_lead : Option Slot → List ℕ
end_lead (Some (slots.Keys key value left)) = 125 ∷ []
end_lead top = []

-- a colon or a comma; the first key has the brace of the pairs before it
abbrev pub value_lead : Opening → Option Slot → List ℕ
value_lead opening (Some (slots.Value kind id)) = 58 ∷ []
value_lead opening (Some (slots.Elements kind left)) = 44 ∷ []
value_lead openings.Old (Some (slots.Keys key value left)) = 44 ∷ []
value_lead opening (Some (slots.Keys key value left)) = 44 ∷ 123 ∷ []
value_lead opening (Some (slots.Values key value left)) = 58 ∷ []
value_lead opening top = []

-- what has no spelling has no marks
abbrev pub lead : Opening → Option Slot → Item → List ℕ
lead opening top (field id kind) = field_lead opening top
lead opening top stop = stop_lead opening top
lead opening top end = end_lead top
lead opening top (double_value bytes) = []
lead opening top (number_text bytes) = []
lead opening top (unknown_text bytes) = []
lead opening top (uuid_value bytes) = []
lead opening top it = value_lead opening top

-- ---- the item itself

abbrev pub is_key : Option Slot → Bool
is_key (Some (slots.Keys key value left)) = true
is_key top = false

abbrev pub string_spelling : List ℕ → Hint → List ℕ
string_spelling bytes hints.Blob = blob_spelling bytes
string_spelling bytes hint = text_spelling bytes

abbrev pub field_spelling : ℤ → Kind → List ℕ
field_spelling id kind = quoted (signed_decimal id) ++ 58 ∷ 123 ∷ quoted (kind_name kind)

-- the last stop closes the message too
abbrev pub stop_spelling : ℕ → List ℕ
stop_spelling depth = 125 ∷ (if depth == 1 then 93 ∷ [] else [])

abbrev pub sequence_spelling : Kind → ℕ → List ℕ
sequence_spelling kind size = 91 ∷ quoted (kind_name kind) ++ 44 ∷ signed_decimal (pos size)

-- two kinds behind a bracket, and a comma
abbrev pub kinds_spelling : Kind → Kind → List ℕ
kinds_spelling key value = 91 ∷ quoted (kind_name key) ++ 44 ∷ quoted (kind_name value) ++ 44 ∷ []

abbrev pub spelling : ℕ → Bool → Item → Mark → List ℕ
spelling depth key (field id kind) mark = field_spelling id kind
spelling depth key stop mark = stop_spelling depth
spelling depth key (bool_value b) mark = number key (flag b)
spelling depth key (i8_value n) mark = number key (signed_decimal n)
spelling depth key (i16_value n) mark = number key (signed_decimal n)
spelling depth key (i32_value n) mark = number key (signed_decimal n)
spelling depth key (i64_value n) mark = number key (signed_decimal n)
spelling depth key (text bytes) mark = string_spelling bytes mark.hint
spelling depth key struct_begin mark = 123 ∷ []
spelling depth key empty_map mark = kinds_spelling mark.key mark.value ++ 48 ∷ 44 ∷ 123 ∷ 125 ∷ 93 ∷ []
spelling depth key (map_begin key_kind value size) mark = kinds_spelling key_kind value ++ signed_decimal (pos size)
spelling depth key (set_begin kind size) mark = sequence_spelling kind size
spelling depth key (list_begin kind size) mark = sequence_spelling kind size
spelling depth key end mark = 93 ∷ []
spelling depth key it mark = []

abbrev pub plain : Writer → Item → Mark → List ℕ
plain w it mark = lead w.opening (first_of w.nest) it ++ spelling (length w.nest) (is_key (first_of w.nest)) it mark

-- ---- the header

abbrev pub type_digit : MessageType → List ℕ
type_digit types.Call = 49 ∷ []
type_digit types.Reply = 50 ∷ []
type_digit types.Exception = 51 ∷ []
type_digit types.Oneway = 52 ∷ []

-- [1,"name",type,number,
abbrev pub plain_head : Header → List ℕ
plain_head h = 91 ∷ 49 ∷ 44 ∷ text_spelling h.name ++ 44 ∷ type_digit h.mtype ++ 44 ∷ signed_decimal h.seq ++ 44 ∷ []
