-- The line that shows a message, item by item: what stands before an item, the item, and its names.
use Rattle.std.specs.Prelude.{ℕ, ℤ, pos, List, [], ◌∷◌, ◌++◌, codes, Bool, true, false, Option, Some, None}
use Rattle.std.specs.Fmt.{signed_decimal}
use Rattle.thrift_value.specs.declared.kind.Kind.{Kind}
use Rattle.thrift_value.specs.declared.kind.MessageType.{MessageType}
use Rattle.thrift_value.specs.Items.{Item, field, stop, bool_value, i8_value, i16_value, i32_value, i64_value, double_value, text, number_text, unknown_text, struct_begin, empty_map, map_begin, set_begin, list_begin, end, uuid_value}
use Rattle.type_tables.specs.declared.declared.FieldInfo.{FieldInfo}
use Rattle.type_tables.specs.Declarations.{Declarations}
use Rattle.type_walk.specs.declared.levels.Level.{Level}
use Rattle.type_walk.specs.Positions.{declared_in}
use Rattle.protocol_traits.specs.declared.nest.Slot.{Slot}
use Rattle.protocol_traits.specs.declared.nest.Slot.TheVariants as slots
use Rattle.protocol_traits.specs.Stack.{first_of}
use Rattle.protocol_traits.specs.Follow as follow
use Rattle.protocol_traits.specs.Heads.{Header}
use Rattle.message_show.specs.Texts.{kind_word, type_word, bool_word, quoted, double_text, uuid_text}

-- the open levels, and whether nothing was told of the innermost yet
pub record Levels : Type 0 where
  pub nest : List Slot
  pub first : Bool

abbrev pub begun : Levels
begun = record { nest = slots.Fields (pos 0) ∷ []; first = true }

abbrev pub opens : Item → Bool
opens struct_begin = true
opens (map_begin key value size) = true
opens (set_begin kind size) = true
opens (list_begin kind size) = true
opens item = false

-- the levels after an item
abbrev pub after : Levels → Item → Levels
after levels item = record { nest = follow.after item levels.nest; first = opens item }

-- ---- marks

unfoldable pub comma : Bool → List ℕ
comma true = []
comma false = codes ", "

unfoldable pub colon : List ℕ
colon = codes ": "

-- a comma between the fields, the elements or the pairs of a level, and a colon between a key and its value
abbrev pub mark_before : Bool → Option Slot → List ℕ
mark_before first (Some (slots.Fields last)) = comma first
mark_before first (Some (slots.Value kind id)) = []
mark_before first (Some (slots.Elements kind left)) = comma first
mark_before first (Some (slots.Keys key value left)) = comma first
mark_before first (Some (slots.Values key value left)) = colon
mark_before first None = []

abbrev pub lead : Levels → List ℕ
lead levels = mark_before levels.first (first_of levels.nest)

unfoldable pub brace : List ℕ
brace = codes "}"

unfoldable pub bracket : List ℕ
bracket = codes "]"

-- the end of a map, or else of a list or set
abbrev pub closing : Option Slot → List ℕ
closing (Some (slots.Keys key value left)) = brace
closing (Some (slots.Fields last)) = bracket
closing (Some (slots.Value kind id)) = bracket
closing (Some (slots.Elements kind left)) = bracket
closing (Some (slots.Values key value left)) = bracket
closing None = bracket

-- ---- names

-- the name of a field, where one is declared
abbrev pub field_name : Option FieldInfo → Option (List ℕ)
field_name None = None
field_name (Some f) = Some f.name

unfoldable pub name_text : Option (List ℕ) → List ℕ
name_text None = []
name_text (Some name) = codes ":" ++ name

-- ---- items

-- a kind between spaces
unfoldable pub kind_text : Kind → List ℕ
kind_text kind = codes " " ++ kind_word kind ++ codes " "

-- ID:NAME KIND and the space before the value
unfoldable pub field_text : ℤ → Option (List ℕ) → Kind → List ℕ
field_text id name kind = signed_decimal id ++ name_text name ++ kind_text kind

-- the same behind the mark that stands before it
abbrev pub field_piece : Slot → Bool → ℤ → Option FieldInfo → Kind → List ℕ
field_piece level first id info kind = mark_before first (Some level) ++ field_text id (field_name info) kind

-- {KEY,VALUE|
unfoldable pub map_text : Kind → Kind → List ℕ
map_text key value = codes "{" ++ kind_word key ++ codes "," ++ kind_word value ++ codes "| "

-- [KIND|
unfoldable pub list_text : Kind → List ℕ
list_text kind = codes "[" ++ kind_word kind ++ codes "| "

unfoldable pub struct_text : List ℕ
struct_text = codes "("

unfoldable pub stop_text : List ℕ
stop_text = codes ")"

unfoldable pub empty_map_text : List ℕ
empty_map_text = codes "{}"

-- a value, or the beginning of one
abbrev pub value_text : Item → List ℕ
value_text (bool_value b) = bool_word b
value_text (i8_value n) = signed_decimal n
value_text (i16_value n) = signed_decimal n
value_text (i32_value n) = signed_decimal n
value_text (i64_value n) = signed_decimal n
value_text (double_value bytes) = double_text bytes
value_text (text bytes) = quoted bytes
value_text (number_text bytes) = bytes
value_text (unknown_text bytes) = quoted bytes
value_text struct_begin = struct_text
value_text empty_map = empty_map_text
value_text (map_begin key value size) = map_text key value
value_text (set_begin kind size) = list_text kind
value_text (list_begin kind size) = list_text kind
value_text (uuid_value bytes) = uuid_text bytes
value_text (field id kind) = []
value_text stop = []
value_text end = []

-- an item that stands at these levels, of which the innermost is declared so; a field has the name that stands there for its id and kind
abbrev pub item_text : Declarations → Option Level → Levels → Item → List ℕ
item_text d known levels (field id kind) = lead levels ++ field_text id (field_name (declared_in d known id kind)) kind
item_text d known levels stop = stop_text
item_text d known levels end = closing (first_of levels.nest)
item_text d known levels item = lead levels ++ value_text item

unfoldable pub type_text : MessageType → List ℕ
type_text mtype = type_word mtype ++ codes " "

-- the number between spaces, and the body's parenthesis
unfoldable pub sequence_text : ℤ → List ℕ
sequence_text seq = codes " " ++ signed_decimal seq ++ codes " ("

-- TYPE "NAME" NUMBER and the body's parenthesis
unfoldable pub head_text : Header → List ℕ
head_text h = type_text h.mtype ++ quoted h.name ++ sequence_text h.seq

-- behind the body
unfoldable pub line_end : List ℕ
line_end = codes "\n"
