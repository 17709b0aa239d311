-- The body of a message as events, each with what the IDL tells of its position: the name and the keys are text, the raw
-- bytes are bytes, and the flags are a map from strings to bools even where they are none.
use Rattle.std.specs.Prelude.{ℕ, ℤ, pos, ◌+◌, Bool, List, [], ◌∷◌, ◌++◌, length, map}
use Rattle.std.specs.List.{flat_map}
use Rattle.thrift_value.specs.declared.kind.Kind.TheVariants as kinds
use Rattle.thrift_value.specs.declared.kind.MessageType.TheVariants as types
use Rattle.thrift_value.specs.Items.{Item, field, stop, bool_value, i32_value, i64_value, text, struct_begin, empty_map, map_begin, list_begin, end}
use Rattle.protocol_traits.specs.declared.proto.Hint.TheVariants as hints
use Rattle.protocol_traits.specs.declared.proto.Mark.{Mark}
use Rattle.protocol_traits.specs.Heads.{Header}
use Rattle.drill_messages.specs.Messages.{Fields}

abbrev pub Events : Type 0
Events = List (Item × Mark)

abbrev pub other : Mark
other = record { hint = hints.Unknown; key = kinds.I8; value = kinds.I8 }

abbrev pub as_text : Mark
as_text = record { hint = hints.Text; key = kinds.I8; value = kinds.I8 }

abbrev pub as_bytes : Mark
as_bytes = record { hint = hints.Blob; key = kinds.I8; value = kinds.I8 }

abbrev pub as_flags : Mark
as_flags = record { hint = hints.Unknown; key = kinds.Str; value = kinds.Bool }

abbrev pub id_events : ℤ → Events
id_events id = (field (pos 1) kinds.I64, other) ∷ (i64_value id, other) ∷ []

abbrev pub name_events : List ℕ → Events
name_events name = (field (pos 2) kinds.Str, other) ∷ (text name, as_text) ∷ []

abbrev pub raw_events : List ℕ → Events
raw_events raw = (field (pos 3) kinds.Str, other) ∷ (text raw, as_bytes) ∷ []

-- the elements of a list
abbrev pub numbers : List ℤ → Events
numbers marks = map (λ m. (i32_value m, other)) marks

abbrev pub marks_events : List ℤ → Events
marks_events marks = (field (pos 4) kinds.List, other) ∷ (list_begin kinds.I32 (length marks), other) ∷ (numbers marks ++ (end, other) ∷ [])

-- the pairs of a map, the first with the key of this one byte
abbrev pub pairs : ℕ → List Bool → Events
pairs key [] = []
pairs key (f ∷ fs) = (text (key ∷ []), as_text) ∷ (bool_value f, other) ∷ pairs (key + 1) fs

abbrev pub flags_map : List Bool → Events
flags_map [] = (empty_map, as_flags) ∷ []
flags_map (f ∷ fs) = (map_begin kinds.Str kinds.Bool (length (f ∷ fs)), other) ∷ (pairs 97 (f ∷ fs) ++ (end, other) ∷ [])

abbrev pub flags_events : List Bool → Events
flags_events flags = (field (pos 5) kinds.Map, other) ∷ flags_map flags

abbrev pub item_events : Fields → Events
item_events f =
    ((struct_begin, other) ∷ [])
    ++ (id_events f.id ++ (name_events f.name ++ (raw_events f.raw ++ (marks_events f.marks ++ (flags_events f.flags ++ ((stop, other) ∷ []))))))

-- a list of the items in field 1
abbrev pub body_events : List Fields → Events
body_events items =
    (field (pos 1) kinds.List, other) ∷ (list_begin kinds.Struct (length items), other)
    ∷ (flat_map item_events items ++ ((end, other) ∷ (stop, other) ∷ []))

-- a call of `put` with this sequence number
abbrev pub call : ℤ → Header
call seq = record { name = 112 ∷ 117 ∷ 116 ∷ []; mtype = types.Call; seq = seq }
