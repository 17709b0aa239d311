-- What is called for in a frame, part by part: a header, and behind it what each open level goes on with.
use Rattle.std.specs.Prelude.{◌≡◌, ⊤, ◌⊎◌, ℕ, ℤ, zero, suc, pos, negsuc, ◌+◌, ◌≤ℤ◌, Bool, true, false, ◌&&◌, List, [], ◌∷◌, ◌++◌, length, drop, ◌==◌, nat_le, int_lt, if◌then◌else◌}
use Rattle.std.specs.List.{prefix_len}
use Rattle.thrift_value.specs.declared.kind.Kind.{Kind}
use Rattle.thrift_value.specs.declared.kind.Kind.TheVariants as kinds
use Rattle.thrift_value.specs.Items.{Item, field, stop, bool_value, i8_value, i16_value, i32_value, i64_value, text, number_text, unknown_text, struct_begin, empty_map, map_begin, set_begin, list_begin, end}
use Rattle.protocol_traits.specs.declared.fault.Reason.{Reason}
use Rattle.protocol_traits.specs.declared.fault.Reason.TheVariants as reasons
use Rattle.protocol_traits.specs.declared.nest.Slot.{Slot}
use Rattle.protocol_traits.specs.declared.nest.Slot.TheVariants as slots
use Rattle.protocol_traits.specs.declared.proto.Hint.{Hint}
use Rattle.protocol_traits.specs.declared.proto.Hint.TheVariants as hints
use Rattle.protocol_traits.specs.Heads.{Header}
use Rattle.type_walk.specs.Positions.{Position, hint_of}
use Rattle.json_text.specs.Int.{is_int_byte}
use Rattle.json_text.specs.Number.{is_number_byte}
use Rattle.json_text.specs.Grammar.{SpellsInt}
use Rattle.json_text_laws.specs.Judged.{GoodText, GoodBlob}
use Rattle.json_text_laws.specs.Strings.{IsFault, piece_size}
use Rattle.json_protocol.specs.declared.opening.Opening.{Opening}
use Rattle.json_protocol.specs.declared.opening.Opening.TheVariants as openings
use Rattle.json_protocol.specs.Values.{size_of, opens}
use Rattle.json_protocol.specs.Head.{type_of}
use Rattle.json_protocol.specs.Writing.{number}
use Rattle.json_protocol.specs.Grammar.{IsNamed, IsDoubleToken, name_token}

-- ---- parts

-- the integers that may be called for
pub data Whole : Type 0 where
  version_number : Whole
  type_number : Whole
  id_number : Whole
  size_number : Whole
  flag_number : Whole
  number_8 : Whole
  number_16 : Whole
  number_32 : Whole
  number_64 : Whole

-- the least that is good
abbrev pub least : Whole → ℤ
least version_number = pos 1
least type_number = pos 1
least id_number = negsuc 32767
least size_number = pos 0
least flag_number = pos 0
least number_8 = negsuc 127
least number_16 = negsuc 32767
least number_32 = negsuc 2147483647
least number_64 = negsuc 9223372036854775807

-- and the greatest
abbrev pub greatest : Whole → ℤ
greatest version_number = pos 1
greatest type_number = pos 4
greatest id_number = pos 32767
greatest size_number = pos 2147483647
greatest flag_number = pos 1
greatest number_8 = pos 127
greatest number_16 = pos 32767
greatest number_32 = pos 2147483647
greatest number_64 = pos 9223372036854775807

-- what is told where none stands
abbrev pub whole_reason : Whole → Reason
whole_reason version_number = reasons.BadVersion
whole_reason type_number = reasons.BadType
whole_reason id_number = reasons.BadId
whole_reason size_number = reasons.BadSize
whole_reason flag_number = reasons.BadBool
whole_reason w = reasons.BadNumber

-- A bracket, a brace, a comma or a colon; an integer, in quotes or not; a kind's name; a number, as a key or not; a string as text, or as
-- base64; a closing brace, or another byte that stays; a level inside 256 others, which is none; a kind without a name; the end.
pub data Part : Type 0 where
  mark_part : ℕ → Part
  whole_part : Bool → Whole → Part
  kind_part : Part
  double_part : Bool → Part
  text_part : Part
  blob_part : Part
  first_part : ℕ → Part
  deep_part : Part
  nameless_part : Part
  end_part : Part

-- what a part means
abbrev pub Value : Part → Type 0
Value (whole_part key w) = ℤ
Value kind_part = Kind
Value (double_part key) = List ℕ
Value text_part = List ℕ
Value blob_part = List ℕ
Value (first_part byte) = Bool
Value part = Unit {0}

-- the longest run of such bytes ends there
abbrev pub EndsRun : (ℕ → Bool) → List ℕ → Type 0
EndsRun passes [] = ⊤
EndsRun passes (x ∷ rest) = passes x ≡ false

-- A front of the bytes, of so many, is the part, and means this. An integer without quotes goes over the longest run of digits and `-`, a
-- number over the longest run of digits and `+ - . e E`.
abbrev pub StandsAs : (part : Part) → List ℕ → Value part → ℕ → Type 0
StandsAs (mark_part byte) bytes x taken = (rest : List ℕ) × (bytes ≡ byte ∷ rest) × (taken ≡ 1)
StandsAs (whole_part key w) bytes z taken =
    (digits : List ℕ) × (rest : List ℕ) × (bytes ≡ number key digits ++ rest) × SpellsInt z digits × (least w ≤ℤ z) × (z ≤ℤ greatest w)
    × (key ≡ false → EndsRun is_int_byte rest) × (taken ≡ length (number key digits))
StandsAs kind_part bytes kind taken = (rest : List ℕ) × (bytes ≡ name_token kind ++ rest) × IsNamed kind × (taken ≡ length (name_token kind))
StandsAs (double_part key) bytes digits taken =
    (token : List ℕ) × (rest : List ℕ) × (bytes ≡ token ++ rest) × IsDoubleToken key digits (token ∷ []) × (token ≡ digits → EndsRun is_number_byte rest) × (taken ≡ length token)
StandsAs text_part bytes meant taken = GoodText bytes meant taken
StandsAs blob_part bytes meant taken = GoodBlob bytes meant taken
StandsAs (first_part byte) bytes closes taken =
    ((rest : List ℕ) × (bytes ≡ 125 ∷ rest) × (closes ≡ true) × (taken ≡ 1)) ⊎ ((rest : List ℕ) × (bytes ≡ byte ∷ rest) × (closes ≡ false) × (taken ≡ 0))
StandsAs end_part bytes x taken = (bytes ≡ []) × (taken ≡ 0)
StandsAs part bytes x taken = ⊥

-- what is told where none begins
abbrev pub reason_of : Part → Reason
reason_of (mark_part byte) = reasons.BadToken
reason_of (whole_part key w) = whole_reason w
reason_of kind_part = reasons.BadKind
reason_of (double_part key) = reasons.BadNumber
reason_of text_part = reasons.BadString
reason_of blob_part = reasons.BadBase64
reason_of (first_part byte) = reasons.BadToken
reason_of deep_part = reasons.TooDeep
reason_of nameless_part = reasons.BadKind
reason_of end_part = reasons.Trailing

-- so many bytes into what stands there: in a string as text at the fault of the string
abbrev pub IsThere : Part → List ℕ → ℕ → Type 0
IsThere text_part bytes inside = IsFault bytes inside
IsThere part bytes inside = inside ≡ 0

-- How far a word in quotes goes: through the next quote behind its own, or over all there is; where no quote stands, over one byte.
abbrev pub through_quote : List ℕ → ℕ
through_quote [] = 0
through_quote (x ∷ rest) = if x == 34 then 1 else suc (through_quote rest)

abbrev pub quoted_extent : List ℕ → ℕ
quoted_extent [] = 0
quoted_extent (x ∷ rest) = if x == 34 then suc (through_quote rest) else 1

-- A number goes over its run and one byte more; where a quote stands it is a word.
abbrev pub double_extent : List ℕ → ℕ
double_extent [] = 0
double_extent (x ∷ rest) = if x == 34 then suc (through_quote rest) else suc (prefix_len is_number_byte (x ∷ rest))

-- How far a part goes that is at fault so many bytes into it: a bracket, a brace, a comma or a colon over its byte; an integer without quotes
-- over its run and one byte more; a string as text through the piece at fault; a level over none; the end over one byte.
abbrev pub extent : Part → List ℕ → ℕ → ℕ
extent (whole_part true w) bytes inside = quoted_extent bytes
extent (whole_part false w) bytes inside = suc (prefix_len is_int_byte bytes)
extent kind_part bytes inside = quoted_extent bytes
extent (double_part true) bytes inside = quoted_extent bytes
extent (double_part false) bytes inside = double_extent bytes
extent text_part bytes inside = if inside == 0 then 1 else inside + piece_size (drop inside bytes)
extent blob_part bytes inside = quoted_extent bytes
extent deep_part bytes inside = 0
extent part bytes inside = 1

-- ---- plans

-- parts one behind another, each by what those before it mean
pub data Plan (Y : Type 0) : Type 0 where
  done : Y → Plan Y
  want : (part : Part) → (Value part → Plan Y) → Plan Y

abbrev pub marked : {Y : Type 0} → ℕ → Plan Y → Plan Y
marked byte plan = want (mark_part byte) (λ x. plan)

-- [1,"name",type,number, up to the last comma
abbrev pub header_plan : Plan Header
header_plan =
    marked 91 (want (whole_part false version_number) (λ version. marked 44 (want text_part (λ name. marked 44 (want (whole_part false type_number) (λ t. marked 44
    (want (whole_part false number_32) (λ seq. marked 44 (done (record { name = name; mtype = type_of t; seq = seq }))))))))))

abbrev pub whole_plan : Bool → Whole → (ℤ → Item) → Plan Item
whole_plan key w item = want (whole_part key w) (λ z. done (item z))

-- a string by what is known of it
abbrev pub string_plan : Hint → Plan Item
string_plan hints.Text = want text_part (λ t. done (text t))
string_plan hints.Blob = want blob_part (λ t. done (text t))
string_plan hints.Unknown = want text_part (λ t. done (unknown_text t))

-- a bracket, a kind, a comma and a size
abbrev pub sequence_plan : (Kind → ℕ → Item) → Plan Item
sequence_plan item = marked 91 (want kind_part (λ kind. marked 44 (want (whole_part false size_number) (λ n. done (item kind (size_of n))))))

-- behind the size of a map: of one without pairs all that is left of it
abbrev pub pairs_plan : Kind → Kind → ℕ → Plan Item
pairs_plan k v zero = marked 44 (marked 123 (marked 125 (marked 93 (done empty_map))))
pairs_plan k v (suc more) = done (map_begin k v (suc more))

abbrev pub map_plan : Plan Item
map_plan = marked 91 (want kind_part (λ k. marked 44 (want kind_part (λ v. marked 44 (want (whole_part false size_number) (λ n. pairs_plan k v (size_of n)))))))

-- a value of this kind, or the begin of one that holds others, as a key or not
abbrev pub value_plan : Bool → Hint → Kind → Plan Item
value_plan key hint kinds.Bool = whole_plan key flag_number (λ n. bool_value (int_lt (pos 0) n))
value_plan key hint kinds.I8 = whole_plan key number_8 (λ n. i8_value n)
value_plan key hint kinds.I16 = whole_plan key number_16 (λ n. i16_value n)
value_plan key hint kinds.I32 = whole_plan key number_32 (λ n. i32_value n)
value_plan key hint kinds.I64 = whole_plan key number_64 (λ n. i64_value n)
value_plan key hint kinds.Double = want (double_part key) (λ digits. done (number_text digits))
value_plan key hint kinds.Str = string_plan hint
value_plan key hint kinds.Struct = marked 123 (done struct_begin)
value_plan key hint kinds.Map = map_plan
value_plan key hint kinds.Set = sequence_plan (λ kind n. set_begin kind n)
value_plan key hint kinds.List = sequence_plan (λ kind n. list_begin kind n)
value_plan key hint kinds.Uuid = want nameless_part (λ x. done end)

-- inside so many levels, of which there may be 256
abbrev pub level_plan : ℕ → Bool → Hint → Kind → Plan Item
level_plan depth key hint kind = if opens kind && nat_le 256 depth then want deep_part (λ x. done end) else value_plan key hint kind

-- a field's id and its kind
abbrev pub field_plan : Plan Item
field_plan = want (whole_part true id_number) (λ id. marked 58 (marked 123 (want kind_part (λ kind. done (field id kind)))))

-- a struct ends, or it goes on so
abbrev pub unless_closed : Plan Item → Bool → Plan Item
unless_closed plan true = done stop
unless_closed plan false = plan

-- right behind a struct's brace: the closing brace, or the quote of a field's id; behind a field: the closing brace, or a comma
abbrev pub first_plan : Plan Item
first_plan = want (first_part 34) (unless_closed field_plan)

abbrev pub next_plan : Plan Item
next_plan = want (first_part 44) (unless_closed (marked 44 field_plan))

-- a field, or a struct's end: the brace of the body stands before, or the one that closes the value of the field before
abbrev pub fields_plan : Opening → Plan Item
fields_plan openings.Body = marked 123 first_plan
fields_plan openings.New = first_plan
fields_plan openings.Old = marked 125 next_plan

-- before a key a comma, and before the first the brace of the pairs
abbrev pub key_plan : Opening → Plan Item → Plan Item
key_plan openings.Old plan = marked 44 plan
key_plan opening plan = marked 44 (marked 123 plan)

-- what a level goes on with
abbrev pub item_plan : ℕ → Opening → Hint → Slot → Plan Item
item_plan depth opening hint (slots.Fields last) = fields_plan opening
item_plan depth opening hint (slots.Value kind id) = marked 58 (level_plan depth false hint kind)
item_plan depth opening hint (slots.Elements kind zero) = marked 93 (done end)
item_plan depth opening hint (slots.Elements kind (suc left)) = marked 44 (level_plan depth false hint kind)
item_plan depth opening hint (slots.Keys key value zero) = marked 125 (marked 93 (done end))
item_plan depth opening hint (slots.Keys key value (suc left)) = key_plan opening (level_plan depth true hint key)
item_plan depth opening hint (slots.Values key value left) = marked 58 (level_plan depth false hint value)

-- behind the last level the bracket of the message, and the end
abbrev pub last_plan : Plan Item
last_plan = marked 93 (want end_part (λ x. done end))

-- what the innermost of these levels goes on with at this position, where so much of it was read
abbrev pub called_plan : Position → List Slot → Opening → Plan Item
called_plan p [] opening = last_plan
called_plan p (slot ∷ up) opening = item_plan (suc (length up)) opening (hint_of p) slot
