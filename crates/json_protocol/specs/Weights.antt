-- No item is written in more bytes than its weight, whatever stood before it.
-- Nothing here has to be believed: these are lemmas on the definitions of Writing, each with its proof.
use Rattle.std.proofs.Common.{◌≡◌, ℕ, ℤ, pos, ◌+◌, ◌*◌, ◌<◌, ◌≤◌, ◌^◌, Bool, true, false, List, [], ◌∷◌, ◌++◌, length, Option, Some, None, refl, arith, length-append, w8, w16, w32, w64}
use Rattle.std.specs.Prelude.{◌==◌, cond, FitsSigned}
use Rattle.std.specs.Fmt.{signed_decimal, decimal}
use Rattle.std.proofs.lemmas.Fmt.{length_signed_le, length-decimal-le}
use Rattle.thrift_value.specs.declared.kind.Kind.{Kind}
use Rattle.thrift_value.specs.declared.kind.Kind.TheVariants as kinds
use Rattle.thrift_value.specs.declared.kind.MessageType.{MessageType}
use Rattle.thrift_value.specs.declared.kind.MessageType.TheVariants as types
use Rattle.thrift_value.specs.Items.{Item, field, stop, bool_value, i8_value, i16_value, i32_value, i64_value, double_value, text, number_text, unknown_text, struct_begin, empty_map, map_begin, set_begin, list_begin, end, uuid_value}
use Rattle.protocol_traits.specs.declared.proto.Hint.{Hint}
use Rattle.protocol_traits.specs.declared.proto.Hint.TheVariants as hints
use Rattle.protocol_traits.specs.declared.proto.Mark.{Mark}
use Rattle.protocol_traits.specs.declared.nest.Slot.{Slot}
use Rattle.protocol_traits.specs.declared.nest.Slot.TheVariants as slots
use Rattle.protocol_traits.specs.Stack.{first_of}
use Rattle.protocol_traits.specs.Follow.{depth_after}
use Rattle.protocol_traits.specs.Heads.{Header}
use Rattle.protocol_traits.specs.Room.{weight, head_weight, IsSized}
use Rattle.json_text.specs.Plain.{text_spelling}
use Rattle.json_text.specs.Lengths.{text_long, blob_long}
use Rattle.json_protocol.specs.declared.opening.Opening.{Opening}
use Rattle.json_protocol.specs.declared.opening.Opening.TheVariants as openings
use Rattle.json_protocol.specs.Laws.{after_long}
use Rattle.json_protocol.specs.Writing.{Writer, after, quoted, kind_name, flag, number, field_lead, stop_lead, end_lead, value_lead, is_key, string_spelling, field_spelling, stop_spelling, sequence_spelling, kinds_spelling, plain, type_digit, plain_head}

pub plain_nests : (w : Writer) (it : Item) (mark : Mark) → 0 < length w.nest → length (after w it mark).nest ≡ depth_after it (length w.nest)
plain_nests w it mark there = after_long it w.nest there

joined : (a b : List ℕ) (m n k : ℕ) → length a ≤ m → length b ≤ n → m + n ≤ k → length (a ++ b) ≤ k
joined a b m n k p q r = let e = length-append a b in omega arith

-- ---- the marks

fields_short : (opening : Opening) (top : Option Slot) → length (field_lead opening top) ≤ 2
fields_short openings.Body None = omega arith
fields_short openings.New None = omega arith
fields_short openings.Old None = omega arith
fields_short openings.Body (Some (slots.Fields last)) = omega arith
fields_short openings.New (Some (slots.Fields last)) = omega arith
fields_short openings.Old (Some (slots.Fields last)) = omega arith
fields_short openings.Body (Some (slots.Value kind id)) = omega arith
fields_short openings.New (Some (slots.Value kind id)) = omega arith
fields_short openings.Old (Some (slots.Value kind id)) = omega arith
fields_short openings.Body (Some (slots.Elements kind left)) = omega arith
fields_short openings.New (Some (slots.Elements kind left)) = omega arith
fields_short openings.Old (Some (slots.Elements kind left)) = omega arith
fields_short openings.Body (Some (slots.Keys key value left)) = omega arith
fields_short openings.New (Some (slots.Keys key value left)) = omega arith
fields_short openings.Old (Some (slots.Keys key value left)) = omega arith
fields_short openings.Body (Some (slots.Values key value left)) = omega arith
fields_short openings.New (Some (slots.Values key value left)) = omega arith
fields_short openings.Old (Some (slots.Values key value left)) = omega arith

stops_short : (opening : Opening) (top : Option Slot) → length (stop_lead opening top) ≤ 1
stops_short openings.Body None = omega arith
stops_short openings.New None = omega arith
stops_short openings.Old None = omega arith
stops_short openings.Body (Some (slots.Fields last)) = omega arith
stops_short openings.New (Some (slots.Fields last)) = omega arith
stops_short openings.Old (Some (slots.Fields last)) = omega arith
stops_short openings.Body (Some (slots.Value kind id)) = omega arith
stops_short openings.New (Some (slots.Value kind id)) = omega arith
stops_short openings.Old (Some (slots.Value kind id)) = omega arith
stops_short openings.Body (Some (slots.Elements kind left)) = omega arith
stops_short openings.New (Some (slots.Elements kind left)) = omega arith
stops_short openings.Old (Some (slots.Elements kind left)) = omega arith
stops_short openings.Body (Some (slots.Keys key value left)) = omega arith
stops_short openings.New (Some (slots.Keys key value left)) = omega arith
stops_short openings.Old (Some (slots.Keys key value left)) = omega arith
stops_short openings.Body (Some (slots.Values key value left)) = omega arith
stops_short openings.New (Some (slots.Values key value left)) = omega arith
stops_short openings.Old (Some (slots.Values key value left)) = omega arith

ends_short : (top : Option Slot) → length (end_lead top) ≤ 1
ends_short None = omega arith
ends_short (Some (slots.Fields last)) = omega arith
ends_short (Some (slots.Value kind id)) = omega arith
ends_short (Some (slots.Elements kind left)) = omega arith
ends_short (Some (slots.Keys key value left)) = omega arith
ends_short (Some (slots.Values key value left)) = omega arith

values_short : (opening : Opening) (top : Option Slot) → length (value_lead opening top) ≤ 2
values_short openings.Body None = omega arith
values_short openings.New None = omega arith
values_short openings.Old None = omega arith
values_short openings.Body (Some (slots.Fields last)) = omega arith
values_short openings.New (Some (slots.Fields last)) = omega arith
values_short openings.Old (Some (slots.Fields last)) = omega arith
values_short openings.Body (Some (slots.Value kind id)) = omega arith
values_short openings.New (Some (slots.Value kind id)) = omega arith
values_short openings.Old (Some (slots.Value kind id)) = omega arith
values_short openings.Body (Some (slots.Elements kind left)) = omega arith
values_short openings.New (Some (slots.Elements kind left)) = omega arith
values_short openings.Old (Some (slots.Elements kind left)) = omega arith
values_short openings.Body (Some (slots.Keys key value left)) = omega arith
values_short openings.New (Some (slots.Keys key value left)) = omega arith
values_short openings.Old (Some (slots.Keys key value left)) = omega arith
values_short openings.Body (Some (slots.Values key value left)) = omega arith
values_short openings.New (Some (slots.Values key value left)) = omega arith
values_short openings.Old (Some (slots.Values key value left)) = omega arith

-- ---- the items

kind_short : (kind : Kind) → length (kind_name kind) ≤ 3
kind_short kinds.Bool = omega arith
kind_short kinds.I8 = omega arith
kind_short kinds.I16 = omega arith
kind_short kinds.I32 = omega arith
kind_short kinds.I64 = omega arith
kind_short kinds.Double = omega arith
kind_short kinds.Str = omega arith
kind_short kinds.Struct = omega arith
kind_short kinds.Map = omega arith
kind_short kinds.Set = omega arith
kind_short kinds.List = omega arith
kind_short kinds.Uuid = omega arith

quoted_long : (word : List ℕ) → length (quoted word) ≡ length word + 2
quoted_long word = let e = length-append word (34 ∷ []) in omega arith

number_short : (key : Bool) (digits : List ℕ) → length (number key digits) ≤ length digits + 2
number_short true digits = omega (arith, quoted_long digits)
number_short false digits = omega arith

flag_long : (b : Bool) → length (flag b) ≤ 1
flag_long true = omega arith
flag_long false = omega arith

last_short : (b : Bool) → length {A = ℕ} (125 ∷ cond b (93 ∷ []) []) ≤ 2
last_short true = omega arith
last_short false = omega arith

field_short : (id : ℤ) (kind : Kind) → FitsSigned w16 id → length (field_spelling id kind) ≤ 15
field_short id kind fits =
    let digits : length (signed_decimal id) ≤ 6 = length_signed_le 5 id (omega (arith, fits.sfits)) (omega (arith, fits.sfits)) in
    let k = kind_short kind in
    let q = quoted_long (signed_decimal id) in
    let r = quoted_long (kind_name kind) in
    joined (quoted (signed_decimal id)) (58 ∷ 123 ∷ quoted (kind_name kind)) 8 7 15 (omega arith) (omega arith) (omega arith)

sequence_short : (kind : Kind) (size : ℕ) → size < 2 ^ 31 → length (sequence_spelling kind size) ≤ 17
sequence_short kind size fits =
    let digits : length (decimal size) ≤ 10 = length-decimal-le 10 size (omega arith) (omega arith) (omega arith) in
    let k = kind_short kind in
    let r = quoted_long (kind_name kind) in
    joined (91 ∷ quoted (kind_name kind)) (44 ∷ signed_decimal (pos size)) 6 11 17 (omega arith) (omega arith) (omega arith)

kinds_short : (key value : Kind) → length (kinds_spelling key value) ≤ 13
kinds_short key value =
    let k = kind_short key in
    let v = kind_short value in
    let q = quoted_long (kind_name key) in
    let r = quoted_long (kind_name value) in
    let both = joined (91 ∷ quoted (kind_name key)) (44 ∷ quoted (kind_name value)) 6 6 12 (omega arith) (omega arith) (omega arith) in
    joined ((91 ∷ quoted (kind_name key)) ++ (44 ∷ quoted (kind_name value))) (44 ∷ []) 12 1 13 both (omega arith) (omega arith)

map_short : (key value : Kind) (size : ℕ) → size < 2 ^ 31 → length (kinds_spelling key value ++ signed_decimal (pos size)) ≤ 23
map_short key value size fits =
    let digits : length (decimal size) ≤ 10 = length-decimal-le 10 size (omega arith) (omega arith) (omega arith) in
    joined (kinds_spelling key value) (signed_decimal (pos size)) 13 10 23 (kinds_short key value) (omega arith) (omega arith)

string_short : (bytes : List ℕ) (hint : Hint) → length (string_spelling bytes hint) ≤ 6 * length bytes + 2
string_short bytes hints.Text = text_long bytes
string_short bytes hints.Blob = omega (arith, blob_long bytes)
string_short bytes hints.Unknown = text_long bytes

number_light : (opening : Opening) (top : Option Slot) (key : Bool) (digits : List ℕ) (n : ℕ) → length digits ≤ n → length (value_lead opening top ++ number key digits) ≤ n + 4
number_light opening top key digits n h = joined (value_lead opening top) (number key digits) 2 (n + 2) (n + 4) (values_short opening top) (let s = number_short key digits in omega arith) (omega arith)

digits_8 : (n : ℤ) → FitsSigned w8 n → length (signed_decimal n) ≤ 4
digits_8 n fits = length_signed_le 3 n (omega (arith, fits.sfits)) (omega (arith, fits.sfits))

digits_16 : (n : ℤ) → FitsSigned w16 n → length (signed_decimal n) ≤ 6
digits_16 n fits = length_signed_le 5 n (omega (arith, fits.sfits)) (omega (arith, fits.sfits))

digits_32 : (n : ℤ) → FitsSigned w32 n → length (signed_decimal n) ≤ 11
digits_32 n fits = length_signed_le 10 n (omega (arith, fits.sfits)) (omega (arith, fits.sfits))

digits_64 : (n : ℤ) → FitsSigned w64 n → length (signed_decimal n) ≤ 20
digits_64 n fits = length_signed_le 19 n (omega (arith, fits.sfits)) (omega (arith, fits.sfits))

value_light : (w : Writer) (spelled : List ℕ) (n k : ℕ) → length spelled ≤ n → n + 2 ≤ k → length (value_lead w.opening (first_of w.nest) ++ spelled) ≤ k
value_light w spelled n k h m = joined (value_lead w.opening (first_of w.nest)) spelled 2 n k (values_short w.opening (first_of w.nest)) h (omega arith)

pub light : (w : Writer) (it : Item) (mark : Mark) → IsSized it → length (plain w it mark) ≤ weight it
light w (field id kind) mark sized = joined (field_lead w.opening (first_of w.nest)) (field_spelling id kind) 2 15 17 (fields_short w.opening (first_of w.nest)) (field_short id kind sized) (omega arith)
light w stop mark sized = joined (stop_lead w.opening (first_of w.nest)) (stop_spelling (length w.nest)) 1 2 3 (stops_short w.opening (first_of w.nest)) (last_short (length w.nest == 1)) (omega arith)
light w (bool_value b) mark sized = number_light w.opening (first_of w.nest) (is_key (first_of w.nest)) (flag b) 1 (flag_long b)
light w (i8_value n) mark sized = number_light w.opening (first_of w.nest) (is_key (first_of w.nest)) (signed_decimal n) 4 (digits_8 n sized)
light w (i16_value n) mark sized = number_light w.opening (first_of w.nest) (is_key (first_of w.nest)) (signed_decimal n) 6 (digits_16 n sized)
light w (i32_value n) mark sized = number_light w.opening (first_of w.nest) (is_key (first_of w.nest)) (signed_decimal n) 11 (digits_32 n sized)
light w (i64_value n) mark sized = number_light w.opening (first_of w.nest) (is_key (first_of w.nest)) (signed_decimal n) 20 (digits_64 n sized)
light w (double_value bytes) mark sized = omega arith
light w (text bytes) mark sized = value_light w (string_spelling bytes mark.hint) (6 * length bytes + 2) (6 * length bytes + 5) (string_short bytes mark.hint) (omega arith)
light w (number_text bytes) mark sized = omega arith
light w (unknown_text bytes) mark sized = omega arith
light w struct_begin mark sized = value_light w (123 ∷ []) 1 3 (omega arith) (omega arith)
light w empty_map mark sized = value_light w (kinds_spelling mark.key mark.value ++ 48 ∷ 44 ∷ 123 ∷ 125 ∷ 93 ∷ []) 18 20 (joined (kinds_spelling mark.key mark.value) (48 ∷ 44 ∷ 123 ∷ 125 ∷ 93 ∷ []) 13 5 18 (kinds_short mark.key mark.value) (omega arith) (omega arith)) (omega arith)
light w (map_begin key value size) mark sized = value_light w (kinds_spelling key value ++ signed_decimal (pos size)) 23 25 (map_short key value size sized.1) (omega arith)
light w (set_begin kind size) mark sized = value_light w (sequence_spelling kind size) 17 19 (sequence_short kind size sized) (omega arith)
light w (list_begin kind size) mark sized = value_light w (sequence_spelling kind size) 17 19 (sequence_short kind size sized) (omega arith)
light w end mark sized = joined (end_lead (first_of w.nest)) (93 ∷ []) 1 1 2 (ends_short (first_of w.nest)) (omega arith) (omega arith)
light w (uuid_value bytes) mark sized = omega arith

digit_long : (mtype : MessageType) → length (type_digit mtype) ≡ 1
digit_long types.Call = refl
digit_long types.Reply = refl
digit_long types.Exception = refl
digit_long types.Oneway = refl

pub light_head : (h : Header) → FitsSigned w32 h.seq → length (plain_head h) ≤ head_weight (length h.name)
light_head h fits =
    let digits : length (signed_decimal h.seq) ≤ 11 = digits_32 h.seq fits in
    let t = text_long h.name in
    let d = digit_long h.mtype in
    let named : ℕ = 6 * length h.name + 5 in
    let first = joined (91 ∷ 49 ∷ 44 ∷ text_spelling h.name) (44 ∷ type_digit h.mtype) named 2 (named + 2) (omega arith) (omega arith) (omega arith) in
    let second = joined ((91 ∷ 49 ∷ 44 ∷ text_spelling h.name) ++ (44 ∷ type_digit h.mtype)) (44 ∷ signed_decimal h.seq) (named + 2) 12 (named + 14) first (omega arith) (omega arith) in
    joined ((91 ∷ 49 ∷ 44 ∷ text_spelling h.name) ++ (44 ∷ type_digit h.mtype) ++ (44 ∷ signed_decimal h.seq)) (44 ∷ []) (named + 14) 1 (6 * length h.name + 21) second (omega arith) (omega arith)
