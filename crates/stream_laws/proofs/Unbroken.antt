-- No plain spelling of JSON has an LF in it, and each begins with a bracket.
use Rattle.std.proofs.Common.{◌≡◌, ℕ, ℤ, zero, suc, pos, negsuc, ◌+◌, ◌*◌, ◌/◌, ◌%◌, ◌<◌, ◌≤◌, ◌==◌, not, nat_lt, if◌then◌else◌, cond, Bool, true, false, List, [], ◌∷◌, ◌++◌, length, get_or, Option, None, Some, arith, refl, sym, ◌∙◌, ap, subst, length-append}
use Rattle.std.specs.Prelude.{slice_index}
use Rattle.std.specs.List.{prefix_len, flat_map, All}
use Rattle.std.specs.Char.{digit_char}
use Rattle.std.specs.Fmt.{decimal, signed_decimal, digits, digits_onto, digit_glyph}
use Rattle.std.proofs.lemmas.Bool.Decides.{nat_tests}
use Rattle.std.proofs.lemmas.List.Elements.{All-nil, All-cons, All-head, All-tail}
use Rattle.std.proofs.lemmas.List.Sums.{prefix_len-le-length}
use Rattle.std.proofs.Common.{inl, inr}
use Rattle.base64.specs.Rfc4648.{encode_symbols, encode_group}
use Rattle.thrift_value.specs.declared.kind.Kind.{Kind}
use Rattle.thrift_value.specs.declared.kind.Kind.TheVariants as kinds
use Rattle.thrift_value.specs.declared.kind.MessageType.{MessageType}
use Rattle.thrift_value.specs.declared.kind.MessageType.TheVariants as types
use Rattle.thrift_value.specs.Items.{Item, field, stop, bool_value, i8_value, i16_value, i32_value, i64_value, double_value, text, number_text, unknown_text, struct_begin, empty_map, map_begin, set_begin, list_begin, end, uuid_value}
use Rattle.thrift_value.specs.Trees.{Message, items_of_members}
use Rattle.protocol_traits.specs.declared.nest.Slot.{Slot}
use Rattle.protocol_traits.specs.declared.nest.Slot.TheVariants as slots
use Rattle.protocol_traits.specs.declared.proto.Hint.{Hint}
use Rattle.protocol_traits.specs.declared.proto.Hint.TheVariants as hints
use Rattle.protocol_traits.specs.declared.proto.Mark.{Mark}
use Rattle.protocol_traits.specs.declared.proto.Proto.{Proto}
use Rattle.protocol_traits.specs.declared.proto.Proto.TheVariants as protocols
use Rattle.protocol_traits.specs.Heads.{Header}
use Rattle.protocol_traits.specs.Stack.{first_of}
use Rattle.json_text.specs.Blob.{symbols_of, blob_spelling}
use Rattle.json_text.specs.Grammar.{alphabet}
use Rattle.json_text.specs.Scan.{is_white}
use Rattle.json_text.specs.Plain.{two, byte_spelling, pieces_spelling, text_spelling}
use Rattle.json_text_laws.proofs.Base64.{encoded_is}
use Rattle.json_protocol.specs.Writing.{Writer, begun, after, quoted, kind_name, flag, number, field_lead, stop_lead, end_lead, value_lead, lead, is_key, string_spelling, field_spelling, sequence_spelling, kinds_spelling, spelling, plain, type_digit, plain_head}
use Rattle.json_protocol.specs.declared.opening.Opening.{Opening}
use Rattle.json_protocol.specs.declared.opening.Opening.TheVariants as openings
use Rattle.type_tables.specs.Declarations.{Declarations}
use Rattle.translate_verdicts.specs.declared.route.Route.{Route}
use Rattle.translate_verdicts.specs.declared.route.Route.TheVariants.{ByName}
use Rattle.translate_core.specs.Answers.{marked, spelled}
use Rattle.translate_verdicts.specs.Routes.{start_of}
use Rattle.binary_laws.specs.Reads.{header_of_message}
use Rattle.protocol_pairs.specs.Pairs.{json_target}
use Rattle.verdict_laws.specs.Spellings.{plain_of}
use Rattle.verdict_laws.specs.Rounds.{plain_in}
use Rattle.line_transport.specs.Cuts.{sent, CutsAll, IsMessage}
use Rattle.line_transport.specs.Lines.{is_inner, line_length, is_blank, ended}
use Rattle.line_transport.specs.declared.transport.Transport.TheVariants.{Lines}
use Rattle.line_transport.proofs.Searching.{behind_line}
use Rattle.line_transport.proofs.Spanning.{cut_back}
use Rattle.gate_streams.specs.Terms.{Terms}
use Rattle.stream_laws.specs.Streams.{Gives, GiveAll, AreCarried, IsCutBack}

-- no LF stands in these bytes
abbrev pub Unbroken : List ℕ → Type 0
Unbroken bytes = line_length bytes ≡ length bytes

none : Unbroken []
unfolding line_length
none = refl

one_more : (b : ℕ) (bytes : List ℕ) → is_inner b ≡ true → Unbroken bytes → Unbroken (b ∷ bytes)
unfolding line_length
one_more b bytes e u = ap (λ t. cond t (1 + prefix_len is_inner bytes) 0) e ∙ omega (arith, u)

both : (a b : List ℕ) → Unbroken a → Unbroken b → Unbroken (a ++ b)
both a b p q = behind_line a b p ∙ (ap (λ n. length a + n) q ∙ sym (length-append a b))

either : (P : List ℕ → Type 0) (b : Bool) (x y : List ℕ) → P x → P y → P (if b then x else y)
either P true x y p q = p
either P false x y p q = q

unless : (b : Bool) (x y : List ℕ) → Unbroken x → (b ≡ false → Unbroken y) → Unbroken (if b then x else y)
unless true x y p q = p
unless false x y p q = q refl

large : (b : ℕ) → 10 < b → is_inner b ≡ true
large b h = grind (arith, nat_tests)

-- ---- digits

glyph_by : (d : ℕ) (b : Bool) (x : ℕ) → 10 < x → is_inner (if b then 48 + d else x) ≡ true
glyph_by d true x h = large (48 + d) (omega arith)
glyph_by d false x h = large x h

letter_by : (d : ℕ) (b : Bool) → 10 < (if b then 55 + d else 87 + d)
letter_by d true = omega arith
letter_by d false = omega arith

glyph : (upper : Bool) (d : ℕ) → is_inner (digit_glyph upper d) ≡ true
glyph upper d = glyph_by d (nat_lt d 10) (if upper then 55 + d else 87 + d) (letter_by d upper)

onto : (k base : ℕ) (upper : Bool) (n : ℕ) (bytes : List ℕ) → Unbroken bytes → Unbroken (digits_onto k base upper n bytes)
onto zero base upper n bytes u = u
onto (suc k) base upper n bytes u =
    let more : Unbroken (digit_glyph upper (n % base) ∷ bytes) = one_more (digit_glyph upper (n % base)) bytes (glyph upper (n % base)) u in
    either Unbroken (n / base == 0) (digit_glyph upper (n % base) ∷ bytes) (digits_onto k base upper (n / base) (digit_glyph upper (n % base) ∷ bytes)) more
    (onto k base upper (n / base) (digit_glyph upper (n % base) ∷ bytes) more)

decimal_is : (n : ℕ) → Unbroken (decimal n)
unfolding digits
decimal_is n = onto 64 10 false n [] none

signed_is : (z : ℤ) → Unbroken (signed_decimal z)
signed_is (pos n) = decimal_is n
signed_is (negsuc n) = one_more 45 (decimal (suc n)) refl (decimal_is (suc n))

-- ---- texts

hex : (d : ℕ) (b : Bool) → is_inner (cond b (48 + d) (87 + d)) ≡ true
hex d true = large (48 + d) (omega arith)
hex d false = large (87 + d) (omega arith)

two_is : (a b : ℕ) → is_inner a ≡ true → is_inner b ≡ true → Unbroken (two a b)
two_is a b p q = one_more a (b ∷ []) p (one_more b [] q none)

escaped : (x : ℕ) → Unbroken (92 ∷ 117 ∷ 48 ∷ 48 ∷ digit_char (x / 16) ∷ digit_char (x % 16) ∷ [])
escaped x =
    one_more 92 _ refl (one_more 117 _ refl (one_more 48 _ refl (one_more 48 _ refl
    (two_is (digit_char (x / 16)) (digit_char (x % 16)) (hex (x / 16) (nat_lt (x / 16) 10)) (hex (x % 16) (nat_lt (x % 16) 10))))))

byte_is : (x : ℕ) → Unbroken (byte_spelling x)
unfolding byte_spelling
byte_is x =
    unless (x == 34) (two 92 34) _ (two_is 92 34 refl refl) (λ p.
    unless (x == 92) (two 92 92) _ (two_is 92 92 refl refl) (λ q.
    unless (x == 8) (two 92 98) _ (two_is 92 98 refl refl) (λ r.
    unless (x == 12) (two 92 102) _ (two_is 92 102 refl refl) (λ s.
    unless (x == 10) (two 92 110) _ (two_is 92 110 refl refl) (λ feed.
    unless (x == 13) (two 92 114) _ (two_is 92 114 refl refl) (λ t.
    unless (x == 9) (two 92 116) _ (two_is 92 116 refl refl) (λ u.
    unless (nat_lt x 32) _ (x ∷ []) (escaped x) (λ v. one_more x [] (ap not feed) none))))))))

pieces_are : (bytes : List ℕ) → Unbroken (pieces_spelling bytes)
unfolding pieces_spelling
pieces_are [] = none
pieces_are (x ∷ xs) = both (byte_spelling x) (pieces_spelling xs) (byte_is x) (pieces_are xs)

quoted_is : (word : List ℕ) → Unbroken word → Unbroken (quoted word)
quoted_is word u = one_more 34 (word ++ 34 ∷ []) refl (both word (34 ∷ []) u (one_more 34 [] refl none))

text_is : (bytes : List ℕ) → Unbroken (text_spelling bytes)
unfolding text_spelling
text_is bytes = quoted_is (pieces_spelling bytes) (pieces_are bytes)

-- ---- base64

abbrev Inner : List ℕ → Type 0
Inner [] = Unit {0}
Inner (x ∷ xs) = (is_inner x ≡ true) × Inner xs

inner_by : (b : Bool) (m n : ℕ) → m ≤ n → cond b (1 + m) 0 ≡ suc n → (b ≡ true) × (m ≡ n)
inner_by true m n within e = (refl, omega (arith, e))
inner_by false m n within e = absurd (omega (arith, e))

at : (xs : List ℕ) (i : ℕ) → Inner xs → is_inner (get_or xs i 0) ≡ true
at [] i h = refl
at (x ∷ xs) zero h = h.0
at (x ∷ xs) (suc i) h = at xs i h.1

inner_of : (xs : List ℕ) → Unbroken xs → Inner xs
unfolding line_length
inner_of [] u = tt
inner_of (x ∷ xs) u = (let parts = inner_by (is_inner x) (prefix_len is_inner xs) (length xs) (prefix_len-le-length is_inner xs) u in (parts.0, inner_of xs parts.1))

alphabet_is : Unbroken alphabet
unfolding line_length
alphabet_is = refl

symbol : (i : ℕ) → is_inner (slice_index alphabet i) ≡ true
symbol i = at alphabet i (inner_of alphabet alphabet_is)

symbols_are : (bytes : List ℕ) → Unbroken (encode_symbols alphabet bytes)
unfolding encode_symbols
symbols_are [] = none
symbols_are (a ∷ []) = one_more _ _ (symbol (a / 4)) (one_more _ [] (symbol (a % 4 * 16)) none)
symbols_are (a ∷ b ∷ []) = one_more _ _ (symbol (a / 4)) (one_more _ _ (symbol (a % 4 * 16 + b / 16)) (one_more _ [] (symbol (b % 16 * 4)) none))
symbols_are (a ∷ b ∷ c ∷ rest) =
    both (encode_group alphabet a b c) (encode_symbols alphabet rest)
    (one_more _ _ (symbol (a / 4)) (one_more _ _ (symbol (a % 4 * 16 + b / 16)) (one_more _ _ (symbol (b % 16 * 4 + c / 64)) (one_more _ [] (symbol (c % 64)) none))))
    (symbols_are rest)

blob_is : (bytes : List ℕ) → Unbroken (blob_spelling bytes)
unfolding blob_spelling symbols_of
blob_is bytes = quoted_is (symbols_of bytes) (subst Unbroken (sym (encoded_is bytes)) (symbols_are bytes))

-- ---- an item

kind_is : (kind : Kind) → Unbroken (kind_name kind)
unfolding line_length
kind_is kinds.Bool = refl
kind_is kinds.I8 = refl
kind_is kinds.I16 = refl
kind_is kinds.I32 = refl
kind_is kinds.I64 = refl
kind_is kinds.Double = refl
kind_is kinds.Str = refl
kind_is kinds.Struct = refl
kind_is kinds.Map = refl
kind_is kinds.Set = refl
kind_is kinds.List = refl
kind_is kinds.Uuid = refl

flag_is : (b : Bool) → Unbroken (flag b)
unfolding line_length
flag_is true = refl
flag_is false = refl

number_is : (key : Bool) (digits : List ℕ) → Unbroken digits → Unbroken (number key digits)
number_is true digits u = quoted_is digits u
number_is false digits u = u

string_is : (bytes : List ℕ) (hint : Hint) → Unbroken (string_spelling bytes hint)
string_is bytes hints.Blob = blob_is bytes
string_is bytes hints.Text = text_is bytes
string_is bytes hints.Unknown = text_is bytes

field_is : (id : ℤ) (kind : Kind) → Unbroken (field_spelling id kind)
field_is id kind =
    both (quoted (signed_decimal id)) (58 ∷ 123 ∷ quoted (kind_name kind)) (quoted_is (signed_decimal id) (signed_is id))
    (one_more 58 _ refl (one_more 123 _ refl (quoted_is (kind_name kind) (kind_is kind))))

stop_by : (b : Bool) → Unbroken (125 ∷ (if b then 93 ∷ [] else []))
unfolding line_length
stop_by true = refl
stop_by false = refl

kinds_are : (key value : Kind) → Unbroken (kinds_spelling key value)
kinds_are key value =
    let first : Unbroken (91 ∷ quoted (kind_name key)) = one_more 91 (quoted (kind_name key)) refl (quoted_is (kind_name key) (kind_is key)) in
    let second : Unbroken (44 ∷ quoted (kind_name value)) = one_more 44 (quoted (kind_name value)) refl (quoted_is (kind_name value) (kind_is value)) in
    both ((91 ∷ quoted (kind_name key)) ++ (44 ∷ quoted (kind_name value))) (44 ∷ []) (both (91 ∷ quoted (kind_name key)) (44 ∷ quoted (kind_name value)) first second) (one_more 44 [] refl none)

sequence_is : (kind : Kind) (size : ℕ) → Unbroken (sequence_spelling kind size)
sequence_is kind size = one_more 91 _ refl (both (quoted (kind_name kind)) _ (quoted_is (kind_name kind) (kind_is kind)) (one_more 44 _ refl (signed_is (pos size))))

empty_is : Unbroken (48 ∷ 44 ∷ 123 ∷ 125 ∷ 93 ∷ [])
unfolding line_length
empty_is = refl

spelling_is : (depth : ℕ) (key : Bool) (item : Item) (mark : Mark) → Unbroken (spelling depth key item mark)
spelling_is depth key (field id kind) mark = field_is id kind
spelling_is depth key stop mark = stop_by (depth == 1)
spelling_is depth key (bool_value b) mark = number_is key (flag b) (flag_is b)
spelling_is depth key (i8_value n) mark = number_is key (signed_decimal n) (signed_is n)
spelling_is depth key (i16_value n) mark = number_is key (signed_decimal n) (signed_is n)
spelling_is depth key (i32_value n) mark = number_is key (signed_decimal n) (signed_is n)
spelling_is depth key (i64_value n) mark = number_is key (signed_decimal n) (signed_is n)
spelling_is depth key (text bytes) mark = string_is bytes mark.hint
spelling_is depth key struct_begin mark = one_more 123 [] refl none
spelling_is depth key empty_map mark = both (kinds_spelling mark.key mark.value) _ (kinds_are mark.key mark.value) empty_is
spelling_is depth key (map_begin from value size) mark = both (kinds_spelling from value) _ (kinds_are from value) (signed_is (pos size))
spelling_is depth key (set_begin kind size) mark = sequence_is kind size
spelling_is depth key (list_begin kind size) mark = sequence_is kind size
spelling_is depth key end mark = one_more 93 [] refl none
spelling_is depth key (double_value bytes) mark = none
spelling_is depth key (number_text bytes) mark = none
spelling_is depth key (unknown_text bytes) mark = none
spelling_is depth key (uuid_value bytes) mark = none

-- ---- the marks before it

field_lead_is : (o : Opening) (top : Option Slot) → Unbroken (field_lead o top)
unfolding line_length
field_lead_is openings.Body (Some (slots.Fields last)) = refl
field_lead_is openings.Body (Some (slots.Value kind id)) = refl
field_lead_is openings.Body (Some (slots.Elements kind left)) = refl
field_lead_is openings.Body (Some (slots.Keys key value left)) = refl
field_lead_is openings.Body (Some (slots.Values key value left)) = refl
field_lead_is openings.Body None = refl
field_lead_is openings.Old (Some (slots.Fields last)) = refl
field_lead_is openings.Old (Some (slots.Value kind id)) = refl
field_lead_is openings.Old (Some (slots.Elements kind left)) = refl
field_lead_is openings.Old (Some (slots.Keys key value left)) = refl
field_lead_is openings.Old (Some (slots.Values key value left)) = refl
field_lead_is openings.Old None = refl
field_lead_is openings.New (Some (slots.Fields last)) = refl
field_lead_is openings.New (Some (slots.Value kind id)) = refl
field_lead_is openings.New (Some (slots.Elements kind left)) = refl
field_lead_is openings.New (Some (slots.Keys key value left)) = refl
field_lead_is openings.New (Some (slots.Values key value left)) = refl
field_lead_is openings.New None = refl

stop_lead_is : (o : Opening) (top : Option Slot) → Unbroken (stop_lead o top)
unfolding line_length
stop_lead_is openings.Body (Some (slots.Fields last)) = refl
stop_lead_is openings.Body (Some (slots.Value kind id)) = refl
stop_lead_is openings.Body (Some (slots.Elements kind left)) = refl
stop_lead_is openings.Body (Some (slots.Keys key value left)) = refl
stop_lead_is openings.Body (Some (slots.Values key value left)) = refl
stop_lead_is openings.Body None = refl
stop_lead_is openings.Old (Some (slots.Fields last)) = refl
stop_lead_is openings.Old (Some (slots.Value kind id)) = refl
stop_lead_is openings.Old (Some (slots.Elements kind left)) = refl
stop_lead_is openings.Old (Some (slots.Keys key value left)) = refl
stop_lead_is openings.Old (Some (slots.Values key value left)) = refl
stop_lead_is openings.Old None = refl
stop_lead_is openings.New (Some (slots.Fields last)) = refl
stop_lead_is openings.New (Some (slots.Value kind id)) = refl
stop_lead_is openings.New (Some (slots.Elements kind left)) = refl
stop_lead_is openings.New (Some (slots.Keys key value left)) = refl
stop_lead_is openings.New (Some (slots.Values key value left)) = refl
stop_lead_is openings.New None = refl

end_lead_is : (top : Option Slot) → Unbroken (end_lead top)
unfolding line_length
end_lead_is (Some (slots.Fields last)) = refl
end_lead_is (Some (slots.Value kind id)) = refl
end_lead_is (Some (slots.Elements kind left)) = refl
end_lead_is (Some (slots.Keys key value left)) = refl
end_lead_is (Some (slots.Values key value left)) = refl
end_lead_is None = refl

value_lead_is : (o : Opening) (top : Option Slot) → Unbroken (value_lead o top)
unfolding line_length
value_lead_is openings.Body (Some (slots.Fields last)) = refl
value_lead_is openings.Body (Some (slots.Value kind id)) = refl
value_lead_is openings.Body (Some (slots.Elements kind left)) = refl
value_lead_is openings.Body (Some (slots.Keys key value left)) = refl
value_lead_is openings.Body (Some (slots.Values key value left)) = refl
value_lead_is openings.Body None = refl
value_lead_is openings.Old (Some (slots.Fields last)) = refl
value_lead_is openings.Old (Some (slots.Value kind id)) = refl
value_lead_is openings.Old (Some (slots.Elements kind left)) = refl
value_lead_is openings.Old (Some (slots.Keys key value left)) = refl
value_lead_is openings.Old (Some (slots.Values key value left)) = refl
value_lead_is openings.Old None = refl
value_lead_is openings.New (Some (slots.Fields last)) = refl
value_lead_is openings.New (Some (slots.Value kind id)) = refl
value_lead_is openings.New (Some (slots.Elements kind left)) = refl
value_lead_is openings.New (Some (slots.Keys key value left)) = refl
value_lead_is openings.New (Some (slots.Values key value left)) = refl
value_lead_is openings.New None = refl

lead_is : (o : Opening) (top : Option Slot) (item : Item) → Unbroken (lead o top item)
lead_is o top (field id kind) = field_lead_is o top
lead_is o top stop = stop_lead_is o top
lead_is o top end = end_lead_is top
lead_is o top (double_value bytes) = none
lead_is o top (number_text bytes) = none
lead_is o top (unknown_text bytes) = none
lead_is o top (uuid_value bytes) = none
lead_is o top (bool_value b) = value_lead_is o top
lead_is o top (i8_value n) = value_lead_is o top
lead_is o top (i16_value n) = value_lead_is o top
lead_is o top (i32_value n) = value_lead_is o top
lead_is o top (i64_value n) = value_lead_is o top
lead_is o top (text bytes) = value_lead_is o top
lead_is o top struct_begin = value_lead_is o top
lead_is o top empty_map = value_lead_is o top
lead_is o top (map_begin from value size) = value_lead_is o top
lead_is o top (set_begin kind size) = value_lead_is o top
lead_is o top (list_begin kind size) = value_lead_is o top

-- ---- a message

item_is : (w : Writer) (item : Item) (mark : Mark) → Unbroken (plain w item mark)
item_is w item mark =
    both (lead w.opening (first_of w.nest) item) (spelling (length w.nest) (is_key (first_of w.nest)) item mark) (lead_is w.opening (first_of w.nest) item)
    (spelling_is (length w.nest) (is_key (first_of w.nest)) item mark)

items_are : (w : Writer) (items : List (Item × Mark)) → Unbroken (spelled plain after w items)
items_are w [] = none
items_are w (x ∷ xs) = both (plain w x.0 x.1) (spelled plain after (after w x.0 x.1) xs) (item_is w x.0 x.1) (items_are (after w x.0 x.1) xs)

digit_is : (t : MessageType) → Unbroken (type_digit t)
unfolding line_length
digit_is types.Call = refl
digit_is types.Reply = refl
digit_is types.Exception = refl
digit_is types.Oneway = refl

head_is : (h : Header) → Unbroken (plain_head h)
head_is h =
    let name : Unbroken (91 ∷ 49 ∷ 44 ∷ text_spelling h.name) = one_more 91 _ refl (one_more 49 _ refl (one_more 44 _ refl (text_is h.name))) in
    let digit : Unbroken (44 ∷ type_digit h.mtype) = one_more 44 _ refl (digit_is h.mtype) in
    let number : Unbroken (44 ∷ signed_decimal h.seq) = one_more 44 _ refl (signed_is h.seq) in
    let first = both (91 ∷ 49 ∷ 44 ∷ text_spelling h.name) (44 ∷ type_digit h.mtype) name digit in
    let second = both ((91 ∷ 49 ∷ 44 ∷ text_spelling h.name) ++ (44 ∷ type_digit h.mtype)) (44 ∷ signed_decimal h.seq) first number in
    both (((91 ∷ 49 ∷ 44 ∷ text_spelling h.name) ++ (44 ∷ type_digit h.mtype)) ++ (44 ∷ signed_decimal h.seq)) (44 ∷ []) second (one_more 44 [] refl none)

-- no LF stands in the plain spelling of a message
pub plain_unbroken : (d : Declarations) (route : Route) (m : Message) → Unbroken (plain_of json_target d route m)
plain_unbroken d route m =
    both (plain_head (header_of_message m)) (spelled plain after begun (marked (start_of d route (header_of_message m)) (items_of_members m.body))) (head_is (header_of_message m))
    (items_are begun (marked (start_of d route (header_of_message m)) (items_of_members m.body)))

-- and it is not blank
not_same : (m n : ℕ) → m ≡ 0 → 1 ≤ n → (m == n) ≡ false
not_same m n none some = grind (arith, nat_tests)

not_blank : (bytes : List ℕ) → is_blank (91 ∷ bytes) ≡ false
unfolding is_blank
not_blank bytes = not_same (prefix_len is_white (91 ∷ bytes)) (length (91 ∷ bytes)) refl (omega arith)

pub plain_counts : (d : Declarations) (route : Route) (m : Message) → is_blank (plain_of json_target d route m) ≡ false
plain_counts d route m = not_blank _

-- ---- lines that were written

-- a line that is a message, whatever its length
abbrev Counts : List ℕ → Type 0
Counts line = Unbroken line × (is_blank line ≡ false)

record AreLines (k : Terms) (from : Proto) (frames : List (List ℕ)) (out : List ℕ) : Type 0 where
  plains : List (List ℕ)
  carried : AreCarried k from protocols.Json frames plains
  out_is : out ≡ flat_map (sent k.output) plains
  each : All Counts plains

more_lines : (k : Terms) (from : Proto) (frame : List ℕ) (frames : List (List ℕ)) (out first rest : List ℕ) → Gives k from protocols.Json frame first → out ≡ first ++ rest → AreLines k from frames rest → AreLines k from (frame ∷ frames) out
more_lines k from frame frames out first rest (inl (m, carries, e)) o r =
    let plain = plain_in protocols.Json k.declarations (ByName k.service) m in
    record {
      plains = plain ∷ r.plains;
      carried = inl (m, r.plains, carries, r.carried, refl);
      out_is = o ∙ (ap (λ l. l ++ rest) e ∙ ap (λ l. sent k.output plain ++ l) r.out_is);
      each = All-cons Counts plain r.plains (plain_unbroken k.declarations (ByName k.service) m, plain_counts k.declarations (ByName k.service) m) r.each;
    }
more_lines k from frame frames out first rest (inr (no_message, e)) o r =
    record { plains = r.plains; carried = inr (no_message, r.carried); out_is = o ∙ (ap (λ l. l ++ rest) e ∙ r.out_is); each = r.each }

all_lines : (k : Terms) (from : Proto) (frames : List (List ℕ)) (out : List ℕ) → GiveAll k from protocols.Json frames out → AreLines k from frames out
all_lines k from [] out e = record { plains = []; carried = refl; out_is = e; each = All-nil Counts }
all_lines k from (frame ∷ frames) out (first, rest, gives, all, e) = more_lines k from frame frames out first rest gives e (all_lines k from frames rest all)

fitting : (limit : ℕ) (lines : List (List ℕ)) → All Counts lines → All (λ line. length line ≤ limit) lines → All (IsMessage limit) lines
fitting limit [] each fit = All-nil (IsMessage limit)
fitting limit (x ∷ xs) each fit =
    let one = All-head Counts x xs each in
    All-cons (IsMessage limit) x xs (record { within = All-head (λ line. length line ≤ limit) x xs fit; unbroken = one.0 }, one.1)
    (fitting limit xs (All-tail Counts x xs each) (All-tail (λ line. length line ≤ limit) x xs fit))

pub lines_cut_back : (k : Terms) (from : Proto) (frames : List (List ℕ)) (out : List ℕ) → k.output ≡ Lines → GiveAll k from protocols.Json frames out → IsCutBack k from frames out
lines_cut_back k from frames out lines gives =
    let r = all_lines k from frames out gives in
    let whole : flat_map ended r.plains ≡ out = sym (r.out_is ∙ ap (λ t. flat_map (sent t) r.plains) lines) in
    record {
      plains = r.plains;
      carried = r.carried;
      cut = λ limit fit. subst (λ (l : List ℕ). CutsAll Lines limit l r.plains) whole (cut_back limit r.plains (fitting limit r.plains r.each fit));
    }
