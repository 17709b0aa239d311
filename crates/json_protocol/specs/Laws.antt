-- What holds of each item that is read, whatever the bytes.
-- Nothing here has to be believed: these are lemmas on the definitions of Reading, Values and Writing, each with its proof.
use Rattle.std.proofs.Common.{◌≡◌, ℕ, ℤ, zero, suc, ◌+◌, ◌-◌, ◌*◌, ◌<◌, ◌≤◌, ◌^◌, ◌≤ℤ◌, Bool, true, false, cond, List, [], ◌∷◌, length, drop, Option, Some, None, Ok, Err, refl, sym, ap, subst, arith, length-drop, length-take, add-zero}
use Rattle.std.specs.Prelude.{⊤, nat_lt, nat_le, slice_index, ◌==◌, ◌&&◌, IfOk, pos, negsuc, int_lt, FitsSigned}
use Rattle.std.specs.Int.{w8, w16, w32, w64}
use Rattle.std.proofs.lemmas.Bool.{cond_both}
use Rattle.std.proofs.lemmas.Bool.Decides.{nat_tests}
use Rattle.std.proofs.lemmas.List.Sums.{prefix_len-le-length}
use Rattle.thrift_value.specs.declared.kind.Kind.{Kind}
use Rattle.thrift_value.specs.declared.kind.Kind.TheVariants as kinds
use Rattle.thrift_value.specs.declared.kind.MessageType.{MessageType}
use Rattle.thrift_value.specs.Items.{Item, field, stop, bool_value, i8_value, i16_value, i32_value, i64_value, double_value, text, number_text, unknown_text, struct_begin, empty_map, map_begin, set_begin, list_begin, end, uuid_value}
use Rattle.protocol_traits.specs.declared.fault.Fault.{Fault}
use Rattle.protocol_traits.specs.declared.fault.Reason.{Reason}
use Rattle.protocol_traits.specs.declared.fault.Reason.TheVariants as reasons
use Rattle.protocol_traits.specs.declared.proto.Hint.{Hint}
use Rattle.protocol_traits.specs.declared.proto.Hint.TheVariants as hints
use Rattle.protocol_traits.specs.declared.nest.Slot.{Slot}
use Rattle.protocol_traits.specs.declared.nest.Slot.TheVariants as slots
use Rattle.protocol_traits.specs.Stack.{first_of, rest_of}
use Rattle.protocol_traits.specs.Follow.{after, spent, depth_after}
use Rattle.protocol_traits.specs.Heads.{Header}
use Rattle.protocol_traits.specs.Room.{weight, head_weight, IsSized}
use Rattle.json_text.specs.declared.scanned.Scan.{Scan as Text}
use Rattle.json_text.specs.declared.scanned.Scan.TheVariants.{Whole, Short, Bad}
use Rattle.json_text.specs.Scan as words
use Rattle.json_text.specs.Scan.{is_white}
use Rattle.json_text.specs.Int.{int_at, IsBetween}
use Rattle.json_text.specs.Number.{number_at}
use Rattle.json_text.specs.Text.{text_at}
use Rattle.json_text.specs.Blob.{blob_at}
use Rattle.json_text.specs.Laws.{Takes, int_takes, StringFits, text_fits}
use Rattle.json_text.specs.Lengths.{int_between, NumberFits, number_fits, BlobFits, blob_fits}
use Rattle.json_protocol.specs.declared.opening.Opening.{Opening}
use Rattle.json_protocol.specs.declared.opening.Opening.TheVariants as openings
use Rattle.json_protocol.specs.Scan.{Scan, fault, shifted, ◌>>=◌, item, gap, further, mark_at, byte_fits, word_end}
use Rattle.json_protocol.specs.Words.{begins_two, begins_three, large_kind_at, wide_kind_at, kind_at, int_in, closed, quoted_int_in, whole_in, infinity_fits, spelled, number_in, quoted_number_in, double_in, text_in, blob_in, string_in}
use Rattle.json_protocol.specs.Values.{i16_low, field_at, first_at, next_at, bool_at, i8_at, i16_at, i32_at, i64_at, double_at, struct_at, size_of, size_in, sequence_at, list_at, set_at, map_head_at, no_pairs_at, map_then, map_at, end_at, value_at, value_in}
use Rattle.json_protocol.specs.Reading.{State, begun, rest, ahead, lead_by, lead_pairs, lead_fields, lead_key, lead_at, fields_at, item_in, begun_at, led, scan_at, opening_after, moved, reads}
use Rattle.json_protocol.specs.Head.{front_at, back_at, head_at, headed, reads_head}

-- ---- a scan takes at least one byte, and no more than there are

abbrev pub Takes1 : {X : Type 0} → ℕ → Scan X → Type 0
Takes1 size (Ok x) = (1 ≤ x.1) × (x.1 ≤ size)
Takes1 size (Err f) = ⊤

bind_takes : {X Y : Type 0} → (size : ℕ) (scan : Scan X) (go : X × ℕ → Scan Y) → Takes1 size scan → ((x : X × ℕ) → 1 ≤ x.1 → x.1 ≤ size → Takes1 size (go x)) → Takes1 size (scan >>= go)
bind_takes size (Ok x) go t h = h x t.0 t.1
bind_takes size (Err f) go t h = tt

shift_takes : {X : Type 0} → (at size : ℕ) (scan : Scan X) → at ≤ size → Takes1 (size - at) scan → Takes1 size (shifted at scan)
shift_takes at size (Ok x) most t = (omega (arith, t.0), omega (arith, t.1))
shift_takes at size (Err f) most t = tt

gap_most : (n : ℕ) (bytes : List ℕ) → n ≤ length bytes → n + gap (drop n bytes) ≤ length bytes
gap_most n bytes most = let e = prefix_len-le-length is_white (drop n bytes) in omega (arith, length-drop n bytes)

further_takes : {X : Type 0} → (n : ℕ) (scan : List ℕ → Scan X) (bytes : List ℕ) → n ≤ length bytes → ((r : List ℕ) → Takes1 (length r) (scan r)) → Takes1 (length bytes) (further n scan bytes)
further_takes n scan bytes most h =
    let at = n + gap (drop n bytes) in
    let e : length (drop at bytes) ≡ length bytes - at = length-drop at bytes in
    shift_takes at (length bytes) (scan (drop at bytes)) (gap_most n bytes most) (subst (λ k. Takes1 k (scan (drop at bytes))) e (h (drop at bytes)))

mark_takes : (mark : ℕ) (bytes : List ℕ) → Takes1 (length bytes) (mark_at mark bytes)
unfolding mark_at
mark_takes mark bytes = grind (arith, nat_tests)

word_takes : {X : Type 0} → (bytes : List ℕ) (size : ℕ) (x : X) → 1 ≤ size → Takes1 (length bytes) (word_end bytes size x)
word_takes bytes size x h = cond_both (nat_lt (length bytes) size) (fault (length bytes) reasons.Truncated) (Ok (x, size)) (Takes1 (length bytes)) (λ _. tt) (λ e. (h, grind (arith, nat_tests)))

-- one of two, by a test
choice : {X : Type 0} → (size : ℕ) (b : Bool) (x y : Scan X) → Takes1 size x → Takes1 size y → Takes1 size (cond b x y)
choice size true x y p q = p
choice size false x y p q = q

-- a kind's name of three letters, or what follows
named_takes : (bytes : List ℕ) (b : Bool) (kind : Kind) (more : Scan Kind) → Takes1 (length bytes) more → Takes1 (length bytes) (cond b (word_end bytes 5 kind) more)
named_takes bytes b kind more h = choice (length bytes) b (word_end bytes 5 kind) more (word_takes bytes 5 kind (omega arith)) h

large_takes : (bytes : List ℕ) → Takes1 (length bytes) (large_kind_at bytes)
unfolding large_kind_at
large_takes bytes =
    let none = fault 0 reasons.BadKind in
    let lists = cond (begins_three bytes 108 115 116) (word_end bytes 5 kinds.List) none in
    let sets = cond (begins_three bytes 115 101 116) (word_end bytes 5 kinds.Set) lists in
    let maps = cond (begins_three bytes 109 97 112) (word_end bytes 5 kinds.Map) sets in
    let structs = cond (begins_three bytes 114 101 99) (word_end bytes 5 kinds.Struct) maps in
    named_takes bytes (begins_three bytes 115 116 114) kinds.Str structs (named_takes bytes (begins_three bytes 114 101 99) kinds.Struct maps
    (named_takes bytes (begins_three bytes 109 97 112) kinds.Map sets (named_takes bytes (begins_three bytes 115 101 116) kinds.Set lists (named_takes bytes (begins_three bytes 108 115 116) kinds.List none tt))))

wide_takes : (bytes : List ℕ) → Takes1 (length bytes) (wide_kind_at bytes)
unfolding wide_kind_at
wide_takes bytes =
    let doubles = cond (begins_three bytes 100 98 108) (word_end bytes 5 kinds.Double) (large_kind_at bytes) in
    let i64s = cond (begins_three bytes 105 54 52) (word_end bytes 5 kinds.I64) doubles in
    let i32s = cond (begins_three bytes 105 51 50) (word_end bytes 5 kinds.I32) i64s in
    named_takes bytes (begins_three bytes 105 49 54) kinds.I16 i32s (named_takes bytes (begins_three bytes 105 51 50) kinds.I32 i64s
    (named_takes bytes (begins_three bytes 105 54 52) kinds.I64 doubles (named_takes bytes (begins_three bytes 100 98 108) kinds.Double (large_kind_at bytes) (large_takes bytes))))

kind_takes : (bytes : List ℕ) → Takes1 (length bytes) (kind_at bytes)
unfolding kind_at
kind_takes bytes =
    let i8s = cond (begins_two bytes 105 56) (word_end bytes 4 kinds.I8) (wide_kind_at bytes) in
    choice (length bytes) (begins_two bytes 116 102) (word_end bytes 4 kinds.Bool) i8s (word_takes bytes 4 kinds.Bool (omega arith))
    (choice (length bytes) (begins_two bytes 105 56) (word_end bytes 4 kinds.I8) (wide_kind_at bytes) (word_takes bytes 4 kinds.I8 (omega arith)) (wide_takes bytes))

item_takes : {X : Type 0} → (reason : Reason) (bytes : List ℕ) (scan : Text X) → Takes (length bytes) scan → Takes1 (length bytes) (item reason bytes (words.moved 0 scan))
item_takes reason bytes (Whole x n) t = (omega (arith, t.0), omega (arith, t.1))
item_takes reason bytes Short t = tt
item_takes reason bytes (Bad place) t = tt

int_takes1 : (reason : Reason) (low high : ℤ) (bytes : List ℕ) → Takes1 (length bytes) (int_in reason low high bytes)
unfolding int_in
int_takes1 reason low high bytes = item_takes reason bytes (int_at low high bytes) (int_takes low high bytes)

-- ---- a number in a range, behind at least one byte

abbrev pub InRange : ℤ → ℤ → ℕ → Scan ℤ → Type 0
InRange low high size (Ok x) = ((low ≤ℤ x.0) × (x.0 ≤ℤ high)) × (1 ≤ x.1) × (x.1 ≤ size)
InRange low high size (Err f) = ⊤

int_ranges : (low high : ℤ) (reason : Reason) (bytes : List ℕ) (scan : Text ℤ) → IsBetween low high scan → Takes (length bytes) scan → InRange low high (length bytes) (item reason bytes (words.moved 0 scan))
int_ranges low high reason bytes (Whole x n) b t = (b, omega (arith, t.0), omega (arith, t.1))
int_ranges low high reason bytes Short b t = tt
int_ranges low high reason bytes (Bad place) b t = tt

int_range : (reason : Reason) (low high : ℤ) (bytes : List ℕ) → InRange low high (length bytes) (int_in reason low high bytes)
unfolding int_in
int_range reason low high bytes = int_ranges low high reason bytes (int_at low high bytes) (int_between low high bytes) (int_takes low high bytes)

quote_ranges : (low high x : ℤ) (reason : Reason) (bytes : List ℕ) (n : ℕ) → (low ≤ℤ x) × (x ≤ℤ high) → InRange low high (length bytes) (closed reason bytes (Whole x n))
quote_ranges low high x reason bytes n b =
    let good = cond (slice_index bytes n == 34) (Ok (x, n + 1)) (fault 0 reason) in
    cond_both (nat_le (length bytes) n) (fault (length bytes) reasons.Truncated) good (InRange low high (length bytes)) (λ _. tt) (λ e.
    cond_both (slice_index bytes n == 34) (Ok (x, n + 1)) (fault 0 reason) (InRange low high (length bytes)) (λ _. (b, omega arith, grind (arith, nat_tests))) (λ _. tt))

closed_ranges : (low high : ℤ) (reason : Reason) (bytes : List ℕ) (scan : Text ℤ) → IsBetween low high scan → InRange low high (length bytes) (closed reason bytes (words.moved 1 scan))
closed_ranges low high reason bytes (Whole x n) b = quote_ranges low high x reason bytes (1 + n) b
closed_ranges low high reason bytes Short b = tt
closed_ranges low high reason bytes (Bad place) b = tt

quoted_range : (reason : Reason) (low high : ℤ) (bytes : List ℕ) → InRange low high (length bytes) (quoted_int_in reason low high bytes)
unfolding quoted_int_in
quoted_range reason low high bytes =
    let inner = closed reason bytes (words.moved 1 (int_at low high (drop 1 bytes))) in
    cond_both (nat_lt (length bytes) 1) (fault 0 reasons.Truncated) (cond (slice_index bytes 0 == 34) inner (fault 0 reason)) (InRange low high (length bytes)) (λ _. tt) (λ _.
    cond_both (slice_index bytes 0 == 34) inner (fault 0 reason) (InRange low high (length bytes)) (λ _. closed_ranges low high reason bytes (int_at low high (drop 1 bytes)) (int_between low high (drop 1 bytes))) (λ _. tt))

whole_range : (key : Bool) (reason : Reason) (low high : ℤ) (bytes : List ℕ) → InRange low high (length bytes) (whole_in key reason low high bytes)
whole_range true reason low high bytes = quoted_range reason low high bytes
whole_range false reason low high bytes = int_range reason low high bytes

-- ---- an event pays for what is written for it, and its parts are those of their kinds

-- an item that opens a level has room for it
abbrev pub HasRoom : ℕ → Item → Type 0
HasRoom depth struct_begin = depth < 256
HasRoom depth (map_begin key value size) = depth < 256
HasRoom depth (set_begin kind size) = depth < 256
HasRoom depth (list_begin kind size) = depth < 256
HasRoom depth item = ⊤

pub record Paid (depth size : ℕ) (item : Item) (taken : ℕ) : Type 0 where
  pub fits : taken ≤ size
  pub pays : weight item ≤ 24 * taken
  pub sized : size < 2 ^ 31 → IsSized item
  pub room : HasRoom depth item

abbrev pub Pays : ℕ → ℕ → Scan Item → Type 0
Pays depth size (Ok x) = Paid depth size x.0 x.1
Pays depth size (Err f) = ⊤

bind_pays : {X : Type 0} → (depth size : ℕ) (scan : Scan X) (go : X × ℕ → Scan Item) → Takes1 size scan → ((x : X × ℕ) → 1 ≤ x.1 → x.1 ≤ size → Pays depth size (go x)) → Pays depth size (scan >>= go)
bind_pays depth size (Ok x) go t h = h x t.0 t.1
bind_pays depth size (Err f) go t h = tt

-- behind an integer
int_pays : (depth size : ℕ) (low high : ℤ) (scan : Scan ℤ) (go : ℤ × ℕ → Scan Item) → InRange low high size scan
    → ((x : ℤ × ℕ) → (low ≤ℤ x.0) × (x.0 ≤ℤ high) → 1 ≤ x.1 → x.1 ≤ size → Pays depth size (go x)) → Pays depth size (scan >>= go)
int_pays depth size low high (Ok x) go t h = h x t.0 t.1 t.2
int_pays depth size low high (Err f) go t h = tt

shift_pays : (depth at size : ℕ) (scan : Scan Item) → at ≤ size → Pays depth (size - at) scan → Pays depth size (shifted at scan)
shift_pays depth at size (Ok x) most t = record { fits = omega (arith, t.fits); pays = omega (arith, t.pays); sized = (λ h. t.sized (omega arith)); room = t.room }
shift_pays depth at size (Err f) most t = tt

-- a scan so many bytes further on
on_pays : (depth at : ℕ) (scan : List ℕ → Scan Item) (bytes : List ℕ) → at ≤ length bytes → ((r : List ℕ) → Pays depth (length r) (scan r)) → Pays depth (length bytes) (shifted at (scan (drop at bytes)))
on_pays depth at scan bytes most h = shift_pays depth at (length bytes) (scan (drop at bytes)) most (subst (λ k. Pays depth k (scan (drop at bytes))) (length-drop at bytes) (h (drop at bytes)))

fits_8 : (z : ℤ) → (negsuc 127 ≤ℤ z) × (z ≤ℤ pos 127) → FitsSigned w8 z
fits_8 z b = record { sfits = grind (arith, nat_tests) }

fits_16 : (z : ℤ) → (i16_low ≤ℤ z) × (z ≤ℤ pos 32767) → FitsSigned w16 z
fits_16 z b = record { sfits = grind (arith, nat_tests) }

fits_32 : (z : ℤ) → (negsuc 2147483647 ≤ℤ z) × (z ≤ℤ pos 2147483647) → FitsSigned w32 z
fits_32 z b = record { sfits = grind (arith, nat_tests) }

fits_64 : (z : ℤ) → (negsuc 9223372036854775807 ≤ℤ z) × (z ≤ℤ pos 9223372036854775807) → FitsSigned w64 z
fits_64 z b = record { sfits = grind (arith, nat_tests) }

-- ---- texts

-- a text and the bytes that it takes
abbrev pub TextPays : ℕ → Scan (List ℕ) → Type 0
TextPays size (Ok x) = (length x.0 ≤ x.1) × (1 ≤ x.1) × (x.1 ≤ size)
TextPays size (Err f) = ⊤

text_pays_of : (bytes : List ℕ) (scan : Text (List ℕ)) → StringFits (length bytes) scan → TextPays (length bytes) (item reasons.BadString bytes (words.moved 0 scan))
text_pays_of bytes (Whole t n) h = (omega (arith, h.0), omega (arith, h.0), omega (arith, h.1))
text_pays_of bytes Short h = tt
text_pays_of bytes (Bad place) h = tt

text_pays : (bytes : List ℕ) → TextPays (length bytes) (text_in bytes)
unfolding text_in
text_pays bytes = text_pays_of bytes (text_at bytes) (text_fits bytes)

blob_pays_of : (bytes : List ℕ) (scan : Text (List ℕ)) → BlobFits (length bytes) scan → TextPays (length bytes) (item reasons.BadBase64 bytes (words.moved 0 scan))
blob_pays_of bytes (Whole t n) h = (omega (arith, h.0), omega (arith, h.1), omega (arith, h.2))
blob_pays_of bytes Short h = tt
blob_pays_of bytes (Bad place) h = tt

blob_pays : (bytes : List ℕ) → TextPays (length bytes) (blob_in bytes)
unfolding blob_in
blob_pays bytes = blob_pays_of bytes (blob_at bytes) (blob_fits bytes)

-- a number's length, and the bytes that it takes with its quotes or without
abbrev pub SpanPays : ℕ → Scan ℕ → Type 0
SpanPays size (Ok x) = (x.0 ≤ x.1) × (1 ≤ x.1) × (x.1 ≤ size)
SpanPays size (Err f) = ⊤

number_pays_of : (bytes : List ℕ) (scan : Text ℕ) → NumberFits (length bytes) scan → SpanPays (length bytes) (item reasons.BadNumber bytes (words.moved 0 scan))
number_pays_of bytes (Whole t n) h = (omega (arith, h.0), omega (arith, h.1), omega (arith, h.2))
number_pays_of bytes Short h = tt
number_pays_of bytes (Bad place) h = tt

number_pays : (bytes : List ℕ) → SpanPays (length bytes) (number_in bytes)
unfolding number_in
number_pays bytes = number_pays_of bytes (number_at bytes) (number_fits bytes)

quoted_pays_by : (bytes : List ℕ) (x n : ℕ) → x ≤ n → SpanPays (length bytes) (closed reasons.BadNumber bytes (Whole x n))
quoted_pays_by bytes x n h =
    let good = cond (slice_index bytes n == 34) (Ok (x, n + 1)) (fault 0 reasons.BadNumber) in
    cond_both (nat_le (length bytes) n) (fault (length bytes) reasons.Truncated) good (SpanPays (length bytes)) (λ _. tt) (λ e.
    cond_both (slice_index bytes n == 34) (Ok (x, n + 1)) (fault 0 reasons.BadNumber) (SpanPays (length bytes)) (λ _. (omega arith, omega arith, grind (arith, nat_tests))) (λ _. tt))

quoted_pays_of : (bytes : List ℕ) (size : ℕ) (scan : Text ℕ) → NumberFits size scan → SpanPays (length bytes) (closed reasons.BadNumber bytes (words.moved 1 scan))
quoted_pays_of bytes size (Whole t n) h = quoted_pays_by bytes t (1 + n) (omega (arith, h.0))
quoted_pays_of bytes size Short h = tt
quoted_pays_of bytes size (Bad place) h = tt

quoted_number_pays : (bytes : List ℕ) → SpanPays (length bytes) (quoted_number_in bytes)
unfolding quoted_number_in
quoted_number_pays bytes =
    let inner = closed reasons.BadNumber bytes (words.moved 1 (number_at (drop 1 bytes))) in
    cond_both (nat_lt (length bytes) 1) (fault 0 reasons.Truncated) (cond (slice_index bytes 0 == 34) inner (fault 0 reasons.BadNumber)) (SpanPays (length bytes)) (λ _. tt) (λ _.
    cond_both (slice_index bytes 0 == 34) inner (fault 0 reasons.BadNumber) (SpanPays (length bytes)) (λ _. quoted_pays_of bytes (length (drop 1 bytes)) (number_at (drop 1 bytes)) (number_fits (drop 1 bytes))) (λ _. tt))

word_pays : (bytes : List ℕ) (size n : ℕ) → n ≤ size → 1 ≤ size → SpanPays (length bytes) (word_end bytes size n)
word_pays bytes size n h some = cond_both (nat_lt (length bytes) size) (fault (length bytes) reasons.Truncated) (Ok (n, size)) (SpanPays (length bytes)) (λ _. tt) (λ e. (h, some, grind (arith, nat_tests)))

spelled_pays : (from : ℕ) (bytes : List ℕ) (scan : Scan ℕ) → SpanPays (length bytes) scan → TextPays (length bytes) (spelled from bytes scan)
spelled_pays from bytes (Ok x) h = (omega (arith, length-take x.0 (drop from bytes), h.0), h.1, h.2)
spelled_pays from bytes (Err f) h = tt

double_pays_in : (key : Bool) (bytes : List ℕ) → TextPays (length bytes) (double_in key bytes)
unfolding double_in
double_pays_in key bytes =
    let P = TextPays (length bytes) in
    let number = cond key (spelled 1 bytes (quoted_number_in bytes)) (spelled 0 bytes (number_in bytes)) in
    let minus = byte_fits bytes 0 34 && byte_fits bytes 1 45 && infinity_fits bytes 2 in
    let below = cond minus (spelled 1 bytes (word_end bytes 11 9)) number in
    let above = cond (byte_fits bytes 0 34 && infinity_fits bytes 1) (spelled 1 bytes (word_end bytes 10 8)) below in
    cond_both (begins_three bytes 78 97 78) (spelled 1 bytes (word_end bytes 5 3)) above P (λ _. spelled_pays 1 bytes (word_end bytes 5 3) (word_pays bytes 5 3 (omega arith) (omega arith))) (λ _.
    cond_both (byte_fits bytes 0 34 && infinity_fits bytes 1) (spelled 1 bytes (word_end bytes 10 8)) below P (λ _. spelled_pays 1 bytes (word_end bytes 10 8) (word_pays bytes 10 8 (omega arith) (omega arith))) (λ _.
    cond_both minus (spelled 1 bytes (word_end bytes 11 9)) number P (λ _. spelled_pays 1 bytes (word_end bytes 11 9) (word_pays bytes 11 9 (omega arith) (omega arith))) (λ _.
    cond_both key (spelled 1 bytes (quoted_number_in bytes)) (spelled 0 bytes (number_in bytes)) P (λ _. spelled_pays 1 bytes (quoted_number_in bytes) (quoted_number_pays bytes)) (λ _. spelled_pays 0 bytes (number_in bytes) (number_pays bytes)))))

-- behind a text
string_pays : (depth size : ℕ) (scan : Scan (List ℕ)) (go : List ℕ × ℕ → Scan Item) → TextPays size scan
    → ((x : List ℕ × ℕ) → length x.0 ≤ x.1 → 1 ≤ x.1 → x.1 ≤ size → Pays depth size (go x)) → Pays depth size (scan >>= go)
string_pays depth size (Ok x) go t h = h x t.0 t.1 t.2
string_pays depth size (Err f) go t h = tt

-- ---- the items

module _ (depth : ℕ) where
  paid : (size taken : ℕ) (it : Item) → taken ≤ size → weight it ≤ 24 * taken → IsSized it → HasRoom depth it → Paid depth size it taken
  paid size taken it a b c d = record { fits = a; pays = b; sized = (λ h. c); room = d }

  field_pays : (bytes : List ℕ) → Pays depth (length bytes) (field_at bytes)
  unfolding field_at
  field_pays bytes =
      int_pays depth (length bytes) i16_low (pos 32767) (quoted_int_in reasons.BadId i16_low (pos 32767) bytes) _ (quoted_range reasons.BadId i16_low (pos 32767) bytes) (λ id b p q.
      bind_pays depth (length bytes) (further id.1 (mark_at 58) bytes) _ (further_takes id.1 (mark_at 58) bytes q (mark_takes 58)) (λ colon r s.
      bind_pays depth (length bytes) (further colon.1 (mark_at 123) bytes) _ (further_takes colon.1 (mark_at 123) bytes s (mark_takes 123)) (λ brace t u.
      bind_pays depth (length bytes) (further brace.1 kind_at bytes) _ (further_takes brace.1 kind_at bytes u kind_takes) (λ kind v w.
      paid (length bytes) kind.1 (field id.0 kind.0) w (omega arith) (fits_16 id.0 b) tt))))

  stop_pays : (size : ℕ) → 1 ≤ size → Pays depth size (Ok (stop, 1))
  stop_pays size h = paid size 1 stop h (omega arith) tt tt

  some : (bytes : List ℕ) (scan : Scan Item) → (1 ≤ length bytes → Pays depth (length bytes) scan) → Pays depth (length bytes) (cond (nat_lt (length bytes) 1) (fault 0 reasons.Truncated) scan)
  some bytes scan h = cond_both (nat_lt (length bytes) 1) (fault 0 reasons.Truncated) scan (Pays depth (length bytes)) (λ _. tt) (λ e. h (grind (arith, nat_tests)))

  first_pays : (bytes : List ℕ) → Pays depth (length bytes) (first_at bytes)
  unfolding first_at
  first_pays bytes =
      let third = cond (slice_index bytes 0 == 34) (field_at bytes) (fault 0 reasons.BadToken) in
      some bytes (cond (slice_index bytes 0 == 125) (Ok (stop, 1)) third) (λ h.
      cond_both (slice_index bytes 0 == 125) (Ok (stop, 1)) third (Pays depth (length bytes)) (λ _. stop_pays (length bytes) h) (λ _.
      cond_both (slice_index bytes 0 == 34) (field_at bytes) (fault 0 reasons.BadToken) (Pays depth (length bytes)) (λ _. field_pays bytes) (λ _. tt)))

  next_pays : (bytes : List ℕ) → Pays depth (length bytes) (next_at bytes)
  unfolding next_at
  next_pays bytes =
      let third = cond (slice_index bytes 0 == 44) (further 1 field_at bytes) (fault 0 reasons.BadToken) in
      some bytes (cond (slice_index bytes 0 == 125) (Ok (stop, 1)) third) (λ h.
      cond_both (slice_index bytes 0 == 125) (Ok (stop, 1)) third (Pays depth (length bytes)) (λ _. stop_pays (length bytes) h) (λ _.
      cond_both (slice_index bytes 0 == 44) (further 1 field_at bytes) (fault 0 reasons.BadToken) (Pays depth (length bytes)) (λ _. on_pays depth (1 + gap (drop 1 bytes)) field_at bytes (gap_most 1 bytes h) field_pays) (λ _. tt)))

  bool_pays : (key : Bool) (bytes : List ℕ) → Pays depth (length bytes) (bool_at key bytes)
  unfolding bool_at
  bool_pays key bytes = int_pays depth (length bytes) _ _ _ _ (whole_range key reasons.BadBool (pos 0) (pos 1) bytes) (λ n b p q. paid (length bytes) n.1 (bool_value (int_lt (pos 0) n.0)) q (omega arith) tt tt)

  i8_pays : (key : Bool) (bytes : List ℕ) → Pays depth (length bytes) (i8_at key bytes)
  unfolding i8_at
  i8_pays key bytes = int_pays depth (length bytes) _ _ _ _ (whole_range key reasons.BadNumber (negsuc 127) (pos 127) bytes) (λ n b p q. paid (length bytes) n.1 (i8_value n.0) q (omega arith) (fits_8 n.0 b) tt)

  i16_pays : (key : Bool) (bytes : List ℕ) → Pays depth (length bytes) (i16_at key bytes)
  unfolding i16_at
  i16_pays key bytes = int_pays depth (length bytes) _ _ _ _ (whole_range key reasons.BadNumber i16_low (pos 32767) bytes) (λ n b p q. paid (length bytes) n.1 (i16_value n.0) q (omega arith) (fits_16 n.0 b) tt)

  i32_pays : (key : Bool) (bytes : List ℕ) → Pays depth (length bytes) (i32_at key bytes)
  unfolding i32_at
  i32_pays key bytes = int_pays depth (length bytes) _ _ _ _ (whole_range key reasons.BadNumber (negsuc 2147483647) (pos 2147483647) bytes) (λ n b p q. paid (length bytes) n.1 (i32_value n.0) q (omega arith) (fits_32 n.0 b) tt)

  i64_pays : (key : Bool) (bytes : List ℕ) → Pays depth (length bytes) (i64_at key bytes)
  unfolding i64_at
  i64_pays key bytes = int_pays depth (length bytes) _ _ _ _ (whole_range key reasons.BadNumber (negsuc 9223372036854775807) (pos 9223372036854775807) bytes) (λ n b p q. paid (length bytes) n.1 (i64_value n.0) q (omega arith) (fits_64 n.0 b) tt)

  double_pays : (key : Bool) (bytes : List ℕ) → Pays depth (length bytes) (double_at key bytes)
  unfolding double_at
  double_pays key bytes = string_pays depth (length bytes) (double_in key bytes) _ (double_pays_in key bytes) (λ t n p q. record { fits = q; pays = omega arith; sized = (λ h. omega arith); room = tt })

  strings_pay : (hint : Hint) (bytes : List ℕ) → Pays depth (length bytes) (string_in hint bytes)
  unfolding string_in
  strings_pay hints.Text bytes = string_pays depth (length bytes) (text_in bytes) _ (text_pays bytes) (λ t n p q. record { fits = q; pays = omega arith; sized = (λ h. omega arith); room = tt })
  strings_pay hints.Blob bytes = string_pays depth (length bytes) (blob_in bytes) _ (blob_pays bytes) (λ t n p q. record { fits = q; pays = omega arith; sized = (λ h. omega arith); room = tt })
  strings_pay hints.Unknown bytes = string_pays depth (length bytes) (text_in bytes) _ (text_pays bytes) (λ t n p q. record { fits = q; pays = omega arith; sized = (λ h. omega arith); room = tt })

  struct_pays : (bytes : List ℕ) → depth < 256 → Pays depth (length bytes) (struct_at bytes)
  unfolding struct_at
  struct_pays bytes deep = bind_pays depth (length bytes) (mark_at 123 bytes) _ (mark_takes 123 bytes) (λ n p q. paid (length bytes) n.1 struct_begin q (omega arith) tt deep)

  end_pays : (bytes : List ℕ) → Pays depth (length bytes) (end_at bytes)
  unfolding end_at
  end_pays bytes = bind_pays depth (length bytes) (mark_at 93 bytes) _ (mark_takes 93 bytes) (λ n p q. paid (length bytes) n.1 end q (omega arith) tt tt)

-- ---- sizes: at most 2^31 - 1, behind at least so many bytes

abbrev pub Sized : {X : Type 0} → (X → ℕ) → ℕ → Scan X → Type 0
Sized of size (Ok x) = (of x.0 < 2 ^ 31) × (2 ≤ x.1) × (x.1 ≤ size)
Sized of size (Err f) = ⊤

bind_sized : {X Y : Type 0} → (of : Y → ℕ) (size : ℕ) (scan : Scan X) (go : X × ℕ → Scan Y) → Takes1 size scan → ((x : X × ℕ) → 1 ≤ x.1 → x.1 ≤ size → Sized of size (go x)) → Sized of size (scan >>= go)
bind_sized of size (Ok x) go t h = h x t.0 t.1
bind_sized of size (Err f) go t h = tt

-- at least one byte
abbrev pub Sized1 : ℕ → Scan ℕ → Type 0
Sized1 size (Ok x) = (x.0 < 2 ^ 31) × (1 ≤ x.1) × (x.1 ≤ size)
Sized1 size (Err f) = ⊤

size_small : (z : ℤ) → (pos 0 ≤ℤ z) × (z ≤ℤ pos 2147483647) → size_of z < 2 ^ 31
size_small (pos n) b = grind (arith, nat_tests)
size_small (negsuc n) b = omega arith

size_by : (size : ℕ) (scan : Scan ℤ) → InRange (pos 0) (pos 2147483647) size scan → Sized1 size (scan >>= λ n. Ok (size_of n.0, n.1))
size_by size (Ok x) t = (size_small x.0 t.0, t.1, t.2)
size_by size (Err f) t = tt

size_sized : (bytes : List ℕ) → Sized1 (length bytes) (size_in bytes)
size_sized bytes = size_by (length bytes) (int_in reasons.BadSize (pos 0) (pos 2147483647) bytes) (int_range reasons.BadSize (pos 0) (pos 2147483647) bytes)

shift_sized : (at size : ℕ) (scan : Scan ℕ) → at ≤ size → Sized1 (size - at) scan → Sized1 size (shifted at scan)
shift_sized at size (Ok x) most t = (t.0, omega (arith, t.1), omega (arith, t.2))
shift_sized at size (Err f) most t = tt

-- a size further on lies behind at least one byte more
abbrev pub Sized2 : ℕ → Scan ℕ → Type 0
Sized2 size (Ok x) = (x.0 < 2 ^ 31) × (2 ≤ x.1) × (x.1 ≤ size)
Sized2 size (Err f) = ⊤

shift_two : (at size : ℕ) (scan : Scan ℕ) → 1 ≤ at → at ≤ size → Sized1 (size - at) scan → Sized2 size (shifted at scan)
shift_two at size (Ok x) some most t = (t.0, omega (arith, t.1), omega (arith, t.2))
shift_two at size (Err f) some most t = tt

further_sized : (n : ℕ) (bytes : List ℕ) → 1 ≤ n → n ≤ length bytes → Sized2 (length bytes) (further n size_in bytes)
further_sized n bytes some most =
    let at = n + gap (drop n bytes) in
    shift_two at (length bytes) (size_in (drop at bytes)) (omega arith) (gap_most n bytes most) (subst (λ k. Sized1 k (size_in (drop at bytes))) (length-drop at bytes) (size_sized (drop at bytes)))

kept_size : {Y : Type 0} → (of : Y → ℕ) (size : ℕ) (scan : Scan ℕ) (go : ℕ → Y) → ((k : ℕ) → of (go k) ≡ k) → Sized2 size scan → Sized of size (scan >>= λ n. Ok (go n.0, n.1))
kept_size of size (Ok x) go is t = (let same = is x.0 in omega (arith, t.0), t.1, t.2)
kept_size of size (Err f) go is t = tt

last_sized : {Y : Type 0} → (of : Y → ℕ) (bytes : List ℕ) (n : ℕ) (go : ℕ → Y) → ((k : ℕ) → of (go k) ≡ k) → 1 ≤ n → n ≤ length bytes → Sized of (length bytes) (further n size_in bytes >>= λ size. Ok (go size.0, size.1))
last_sized of bytes n go is some most = kept_size of (length bytes) (further n size_in bytes) go is (further_sized n bytes some most)

sequence_sized : (bytes : List ℕ) → Sized (λ x. x.1) (length bytes) (sequence_at bytes)
unfolding sequence_at
sequence_sized bytes =
    bind_sized (λ (x : Kind × ℕ). x.1) (length bytes) (mark_at 91 bytes) _ (mark_takes 91 bytes) (λ bracket p q.
    bind_sized (λ (x : Kind × ℕ). x.1) (length bytes) (further bracket.1 kind_at bytes) _ (further_takes bracket.1 kind_at bytes q kind_takes) (λ kind r s.
    bind_sized (λ (x : Kind × ℕ). x.1) (length bytes) (further kind.1 (mark_at 44) bytes) _ (further_takes kind.1 (mark_at 44) bytes s (mark_takes 44)) (λ comma t u.
    last_sized (λ (x : Kind × ℕ). x.1) bytes comma.1 (λ k. (kind.0, k)) (λ k. refl) t u)))

map_sized : (bytes : List ℕ) → Sized (λ x. x.1) (length bytes) (map_head_at bytes)
unfolding map_head_at
map_sized bytes =
    bind_sized (λ (x : (Kind × Kind) × ℕ). x.1) (length bytes) (mark_at 91 bytes) _ (mark_takes 91 bytes) (λ bracket p q.
    bind_sized (λ (x : (Kind × Kind) × ℕ). x.1) (length bytes) (further bracket.1 kind_at bytes) _ (further_takes bracket.1 kind_at bytes q kind_takes) (λ key r s.
    bind_sized (λ (x : (Kind × Kind) × ℕ). x.1) (length bytes) (further key.1 (mark_at 44) bytes) _ (further_takes key.1 (mark_at 44) bytes s (mark_takes 44)) (λ comma t u.
    bind_sized (λ (x : (Kind × Kind) × ℕ). x.1) (length bytes) (further comma.1 kind_at bytes) _ (further_takes comma.1 kind_at bytes u kind_takes) (λ value v w.
    bind_sized (λ (x : (Kind × Kind) × ℕ). x.1) (length bytes) (further value.1 (mark_at 44) bytes) _ (further_takes value.1 (mark_at 44) bytes w (mark_takes 44)) (λ second x y.
    last_sized (λ (x : (Kind × Kind) × ℕ). x.1) bytes second.1 (λ k. ((key.0, value.0), k)) (λ k. refl) x y)))))

-- ---- containers and values

sized_pays : {X : Type 0} → (of : X → ℕ) (depth size : ℕ) (scan : Scan X) (go : X × ℕ → Scan Item) → Sized of size scan
    → ((x : X × ℕ) → of x.0 < 2 ^ 31 → 2 ≤ x.1 → x.1 ≤ size → Pays depth size (go x)) → Pays depth size (scan >>= go)
sized_pays of depth size (Ok x) go t h = h x t.0 t.1 t.2
sized_pays of depth size (Err f) go t h = tt

module _ (depth : ℕ) where
  list_pays : (bytes : List ℕ) → depth < 256 → Pays depth (length bytes) (list_at bytes)
  unfolding list_at
  list_pays bytes deep = sized_pays (λ (x : Kind × ℕ). x.1) depth (length bytes) (sequence_at bytes) _ (sequence_sized bytes) (λ l small p q. paid depth (length bytes) l.1 (list_begin l.0.0 l.0.1) q (omega arith) small deep)

  set_pays : (bytes : List ℕ) → depth < 256 → Pays depth (length bytes) (set_at bytes)
  unfolding set_at
  set_pays bytes deep = sized_pays (λ (x : Kind × ℕ). x.1) depth (length bytes) (sequence_at bytes) _ (sequence_sized bytes) (λ l small p q. paid depth (length bytes) l.1 (set_begin l.0.0 l.0.1) q (omega arith) small deep)

  no_pairs_pay : (at : ℕ) (bytes : List ℕ) → at ≤ length bytes → Pays depth (length bytes) (no_pairs_at at bytes)
  unfolding no_pairs_at
  no_pairs_pay at bytes most =
      bind_pays depth (length bytes) (further at (mark_at 44) bytes) _ (further_takes at (mark_at 44) bytes most (mark_takes 44)) (λ comma p q.
      bind_pays depth (length bytes) (further comma.1 (mark_at 123) bytes) _ (further_takes comma.1 (mark_at 123) bytes q (mark_takes 123)) (λ brace r s.
      bind_pays depth (length bytes) (further brace.1 (mark_at 125) bytes) _ (further_takes brace.1 (mark_at 125) bytes s (mark_takes 125)) (λ last t u.
      bind_pays depth (length bytes) (further last.1 (mark_at 93) bytes) _ (further_takes last.1 (mark_at 93) bytes u (mark_takes 93)) (λ bracket v w.
      paid depth (length bytes) bracket.1 empty_map w (omega arith) tt tt))))

  map_then_pays : (bytes : List ℕ) (key value : Kind) (size at : ℕ) → depth < 256 → size < 2 ^ 31 → 2 ≤ at → at ≤ length bytes → Pays depth (length bytes) (map_then bytes key value size at)
  map_then_pays bytes key value zero at deep small some most = no_pairs_pay at bytes most
  map_then_pays bytes key value (suc more) at deep small some most = paid depth (length bytes) at (map_begin key value (suc more)) most (omega arith) (omega arith, small) deep

  map_pays : (bytes : List ℕ) → depth < 256 → Pays depth (length bytes) (map_at bytes)
  unfolding map_at
  map_pays bytes deep = sized_pays (λ (x : (Kind × Kind) × ℕ). x.1) depth (length bytes) (map_head_at bytes) _ (map_sized bytes) (λ m small p q. map_then_pays bytes m.0.0.0 m.0.0.1 m.0.1 m.1 deep small p q)

  deep_enough : (bytes : List ℕ) (scan : Scan Item) → (depth < 256 → Pays depth (length bytes) scan) → Pays depth (length bytes) (cond (nat_le 256 depth) (fault 0 reasons.TooDeep) scan)
  deep_enough bytes scan h = cond_both (nat_le 256 depth) (fault 0 reasons.TooDeep) scan (Pays depth (length bytes)) (λ _. tt) (λ e. h (grind (arith, nat_tests)))

  value_pays : (key : Bool) (hint : Hint) (kind : Kind) (bytes : List ℕ) → Pays depth (length bytes) (value_in depth key hint kind bytes)
  unfolding value_in value_at
  value_pays key hint kinds.Bool bytes = bool_pays depth key bytes
  value_pays key hint kinds.I8 bytes = i8_pays depth key bytes
  value_pays key hint kinds.I16 bytes = i16_pays depth key bytes
  value_pays key hint kinds.I32 bytes = i32_pays depth key bytes
  value_pays key hint kinds.I64 bytes = i64_pays depth key bytes
  value_pays key hint kinds.Double bytes = double_pays depth key bytes
  value_pays key hint kinds.Str bytes = strings_pay depth hint bytes
  value_pays key hint kinds.Struct bytes = deep_enough bytes (struct_at bytes) (struct_pays depth bytes)
  value_pays key hint kinds.Map bytes = deep_enough bytes (map_at bytes) (map_pays bytes)
  value_pays key hint kinds.Set bytes = deep_enough bytes (set_at bytes) (set_pays bytes)
  value_pays key hint kinds.List bytes = deep_enough bytes (list_at bytes) (list_pays bytes)
  value_pays key hint kinds.Uuid bytes = tt

  fields_pay : (opening : Opening) (bytes : List ℕ) → Pays depth (length bytes) (fields_at opening bytes)
  fields_pay openings.Body bytes = first_pays depth bytes
  fields_pay openings.New bytes = first_pays depth bytes
  fields_pay openings.Old bytes = next_pays depth bytes

  item_pays : (opening : Opening) (hint : Hint) (slot : Slot) (bytes : List ℕ) → Pays depth (length bytes) (item_in depth opening hint slot bytes)
  unfolding item_in
  item_pays opening hint (slots.Fields last) bytes = fields_pay opening bytes
  item_pays opening hint (slots.Value kind id) bytes = value_pays false hint kind bytes
  item_pays opening hint (slots.Elements kind left) bytes = cond_both (left == 0) (end_at bytes) (value_in depth false hint kind bytes) (Pays depth (length bytes)) (λ _. end_pays depth bytes) (λ _. value_pays false hint kind bytes)
  item_pays opening hint (slots.Keys key value left) bytes = cond_both (left == 0) (end_at bytes) (value_in depth true hint key bytes) (Pays depth (length bytes)) (λ _. end_pays depth bytes) (λ _. value_pays true hint key bytes)
  item_pays opening hint (slots.Values key value left) bytes = value_pays false hint value bytes

-- ---- the marks before an item

abbrev pub LeadFits : ℕ → Scan (Unit {0}) → Type 0
LeadFits size (Ok x) = x.1 ≤ size
LeadFits size (Err f) = ⊤

lead_of : (bytes : List ℕ) (scan : Scan (Unit {0})) → Takes1 (length bytes) scan → LeadFits (length bytes) (scan >>= λ there. Ok (tt, there.1 + gap (drop there.1 bytes)))
lead_of bytes (Ok x) t = gap_most x.1 bytes t.1
lead_of bytes (Err f) t = tt

lead_bind : {X : Type 0} → (size : ℕ) (scan : Scan X) (go : X × ℕ → Scan (Unit {0})) → Takes1 size scan → ((x : X × ℕ) → 1 ≤ x.1 → x.1 ≤ size → LeadFits size (go x)) → LeadFits size (scan >>= go)
lead_bind size (Ok x) go t h = h x t.0 t.1
lead_bind size (Err f) go t h = tt

by_fits : (mark : ℕ) (bytes : List ℕ) → LeadFits (length bytes) (lead_by mark bytes)
by_fits mark bytes = lead_of bytes (further 0 (mark_at mark) bytes) (further_takes 0 (mark_at mark) bytes (omega arith) (mark_takes mark))

pairs_fit : (bytes : List ℕ) → LeadFits (length bytes) (lead_pairs bytes)
unfolding lead_pairs
pairs_fit bytes =
    lead_bind (length bytes) (further 0 (mark_at 44) bytes) _ (further_takes 0 (mark_at 44) bytes (omega arith) (mark_takes 44)) (λ comma p q.
    lead_of bytes (further comma.1 (mark_at 123) bytes) (further_takes comma.1 (mark_at 123) bytes q (mark_takes 123)))

fields_fit : (opening : Opening) (bytes : List ℕ) → LeadFits (length bytes) (lead_fields opening bytes)
unfolding lead_fields
fields_fit openings.Body bytes = by_fits 123 bytes
fields_fit openings.New bytes = prefix_len-le-length is_white bytes
fields_fit openings.Old bytes = by_fits 125 bytes

key_fits : (opening : Opening) (bytes : List ℕ) → LeadFits (length bytes) (lead_key opening bytes)
unfolding lead_key
key_fits openings.Body bytes = pairs_fit bytes
key_fits openings.New bytes = pairs_fit bytes
key_fits openings.Old bytes = by_fits 44 bytes

lead_fits : (opening : Opening) (slot : Slot) (bytes : List ℕ) → LeadFits (length bytes) (lead_at opening slot bytes)
unfolding lead_at
lead_fits opening (slots.Fields last) bytes = fields_fit opening bytes
lead_fits opening (slots.Value kind id) bytes = by_fits 58 bytes
lead_fits opening (slots.Elements kind left) bytes = cond_both (left == 0) (Ok (tt, gap bytes)) (lead_by 44 bytes) (LeadFits (length bytes)) (λ _. prefix_len-le-length is_white bytes) (λ _. by_fits 44 bytes)
lead_fits opening (slots.Keys key value left) bytes = cond_both (left == 0) (lead_by 125 bytes) (lead_key opening bytes) (LeadFits (length bytes)) (λ _. by_fits 125 bytes) (λ _. key_fits opening bytes)
lead_fits opening (slots.Values key value left) bytes = by_fits 58 bytes

abbrev pub PaysAt : ℕ → ℕ → Scan (Item × ℕ) → Type 0
PaysAt depth size (Ok x) = Paid depth size x.0.0 x.1
PaysAt depth size (Err f) = ⊤

begun_pays : (depth size start : ℕ) (scan : Scan Item) → Pays depth size scan → PaysAt depth size (begun_at start scan)
begun_pays depth size start (Ok x) h = h
begun_pays depth size start (Err f) h = tt

led_pays : (depth : ℕ) (opening : Opening) (hint : Hint) (slot : Slot) (bytes : List ℕ) (lead : Scan (Unit {0})) → LeadFits (length bytes) lead → PaysAt depth (length bytes) (led depth opening hint slot bytes lead)
led_pays depth opening hint slot bytes (Ok x) most = begun_pays depth (length bytes) x.1 (shifted x.1 (item_in depth opening hint slot (drop x.1 bytes))) (on_pays depth x.1 (item_in depth opening hint slot) bytes most (item_pays depth opening hint slot))
led_pays depth opening hint slot bytes (Err f) most = tt

at_pays : (depth : ℕ) (opening : Opening) (hint : Hint) (top : Option Slot) (bytes : List ℕ) → PaysAt depth (length bytes) (scan_at depth opening hint top bytes)
at_pays depth opening hint None bytes = tt
at_pays depth opening hint (Some slot) bytes = led_pays depth opening hint slot bytes (lead_at opening slot bytes) (lead_fits opening slot bytes)

-- ---- the levels

spent_long : (nest : List Slot) → length (spent nest) ≡ length nest
spent_long [] = refl
spent_long (slots.Fields last ∷ up) = refl
spent_long (slots.Value kind id ∷ up) = refl
spent_long (slots.Elements kind left ∷ up) = refl
spent_long (slots.Keys key value left ∷ up) = refl
spent_long (slots.Values key value left ∷ up) = refl

rest_long : (nest : List Slot) → length (rest_of nest) ≡ length nest - 1
rest_long [] = omega arith
rest_long (slot ∷ up) = omega arith

pub after_long : (it : Item) (nest : List Slot) → 0 < length nest → length (after it nest) ≡ depth_after it (length nest)
after_long (field id kind) nest there = omega (arith, rest_long nest)
after_long stop nest there = rest_long nest
after_long (bool_value b) nest there = spent_long nest
after_long (i8_value n) nest there = spent_long nest
after_long (i16_value n) nest there = spent_long nest
after_long (i32_value n) nest there = spent_long nest
after_long (i64_value n) nest there = spent_long nest
after_long (double_value bytes) nest there = spent_long nest
after_long (text bytes) nest there = spent_long nest
after_long (number_text bytes) nest there = spent_long nest
after_long (unknown_text bytes) nest there = spent_long nest
after_long struct_begin nest there = omega (arith, spent_long nest)
after_long empty_map nest there = spent_long nest
after_long (map_begin key value size) nest there = omega (arith, spent_long nest)
after_long (set_begin kind size) nest there = omega (arith, spent_long nest)
after_long (list_begin kind size) nest there = omega (arith, spent_long nest)
after_long end nest there = rest_long nest
after_long (uuid_value bytes) nest there = spent_long nest

shallow_of : (it : Item) (depth : ℕ) → depth ≤ 256 → HasRoom depth it → depth_after it depth ≤ 256
shallow_of (field id kind) depth h r = h
shallow_of stop depth h r = omega arith
shallow_of (bool_value b) depth h r = h
shallow_of (i8_value n) depth h r = h
shallow_of (i16_value n) depth h r = h
shallow_of (i32_value n) depth h r = h
shallow_of (i64_value n) depth h r = h
shallow_of (double_value bytes) depth h r = h
shallow_of (text bytes) depth h r = h
shallow_of (number_text bytes) depth h r = h
shallow_of (unknown_text bytes) depth h r = h
shallow_of struct_begin depth h r = omega arith
shallow_of empty_map depth h r = h
shallow_of (map_begin key value size) depth h r = omega arith
shallow_of (set_begin kind size) depth h r = omega arith
shallow_of (list_begin kind size) depth h r = omega arith
shallow_of end depth h r = omega arith
shallow_of (uuid_value bytes) depth h r = h

-- ---- the laws of the reader

moved_pays : (s : State) (scan : Scan (Item × ℕ)) → PaysAt (length s.nest) (length (rest s)) scan → IfOk (moved s scan) (λ x. weight x.0 + ahead x.1 ≤ ahead s)
moved_pays s (Ok x) h = let a = length-drop s.place s.frame in let b = length-drop (s.place + x.1) s.frame in omega (arith, h.fits, h.pays)
moved_pays s (Err f) h = tt

pub reads_pays : (s : State) (hint : Hint) → IfOk (reads s hint) (λ x. weight x.0 + ahead x.1 ≤ ahead s)
unfolding reads
reads_pays s hint = moved_pays s (scan_at (length s.nest) s.opening hint (first_of s.nest) (rest s)) (at_pays (length s.nest) s.opening hint (first_of s.nest) (rest s))

moved_nests : (s : State) (scan : Scan (Item × ℕ)) → 0 < length s.nest → IfOk (moved s scan) (λ x. length x.1.nest ≡ depth_after x.0 (length s.nest))
moved_nests s (Ok x) there = after_long x.0.0 s.nest there
moved_nests s (Err f) there = tt

nests_by : (s : State) (hint : Hint) (nest : List Slot) → s.nest ≡ nest → IfOk (moved s (scan_at (length nest) s.opening hint (first_of nest) (rest s))) (λ x. length x.1.nest ≡ depth_after x.0 (length s.nest))
nests_by s hint [] e = tt
nests_by s hint (slot ∷ up) e = moved_nests s _ (omega (arith, ap length e))

pub reads_nests : (s : State) (hint : Hint) → IfOk (reads s hint) (λ x. length x.1.nest ≡ depth_after x.0 (length s.nest))
unfolding reads
reads_nests s hint = nests_by s hint s.nest refl

moved_follows : (s : State) (scan : Scan (Item × ℕ)) → IfOk (moved s scan) (λ x. x.1.nest ≡ after x.0 s.nest)
moved_follows s (Ok x) = refl
moved_follows s (Err f) = tt

pub reads_follows : (s : State) (hint : Hint) → IfOk (reads s hint) (λ x. x.1.nest ≡ after x.0 s.nest)
unfolding reads
reads_follows s hint = moved_follows s _

pub begins : (frame : List ℕ) → ahead (begun frame) ≤ 24 * length frame + 64
begins frame = omega (arith, length-drop {A = ℕ})

-- ---- what the reader's code gives

nest_of : (nest : List Slot) (slot : Slot) → first_of nest ≡ Some slot → 0 < length nest
nest_of [] slot e = absurd (cc)
nest_of (top ∷ up) slot e = omega arith

module _ (s : State) (hint : Hint) where
  pub reads_ok : (slot : Slot) (depth : ℕ) (it : Item) (start taken : ℕ) → first_of s.nest ≡ Some slot → depth ≡ length s.nest → Ok ((it, start), taken) ≡ led depth s.opening hint slot (rest s) (lead_at s.opening slot (rest s))
      → reads s hint ≡ Ok (it, record { frame = s.frame; place = s.place + taken; value = s.place + start; nest = after it s.nest; opening = opening_after it })
  unfolding reads
  reads_ok slot depth it start taken top deep e = rw (top, ← deep, ← e) refl

  pub reads_err : (slot : Slot) (depth : ℕ) (f : Fault) → first_of s.nest ≡ Some slot → depth ≡ length s.nest → Err f ≡ led depth s.opening hint slot (rest s) (lead_at s.opening slot (rest s))
      → reads s hint ≡ Err (record { place = s.place + f.place; reason = f.reason })
  unfolding reads
  reads_err slot depth f top deep e = rw (top, ← deep, ← e) refl

  pub reads_none : first_of s.nest ≡ None → reads s hint ≡ Err (record { place = s.place; reason = reasons.Trailing })
  unfolding reads
  reads_none top = rw (top, add-zero) refl

pub record Read (nest : List Slot) (it : Item) : Type 0 where
  pub begun : 0 < length nest
  pub shallow : depth_after it (length nest) ≤ 256
  pub sized : IsSized it
  pub deep : length (after it nest) ≤ 256

pub was_read : (nest : List Slot) (slot : Slot) (depth : ℕ) (opening : Opening) (hint : Hint) (bytes : List ℕ) (it : Item) (start taken : ℕ) → length nest ≤ 256 → length bytes < 2 ^ 31 → first_of nest ≡ Some slot → depth ≡ length nest
    → Ok ((it, start), taken) ≡ led depth opening hint slot bytes (lead_at opening slot bytes) → Read nest it
was_read nest slot depth opening hint bytes it start taken most small top deep e =
    let paid : Paid depth (length bytes) it taken = subst (PaysAt depth (length bytes)) (sym e) (at_pays depth opening hint (Some slot) bytes) in
    let there = nest_of nest slot top in
    let room : HasRoom (length nest) it = subst (λ d. HasRoom d it) deep paid.room in
    let shallow = shallow_of it (length nest) most room in
    record { begun = there; shallow = shallow; sized = paid.sized small; deep = omega (arith, after_long it nest there) }

-- ---- the header

pub record GoodHead (size : ℕ) (header : Header) (taken : ℕ) : Type 0 where
  pub fits : taken ≤ size
  pub pays : length header.name + 2 ≤ taken

abbrev pub HeadPays : ℕ → Scan (Header × ℕ) → Type 0
HeadPays size (Ok x) = GoodHead size x.0.0 x.1
HeadPays size (Err f) = ⊤

front_fits : (bytes : List ℕ) → LeadFits (length bytes) (front_at bytes)
unfolding front_at
front_fits bytes =
    lead_bind (length bytes) (further 0 (mark_at 91) bytes) _ (further_takes 0 (mark_at 91) bytes (omega arith) (mark_takes 91)) (λ bracket p q.
    lead_bind (length bytes) (further bracket.1 (int_in reasons.BadVersion (pos 1) (pos 1)) bytes) _ (further_takes bracket.1 (int_in reasons.BadVersion (pos 1) (pos 1)) bytes q (int_takes1 reasons.BadVersion (pos 1) (pos 1))) (λ version r s.
    lead_of bytes (further version.1 (mark_at 44) bytes) (further_takes version.1 (mark_at 44) bytes s (mark_takes 44))))

-- what follows the name takes bytes behind it
abbrev pub Behind : {X : Type 0} → ℕ → ℕ → Scan X → Type 0
Behind name size (Ok x) = (name ≤ x.1) × (x.1 ≤ size)
Behind name size (Err f) = Unit {0}

shift_behind : {X : Type 0} → (name at size : ℕ) (scan : Scan X) → name ≤ at → at ≤ size → Takes1 (size - at) scan → Behind name size (shifted at scan)
shift_behind name at size (Ok x) low most t = (omega (arith, t.0), omega (arith, t.1))
shift_behind name at size (Err f) low most t = tt

further_behind : {X : Type 0} → (name n : ℕ) (scan : List ℕ → Scan X) (bytes : List ℕ) → name ≤ n → n ≤ length bytes → ((r : List ℕ) → Takes1 (length r) (scan r)) → Behind name (length bytes) (further n scan bytes)
further_behind name n scan bytes low most h =
    let at = n + gap (drop n bytes) in
    let e : length (drop at bytes) ≡ length bytes - at = length-drop at bytes in
    shift_behind name at (length bytes) (scan (drop at bytes)) (omega arith) (gap_most n bytes most) (subst (λ k. Takes1 k (scan (drop at bytes))) e (h (drop at bytes)))

bind_behind : {X Y : Type 0} → (name size : ℕ) (scan : Scan X) (go : X × ℕ → Scan Y) → Behind name size scan → ((x : X × ℕ) → name ≤ x.1 → x.1 ≤ size → Behind name size (go x)) → Behind name size (scan >>= go)
bind_behind name size (Ok x) go t h = h x t.0 t.1
bind_behind name size (Err f) go t h = tt

back_fits : (name : ℕ) (bytes : List ℕ) → name ≤ length bytes → Behind name (length bytes) (back_at name bytes)
unfolding back_at
back_fits name bytes most =
    let type_in = int_in reasons.BadType (pos 1) (pos 4) in
    let seq_in = int_in reasons.BadNumber (negsuc 2147483647) (pos 2147483647) in
    bind_behind name (length bytes) (further name (mark_at 44) bytes) _ (further_behind name name (mark_at 44) bytes (omega arith) most (mark_takes 44)) (λ first p q.
    bind_behind name (length bytes) (further first.1 type_in bytes) _ (further_behind name first.1 type_in bytes p q (int_takes1 reasons.BadType (pos 1) (pos 4))) (λ kind r s.
    bind_behind name (length bytes) (further kind.1 (mark_at 44) bytes) _ (further_behind name kind.1 (mark_at 44) bytes r s (mark_takes 44)) (λ second t u.
    bind_behind name (length bytes) (further second.1 seq_in bytes) _ (further_behind name second.1 seq_in bytes t u (int_takes1 reasons.BadNumber (negsuc 2147483647) (pos 2147483647))) (λ seq v w.
    bind_behind name (length bytes) (further seq.1 (mark_at 44) bytes) _ (further_behind name seq.1 (mark_at 44) bytes v w (mark_takes 44)) (λ third x y. (x, y))))))

abbrev pub NameFits : ℕ → Scan (List ℕ) → Type 0
NameFits size (Ok x) = (length x.0 + 2 ≤ x.1) × (x.1 ≤ size)
NameFits size (Err f) = Unit {0}

name_of : (at : ℕ) (bytes rest_of_it : List ℕ) (scan : Text (List ℕ)) → at + length rest_of_it ≤ length bytes → StringFits (length rest_of_it) scan → NameFits (length bytes) (shifted at (item reasons.BadString rest_of_it (words.moved 0 scan)))
name_of at bytes r (Whole t n) most h = (omega (arith, h.0), omega (arith, h.1))
name_of at bytes r Short most h = tt
name_of at bytes r (Bad place) most h = tt

name_fits : (at : ℕ) (bytes : List ℕ) → at ≤ length bytes → NameFits (length bytes) (shifted at (text_in (drop at bytes)))
unfolding text_in
name_fits at bytes most = name_of at bytes (drop at bytes) (text_at (drop at bytes)) (omega (arith, length-drop at bytes)) (text_fits (drop at bytes))

backed : (name : List ℕ) (start at size : ℕ) (scan : Scan (MessageType × ℤ)) → length name + 2 ≤ at → Behind at size scan
    → HeadPays size (scan >>= λ back. Ok ((record { name = name; mtype = back.0.0; seq = back.0.1 }, start), back.1))
backed name start at size (Ok x) h b = record { fits = b.1; pays = omega (arith, b.0) }
backed name start at size (Err f) h b = tt

named : (start : ℕ) (bytes : List ℕ) (scan : Scan (List ℕ)) → NameFits (length bytes) scan
    → HeadPays (length bytes) (scan >>= λ name. back_at name.1 bytes >>= λ back. Ok ((record { name = name.0; mtype = back.0.0; seq = back.0.1 }, start), back.1))
named start bytes (Ok x) h = backed x.0 start x.1 (length bytes) (back_at x.1 bytes) h.0 (back_fits x.1 bytes h.1)
named start bytes (Err f) h = tt

fronted : (bytes : List ℕ) (scan : Scan (Unit {0})) → LeadFits (length bytes) scan
    → HeadPays (length bytes) (scan >>= λ front. shifted front.1 (text_in (drop front.1 bytes)) >>= λ name. back_at name.1 bytes >>= λ back. Ok ((record { name = name.0; mtype = back.0.0; seq = back.0.1 }, front.1), back.1))
fronted bytes (Ok x) h = named x.1 bytes (shifted x.1 (text_in (drop x.1 bytes))) (name_fits x.1 bytes h)
fronted bytes (Err f) h = tt

pub head_pays : (bytes : List ℕ) → HeadPays (length bytes) (head_at bytes)
unfolding head_at
head_pays bytes = fronted bytes (front_at bytes) (front_fits bytes)

headed_pays : (s : State) (scan : Scan (Header × ℕ)) → HeadPays (length (rest s)) scan → IfOk (headed s scan) (λ x. (head_weight (length x.0.name) + ahead x.1 ≤ ahead s) × (length x.1.nest ≡ 1))
headed_pays s (Ok x) h = let a = length-drop s.place s.frame in let b = length-drop (s.place + x.1) s.frame in (omega (arith, h.fits, h.pays), refl)
headed_pays s (Err f) h = tt

pub reads_head_pays : (s : State) → IfOk (reads_head s) (λ x. (head_weight (length x.0.name) + ahead x.1 ≤ ahead s) × (length x.1.nest ≡ 1))
unfolding reads_head
reads_head_pays s = headed_pays s (head_at (rest s)) (head_pays (rest s))

headed_opens : (s : State) (scan : Scan (Header × ℕ)) → IfOk (headed s scan) (λ x. x.1.nest ≡ slots.Fields (pos 0) ∷ [])
headed_opens s (Ok x) = refl
headed_opens s (Err f) = tt

pub reads_head_opens : (s : State) → IfOk (reads_head s) (λ x. x.1.nest ≡ slots.Fields (pos 0) ∷ [])
unfolding reads_head
reads_head_opens s = headed_opens s _

pub head_sized : (bytes : List ℕ) (header : Header) (start taken : ℕ) → Ok ((header, start), taken) ≡ head_at bytes → length bytes < 2 ^ 31 → length header.name < 2 ^ 31
head_sized bytes header start taken e small =
    let good : GoodHead (length bytes) header taken = subst (HeadPays (length bytes)) (sym e) (head_pays bytes) in
    omega (arith, good.fits, good.pays)
