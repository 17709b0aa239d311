-- The words of TJSON: kind names, integers as they stand and in quotes, numbers, and strings by what is known of them.
use Rattle.std.specs.Prelude.{ℕ, ℤ, ◌+◌, List, length, take, drop, Bool, ◌&&◌, ◌==◌, nat_lt, nat_le, Ok, Err, if◌then◌else◌, slice_index}
use Rattle.thrift_value.specs.declared.kind.Kind.{Kind}
use Rattle.thrift_value.specs.declared.kind.Kind.TheVariants as kinds
use Rattle.thrift_value.specs.Items.{Item, text, unknown_text}
use Rattle.protocol_traits.specs.declared.proto.Hint.{Hint}
use Rattle.protocol_traits.specs.declared.proto.Hint.TheVariants as hints
use Rattle.protocol_traits.specs.declared.fault.Reason.{Reason}
use Rattle.protocol_traits.specs.declared.fault.Reason.TheVariants as reasons
use Rattle.json_text.specs.declared.scanned.Scan.{Scan as Text}
use Rattle.json_text.specs.declared.scanned.Scan.TheVariants.{Whole, Short, Bad}
use Rattle.json_text.specs.Scan.{moved}
use Rattle.json_text.specs.Int.{int_at}
use Rattle.json_text.specs.Number.{number_at}
use Rattle.json_text.specs.Text.{text_at}
use Rattle.json_text.specs.Blob.{blob_at}
use Rattle.json_protocol.specs.Scan.{Scan, fault, item, byte_fits, word_end, ◌>>=◌}

-- ---- kind names

-- a quote, these letters and a quote, as far as there are bytes
abbrev pub begins_two : List ℕ → ℕ → ℕ → Bool
begins_two bytes a b = byte_fits bytes 0 34 && byte_fits bytes 1 a && byte_fits bytes 2 b && byte_fits bytes 3 34

abbrev pub begins_three : List ℕ → ℕ → ℕ → ℕ → Bool
begins_three bytes a b c = byte_fits bytes 0 34 && byte_fits bytes 1 a && byte_fits bytes 2 b && byte_fits bytes 3 c && byte_fits bytes 4 34

-- str, rec, map, set, lst
unfoldable pub large_kind_at : List ℕ → Scan Kind
large_kind_at bytes =
    if begins_three bytes 115 116 114 then word_end bytes 5 kinds.Str
    else if begins_three bytes 114 101 99 then word_end bytes 5 kinds.Struct
    else if begins_three bytes 109 97 112 then word_end bytes 5 kinds.Map
    else if begins_three bytes 115 101 116 then word_end bytes 5 kinds.Set
    else if begins_three bytes 108 115 116 then word_end bytes 5 kinds.List
    else fault 0 reasons.BadKind

-- i16, i32, i64, dbl
unfoldable pub wide_kind_at : List ℕ → Scan Kind
wide_kind_at bytes =
    if begins_three bytes 105 49 54 then word_end bytes 5 kinds.I16
    else if begins_three bytes 105 51 50 then word_end bytes 5 kinds.I32
    else if begins_three bytes 105 54 52 then word_end bytes 5 kinds.I64
    else if begins_three bytes 100 98 108 then word_end bytes 5 kinds.Double
    else large_kind_at bytes

-- a kind's name in quotes: tf, i8 or one of those above
unfoldable pub kind_at : List ℕ → Scan Kind
kind_at bytes =
    if begins_two bytes 116 102 then word_end bytes 4 kinds.Bool
    else if begins_two bytes 105 56 then word_end bytes 4 kinds.I8
    else wide_kind_at bytes

-- ---- integers

unfoldable pub int_in : Reason → ℤ → ℤ → List ℕ → Scan ℤ
int_in reason low high bytes = item reason bytes (moved 0 (int_at low high (drop 0 bytes)))

-- behind an opening quote and what it holds: the closing quote
abbrev pub closed : {X : Type 0} → Reason → List ℕ → Text X → Scan X
closed reason bytes (Whole x after) =
    if nat_le (length bytes) after then fault (length bytes) reasons.Truncated
    else if slice_index bytes after == 34 then Ok (x, after + 1)
    else fault 0 reason
closed reason bytes Short = fault (length bytes) reasons.Truncated
closed reason bytes (Bad place) = fault 0 reason

-- an integer in quotes; what is wrong with it lies at its opening quote
unfoldable pub quoted_int_in : Reason → ℤ → ℤ → List ℕ → Scan ℤ
quoted_int_in reason low high bytes =
    if nat_lt (length bytes) 1 then fault 0 reasons.Truncated
    else if slice_index bytes 0 == 34 then closed reason bytes (moved 1 (int_at low high (drop 1 bytes)))
    else fault 0 reason

-- in quotes where it is a key
abbrev pub whole_in : Bool → Reason → ℤ → ℤ → List ℕ → Scan ℤ
whole_in key reason low high bytes = if key then quoted_int_in reason low high bytes else int_in reason low high bytes

-- ---- numbers that are no integers

-- Infinity and a quote, from this place on, as far as there are bytes
unfoldable pub infinity_fits : List ℕ → ℕ → Bool
infinity_fits bytes at =
    byte_fits bytes at 73 && byte_fits bytes (at + 1) 110 && byte_fits bytes (at + 2) 102 && byte_fits bytes (at + 3) 105
    && byte_fits bytes (at + 4) 110 && byte_fits bytes (at + 5) 105 && byte_fits bytes (at + 6) 116 && byte_fits bytes (at + 7) 121 && byte_fits bytes (at + 8) 34

-- the bytes from this place on, so many of them, where a scan tells how many
abbrev pub spelled : ℕ → List ℕ → Scan ℕ → Scan (List ℕ)
spelled from bytes (Ok x) = Ok (take x.0 (drop from bytes), x.1)
spelled from bytes (Err f) = Err f

unfoldable pub number_in : List ℕ → Scan ℕ
number_in bytes = item reasons.BadNumber bytes (moved 0 (number_at (drop 0 bytes)))

-- a number in quotes
unfoldable pub quoted_number_in : List ℕ → Scan ℕ
quoted_number_in bytes =
    if nat_lt (length bytes) 1 then fault 0 reasons.Truncated
    else if slice_index bytes 0 == 34 then closed reasons.BadNumber bytes (moved 1 (number_at (drop 1 bytes)))
    else fault 0 reasons.BadNumber

-- a number, in quotes where it is a key, or one of the words NaN, Infinity and -Infinity in their one pair of quotes
unfoldable pub double_in : Bool → List ℕ → Scan (List ℕ)
double_in key bytes =
    if begins_three bytes 78 97 78 then spelled 1 bytes (word_end bytes 5 3)
    else if byte_fits bytes 0 34 && infinity_fits bytes 1 then spelled 1 bytes (word_end bytes 10 8)
    else if byte_fits bytes 0 34 && byte_fits bytes 1 45 && infinity_fits bytes 2 then spelled 1 bytes (word_end bytes 11 9)
    else if key then spelled 1 bytes (quoted_number_in bytes)
    else spelled 0 bytes (number_in bytes)

-- ---- strings

unfoldable pub text_in : List ℕ → Scan (List ℕ)
text_in bytes = item reasons.BadString bytes (moved 0 (text_at (drop 0 bytes)))

unfoldable pub blob_in : List ℕ → Scan (List ℕ)
blob_in bytes = item reasons.BadBase64 bytes (moved 0 (blob_at (drop 0 bytes)))

-- a string is text, base64, or text of which nothing says what it means
unfoldable pub string_in : Hint → List ℕ → Scan Item
string_in hints.Text bytes = text_in bytes >>= λ t. Ok (text t.0, t.1)
string_in hints.Blob bytes = blob_in bytes >>= λ t. Ok (text t.0, t.1)
string_in hints.Unknown bytes = text_in bytes >>= λ t. Ok (unknown_text t.0, t.1)
