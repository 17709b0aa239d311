-- One item of a message's body at the front of some bytes: a field, a stop, a value or an end.
use Rattle.std.specs.Prelude.{ℕ, ℤ, pos, negsuc, zero, suc, List, length, Bool, true, false, ◌&&◌, ◌==◌, nat_lt, nat_le, int_lt, Ok, if◌then◌else◌, slice_index}
use Rattle.thrift_value.specs.declared.kind.Kind.{Kind}
use Rattle.thrift_value.specs.declared.kind.Kind.TheVariants as kinds
use Rattle.thrift_value.specs.Items.{Item, field, stop, bool_value, i8_value, i16_value, i32_value, i64_value, number_text, struct_begin, empty_map, map_begin, set_begin, list_begin, end}
use Rattle.protocol_traits.specs.declared.proto.Hint.{Hint}
use Rattle.protocol_traits.specs.declared.fault.Reason.TheVariants as reasons
use Rattle.json_protocol.specs.Scan.{Scan, fault, further, mark_at, ◌>>=◌}
use Rattle.json_protocol.specs.Words.{kind_at, int_in, quoted_int_in, whole_in, double_in, string_in}

-- ---- fields

abbrev pub i16_low : ℤ
i16_low = negsuc 32767

-- a field: its id in quotes, and its kind behind the brace that holds its value
unfoldable pub field_at : List ℕ → Scan Item
field_at bytes =
    quoted_int_in reasons.BadId i16_low (pos 32767) bytes >>= λ id.
    further id.1 (mark_at 58) bytes >>= λ colon.
    further colon.1 (mark_at 123) bytes >>= λ brace.
    further brace.1 kind_at bytes >>= λ kind.
    Ok (field id.0 kind.0, kind.1)

-- behind the brace of a struct
unfoldable pub first_at : List ℕ → Scan Item
first_at bytes =
    if nat_lt (length bytes) 1 then fault 0 reasons.Truncated
    else if slice_index bytes 0 == 125 then Ok (stop, 1)
    else if slice_index bytes 0 == 34 then field_at bytes
    else fault 0 reasons.BadToken

-- behind the brace that closes a field's value
unfoldable pub next_at : List ℕ → Scan Item
next_at bytes =
    if nat_lt (length bytes) 1 then fault 0 reasons.Truncated
    else if slice_index bytes 0 == 125 then Ok (stop, 1)
    else if slice_index bytes 0 == 44 then further 1 field_at bytes
    else fault 0 reasons.BadToken

-- ---- numbers

unfoldable pub bool_at : Bool → List ℕ → Scan Item
bool_at key bytes = whole_in key reasons.BadBool (pos 0) (pos 1) bytes >>= λ n. Ok (bool_value (int_lt (pos 0) n.0), n.1)

unfoldable pub i8_at : Bool → List ℕ → Scan Item
i8_at key bytes = whole_in key reasons.BadNumber (negsuc 127) (pos 127) bytes >>= λ n. Ok (i8_value n.0, n.1)

unfoldable pub i16_at : Bool → List ℕ → Scan Item
i16_at key bytes = whole_in key reasons.BadNumber i16_low (pos 32767) bytes >>= λ n. Ok (i16_value n.0, n.1)

unfoldable pub i32_at : Bool → List ℕ → Scan Item
i32_at key bytes = whole_in key reasons.BadNumber (negsuc 2147483647) (pos 2147483647) bytes >>= λ n. Ok (i32_value n.0, n.1)

unfoldable pub i64_at : Bool → List ℕ → Scan Item
i64_at key bytes = whole_in key reasons.BadNumber (negsuc 9223372036854775807) (pos 9223372036854775807) bytes >>= λ n. Ok (i64_value n.0, n.1)

unfoldable pub double_at : Bool → List ℕ → Scan Item
double_at key bytes = double_in key bytes >>= λ t. Ok (number_text t.0, t.1)

-- ---- structs and containers

unfoldable pub struct_at : List ℕ → Scan Item
struct_at bytes = mark_at 123 bytes >>= λ brace. Ok (struct_begin, brace.1)

abbrev pub size_of : ℤ → ℕ
size_of (pos n) = n
size_of (negsuc n) = 0

abbrev pub size_in : List ℕ → Scan ℕ
size_in bytes = int_in reasons.BadSize (pos 0) (pos 2147483647) bytes >>= λ n. Ok (size_of n.0, n.1)

-- a bracket, a kind, a comma and a size
unfoldable pub sequence_at : List ℕ → Scan (Kind × ℕ)
sequence_at bytes =
    mark_at 91 bytes >>= λ bracket.
    further bracket.1 kind_at bytes >>= λ kind.
    further kind.1 (mark_at 44) bytes >>= λ comma.
    further comma.1 size_in bytes >>= λ size.
    Ok ((kind.0, size.0), size.1)

unfoldable pub list_at : List ℕ → Scan Item
list_at bytes = sequence_at bytes >>= λ l. Ok (list_begin l.0.0 l.0.1, l.1)

unfoldable pub set_at : List ℕ → Scan Item
set_at bytes = sequence_at bytes >>= λ l. Ok (set_begin l.0.0 l.0.1, l.1)

-- a bracket, two kinds and a size, with commas between them
unfoldable pub map_head_at : List ℕ → Scan ((Kind × Kind) × ℕ)
map_head_at bytes =
    mark_at 91 bytes >>= λ bracket.
    further bracket.1 kind_at bytes >>= λ key.
    further key.1 (mark_at 44) bytes >>= λ comma.
    further comma.1 kind_at bytes >>= λ value.
    further value.1 (mark_at 44) bytes >>= λ second.
    further second.1 size_in bytes >>= λ size.
    Ok (((key.0, value.0), size.0), size.1)

-- behind the size of a map without pairs, that many bytes on: a comma, its braces and its bracket
unfoldable pub no_pairs_at : ℕ → List ℕ → Scan Item
no_pairs_at at bytes =
    further at (mark_at 44) bytes >>= λ comma.
    further comma.1 (mark_at 123) bytes >>= λ brace.
    further brace.1 (mark_at 125) bytes >>= λ last.
    further last.1 (mark_at 93) bytes >>= λ bracket.
    Ok (empty_map, bracket.1)

-- the kinds of an empty map say nothing
abbrev pub map_then : List ℕ → Kind → Kind → ℕ → ℕ → Scan Item
map_then bytes key value zero at = no_pairs_at at bytes
map_then bytes key value (suc more) at = Ok (map_begin key value (suc more), at)

unfoldable pub map_at : List ℕ → Scan Item
map_at bytes = map_head_at bytes >>= λ m. map_then bytes m.0.0.0 m.0.0.1 m.0.1 m.1

unfoldable pub end_at : List ℕ → Scan Item
end_at bytes = mark_at 93 bytes >>= λ bracket. Ok (end, bracket.1)

-- ---- values

-- TJSON has no name for uuid, so no position has that kind
unfoldable pub value_at : Bool → Hint → Kind → List ℕ → Scan Item
value_at key hint kinds.Bool bytes = bool_at key bytes
value_at key hint kinds.I8 bytes = i8_at key bytes
value_at key hint kinds.I16 bytes = i16_at key bytes
value_at key hint kinds.I32 bytes = i32_at key bytes
value_at key hint kinds.I64 bytes = i64_at key bytes
value_at key hint kinds.Double bytes = double_at key bytes
value_at key hint kinds.Str bytes = string_in hint bytes
value_at key hint kinds.Struct bytes = struct_at bytes
value_at key hint kinds.Map bytes = map_at bytes
value_at key hint kinds.Set bytes = set_at bytes
value_at key hint kinds.List bytes = list_at bytes
value_at key hint kinds.Uuid bytes = fault 0 reasons.BadKind

-- a value of this kind is a level of its own
abbrev pub opens : Kind → Bool
opens kinds.Struct = true
opens kinds.Map = true
opens kinds.Set = true
opens kinds.List = true
opens kind = false

-- a value inside so many levels
unfoldable pub value_in : ℕ → Bool → Hint → Kind → List ℕ → Scan Item
value_in depth key hint kind bytes = if opens kind && nat_le 256 depth then fault 0 reasons.TooDeep else value_at key hint kind bytes
