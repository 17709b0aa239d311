-- One item of a body in the Binary protocol: what the bytes from its place on begin with, and how many bytes it takes.
-- The place of a fault counts from the item's.
use Rattle.std.specs.Prelude.{ℕ, ℤ, ◌+◌, ◌≤◌, ◌^◌, Result, List, [], ◌∷◌, length, take, drop, Option, Some, None, is_none, Ok, Err, Bool, true, false, nat_lt, nat_le, ◌==◌, ◌&&◌, ◌||◌, not, if◌then◌else◌, slice_index}
use Rattle.std.specs.Int.{Width, w8, w16, w32, w64, from_be_bytes, cast_signed}
use Rattle.std.specs.Borrow.{Bor}
use Rattle.thrift_value.specs.declared.event.Event.{Event}
use Rattle.thrift_value.specs.declared.kind.Kind.{Kind}
use Rattle.thrift_value.specs.declared.kind.Kind.TheVariants as kinds
use Rattle.thrift_value.specs.Items.{Item, item_of, field, stop, bool_value, i8_value, i16_value, i32_value, i64_value, double_value, text, struct_begin, empty_map, map_begin, set_begin, list_begin, end, uuid_value}
use Rattle.protocol_traits.specs.declared.fault.Fault.{Fault}
use Rattle.protocol_traits.specs.declared.fault.Reason.{Reason}
use Rattle.protocol_traits.specs.declared.fault.Reason.TheVariants as reasons
use Rattle.protocol_traits.specs.declared.nest.Slot.{Slot}
use Rattle.protocol_traits.specs.declared.nest.Slot.TheVariants as slots
use Rattle.protocol_traits.specs.Steps.{Step}
use Rattle.binary_protocol.specs.declared.scan.Called.{Called}
use Rattle.binary_protocol.specs.declared.scan.Called.TheVariants as calls
use Rattle.binary_protocol.specs.Codes.{kind_of_code}

-- a value and the number of bytes taken
abbrev pub Scan : Type 0 → Type 0
Scan X = Step ℕ X

abbrev pub fault : {X : Type 0} → ℕ → Reason → Scan X
fault place reason = Err (record { place = place; reason = reason })

-- the bytes end inside an item that more bytes could still make good
abbrev pub cut : {X : Type 0} → List ℕ → Scan X
cut bytes = fault (length bytes) reasons.Truncated

-- what comes before moves the place and the length
abbrev pub shifted : {X : Type 0} → ℕ → Scan X → Scan X
shifted n (Ok x) = Ok (x.0, n + x.1)
shifted n (Err f) = Err (record { place = n + f.place; reason = f.reason })

-- neither the item nor the place of a fault goes past so many bytes
abbrev pub IsWithin : {A : Type 0} → ℕ → Result (A × ℕ) Fault → Type 0
IsWithin size (Ok x) = x.1 ≤ size
IsWithin size (Err f) = f.place ≤ size

abbrev pub scan_of : Event × ℕ → Item × ℕ
scan_of x = (item_of x.0, x.1)

abbrev pub string_scan : Bor (List ℕ) × ℕ → List ℕ × ℕ
string_scan x = (x.0.now, x.1)

-- go on with what was read
infixl 10 ◌>>=◌
abbrev pub ◌>>=◌ : {X Y : Type 0} → Scan X → (X × ℕ → Scan Y) → Scan Y
(Ok x) >>= go = go x
(Err f) >>= go = Err f

-- The number that the first bytes make, big endian: as many of them as the width has.
abbrev pub unsigned_at : Width → List ℕ → ℕ
unsigned_at w bytes = from_be_bytes w bytes

abbrev pub signed_at : Width → List ℕ → ℤ
signed_at w bytes = cast_signed w (unsigned_at w bytes)

-- Before a field stands its kind, or 0 at the end of the struct; then its id.
abbrev pub field_of : Option Kind → List ℕ → Scan Item
field_of None bytes = fault 0 reasons.BadKind
field_of (Some kind) bytes =
    if nat_lt (length bytes) 3 then cut bytes
    else Ok (field (cast_signed w16 (from_be_bytes w16 (slice_index bytes 1 ∷ slice_index bytes 2 ∷ []))) kind, 3)

unfoldable pub field_at : List ℕ → Scan Item
field_at bytes =
    if nat_lt (length bytes) 1 then cut bytes
    else if slice_index bytes 0 == 0 then Ok (stop, 1)
    else field_of (kind_of_code (slice_index bytes 0)) bytes

unfoldable pub bool_at : List ℕ → Scan Item
bool_at bytes =
    if nat_lt (length bytes) 1 then cut bytes
    else if slice_index bytes 0 == 0 then Ok (bool_value false, 1)
    else if slice_index bytes 0 == 1 then Ok (bool_value true, 1)
    else fault 0 reasons.BadBool

unfoldable pub i8_at : List ℕ → Scan Item
i8_at bytes = if nat_lt (length bytes) 1 then cut bytes else Ok (i8_value (signed_at w8 bytes), 1)

unfoldable pub i16_at : List ℕ → Scan Item
i16_at bytes = if nat_lt (length bytes) 2 then cut bytes else Ok (i16_value (signed_at w16 bytes), 2)

unfoldable pub i32_at : List ℕ → Scan Item
i32_at bytes = if nat_lt (length bytes) 4 then cut bytes else Ok (i32_value (signed_at w32 bytes), 4)

unfoldable pub i64_at : List ℕ → Scan Item
i64_at bytes = if nat_lt (length bytes) 8 then cut bytes else Ok (i64_value (signed_at w64 bytes), 8)

unfoldable pub double_at : List ℕ → Scan Item
double_at bytes = if nat_lt (length bytes) 8 then cut bytes else Ok (double_value (take 8 bytes), 8)

unfoldable pub uuid_at : List ℕ → Scan Item
uuid_at bytes = if nat_lt (length bytes) 16 then cut bytes else Ok (uuid_value (take 16 bytes), 16)

-- A size's first byte tells its sign, whether or not the rest of it stands there.
abbrev pub size_begun : List ℕ → Scan ℕ
size_begun bytes =
    if nat_lt (length bytes) 1 then cut bytes
    else if nat_le 128 (slice_index bytes 0) then fault 0 reasons.BadSize
    else cut bytes

-- a size or a length: an i32 that isn't negative
unfoldable pub size_at : List ℕ → Scan ℕ
size_at bytes =
    if nat_lt (length bytes) 4 then size_begun bytes
    else if nat_lt (unsigned_at w32 bytes) (2 ^ 31) then Ok (unsigned_at w32 bytes, 4)
    else fault 0 reasons.BadSize

-- a byte that is 0, or that doesn't stand there
abbrev pub is_zero_at : List ℕ → ℕ → Bool
is_zero_at bytes at = nat_le (length bytes) at || (slice_index bytes at == 0)

-- a size that has to be 0
unfoldable pub zero_at : List ℕ → Scan ℕ
zero_at bytes =
    if (is_zero_at bytes 0 && is_zero_at bytes 1) && (is_zero_at bytes 2 && is_zero_at bytes 3)
    then (if nat_lt (length bytes) 4 then cut bytes else Ok (0, 4))
    else fault 0 reasons.BadSize

abbrev pub string_of : List ℕ → Scan ℕ → Scan (List ℕ)
string_of bytes (Err f) = Err f
string_of bytes (Ok size) =
    if nat_lt (length bytes) (size.0 + 4) then cut bytes
    else Ok (take size.0 (drop 4 bytes), size.0 + 4)

-- a length and so many bytes
unfoldable pub string_at : List ℕ → Scan (List ℕ)
string_at bytes = string_of bytes (size_at bytes)

unfoldable pub text_at : List ℕ → Scan Item
text_at bytes = string_at bytes >>= λ x. Ok (text x.0, x.1)

-- Before the elements of a list or set stand their kind and their number.
abbrev pub elements_of : Option Kind → Scan ℕ → Scan (Kind × ℕ)
elements_of None size = fault 0 reasons.BadKind
elements_of (Some kind) (Ok size) = Ok ((kind, size.0), 1 + size.1)
elements_of (Some kind) (Err f) = Err (record { place = 1 + f.place; reason = f.reason })

unfoldable pub elements_at : List ℕ → Scan (Kind × ℕ)
elements_at bytes =
    if nat_lt (length bytes) 1 then cut bytes
    else elements_of (kind_of_code (slice_index bytes 0)) (size_at (drop 1 bytes))

unfoldable pub set_at : List ℕ → Scan Item
set_at bytes = elements_at bytes >>= λ x. Ok (set_begin x.0.0 x.0.1, x.1)

unfoldable pub list_at : List ℕ → Scan Item
list_at bytes = elements_at bytes >>= λ x. Ok (list_begin x.0.0 x.0.1, x.1)

-- The empty map tells no kinds.
abbrev pub map_item : Kind → Kind → ℕ → Item
map_item key value size = if size == 0 then empty_map else map_begin key value size

-- What stands behind a map's kind bytes, which name a kind or are 0: pairs need both kinds.
abbrev pub map_of : Option Kind → Option Kind → List ℕ → Scan Item
map_of (Some key) (Some value) bytes = size_at bytes >>= λ size. Ok (map_item key value size.0, size.1)
map_of (Some key) None bytes = zero_at bytes >>= λ size. Ok (empty_map, size.1)
map_of None value bytes = zero_at bytes >>= λ size. Ok (empty_map, size.1)

-- a map's kind byte that is neither 0 nor a kind's
abbrev pub is_bad_kind : ℕ → Bool
is_bad_kind code = is_none (kind_of_code code) && not (code == 0)

unfoldable pub map_at : List ℕ → Scan Item
map_at bytes =
    if nat_lt (length bytes) 1 then cut bytes
    else if is_bad_kind (slice_index bytes 0) then fault 0 reasons.BadKind
    else if nat_lt (length bytes) 2 then cut bytes
    else if is_bad_kind (slice_index bytes 1) then fault 1 reasons.BadKind
    else shifted 2 (map_of (kind_of_code (slice_index bytes 0)) (kind_of_code (slice_index bytes 1)) (drop 2 bytes))

unfoldable pub value_at : Kind → List ℕ → Scan Item
value_at kinds.Bool bytes = bool_at bytes
value_at kinds.I8 bytes = i8_at bytes
value_at kinds.I16 bytes = i16_at bytes
value_at kinds.I32 bytes = i32_at bytes
value_at kinds.I64 bytes = i64_at bytes
value_at kinds.Double bytes = double_at bytes
value_at kinds.Str bytes = text_at bytes
value_at kinds.Struct bytes = Ok (struct_begin, 0)
value_at kinds.Map bytes = map_at bytes
value_at kinds.Set bytes = set_at bytes
value_at kinds.List bytes = list_at bytes
value_at kinds.Uuid bytes = uuid_at bytes

-- is a value of this kind one level more
abbrev pub nests : Kind → Bool
nests kinds.Struct = true
nests kinds.Map = true
nests kinds.Set = true
nests kinds.List = true
nests kind = false

-- A value inside so many levels. One that lies too deep is told before all else, whether or not a byte stands there.
unfoldable pub value_in : ℕ → Kind → List ℕ → Scan Item
value_in depth kind bytes =
    if nests kind && nat_le 256 depth then fault 0 reasons.TooDeep else value_at kind bytes

-- what a level calls for
abbrev pub called_for : Slot → Called
called_for (slots.Fields last) = calls.Field
called_for (slots.Value kind id) = calls.Value kind
called_for (slots.Elements kind left) = if left == 0 then calls.End else calls.Value kind
called_for (slots.Keys key value left) = if left == 0 then calls.End else calls.Value key
called_for (slots.Values key value left) = calls.Value value

-- the item that is called for inside so many levels
abbrev pub item_called : ℕ → Called → List ℕ → Scan Item
item_called depth calls.Field bytes = field_at bytes
item_called depth calls.End bytes = Ok (end, 0)
item_called depth (calls.Value kind) bytes = value_in depth kind bytes

-- the item that the innermost of so many levels calls for
abbrev pub item_in : ℕ → Slot → List ℕ → Scan Item
item_in depth slot bytes = item_called depth (called_for slot) bytes
