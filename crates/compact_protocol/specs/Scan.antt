-- One item of the Compact protocol: what the bytes from its place on begin with, and how many bytes it takes.
-- The place of a fault counts from the item's ("Compact protocol encoding", Apache Thrift).
use Rattle.std.specs.Prelude.{ℕ, ℤ, pos, ◌+◌, ◌+ℤ◌, ◌/◌, ◌%◌, ◌≤◌, Result, List, length, take, drop, reverse, Option, Some, None, Ok, Err, Bool, true, false, nat_lt, nat_le, int_lt, ◌==◌, ◌&&◌, if◌then◌else◌, slice_index}
use Rattle.std.specs.Int.{w8, w32, cast_signed}
use Rattle.std.specs.Borrow.{Bor}
use Rattle.varint_zigzag.specs.declared.fault.VarFault.{VarFault}
use Rattle.varint_zigzag.specs.declared.fault.VarFault.TheVariants.{Short, Bad}
use Rattle.varint_zigzag.specs.Varint.{varint_at}
use Rattle.varint_zigzag.specs.Zigzag.{unfolded}
use Rattle.thrift_value.specs.declared.event.Event.{Event}
use Rattle.thrift_value.specs.declared.kind.Kind.{Kind}
use Rattle.thrift_value.specs.declared.kind.Kind.TheVariants as kinds
use Rattle.thrift_value.specs.declared.kind.MessageType.{MessageType}
use Rattle.thrift_value.specs.Items.{Item, item_of, field, stop, bool_value, i8_value, i16_value, i32_value, i64_value, double_value, text, struct_begin, empty_map, map_begin, set_begin, list_begin, end, uuid_value}
use Rattle.protocol_traits.specs.declared.fault.Fault.{Fault}
use Rattle.protocol_traits.specs.declared.fault.Reason.{Reason}
use Rattle.protocol_traits.specs.declared.fault.Reason.TheVariants as reasons
use Rattle.protocol_traits.specs.declared.nest.Slot.{Slot}
use Rattle.protocol_traits.specs.declared.nest.Slot.TheVariants as slots
use Rattle.protocol_traits.specs.Steps.{Step}
use Rattle.compact_protocol.specs.Codes.{kind_of, type_of}

-- a value and the number of bytes taken
abbrev pub Scan : Type 0 → Type 0
Scan X = Step ℕ X

abbrev pub fault : {X : Type 0} → ℕ → Reason → Scan X
fault place reason = Err (record { place = place; reason = reason })

-- what comes before moves the place and the length
abbrev pub shifted : {X : Type 0} → ℕ → Scan X → Scan X
shifted n (Ok x) = Ok (x.0, n + x.1)
shifted n (Err f) = Err (record { place = n + f.place; reason = f.reason })

-- neither the item nor the place of a fault goes past so many bytes
abbrev pub IsWithin : {A : Type 0} → ℕ → Result (A × ℕ) Fault → Type 0
IsWithin size (Ok x) = x.1 ≤ size
IsWithin size (Err f) = f.place ≤ size

abbrev pub scan_of : Event × ℕ → Item × ℕ
scan_of x = (item_of x.0, x.1)

abbrev pub string_scan : Bor (List ℕ) × ℕ → List ℕ × ℕ
string_scan x = (x.0.now, x.1)

-- go on behind what was read
infixl 10 ◌>>=◌
abbrev pub ◌>>=◌ : {X Y : Type 0} → Scan X → (X × ℕ → Scan Y) → Scan Y
(Ok x) >>= go = go x
(Err f) >>= go = Err f

-- bytes that end inside a varint are truncated, bytes that begin none are bad where it began
abbrev pub varint_of : ℕ → Result (ℕ × ℕ) VarFault → Scan ℕ
varint_of size (Ok x) = Ok x
varint_of size (Err Short) = fault size reasons.Truncated
varint_of size (Err Bad) = fault 0 reasons.BadVarint

-- a varint of 16, of 32 and of 64 bits, which may be padded to 5, 5 and 10 bytes
unfoldable pub varint16_at : List ℕ → Scan ℕ
varint16_at bytes = varint_of (length bytes) (varint_at 5 16 bytes)

unfoldable pub varint32_at : List ℕ → Scan ℕ
varint32_at bytes = varint_of (length bytes) (varint_at 5 32 bytes)

unfoldable pub varint64_at : List ℕ → Scan ℕ
varint64_at bytes = varint_of (length bytes) (varint_at 10 64 bytes)

-- a signed number of 16 bits, folded
unfoldable pub id_at : List ℕ → Scan ℤ
id_at bytes = varint16_at bytes >>= λ n. Ok (unfolded n.0, n.1)

-- a size or length: at most 2^31 - 1
unfoldable pub size_at : List ℕ → Scan ℕ
size_at bytes =
    varint32_at bytes >>= λ n.
    if nat_lt n.0 2147483648 then Ok n else fault 0 reasons.BadSize

-- a length and so many bytes
unfoldable pub string_at : List ℕ → Scan (List ℕ)
string_at bytes =
    size_at bytes >>= λ size.
    if nat_lt (length bytes) (size.1 + size.0) then fault (length bytes) reasons.Truncated
    else Ok (take size.0 (drop size.1 bytes), size.1 + size.0)

-- ---- fields

-- the id that lies so much above the last
abbrev pub next_id : ℤ → ℕ → Option ℤ
next_id last step = if int_lt (pos 32767) (last +ℤ pos step) then None else Some (last +ℤ pos step)

abbrev pub short_field : Kind → Option ℤ → Scan Item
short_field kind None = fault 0 reasons.BadId
short_field kind (Some id) = Ok (field id kind, 1)

unfoldable pub long_field : Kind → List ℕ → Scan Item
long_field kind bytes = shifted 1 (id_at (drop 1 bytes)) >>= λ id. Ok (field id.0 kind, id.1)

abbrev pub field_of : ℤ → List ℕ → Option Kind → Scan Item
field_of last bytes None = fault 0 reasons.BadKind
field_of last bytes (Some kind) =
    if slice_index bytes 0 / 16 == 0 then long_field kind bytes
    else short_field kind (next_id last (slice_index bytes 0 / 16))

-- A field's kind stands in the low half of its byte. The high half is what its id lies above that of the field
-- before, or 0 where the id follows in full. The byte 0 ends the struct.
unfoldable pub field_at : ℤ → List ℕ → Scan Item
field_at last bytes =
    if nat_lt (length bytes) 1 then fault 0 reasons.Truncated
    else if slice_index bytes 0 == 0 then Ok (stop, 1)
    else field_of last bytes (kind_of (slice_index bytes 0 % 16))

-- a bool field is true where the kind half of its byte is 1
unfoldable pub flag_of : List ℕ → Bool
flag_of bytes = slice_index bytes 0 % 16 == 1

-- ---- values

unfoldable pub bool_at : List ℕ → Scan Item
bool_at bytes =
    if nat_lt (length bytes) 1 then fault 0 reasons.Truncated
    else if slice_index bytes 0 == 1 then Ok (bool_value true, 1)
    else if slice_index bytes 0 == 2 then Ok (bool_value false, 1)
    else if slice_index bytes 0 == 0 then Ok (bool_value false, 1)
    else fault 0 reasons.BadBool

unfoldable pub i8_at : List ℕ → Scan Item
i8_at bytes =
    if nat_lt (length bytes) 1 then fault 0 reasons.Truncated
    else Ok (i8_value (cast_signed w8 (slice_index bytes 0)), 1)

unfoldable pub i16_at : List ℕ → Scan Item
i16_at bytes = id_at bytes >>= λ n. Ok (i16_value n.0, n.1)

unfoldable pub i32_at : List ℕ → Scan Item
i32_at bytes = varint32_at bytes >>= λ n. Ok (i32_value (unfolded n.0), n.1)

unfoldable pub i64_at : List ℕ → Scan Item
i64_at bytes = varint64_at bytes >>= λ n. Ok (i64_value (unfolded n.0), n.1)

-- eight bytes, little endian
unfoldable pub double_at : List ℕ → Scan Item
double_at bytes =
    if nat_lt (length bytes) 8 then fault (length bytes) reasons.Truncated
    else Ok (double_value (reverse (take 8 bytes)), 8)

unfoldable pub text_at : List ℕ → Scan Item
text_at bytes = string_at bytes >>= λ x. Ok (text x.0, x.1)

unfoldable pub uuid_at : List ℕ → Scan Item
uuid_at bytes =
    if nat_lt (length bytes) 16 then fault (length bytes) reasons.Truncated
    else Ok (uuid_value (take 16 bytes), 16)

-- The kind of the elements stands in the low half of the byte, a size of at most 14 in the high half. Where that is
-- 15 the size follows in full.
abbrev pub elements_of : List ℕ → Option Kind → Scan (Kind × ℕ)
elements_of bytes None = fault 0 reasons.BadKind
elements_of bytes (Some kind) =
    if nat_lt (slice_index bytes 0 / 16) 15 then Ok ((kind, slice_index bytes 0 / 16), 1)
    else shifted 1 (size_at (drop 1 bytes)) >>= λ size. Ok ((kind, size.0), size.1)

unfoldable pub elements_at : List ℕ → Scan (Kind × ℕ)
elements_at bytes =
    if nat_lt (length bytes) 1 then fault 0 reasons.Truncated
    else elements_of bytes (kind_of (slice_index bytes 0 % 16))

unfoldable pub set_at : List ℕ → Scan Item
set_at bytes = elements_at bytes >>= λ x. Ok (set_begin x.0.0 x.0.1, x.1)

unfoldable pub list_at : List ℕ → Scan Item
list_at bytes = elements_at bytes >>= λ x. Ok (list_begin x.0.0 x.0.1, x.1)

abbrev pub both_kinds : Option Kind → Option Kind → Scan (Kind × Kind)
both_kinds None value = fault 0 reasons.BadKind
both_kinds (Some key) None = fault 0 reasons.BadKind
both_kinds (Some key) (Some value) = Ok ((key, value), 1)

-- the kind of the keys in the high half of one byte, that of the values in the low half
unfoldable pub kinds_at : List ℕ → Scan (Kind × Kind)
kinds_at bytes =
    if nat_lt (length bytes) 1 then fault 0 reasons.Truncated
    else both_kinds (kind_of (slice_index bytes 0 / 16)) (kind_of (slice_index bytes 0 % 16))

-- an empty map tells no kinds
unfoldable pub map_at : List ℕ → Scan Item
map_at bytes =
    size_at bytes >>= λ size.
    if size.0 == 0 then Ok (empty_map, size.1)
    else shifted size.1 (kinds_at (drop size.1 bytes)) >>= λ x. Ok (map_begin x.0.0 x.0.1 size.0, x.1)

unfoldable pub value_at : Kind → List ℕ → Scan Item
value_at kinds.Bool bytes = bool_at bytes
value_at kinds.I8 bytes = i8_at bytes
value_at kinds.I16 bytes = i16_at bytes
value_at kinds.I32 bytes = i32_at bytes
value_at kinds.I64 bytes = i64_at bytes
value_at kinds.Double bytes = double_at bytes
value_at kinds.Str bytes = text_at bytes
value_at kinds.Struct bytes = Ok (struct_begin, 0)
value_at kinds.Map bytes = map_at bytes
value_at kinds.Set bytes = set_at bytes
value_at kinds.List bytes = list_at bytes
value_at kinds.Uuid bytes = uuid_at bytes

-- does a value of this kind open a level
abbrev pub opens : Kind → Bool
opens kinds.Struct = true
opens kinds.Map = true
opens kinds.Set = true
opens kinds.List = true
opens kind = false

-- a value inside so many levels
unfoldable pub value_in : ℕ → Kind → List ℕ → Scan Item
value_in depth kind bytes =
    if opens kind && nat_le 256 depth then fault 0 reasons.TooDeep else value_at kind bytes

abbrev pub is_bool : Kind → Bool
is_bool kinds.Bool = true
is_bool kind = false

-- a field's value: that of a bool field has stood in the field's byte
unfoldable pub field_value : ℕ → Kind → Bool → List ℕ → Scan Item
field_value depth kind flag bytes = if is_bool kind then Ok (bool_value flag, 0) else value_in depth kind bytes

-- so many are left: the next of them, or the end
unfoldable pub next_of : ℕ → Kind → ℕ → List ℕ → Scan Item
next_of depth kind left bytes = if left == 0 then Ok (end, 0) else value_in depth kind bytes

-- the item that the innermost level calls for, where the last field's byte told this flag
unfoldable pub item_in : ℕ → Slot → Bool → List ℕ → Scan Item
item_in depth (slots.Fields last) flag bytes = field_at last bytes
item_in depth (slots.Value kind id) flag bytes = field_value depth kind flag bytes
item_in depth (slots.Elements kind left) flag bytes = next_of depth kind left bytes
item_in depth (slots.Keys key value left) flag bytes = next_of depth key left bytes
item_in depth (slots.Values key value left) flag bytes = value_in depth value bytes

-- ---- the header

abbrev pub type_or_fault : Option MessageType → Scan MessageType
type_or_fault None = fault 1 reasons.BadType
type_or_fault (Some mtype) = Ok (mtype, 2)

-- the protocol's byte 82 (hexadecimal), then the version 1 in the low five bits and the type in the high three
unfoldable pub type_at : List ℕ → Scan MessageType
type_at bytes =
    if nat_lt (length bytes) 1 then fault 0 reasons.Truncated
    else if slice_index bytes 0 == 130 then
    (if nat_lt (length bytes) 2 then fault 1 reasons.Truncated
    else if slice_index bytes 1 % 32 == 1 then type_or_fault (type_of (slice_index bytes 1 / 32))
    else fault 1 reasons.BadVersion)
    else fault 0 reasons.BadVersion

-- the type and the sequence number, whose 32 bits are a varint as they stand
unfoldable pub front_at : List ℕ → Scan (MessageType × ℤ)
front_at bytes =
    type_at bytes >>= λ t.
    shifted t.1 (varint32_at (drop t.1 bytes)) >>= λ n.
    Ok ((t.0, cast_signed w32 n.0), n.1)
