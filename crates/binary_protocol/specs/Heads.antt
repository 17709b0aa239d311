-- The header of a message, in both forms of the Binary protocol specification of Apache Thrift ("Message").
use Rattle.std.specs.Prelude.{ℕ, ℤ, List, length, drop, Option, Some, None, Ok, nat_lt, nat_le, ◌==◌, ◌&&◌, ◌||◌, if◌then◌else◌, slice_index}
use Rattle.std.specs.Int.{w32}
use Rattle.thrift_value.specs.declared.kind.MessageType.{MessageType}
use Rattle.protocol_traits.specs.declared.fault.Reason.TheVariants as reasons
use Rattle.protocol_traits.specs.declared.proto.Head.{Head}
use Rattle.protocol_traits.specs.Heads.{Header, header_of}
use Rattle.binary_protocol.specs.Codes.{type_of_code}
use Rattle.binary_protocol.specs.Scan.{Scan, fault, cut, shifted, ◌>>=◌, signed_at, string_at}

abbrev pub header_scan : Head × ℕ → Header × ℕ
header_scan x = (header_of x.0, x.1)

abbrev pub type_of : Option MessageType → Scan MessageType
type_of None = fault 0 reasons.BadType
type_of (Some mtype) = Ok (mtype, 1)

-- the message type: one byte
unfoldable pub type_at : List ℕ → Scan MessageType
type_at bytes = if nat_lt (length bytes) 1 then cut bytes else type_of (type_of_code (slice_index bytes 0))

-- the sequence number
unfoldable pub seq_at : List ℕ → Scan ℤ
seq_at bytes = if nat_lt (length bytes) 4 then cut bytes else Ok (signed_at w32 bytes, 4)

-- The version is 80 01; where the frame ends behind 80 it can still become that. One byte is unused, then comes the type.
unfoldable pub version_at : List ℕ → Scan MessageType
version_at bytes =
    if (slice_index bytes 0 == 128) && (nat_lt (length bytes) 2 || (slice_index bytes 1 == 1))
    then (if nat_lt (length bytes) 4 then cut bytes else shifted 3 (type_at (drop 3 bytes)))
    else fault 0 reasons.BadVersion

-- the strict form: version, type, name, sequence number
unfoldable pub strict_at : List ℕ → Scan Header
strict_at bytes =
    version_at bytes >>= λ t.
    shifted t.1 (string_at (drop t.1 bytes)) >>= λ n.
    shifted n.1 (seq_at (drop n.1 bytes)) >>= λ s.
    Ok (record { name = n.0; mtype = t.0; seq = s.0 }, s.1)

-- the old form: name, type, sequence number
unfoldable pub old_at : List ℕ → Scan Header
old_at bytes =
    string_at bytes >>= λ n.
    shifted n.1 (type_at (drop n.1 bytes)) >>= λ t.
    shifted t.1 (seq_at (drop t.1 bytes)) >>= λ s.
    Ok (record { name = n.0; mtype = t.0; seq = s.0 }, s.1)

-- The first byte tells the form: that of a version has its highest bit, that of a name's length hasn't.
unfoldable pub head_at : List ℕ → Scan Header
head_at bytes =
    if nat_lt (length bytes) 1 then cut bytes
    else if nat_le 128 (slice_index bytes 0) then strict_at bytes
    else old_at bytes

-- where the name stands
abbrev pub name_place : List ℕ → ℕ
name_place bytes = if nat_le 128 (slice_index bytes 0) then 4 else 0
