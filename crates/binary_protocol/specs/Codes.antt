-- The codes of kinds and message types, by the Binary protocol specification of Apache Thrift ("Struct" and "Message").
use Rattle.std.specs.Prelude.{ℕ, Option, Some, None, ◌==◌, if◌then◌else◌}
use Rattle.thrift_value.specs.declared.kind.Kind.{Kind}
use Rattle.thrift_value.specs.declared.kind.Kind.TheVariants as kinds
use Rattle.thrift_value.specs.declared.kind.MessageType.{MessageType}
use Rattle.thrift_value.specs.declared.kind.MessageType.TheVariants as types

abbrev pub code_of_kind : Kind → ℕ
code_of_kind kinds.Bool = 2
code_of_kind kinds.I8 = 3
code_of_kind kinds.Double = 4
code_of_kind kinds.I16 = 6
code_of_kind kinds.I32 = 8
code_of_kind kinds.I64 = 10
code_of_kind kinds.Str = 11
code_of_kind kinds.Struct = 12
code_of_kind kinds.Map = 13
code_of_kind kinds.Set = 14
code_of_kind kinds.List = 15
code_of_kind kinds.Uuid = 16

abbrev pub code_of_type : MessageType → ℕ
code_of_type types.Call = 1
code_of_type types.Reply = 2
code_of_type types.Exception = 3
code_of_type types.Oneway = 4

-- the kind that has this code
abbrev pub kind_of_code : ℕ → Option Kind
kind_of_code code =
    if code == 2 then Some kinds.Bool
    else if code == 3 then Some kinds.I8
    else if code == 4 then Some kinds.Double
    else if code == 6 then Some kinds.I16
    else if code == 8 then Some kinds.I32
    else if code == 10 then Some kinds.I64
    else if code == 11 then Some kinds.Str
    else if code == 12 then Some kinds.Struct
    else if code == 13 then Some kinds.Map
    else if code == 14 then Some kinds.Set
    else if code == 15 then Some kinds.List
    else if code == 16 then Some kinds.Uuid
    else None

-- the message type that has this code
abbrev pub type_of_code : ℕ → Option MessageType
type_of_code code =
    if code == 1 then Some types.Call
    else if code == 2 then Some types.Reply
    else if code == 3 then Some types.Exception
    else if code == 4 then Some types.Oneway
    else None
