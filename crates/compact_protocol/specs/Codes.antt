-- The numbers that stand for kinds and message types ("Compact protocol encoding", Apache Thrift).
use Rattle.std.specs.Prelude.{ℕ, Bool, true, false, Option, Some, None, ◌==◌, if◌then◌else◌}
use Rattle.thrift_value.specs.declared.kind.Kind.{Kind}
use Rattle.thrift_value.specs.declared.kind.Kind.TheVariants as kinds
use Rattle.thrift_value.specs.declared.kind.MessageType.{MessageType}
use Rattle.thrift_value.specs.declared.kind.MessageType.TheVariants as types

-- 1 and 2 both mean bool: of a field they tell its value besides
abbrev pub kind_of : ℕ → Option Kind
kind_of code =
    if code == 1 then Some kinds.Bool
    else if code == 2 then Some kinds.Bool
    else if code == 3 then Some kinds.I8
    else if code == 4 then Some kinds.I16
    else if code == 5 then Some kinds.I32
    else if code == 6 then Some kinds.I64
    else if code == 7 then Some kinds.Double
    else if code == 8 then Some kinds.Str
    else if code == 9 then Some kinds.List
    else if code == 10 then Some kinds.Set
    else if code == 11 then Some kinds.Map
    else if code == 12 then Some kinds.Struct
    else if code == 13 then Some kinds.Uuid
    else None

abbrev pub code_of : Kind → ℕ
code_of kinds.Bool = 1
code_of kinds.I8 = 3
code_of kinds.I16 = 4
code_of kinds.I32 = 5
code_of kinds.I64 = 6
code_of kinds.Double = 7
code_of kinds.Str = 8
code_of kinds.List = 9
code_of kinds.Set = 10
code_of kinds.Map = 11
code_of kinds.Struct = 12
code_of kinds.Uuid = 13

abbrev pub flag_code : Bool → ℕ
flag_code true = 1
flag_code false = 2

abbrev pub type_of : ℕ → Option MessageType
type_of code =
    if code == 1 then Some types.Call
    else if code == 2 then Some types.Reply
    else if code == 3 then Some types.Exception
    else if code == 4 then Some types.Oneway
    else None

abbrev pub type_code : MessageType → ℕ
type_code types.Call = 1
type_code types.Reply = 2
type_code types.Exception = 3
type_code types.Oneway = 4
