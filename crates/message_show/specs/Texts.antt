-- The words, numbers and strings of a line.
use Rattle.std.specs.Prelude.{ℕ, ◌+◌, ◌/◌, ◌%◌, List, [], ◌∷◌, ◌++◌, flat_map, codes, take, drop, Bool, true, false, ◌&&◌, ◌||◌, not, ◌==◌, nat_lt, nat_le, if◌then◌else◌}
use Rattle.thrift_value.specs.declared.kind.Kind.{Kind}
use Rattle.thrift_value.specs.declared.kind.Kind.TheVariants as kinds
use Rattle.thrift_value.specs.declared.kind.MessageType.{MessageType}
use Rattle.thrift_value.specs.declared.kind.MessageType.TheVariants as types

unfoldable pub kind_word : Kind → List ℕ
kind_word kinds.Bool = codes "bool"
kind_word kinds.I8 = codes "i8"
kind_word kinds.I16 = codes "i16"
kind_word kinds.I32 = codes "i32"
kind_word kinds.I64 = codes "i64"
kind_word kinds.Double = codes "double"
kind_word kinds.Str = codes "string"
kind_word kinds.Struct = codes "struct"
kind_word kinds.Map = codes "map"
kind_word kinds.Set = codes "set"
kind_word kinds.List = codes "list"
kind_word kinds.Uuid = codes "uuid"

unfoldable pub type_word : MessageType → List ℕ
type_word types.Call = codes "call"
type_word types.Reply = codes "reply"
type_word types.Exception = codes "exception"
type_word types.Oneway = codes "oneway"

unfoldable pub bool_word : Bool → List ℕ
bool_word true = codes "true"
bool_word false = codes "false"

-- 0 to 9, then A to F
unfoldable pub upper_digit : ℕ → ℕ
upper_digit n = if nat_lt n 10 then n + 48 else n + 55

-- 0 to 9, then a to f
unfoldable pub lower_digit : ℕ → ℕ
lower_digit n = if nat_lt n 10 then n + 48 else n + 87

-- a byte in two digits
unfoldable pub upper_byte : ℕ → List ℕ
upper_byte b = upper_digit (b / 16) ∷ upper_digit (b % 16) ∷ []

unfoldable pub lower_byte : ℕ → List ℕ
lower_byte b = lower_digit (b / 16) ∷ lower_digit (b % 16) ∷ []

-- a printing character of ASCII that is neither a quote nor a backslash
abbrev pub is_plain : ℕ → Bool
is_plain b = nat_le 32 b && nat_le b 126 && not (b == 34) && not (b == 92)

-- A byte of a string: a plain one as it is, a quote and a backslash behind a backslash, any other as \x and its two digits.
unfoldable pub byte_text : ℕ → List ℕ
byte_text b =
    if is_plain b then b ∷ []
    else if b == 34 || b == 92 then 92 ∷ b ∷ []
    else 92 ∷ 120 ∷ upper_byte b

-- a string between quotes
unfoldable pub quoted : List ℕ → List ℕ
quoted bytes = 34 ∷ flat_map byte_text bytes ++ 34 ∷ []

-- the bytes of a double behind 0x
unfoldable pub double_text : List ℕ → List ℕ
double_text bytes = codes "0x" ++ flat_map upper_byte bytes

-- so many bytes, and a dash behind them
unfoldable pub dashed : List ℕ → List ℕ
dashed bytes = flat_map lower_byte bytes ++ codes "-"

-- a uuid's bytes in groups of four, two, two, two and six
unfoldable pub uuid_text : List ℕ → List ℕ
uuid_text bytes = dashed (take 4 bytes) ++ dashed (take 2 (drop 4 bytes)) ++ dashed (take 2 (drop 6 bytes)) ++ dashed (take 2 (drop 8 bytes)) ++ flat_map lower_byte (drop 10 bytes)
