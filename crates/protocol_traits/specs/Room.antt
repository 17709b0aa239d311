-- How many bytes a writer may need for an item, whichever the protocol: the one number that readers and writers share.
use Rattle.std.specs.Prelude.{◌≡◌, ⊤, ℕ, ◌+◌, ◌*◌, ◌<◌, ◌≤◌, ◌^◌, length, FitsSigned}
use Rattle.std.specs.Int.{w8, w16, w32, w64}
use Rattle.thrift_value.specs.Items.{Item, field, stop, bool_value, i8_value, i16_value, i32_value, i64_value, double_value, text, number_text, unknown_text, struct_begin, empty_map, map_begin, set_begin, list_begin, end, uuid_value}

-- The most bytes that any protocol spells an item in: JSON's, with the marks before it and quoted as a key, but for
-- uuids and doubles. The longest JSON spelling stands beside each. Loose texts are written by no protocol; each item
-- weighs something, so what is ahead of a reader falls with each.
abbrev pub weight : Item → ℕ
weight (field id kind) = 17  -- },"-32768":{"i32"
weight stop = 3  -- {}] or }}]
weight (bool_value b) = 5  -- ,{"1"
weight (i8_value n) = 8  -- ,{"-128"
weight (i16_value n) = 10  -- ,{"-32768"
weight (i32_value n) = 15  -- ,{"-2147483648"
weight (i64_value n) = 24  -- ,{"-9223372036854775808"
weight (double_value bytes) = 8
weight (text bytes) = 6 * length bytes + 5
weight (number_text bytes) = 1
weight (unknown_text bytes) = 1
weight struct_begin = 3  -- ,{{
weight empty_map = 20  -- ,{["i32","i32",0,{}]
weight (map_begin key value size) = 25  -- ,{["i32","i32",2147483647
weight (set_begin kind size) = 19  -- ,{["i32",2147483647
weight (list_begin kind size) = 19
weight end = 2  -- }]
weight (uuid_value bytes) = 16

-- the same for a header with a name of so many bytes: [1,"..",4,-2147483648,
abbrev pub head_weight : ℕ → ℕ
head_weight length = 6 * length + 21

-- the most bytes that any protocol spells a message in that came in a frame of so many bytes
abbrev pub room_for : ℕ → ℕ
room_for n = 24 * n + 256

-- what can stand in an event: numbers of their width, and no text or container longer than a size can tell
abbrev pub IsSized : Item → Type 0
IsSized (field id kind) = FitsSigned w16 id
IsSized stop = ⊤
IsSized (bool_value b) = ⊤
IsSized (i8_value n) = FitsSigned w8 n
IsSized (i16_value n) = FitsSigned w16 n
IsSized (i32_value n) = FitsSigned w32 n
IsSized (i64_value n) = FitsSigned w64 n
IsSized (double_value bytes) = length bytes ≡ 8
IsSized (text bytes) = length bytes < 2 ^ 31
IsSized (number_text bytes) = length bytes < 2 ^ 31
IsSized (unknown_text bytes) = length bytes < 2 ^ 31
IsSized struct_begin = ⊤
IsSized empty_map = ⊤
IsSized (map_begin key value size) = (1 ≤ size) × (size < 2 ^ 31)
IsSized (set_begin kind size) = size < 2 ^ 31
IsSized (list_begin kind size) = size < 2 ^ 31
IsSized end = ⊤
IsSized (uuid_value bytes) = length bytes ≡ 16
