-- Each item weighs something.
use Rattle.std.proofs.Common.{◌<◌, arith}
use Rattle.thrift_value.specs.Items.{Item, field, stop, bool_value, i8_value, i16_value, i32_value, i64_value, double_value, text, number_text, unknown_text, struct_begin, empty_map, map_begin, set_begin, list_begin, end, uuid_value}
use Rattle.protocol_traits.specs.Room.{weight}

pub weighs : (item : Item) → 0 < weight item
weighs (field id kind) = omega arith
weighs stop = omega arith
weighs (bool_value b) = omega arith
weighs (i8_value n) = omega arith
weighs (i16_value n) = omega arith
weighs (i32_value n) = omega arith
weighs (i64_value n) = omega arith
weighs (double_value bytes) = omega arith
weighs (text bytes) = omega arith
weighs (number_text bytes) = omega arith
weighs (unknown_text bytes) = omega arith
weighs struct_begin = omega arith
weighs empty_map = omega arith
weighs (map_begin key value size) = omega arith
weighs (set_begin kind size) = omega arith
weighs (list_begin kind size) = omega arith
weighs end = omega arith
weighs (uuid_value bytes) = omega arith
