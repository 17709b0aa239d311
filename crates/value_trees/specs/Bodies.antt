-- When events are those of a body.
use Rattle.std.specs.Prelude.{◌≡◌, ⊤, List, [], ◌∷◌, ◌++◌, length, FitsSigned}
use Rattle.std.specs.Int.{w8, w16, w32, w64}
use Rattle.thrift_value.specs.Items.{Item, field, stop, bool_value, i8_value, i16_value, i32_value, i64_value, double_value, text, number_text, unknown_text, struct_begin, empty_map, map_begin, set_begin, list_begin, end, uuid_value}
use Rattle.thrift_value.specs.Trees.{Members, items_of_members, AreMembers}

-- these are the events of a body with these fields
pub record IsBody (items : List Item) (fields : Members) : Type 0 where
  pub valid : AreMembers fields
  pub told : items_of_members fields ≡ items

-- the events of some body begin with these
pub record BeginsBody (items : List Item) : Type 0 where
  pub fields : Members
  pub valid : AreMembers fields
  pub rest : List Item
  pub told : items_of_members fields ≡ items ++ rest

-- the numbers are in their kinds' ranges, a double has eight bytes and a uuid sixteen, as in each event of the program
abbrev pub IsInRange : Item → Type 0
IsInRange (field id kind) = FitsSigned w16 id
IsInRange stop = ⊤
IsInRange (bool_value b) = ⊤
IsInRange (i8_value n) = FitsSigned w8 n
IsInRange (i16_value n) = FitsSigned w16 n
IsInRange (i32_value n) = FitsSigned w32 n
IsInRange (i64_value n) = FitsSigned w64 n
IsInRange (double_value bytes) = length bytes ≡ 8
IsInRange (text bytes) = ⊤
IsInRange (number_text bytes) = ⊤
IsInRange (unknown_text bytes) = ⊤
IsInRange struct_begin = ⊤
IsInRange empty_map = ⊤
IsInRange (map_begin key value size) = ⊤
IsInRange (set_begin kind size) = ⊤
IsInRange (list_begin kind size) = ⊤
IsInRange end = ⊤
IsInRange (uuid_value bytes) = length bytes ≡ 16

abbrev pub AreInRange : List Item → Type 0
AreInRange [] = ⊤
AreInRange (item ∷ items) = IsInRange item × AreInRange items
