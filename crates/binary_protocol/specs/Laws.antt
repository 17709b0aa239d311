-- What holds of each item that is read and of each that is written, whatever the bytes.
-- Nothing here has to be believed: these are lemmas on the definitions of Reading, Scan and Plain, each with its proof.
use Rattle.std.proofs.Common.{◌≡◌, ℕ, ℤ, pos, ◌+◌, ◌*◌, ◌<◌, ◌≤◌, ◌^◌, Bool, true, false, List, [], ◌∷◌, length, take, drop, Option, Some, None, Ok, Err, refl, sym, subst, arith, length-take, length-drop, add-zero, length-append}
use Rattle.std.specs.Prelude.{IfOk, nat_lt, nat_le, ◌==◌, ◌&&◌, ◌||◌, if◌then◌else◌, slice_index}
use Rattle.std.proofs.lemmas.Int.{ints}
use Rattle.std.proofs.lemmas.Bool.Decides.{nat_tests}
use Rattle.thrift_value.specs.declared.kind.Kind.{Kind}
use Rattle.thrift_value.specs.declared.kind.Kind.TheVariants as kinds
use Rattle.thrift_value.specs.declared.kind.MessageType.{MessageType}
use Rattle.thrift_value.specs.Items.{Item, field, stop, bool_value, i8_value, i16_value, i32_value, i64_value, double_value, text, number_text, unknown_text, struct_begin, empty_map, map_begin, set_begin, list_begin, end, uuid_value}
use Rattle.protocol_traits.specs.declared.fault.Fault.{Fault}
use Rattle.protocol_traits.specs.declared.fault.Reason.TheVariants as reasons
use Rattle.protocol_traits.specs.declared.nest.Slot.{Slot}
use Rattle.protocol_traits.specs.declared.nest.Slot.TheVariants as slots
use Rattle.protocol_traits.specs.declared.proto.Mark.{Mark}
use Rattle.protocol_traits.specs.Heads.{Header}
use Rattle.protocol_traits.specs.Stack.{first_of, rest_of}
use Rattle.protocol_traits.specs.Follow.{after, spent, depth_after}
use Rattle.protocol_traits.specs.Room.{weight, head_weight, IsSized}
use Rattle.binary_protocol.specs.declared.scan.Called.TheVariants as calls
use Rattle.binary_protocol.specs.Codes.{kind_of_code, type_of_code}
use Rattle.binary_protocol.specs.Scan.{Scan, fault, cut, shifted, ◌>>=◌, nests, string_of, elements_of, map_item, map_of, is_bad_kind, field_at, bool_at, i8_at, i16_at, i32_at, i64_at, double_at, uuid_at, size_at, zero_at, string_at, text_at, elements_at, set_at, list_at, map_at, value_at, value_in, item_called, item_in}
use Rattle.binary_protocol.specs.Heads.{head_at, strict_at, old_at, version_at, type_of, type_at, seq_at}
use Rattle.binary_protocol.specs.Reading.{State, rest, top_charge, held, ahead, moved, reads, scan_at, begun, headed, reads_head}
use Rattle.binary_protocol.specs.Plain.{plain, plain_head}

-- an item that opens a level has room for it
abbrev pub HasRoom : ℕ → Item → Type 0
HasRoom depth struct_begin = depth < 256
HasRoom depth (map_begin key value size) = depth < 256
HasRoom depth (set_begin kind size) = depth < 256
HasRoom depth (list_begin kind size) = depth < 256
HasRoom depth item = Unit {0}

-- an item that is or begins a value
abbrev pub BeginsValue : Item → Type 0
BeginsValue (field id kind) = ⊥
BeginsValue stop = ⊥
BeginsValue end = ⊥
BeginsValue item = Unit {0}

-- what is held back for an item of no bytes
abbrev pub owed : Item → ℕ
owed struct_begin = 3
owed item = 0

pub record Value (depth : ℕ) (bytes : List ℕ) (item : Item) (taken : ℕ) : Type 0 where
  pub fits : taken ≤ length bytes
  pub pays : weight item ≤ 24 * taken + owed item
  pub room : HasRoom depth item
  pub sized : IsSized item
  pub value : BeginsValue item

abbrev pub ValueIn : ℕ → List ℕ → Scan Item → Type 0
ValueIn depth bytes (Ok x) = Value depth bytes x.0 x.1
ValueIn depth bytes (Err f) = f.place ≤ length bytes

take-most : (n : ℕ) (xs : List ℕ) → length (take n xs) ≤ n
take-most n xs = omega (arith, length-take {A = ℕ})

-- a size takes four bytes
abbrev pub SizeIn : List ℕ → Scan ℕ → Type 0
SizeIn bytes (Ok x) = (x.1 ≡ 4) × (4 ≤ length bytes) × (x.0 < 2 ^ 31)
SizeIn bytes (Err f) = f.place ≤ length bytes

size_good : (bytes : List ℕ) → SizeIn bytes (size_at bytes)
unfolding size_at
size_good bytes = grind (arith, nat_tests)

zero_good : (bytes : List ℕ) → SizeIn bytes (zero_at bytes)
unfolding zero_at
zero_good bytes = grind (arith, nat_tests)

-- a text takes its length and its bytes
abbrev pub StringIn : List ℕ → Scan (List ℕ) → Type 0
StringIn bytes (Ok x) = (length x.0 + 4 ≤ x.1) × (x.1 ≤ length bytes) × (length x.0 < 2 ^ 31)
StringIn bytes (Err f) = f.place ≤ length bytes

string_of_good : (bytes : List ℕ) (size : Scan ℕ) → SizeIn bytes size → StringIn bytes (string_of bytes size)
string_of_good bytes (Ok size) good = let small : size.0 < 2 ^ 31 = good.2 in grind (arith, nat_tests, length-take {A = ℕ}, length-drop {A = ℕ})
string_of_good bytes (Err f) good = good

string_good : (bytes : List ℕ) → StringIn bytes (string_at bytes)
unfolding string_at
string_good bytes = string_of_good bytes (size_at bytes) (size_good bytes)

-- what stands before elements takes five bytes
abbrev pub ElementsIn : List ℕ → Scan (Kind × ℕ) → Type 0
ElementsIn bytes (Ok x) = (x.1 ≡ 5) × (5 ≤ length bytes) × (x.0.1 < 2 ^ 31)
ElementsIn bytes (Err f) = f.place ≤ length bytes

elements_of_good : (bytes : List ℕ) (kind : Option Kind) (size : Scan ℕ) → 1 ≤ length bytes → SizeIn (drop 1 bytes) size → ElementsIn bytes (elements_of kind size)
elements_of_good bytes None size some good = omega arith
elements_of_good bytes (Some kind) (Ok size) some good = (omega (arith, good.0), omega (arith, good.1, length-drop {A = ℕ}), good.2)
elements_of_good bytes (Some kind) (Err f) some good = omega (arith, good, length-drop {A = ℕ})

elements_good : (bytes : List ℕ) → ElementsIn bytes (elements_at bytes)
unfolding elements_at
elements_good bytes = tested (nat_lt (length bytes) 1) refl
  where
    tested : (none : Bool) → nat_lt (length bytes) 1 ≡ none → ElementsIn bytes (if none then cut bytes else elements_of (kind_of_code (slice_index bytes 0)) (size_at (drop 1 bytes)))
    tested true is = omega arith
    tested false is = elements_of_good bytes (kind_of_code (slice_index bytes 0)) (size_at (drop 1 bytes)) (grind (arith, nat_tests)) (size_good (drop 1 bytes))

text_holds : (depth : ℕ) (bytes : List ℕ) (scan : Scan (List ℕ)) → StringIn bytes scan → ValueIn depth bytes (scan >>= λ x. Ok (text x.0, x.1))
text_holds depth bytes (Ok x) good = record { fits = good.1; pays = omega (arith, good.0); room = tt; sized = good.2; value = tt }
text_holds depth bytes (Err f) good = good

set_holds : (depth : ℕ) (bytes : List ℕ) (scan : Scan (Kind × ℕ)) → depth < 256 → ElementsIn bytes scan → ValueIn depth bytes (scan >>= λ x. Ok (set_begin x.0.0 x.0.1, x.1))
set_holds depth bytes (Ok x) room good = record { fits = omega (arith, good.0, good.1); pays = omega (arith, good.0); room = room; sized = good.2; value = tt }
set_holds depth bytes (Err f) room good = good

list_holds : (depth : ℕ) (bytes : List ℕ) (scan : Scan (Kind × ℕ)) → depth < 256 → ElementsIn bytes scan → ValueIn depth bytes (scan >>= λ x. Ok (list_begin x.0.0 x.0.1, x.1))
list_holds depth bytes (Ok x) room good = record { fits = omega (arith, good.0, good.1); pays = omega (arith, good.0); room = room; sized = good.2; value = tt }
list_holds depth bytes (Err f) room good = good

-- what stands before pairs takes six bytes
abbrev pub PairsIn : ℕ → List ℕ → Scan Item → Type 0
PairsIn depth bytes (Ok x) = Value depth (0 ∷ 0 ∷ bytes) x.0 (2 + x.1)
PairsIn depth bytes (Err f) = f.place ≤ length bytes

pairs_hold : (depth : ℕ) (key value : Kind) (bytes : List ℕ) (size : Scan ℕ) → depth < 256 → SizeIn bytes size → PairsIn depth bytes (size >>= λ x. Ok (map_item key value x.0, x.1))
pairs_hold depth key value bytes (Ok x) room good = tested (x.0 == 0) refl
  where
    tested : (none : Bool) → (x.0 == 0) ≡ none → PairsIn depth bytes (Ok (if none then empty_map else map_begin key value x.0, x.1))
    tested true is = record { fits = omega (arith, good.0, good.1); pays = omega (arith, good.0); room = tt; sized = tt; value = tt }
    tested false is = record { fits = omega (arith, good.0, good.1); pays = omega (arith, good.0); room = room; sized = (grind (arith, nat_tests), good.2); value = tt }
pairs_hold depth key value bytes (Err f) room good = good

none_hold : (depth : ℕ) (bytes : List ℕ) (size : Scan ℕ) → SizeIn bytes size → PairsIn depth bytes (size >>= λ x. Ok (empty_map, x.1))
none_hold depth bytes (Ok x) good = record { fits = omega (arith, good.0, good.1); pays = omega (arith, good.0); room = tt; sized = tt; value = tt }
none_hold depth bytes (Err f) good = good

map_of_holds : (depth : ℕ) (key value : Option Kind) (bytes : List ℕ) → depth < 256 → PairsIn depth bytes (map_of key value bytes)
map_of_holds depth (Some key) (Some value) bytes room = pairs_hold depth key value bytes (size_at bytes) room (size_good bytes)
map_of_holds depth (Some key) None bytes room = none_hold depth bytes (zero_at bytes) (zero_good bytes)
map_of_holds depth None value bytes room = none_hold depth bytes (zero_at bytes) (zero_good bytes)

behind_kinds : (depth : ℕ) (bytes : List ℕ) (scan : Scan Item) → 2 ≤ length bytes → PairsIn depth (drop 2 bytes) scan → ValueIn depth bytes (shifted 2 scan)
behind_kinds depth bytes (Ok x) two good = record { fits = omega (arith, good.fits, length-drop {A = ℕ}); pays = good.pays; room = good.room; sized = good.sized; value = good.value }
behind_kinds depth bytes (Err f) two good = omega (arith, length-drop {A = ℕ})

map_holds : (depth : ℕ) (bytes : List ℕ) → depth < 256 → ValueIn depth bytes (map_at bytes)
unfolding map_at
map_holds depth bytes room = tested (nat_lt (length bytes) 1) (is_bad_kind (slice_index bytes 0)) (nat_lt (length bytes) 2) (is_bad_kind (slice_index bytes 1)) refl refl
  where
    tested : (none bad one worse : Bool) → nat_lt (length bytes) 1 ≡ none → nat_lt (length bytes) 2 ≡ one → ValueIn depth bytes (
        if none then cut bytes
        else if bad then fault 0 reasons.BadKind
        else if one then cut bytes
        else if worse then fault 1 reasons.BadKind
        else shifted 2 (map_of (kind_of_code (slice_index bytes 0)) (kind_of_code (slice_index bytes 1)) (drop 2 bytes)))
    tested true bad one worse is two = omega arith
    tested false true one worse is two = omega arith
    tested false false true worse is two = omega arith
    tested false false false true is two = grind (arith, nat_tests)
    tested false false false false is two = behind_kinds depth bytes _ (grind (arith, nat_tests)) (map_of_holds depth (kind_of_code (slice_index bytes 0)) (kind_of_code (slice_index bytes 1)) (drop 2 bytes) room)

-- the values that open no level, and the four that do
leaf_holds : (depth : ℕ) (kind : Kind) (bytes : List ℕ) → nests kind ≡ false → ValueIn depth bytes (value_at kind bytes)
unfolding value_at bool_at i8_at i16_at i32_at i64_at double_at uuid_at text_at
leaf_holds depth kinds.Bool bytes flat = grind (arith, nat_tests)
leaf_holds depth kinds.I8 bytes flat = grind (arith, nat_tests, ints)
leaf_holds depth kinds.I16 bytes flat = grind (arith, nat_tests, ints)
leaf_holds depth kinds.I32 bytes flat = grind (arith, nat_tests, ints)
leaf_holds depth kinds.I64 bytes flat = grind (arith, nat_tests, ints)
leaf_holds depth kinds.Double bytes flat = grind (arith, nat_tests, length-take {A = ℕ})
leaf_holds depth kinds.Uuid bytes flat = grind (arith, nat_tests, length-take {A = ℕ})
leaf_holds depth kinds.Str bytes flat = text_holds depth bytes (string_at bytes) (string_good bytes)
leaf_holds depth kinds.Struct bytes flat = absurd (cc)
leaf_holds depth kinds.Map bytes flat = absurd (cc)
leaf_holds depth kinds.Set bytes flat = absurd (cc)
leaf_holds depth kinds.List bytes flat = absurd (cc)

level_holds : (depth : ℕ) (kind : Kind) (bytes : List ℕ) → nests kind ≡ true → depth < 256 → ValueIn depth bytes (value_at kind bytes)
unfolding value_at set_at list_at
level_holds depth kinds.Struct bytes deep room = record { fits = omega arith; pays = omega arith; room = room; sized = tt; value = tt }
level_holds depth kinds.Map bytes deep room = map_holds depth bytes room
level_holds depth kinds.Set bytes deep room = set_holds depth bytes (elements_at bytes) room (elements_good bytes)
level_holds depth kinds.List bytes deep room = list_holds depth bytes (elements_at bytes) room (elements_good bytes)
level_holds depth kinds.Bool bytes deep room = absurd (cc)
level_holds depth kinds.I8 bytes deep room = absurd (cc)
level_holds depth kinds.I16 bytes deep room = absurd (cc)
level_holds depth kinds.I32 bytes deep room = absurd (cc)
level_holds depth kinds.I64 bytes deep room = absurd (cc)
level_holds depth kinds.Double bytes deep room = absurd (cc)
level_holds depth kinds.Uuid bytes deep room = absurd (cc)
level_holds depth kinds.Str bytes deep room = absurd (cc)

value_holds : (depth : ℕ) (kind : Kind) (bytes : List ℕ) → ValueIn depth bytes (value_in depth kind bytes)
unfolding value_in
value_holds depth kind bytes = tested (nests kind) (nat_le 256 depth) refl refl
  where
    tested : (level deep : Bool) → nests kind ≡ level → nat_le 256 depth ≡ deep → ValueIn depth bytes (if level && deep then fault 0 reasons.TooDeep else value_at kind bytes)
    tested true true is far = omega arith
    tested true false is far = level_holds depth kind bytes is (grind (arith, nat_tests))
    tested false deep is far = leaf_holds depth kind bytes is

length-spent : (nest : List Slot) → length (spent nest) ≡ length nest
length-spent [] = refl
length-spent (slots.Fields last ∷ up) = refl
length-spent (slots.Value kind id ∷ up) = refl
length-spent (slots.Elements kind left ∷ up) = refl
length-spent (slots.Keys key value left ∷ up) = refl
length-spent (slots.Values key value left ∷ up) = refl

top_most : (nest : List Slot) → top_charge nest ≤ 5
top_most [] = omega arith
top_most (slots.Fields last ∷ up) = omega arith
top_most (slots.Value kind id ∷ up) = omega arith
top_most (slots.Elements kind left ∷ up) = omega arith
top_most (slots.Keys key value left ∷ up) = omega arith
top_most (slots.Values key value left ∷ up) = omega arith

-- what is known of an item that was read where these levels are open
pub record Good (nest : List Slot) (bytes : List ℕ) (item : Item) (taken : ℕ) : Type 0 where
  pub fits : taken ≤ length bytes
  pub pays : weight item + held (after item nest) ≤ 24 * taken + held nest
  pub shallow : length nest ≤ 256 → depth_after item (length nest) ≤ 256
  pub sized : IsSized item
  pub deep : length (after item nest) ≡ depth_after item (length nest)

abbrev pub GoodIn : List Slot → List ℕ → Scan Item → Type 0
GoodIn nest bytes (Ok x) = Good nest bytes x.0 x.1
GoodIn nest bytes (Err f) = f.place ≤ length bytes

-- the parts of it that are numbers alone, for a value
record Follows (nest : List Slot) (item : Item) (taken : ℕ) : Type 0 where
  pays : weight item + held (after item nest) ≤ 24 * taken + held nest
  shallow : length nest ≤ 256 → depth_after item (length nest) ≤ 256
  deep : length (after item nest) ≡ depth_after item (length nest)

-- A value that stays at its level, and one that opens another, where one is called for.
stays : (nest : List Slot) (cost taken : ℕ) → top_charge nest ≡ 5 → cost ≤ 24 * taken + 0 → cost + held (spent nest) ≤ 24 * taken + held nest
stays nest cost taken top pays = let same = length-spent nest in let most = top_most (spent nest) in omega arith

opens : (nest : List Slot) (slot : Slot) (cost taken : ℕ) → top_charge nest ≡ 5 → cost + top_charge (slot ∷ []) ≤ 24 * taken + 3 → cost + held (slot ∷ spent nest) ≤ 24 * taken + held nest
opens nest (slots.Fields last) cost taken top pays = let same = length-spent nest in omega arith
opens nest (slots.Value kind id) cost taken top pays = let same = length-spent nest in omega arith
opens nest (slots.Elements kind left) cost taken top pays = let same = length-spent nest in omega arith
opens nest (slots.Keys key value left) cost taken top pays = let same = length-spent nest in omega arith
opens nest (slots.Values key value left) cost taken top pays = let same = length-spent nest in omega arith

value_follows : (nest : List Slot) (bytes : List ℕ) (item : Item) (taken : ℕ) → top_charge nest ≡ 5 → Value (length nest) bytes item taken → Follows nest item taken
value_follows nest bytes (field id kind) taken top v = absurd v.value
value_follows nest bytes stop taken top v = absurd v.value
value_follows nest bytes end taken top v = absurd v.value
value_follows nest bytes (bool_value b) taken top v = record { pays = stays nest _ taken top v.pays; shallow = λ h. h; deep = length-spent nest }
value_follows nest bytes (i8_value n) taken top v = record { pays = stays nest _ taken top v.pays; shallow = λ h. h; deep = length-spent nest }
value_follows nest bytes (i16_value n) taken top v = record { pays = stays nest _ taken top v.pays; shallow = λ h. h; deep = length-spent nest }
value_follows nest bytes (i32_value n) taken top v = record { pays = stays nest _ taken top v.pays; shallow = λ h. h; deep = length-spent nest }
value_follows nest bytes (i64_value n) taken top v = record { pays = stays nest _ taken top v.pays; shallow = λ h. h; deep = length-spent nest }
value_follows nest bytes (double_value b) taken top v = record { pays = stays nest _ taken top v.pays; shallow = λ h. h; deep = length-spent nest }
value_follows nest bytes (text b) taken top v = record { pays = stays nest _ taken top v.pays; shallow = λ h. h; deep = length-spent nest }
value_follows nest bytes (number_text b) taken top v = record { pays = stays nest _ taken top v.pays; shallow = λ h. h; deep = length-spent nest }
value_follows nest bytes (unknown_text b) taken top v = record { pays = stays nest _ taken top v.pays; shallow = λ h. h; deep = length-spent nest }
value_follows nest bytes empty_map taken top v = record { pays = stays nest _ taken top v.pays; shallow = λ h. h; deep = length-spent nest }
value_follows nest bytes (uuid_value b) taken top v = record { pays = stays nest _ taken top v.pays; shallow = λ h. h; deep = length-spent nest }
value_follows nest bytes struct_begin taken top v = let room = v.room in let same = length-spent nest in record { pays = opens nest (slots.Fields (pos 0)) 3 taken top (omega arith); shallow = λ h. omega arith; deep = omega arith }
value_follows nest bytes (map_begin key value size) taken top v = let room = v.room in let pays = v.pays in let same = length-spent nest in record { pays = opens nest (slots.Keys key value size) 25 taken top (omega arith); shallow = λ h. omega arith; deep = omega arith }
value_follows nest bytes (set_begin kind size) taken top v = let room = v.room in let pays = v.pays in let same = length-spent nest in record { pays = opens nest (slots.Elements kind size) 19 taken top (omega arith); shallow = λ h. omega arith; deep = omega arith }
value_follows nest bytes (list_begin kind size) taken top v = let room = v.room in let pays = v.pays in let same = length-spent nest in record { pays = opens nest (slots.Elements kind size) 19 taken top (omega arith); shallow = λ h. omega arith; deep = omega arith }

from_value : (nest : List Slot) (bytes : List ℕ) (scan : Scan Item) → top_charge nest ≡ 5 → ValueIn (length nest) bytes scan → GoodIn nest bytes scan
from_value nest bytes (Ok x) top v = let f = value_follows nest bytes x.0 x.1 top v in record { fits = v.fits; pays = f.pays; shallow = f.shallow; sized = v.sized; deep = f.deep }
from_value nest bytes (Err f) top v = v

value_good : (nest : List Slot) (kind : Kind) (bytes : List ℕ) → top_charge nest ≡ 5 → GoodIn nest bytes (value_in (length nest) kind bytes)
value_good nest kind bytes top = from_value nest bytes _ top (value_holds (length nest) kind bytes)

-- the end of a container
end_good : (nest : List Slot) (slot : Slot) (up : List Slot) (bytes : List ℕ) → nest ≡ slot ∷ up → top_charge nest ≡ 5 → Good nest bytes end 0
end_good [] slot up bytes e top = absurd (cc)
end_good (first ∷ others) slot up bytes e top = let most = top_most others in record { fits = omega arith; pays = omega arith; shallow = λ h. omega arith; sized = tt; deep = omega arith }

field_good : (last : ℤ) (up : List Slot) (bytes : List ℕ) → GoodIn (slots.Fields last ∷ up) bytes (field_at bytes)
unfolding field_at
field_good last up bytes = grind (arith, nat_tests, ints, top_most)

-- a container, whose end comes where nothing is left of it
ended_good : (nest : List Slot) (slot : Slot) (up : List Slot) (kind : Kind) (bytes : List ℕ) (none : Bool) → nest ≡ slot ∷ up → top_charge nest ≡ 5
    → GoodIn nest bytes (item_called (length nest) (if none then calls.End else calls.Value kind) bytes)
ended_good nest slot up kind bytes true e top = end_good nest slot up bytes e top
ended_good nest slot up kind bytes false e top = value_good nest kind bytes top

pub item_good : (slot : Slot) (up : List Slot) (bytes : List ℕ) → GoodIn (slot ∷ up) bytes (item_in (length (slot ∷ up)) slot bytes)
item_good (slots.Fields last) up bytes = field_good last up bytes
item_good (slots.Value kind id) up bytes = value_good (slots.Value kind id ∷ up) kind bytes refl
item_good (slots.Elements kind left) up bytes = ended_good (slots.Elements kind left ∷ up) (slots.Elements kind left) up kind bytes (left == 0) refl refl
item_good (slots.Keys key value left) up bytes = ended_good (slots.Keys key value left ∷ up) (slots.Keys key value left) up key bytes (left == 0) refl refl
item_good (slots.Values key value left) up bytes = value_good (slots.Values key value left ∷ up) value bytes refl

nest_of : (nest : List Slot) (slot : Slot) → first_of nest ≡ Some slot → nest ≡ slot ∷ rest_of nest
nest_of [] slot e = absurd (cc)
nest_of (first ∷ up) slot e = cc

-- the item at the innermost level
pub scan_good : (nest : List Slot) (slot : Slot) (bytes : List ℕ) → first_of nest ≡ Some slot → GoodIn nest bytes (item_in (length nest) slot bytes)
scan_good nest slot bytes e = let P : List Slot → Type 0 = λ n. GoodIn n bytes (item_in (length n) slot bytes) in subst P (sym (nest_of nest slot e)) (item_good slot (rest_of nest) bytes)

top_good : (nest : List Slot) (bytes : List ℕ) → GoodIn nest bytes (scan_at (first_of nest) (length nest) bytes)
top_good [] bytes = omega arith
top_good (slot ∷ up) bytes = item_good slot up bytes

moved_pays : (s : State) (scan : Scan Item) → GoodIn s.nest (rest s) scan → IfOk (moved s scan) (λ x. weight x.0 + ahead x.1 ≤ ahead s)
moved_pays s (Ok x) good = omega (arith, good.pays, good.fits, length-drop {A = ℕ})
moved_pays s (Err f) good = tt

moved_nests : (s : State) (scan : Scan Item) → GoodIn s.nest (rest s) scan → IfOk (moved s scan) (λ x. length x.1.nest ≡ depth_after x.0 (length s.nest))
moved_nests s (Ok x) good = good.deep
moved_nests s (Err f) good = tt

pub reads_pays : (s : State) → IfOk (reads s) (λ x. weight x.0 + ahead x.1 ≤ ahead s)
unfolding reads
reads_pays s = moved_pays s _ (top_good s.nest (rest s))

pub reads_nests : (s : State) → IfOk (reads s) (λ x. length x.1.nest ≡ depth_after x.0 (length s.nest))
unfolding reads
reads_nests s = moved_nests s _ (top_good s.nest (rest s))

moved_follows : (s : State) (scan : Scan Item) → IfOk (moved s scan) (λ x. x.1.nest ≡ after x.0 s.nest)
moved_follows s (Ok x) = refl
moved_follows s (Err f) = tt

pub reads_follows : (s : State) → IfOk (reads s) (λ x. x.1.nest ≡ after x.0 s.nest)
unfolding reads
reads_follows s = moved_follows s _

-- what the reader's code gives
pub reads_ok : (s : State) (slot : Slot) (depth : ℕ) (item : Item) (taken : ℕ) → first_of s.nest ≡ Some slot → depth ≡ length s.nest → Ok (item, taken) ≡ item_in depth slot (rest s)
    → reads s ≡ Ok (item, record { frame = s.frame; place = s.place + taken; value = s.place; nest = after item s.nest })
unfolding reads
reads_ok s slot depth item taken top deep e = rw (top, ← deep, ← e) refl

pub reads_err : (s : State) (slot : Slot) (depth : ℕ) (f : Fault) → first_of s.nest ≡ Some slot → depth ≡ length s.nest → Err f ≡ item_in depth slot (rest s)
    → reads s ≡ Err (record { place = s.place + f.place; reason = f.reason })
unfolding reads
reads_err s slot depth f top deep e = rw (top, ← deep, ← e) refl

pub reads_none : (s : State) → first_of s.nest ≡ None → reads s ≡ Err (record { place = s.place; reason = reasons.Trailing })
unfolding reads
reads_none s top = rw (top, add-zero) refl

-- what is known of an item that the code read
pub was_read : (nest : List Slot) (slot : Slot) (depth : ℕ) (bytes : List ℕ) (item : Item) (taken : ℕ) → first_of nest ≡ Some slot → depth ≡ length nest → Ok (item, taken) ≡ item_in depth slot bytes → Good nest bytes item taken
was_read nest slot depth bytes item taken top deep e =
    let P : Scan Item → Type 0 = GoodIn nest bytes in
    subst P (sym (rw deep at e)) (scan_good nest slot bytes top)

-- a header is longer than its name
pub record GoodHead (bytes : List ℕ) (header : Header) (taken : ℕ) : Type 0 where
  pub fits : taken ≤ length bytes
  pub pays : length header.name + 9 ≤ taken
  pub sized : length header.name < 2 ^ 31

abbrev pub HeadIn : List ℕ → Scan Header → Type 0
HeadIn bytes (Ok x) = GoodHead bytes x.0 x.1
HeadIn bytes (Err f) = f.place ≤ length bytes

-- a scan that takes at least so many bytes
abbrev pub TakesIn : {X : Type 0} → ℕ → List ℕ → Scan X → Type 0
TakesIn least bytes (Ok x) = (least ≤ x.1) × (x.1 ≤ length bytes)
TakesIn least bytes (Err f) = f.place ≤ length bytes

type_of_takes : (bytes : List ℕ) (mtype : Option MessageType) → 1 ≤ length bytes → TakesIn 1 bytes (type_of mtype)
type_of_takes bytes None some = omega arith
type_of_takes bytes (Some mtype) some = (omega arith, some)

type_takes : (bytes : List ℕ) → TakesIn 1 bytes (type_at bytes)
unfolding type_at
type_takes bytes = tested (nat_lt (length bytes) 1) refl
  where
    tested : (none : Bool) → nat_lt (length bytes) 1 ≡ none → TakesIn 1 bytes (if none then cut bytes else type_of (type_of_code (slice_index bytes 0)))
    tested true is = omega arith
    tested false is = type_of_takes bytes (type_of_code (slice_index bytes 0)) (grind (arith, nat_tests))

seq_takes : (bytes : List ℕ) → TakesIn 4 bytes (seq_at bytes)
unfolding seq_at
seq_takes bytes = grind (arith, nat_tests)

-- what stands behind so many bytes
behind_takes : {X : Type 0} (least n : ℕ) (bytes : List ℕ) (scan : Scan X) → n ≤ length bytes → TakesIn least (drop n bytes) scan → TakesIn (n + least) bytes (shifted n scan)
behind_takes least n bytes (Ok x) h takes = (omega (arith, takes.0), omega (arith, takes.1, length-drop {A = ℕ}))
behind_takes least n bytes (Err f) h takes = omega (arith, takes, length-drop {A = ℕ})

abbrev pub NamedIn : ℕ → List ℕ → Scan (List ℕ) → Type 0
NamedIn n bytes (Ok x) = (n + length x.0 + 4 ≤ x.1) × (x.1 ≤ length bytes) × (length x.0 < 2 ^ 31)
NamedIn n bytes (Err f) = f.place ≤ length bytes

behind_string : (n : ℕ) (bytes : List ℕ) (scan : Scan (List ℕ)) → n ≤ length bytes → StringIn (drop n bytes) scan → NamedIn n bytes (shifted n scan)
behind_string n bytes (Ok x) h good = (omega (arith, good.0), omega (arith, good.1, length-drop {A = ℕ}), good.2)
behind_string n bytes (Err f) h good = omega (arith, good, length-drop {A = ℕ})

version_takes : (bytes : List ℕ) → TakesIn 4 bytes (version_at bytes)
unfolding version_at
version_takes bytes = tested ((slice_index bytes 0 == 128) && (nat_lt (length bytes) 2 || (slice_index bytes 1 == 1))) (nat_lt (length bytes) 4) refl
  where
    tested : (good short : Bool) → nat_lt (length bytes) 4 ≡ short → TakesIn 4 bytes (if good then (if short then cut bytes else shifted 3 (type_at (drop 3 bytes))) else fault 0 reasons.BadVersion)
    tested true true is = omega arith
    tested true false is = behind_takes 1 3 bytes (type_at (drop 3 bytes)) (grind (arith, nat_tests)) (type_takes (drop 3 bytes))
    tested false short is = omega arith

-- the number at the end of a header
ends_good : (bytes name : List ℕ) (mtype : MessageType) (n : ℕ) (seq : Scan ℤ) → length name + 5 ≤ n → length name < 2 ^ 31 → TakesIn (n + 4) bytes seq
    → HeadIn bytes (seq >>= λ s. Ok (record { name = name; mtype = mtype; seq = s.0 }, s.1))
ends_good bytes name mtype n (Ok s) long small takes = record { fits = takes.1; pays = omega (arith, takes.0); sized = small }
ends_good bytes name mtype n (Err f) long small takes = takes

strict_named : (bytes : List ℕ) (mtype : MessageType) (at : ℕ) (name : Scan (List ℕ)) → 4 ≤ at → NamedIn at bytes name
    → HeadIn bytes (name >>= λ n. shifted n.1 (seq_at (drop n.1 bytes)) >>= λ s. Ok (record { name = n.0; mtype = mtype; seq = s.0 }, s.1))
strict_named bytes mtype at (Ok n) four good = ends_good bytes n.0 mtype n.1 _ (omega (arith, good.0)) good.2 (behind_takes 4 n.1 bytes _ good.1 (seq_takes (drop n.1 bytes)))
strict_named bytes mtype at (Err f) four good = good

strict_typed : (bytes : List ℕ) (mtype : Scan MessageType) → TakesIn 4 bytes mtype
    → HeadIn bytes (mtype >>= λ t. shifted t.1 (string_at (drop t.1 bytes)) >>= λ n. shifted n.1 (seq_at (drop n.1 bytes)) >>= λ s. Ok (record { name = n.0; mtype = t.0; seq = s.0 }, s.1))
strict_typed bytes (Ok t) takes = strict_named bytes t.0 t.1 _ takes.0 (behind_string t.1 bytes _ takes.1 (string_good (drop t.1 bytes)))
strict_typed bytes (Err f) takes = takes

strict_good : (bytes : List ℕ) → HeadIn bytes (strict_at bytes)
unfolding strict_at
strict_good bytes = strict_typed bytes (version_at bytes) (version_takes bytes)

old_typed : (bytes name : List ℕ) (least : ℕ) (mtype : Scan MessageType) → length name + 4 ≤ least → length name < 2 ^ 31 → TakesIn (least + 1) bytes mtype
    → HeadIn bytes (mtype >>= λ t. shifted t.1 (seq_at (drop t.1 bytes)) >>= λ s. Ok (record { name = name; mtype = t.0; seq = s.0 }, s.1))
old_typed bytes name least (Ok t) long small takes = ends_good bytes name t.0 t.1 _ (omega (arith, takes.0)) small (behind_takes 4 t.1 bytes _ takes.1 (seq_takes (drop t.1 bytes)))
old_typed bytes name least (Err f) long small takes = takes

old_named : (bytes : List ℕ) (name : Scan (List ℕ)) → StringIn bytes name
    → HeadIn bytes (name >>= λ n. shifted n.1 (type_at (drop n.1 bytes)) >>= λ t. shifted t.1 (seq_at (drop t.1 bytes)) >>= λ s. Ok (record { name = n.0; mtype = t.0; seq = s.0 }, s.1))
old_named bytes (Ok n) good = old_typed bytes n.0 n.1 _ good.0 good.2 (behind_takes 1 n.1 bytes _ good.1 (type_takes (drop n.1 bytes)))
old_named bytes (Err f) good = good

old_good : (bytes : List ℕ) → HeadIn bytes (old_at bytes)
unfolding old_at
old_good bytes = old_named bytes (string_at bytes) (string_good bytes)

head_good : (bytes : List ℕ) → HeadIn bytes (head_at bytes)
unfolding head_at
head_good bytes = tested (nat_lt (length bytes) 1) (nat_le 128 (slice_index bytes 0))
  where
    tested : (none high : Bool) → HeadIn bytes (if none then cut bytes else if high then strict_at bytes else old_at bytes)
    tested true high = omega arith
    tested false true = strict_good bytes
    tested false false = old_good bytes

headed_good : (s : State) (scan : Scan Header) → HeadIn (rest s) scan
    → IfOk (headed s scan) (λ x. (head_weight (length x.0.name) + ahead x.1 ≤ ahead s) × (length x.1.nest ≡ 1))
headed_good s (Ok x) good = (omega (arith, good.pays, good.fits, length-drop {A = ℕ}), refl)
headed_good s (Err f) good = tt

pub reads_head_pays : (s : State) → IfOk (reads_head s) (λ x. (head_weight (length x.0.name) + ahead x.1 ≤ ahead s) × (length x.1.nest ≡ 1))
unfolding reads_head
reads_head_pays s = headed_good s (head_at (rest s)) (head_good (rest s))

headed_opens : (s : State) (scan : Scan Header) → IfOk (headed s scan) (λ x. x.1.nest ≡ slots.Fields (pos 0) ∷ [])
headed_opens s (Ok x) = refl
headed_opens s (Err f) = tt

pub reads_head_opens : (s : State) → IfOk (reads_head s) (λ x. x.1.nest ≡ slots.Fields (pos 0) ∷ [])
unfolding reads_head
reads_head_opens s = headed_opens s _

-- what is known of a header that the code read
pub head_was_read : (bytes : List ℕ) (header : Header) (taken : ℕ) → Ok (header, taken) ≡ head_at bytes → GoodHead bytes header taken
head_was_read bytes header taken e = let P : Scan Header → Type 0 = HeadIn bytes in subst P (sym e) (head_good bytes)

-- a plain spelling weighs no more than its item
pub light : (item : Item) (mark : Mark) → IsSized item → length (plain item mark) ≤ weight item
light (field id kind) mark h = omega arith
light stop mark h = omega arith
light (bool_value b) mark h = omega arith
light (i8_value n) mark h = omega arith
light (i16_value n) mark h = omega arith
light (i32_value n) mark h = omega arith
light (i64_value n) mark h = omega arith
light (double_value bytes) mark h = omega arith
light (text bytes) mark h = omega (arith, length-append {A = ℕ})
light (number_text bytes) mark h = omega arith
light (unknown_text bytes) mark h = omega arith
light struct_begin mark h = omega arith
light empty_map mark h = omega arith
light (map_begin key value size) mark h = omega arith
light (set_begin kind size) mark h = omega arith
light (list_begin kind size) mark h = omega arith
light end mark h = omega arith
light (uuid_value bytes) mark h = omega arith

pub light_head : (h : Header) → length (plain_head h) ≤ head_weight (length h.name)
light_head h = grind (arith, length-append {A = ℕ})

pub begins : (frame : List ℕ) → ahead (begun frame) ≤ 24 * length frame + 64
begins frame = omega (arith, length-drop {A = ℕ})
