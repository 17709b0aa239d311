-- What holds of each item that is read, whatever the bytes, and of each that is written.
-- Nothing here has to be believed: these are lemmas on the definitions of Reading, Scan and Plain, each with its proof.
use Rattle.std.proofs.Common.{◌≡◌, ℕ, ℤ, pos, negsuc, ◌+◌, ◌-◌, ◌*◌, ◌/◌, ◌%◌, ◌<◌, ◌≤◌, ◌^◌, Bool, true, false, nat_lt, List, [], ◌∷◌, length, take, drop, Option, Some, None, Ok, Err, refl, ◌∙◌, sym, subst, arith, length-take, length-drop, length-append, add-zero}
use Rattle.std.specs.Prelude.{⊤, ◌+ℤ◌, if◌then◌else◌, ◌&&◌, ◌==◌, nat_le, int_lt, slice_index, IfOk, Result, FitsSigned}
use Rattle.std.specs.Int.{w8, w16, w32, w64, cast_signed, cast_unsigned}
use Rattle.std.proofs.lemmas.Bool.Decides.{nat_tests}
use Rattle.std.proofs.lemmas.List.{length-reverse}
use Rattle.std.proofs.Math.Facts.{Fits-of_z}
use Rattle.varint_zigzag.specs.declared.fault.VarFault.{VarFault}
use Rattle.varint_zigzag.specs.Varint.{varint_at, shortest}
use Rattle.varint_zigzag.specs.Zigzag.{folded, unfolded}
use Rattle.varint_zigzag.specs.Bounds.{Found, varint_found, shortest_most, shortest_ten}
use Rattle.thrift_value.specs.declared.kind.Kind.{Kind}
use Rattle.thrift_value.specs.declared.kind.Kind.TheVariants as kinds
use Rattle.thrift_value.specs.declared.kind.MessageType.{MessageType}
use Rattle.thrift_value.specs.Items.{Item, item_of, field, stop, bool_value, i8_value, i16_value, i32_value, i64_value, double_value, text, number_text, unknown_text, struct_begin, empty_map, map_begin, set_begin, list_begin, end, uuid_value}
use Rattle.protocol_traits.specs.declared.fault.Fault.{Fault}
use Rattle.protocol_traits.specs.declared.fault.Reason.TheVariants as reasons
use Rattle.protocol_traits.specs.declared.nest.Slot.{Slot}
use Rattle.protocol_traits.specs.declared.nest.Slot.TheVariants as slots
use Rattle.protocol_traits.specs.Follow.{after, spent, depth_after}
use Rattle.protocol_traits.specs.Heads.{Header}
use Rattle.protocol_traits.specs.Room.{weight, head_weight, IsSized}
use Rattle.protocol_traits.specs.Stack.{first_of, rest_of}
use Rattle.protocol_traits.specs.Steps.{seen}
use Rattle.thrift_value.specs.declared.event.Event.{Event}
use Rattle.compact_protocol.specs.Codes.{type_of, code_of, flag_code}
use Rattle.compact_protocol.specs.Scan.{Scan, scan_of, ◌>>=◌, fault, shifted, varint_of, varint16_at, varint32_at, varint64_at, id_at, size_at, string_at, next_id, short_field, long_field, field_of, field_at, flag_of, bool_at, i8_at, i16_at, i32_at, i64_at, double_at, text_at, uuid_at, elements_of, elements_at, set_at, list_at, both_kinds, kinds_at, map_at, value_at, value_in, field_value, next_of, item_in, type_or_fault, type_at, front_at, is_bool}
use Rattle.compact_protocol.specs.Plain.{Writer, short_step, field_with, field_spelling, last_of, writes_later, bool_spelling, elements_spelling, string_spelling, spelling, follows, head_spelling}
use Rattle.compact_protocol.specs.Reading.{State, rest, begun, scan_at, moved, reads, named, headed, reads_head, top_charge, held, ahead}

-- ---- what a scan found

-- of the value and the number of bytes, if they were found
abbrev pub Yields : {X : Type 0} → (X → ℕ → Type 0) → Scan X → Type 0
Yields P (Ok x) = P x.0 x.1
Yields P (Err f) = ⊤

-- a number below this bound, in one byte or more of so many
abbrev Number : ℕ → ℕ → ℕ → ℕ → Type 0
Number bound size n taken = (1 ≤ taken) × (taken ≤ size) × (n < bound)

told_number : (width size : ℕ) (found : Result (ℕ × ℕ) VarFault) → Found width size found → Yields (Number (2 ^ width) size) (varint_of size found)
told_number width size (Ok x) h = h
told_number width size (Err VarFault.Short) h = tt
told_number width size (Err VarFault.Bad) h = tt

number16 : (bytes : List ℕ) → Yields (Number (2 ^ 16) (length bytes)) (varint16_at bytes)
unfolding varint16_at
number16 bytes = told_number 16 (length bytes) (varint_at 5 16 bytes) (varint_found 5 16 bytes)

number32 : (bytes : List ℕ) → Yields (Number (2 ^ 32) (length bytes)) (varint32_at bytes)
unfolding varint32_at
number32 bytes = told_number 32 (length bytes) (varint_at 5 32 bytes) (varint_found 5 32 bytes)

number64 : (bytes : List ℕ) → Yields (Number (2 ^ 64) (length bytes)) (varint64_at bytes)
unfolding varint64_at
number64 bytes = told_number 64 (length bytes) (varint_at 10 64 bytes) (varint_found 10 64 bytes)

unfolded_fits16 : (n : ℕ) → n < 2 ^ 16 → FitsSigned w16 (unfolded n)
unfolded_fits16 n h = grind (arith, nat_tests)

unfolded_fits32 : (n : ℕ) → n < 2 ^ 32 → FitsSigned w32 (unfolded n)
unfolded_fits32 n h = grind (arith, nat_tests)

unfolded_fits64 : (n : ℕ) → n < 2 ^ 64 → FitsSigned w64 (unfolded n)
unfolded_fits64 n h = grind (arith, nat_tests)

signed_fits8 : (n : ℕ) → FitsSigned w8 (cast_signed w8 n)
signed_fits8 n = grind (arith, nat_tests)

bound : {X Y : Type 0} (P : X → ℕ → Type 0) (Q : Y → ℕ → Type 0) (scan : Scan X) (go : X × ℕ → Scan Y) → Yields P scan → ((x : X × ℕ) → P x.0 x.1 → Yields Q (go x)) → Yields Q (scan >>= go)
bound P Q (Ok x) go h k = k x h
bound P Q (Err f) go h k = tt

-- behind so many bytes
abbrev Behind : {X : Type 0} → ℕ → (X → ℕ → Type 0) → X → ℕ → Type 0
Behind n P x taken = (own : ℕ) × (taken ≡ n + own) × P x own

moved_on : {X : Type 0} (P : X → ℕ → Type 0) (n : ℕ) (scan : Scan X) → Yields P scan → Yields (Behind n P) (shifted n scan)
moved_on P n (Ok x) h = (x.1, refl, h)
moved_on P n (Err f) h = tt

-- one of two scans, by a test
either : {X : Type 0} (P : X → ℕ → Type 0) (b : Bool) (yes_scan no_scan : Scan X) → (b ≡ true → Yields P yes_scan) → (b ≡ false → Yields P no_scan) → Yields P (if b then yes_scan else no_scan)
either P true yes_scan no_scan y n = y refl
either P false yes_scan no_scan y n = n refl

abbrev Signed : ℕ → ℤ → ℕ → Type 0
Signed size z taken = (1 ≤ taken) × (taken ≤ size) × FitsSigned w16 z

id_found : (bytes : List ℕ) → Yields (Signed (length bytes)) (id_at bytes)
unfolding id_at
id_found bytes = bound (Number (2 ^ 16) (length bytes)) _ (varint16_at bytes) _ (number16 bytes) (λ x h. (h.0, h.1, unfolded_fits16 x.0 h.2))

size_found : (bytes : List ℕ) → Yields (Number (2 ^ 31) (length bytes)) (size_at bytes)
unfolding size_at
size_found bytes =
    bound (Number (2 ^ 32) (length bytes)) (Number (2 ^ 31) (length bytes)) (varint32_at bytes) _ (number32 bytes)
    (λ x h. either (Number (2 ^ 31) (length bytes)) (nat_lt x.0 2147483648) (Ok x) _ (λ e. (h.0, h.1, grind (arith, nat_tests, e))) (λ e. tt))

take_most : (n : ℕ) (xs : List ℕ) → length (take n xs) ≤ n
take_most n xs = omega (arith, length-take {A = ℕ})

abbrev Text : ℕ → List ℕ → ℕ → Type 0
Text size bytes taken = (length bytes + 1 ≤ taken) × (taken ≤ size)

string_found : (bytes : List ℕ) → Yields (Text (length bytes)) (string_at bytes)
unfolding string_at
string_found bytes =
    bound (Number (2 ^ 31) (length bytes)) (Text (length bytes)) (size_at bytes) _ (size_found bytes)
    (λ x h. either (Text (length bytes)) (nat_lt (length bytes) (x.1 + x.0)) _ _ (λ e. tt)
    (λ e. let most = take_most x.0 (drop x.1 bytes) in (omega (arith, most, h.0), grind (arith, nat_tests, e))))

abbrev Sized : ℕ → Kind × ℕ → ℕ → Type 0
Sized size x taken = (1 ≤ taken) × (taken ≤ size) × (x.1 < 2 ^ 31)

elements_of_found : (bytes : List ℕ) (kind : Option Kind) → 1 ≤ length bytes → Yields (Sized (length bytes)) (elements_of bytes kind)
elements_of_found bytes None some = tt
elements_of_found bytes (Some kind) some =
    either (Sized (length bytes)) (nat_lt (slice_index bytes 0 / 16) 15) _ _
    (λ e. (omega arith, some, grind (arith, nat_tests, e)))
    (λ e. bound (Behind 1 (Number (2 ^ 31) (length (drop 1 bytes)))) (Sized (length bytes)) (shifted 1 (size_at (drop 1 bytes))) _ (moved_on _ 1 _ (size_found (drop 1 bytes)))
    (λ x h. (omega (arith, h.1), omega (arith, h.1, h.2.1, length-drop {A = ℕ} 1 bytes), h.2.2)))

elements_found : (bytes : List ℕ) → Yields (Sized (length bytes)) (elements_at bytes)
unfolding elements_at
elements_found bytes = either (Sized (length bytes)) (nat_lt (length bytes) 1) _ _ (λ e. tt) (λ e. elements_of_found bytes _ (grind (arith, nat_tests, e)))

abbrev OneByte : {X : Type 0} → ℕ → X → ℕ → Type 0
OneByte size x taken = (taken ≡ 1) × (1 ≤ size)

both_found : (size : ℕ) (key value : Option Kind) → 1 ≤ size → Yields (OneByte size) (both_kinds key value)
both_found size None value some = tt
both_found size (Some key) None some = tt
both_found size (Some key) (Some value) some = (refl, some)

kinds_found : (bytes : List ℕ) → Yields (OneByte (length bytes)) (kinds_at bytes)
unfolding kinds_at
kinds_found bytes = either (OneByte (length bytes)) (nat_lt (length bytes) 1) _ _ (λ e. tt) (λ e. both_found (length bytes) _ _ (grind (arith, nat_tests, e)))

-- ---- a value that was read

-- an item that opens a level has room for it
abbrev pub HasRoom : ℕ → Item → Type 0
HasRoom depth struct_begin = depth < 256
HasRoom depth (map_begin key value size) = depth < 256
HasRoom depth (set_begin kind size) = depth < 256
HasRoom depth (list_begin kind size) = depth < 256
HasRoom depth item = ⊤

-- an item that is a value
abbrev pub IsValue : Item → Type 0
IsValue (field id kind) = ⊥
IsValue stop = ⊥
IsValue end = ⊥
IsValue item = ⊤

-- what is held back for an item
abbrev pub owed : Item → ℕ
owed struct_begin = 3
owed item = 0

pub record Value (depth : ℕ) (bytes : List ℕ) (item : Item) (taken : ℕ) : Type 0 where
  pub fits : taken ≤ length bytes
  pub pays : weight item ≤ 24 * taken + owed item
  pub room : HasRoom depth item
  pub sized : length bytes < 2 ^ 31 → IsSized item
  pub value : IsValue item

bool_found : (depth : ℕ) (bytes : List ℕ) → Yields (Value depth bytes) (bool_at bytes)
unfolding bool_at
bool_found depth bytes = grind (arith, nat_tests)

i8_found : (depth : ℕ) (bytes : List ℕ) → Yields (Value depth bytes) (i8_at bytes)
unfolding i8_at
i8_found depth bytes =
    either (Value depth bytes) (nat_lt (length bytes) 1) _ _ (λ e. tt)
    (λ e. record { fits = grind (arith, nat_tests, e); pays = omega arith; room = tt; sized = λ _. signed_fits8 (slice_index bytes 0); value = tt })

i16_found : (depth : ℕ) (bytes : List ℕ) → Yields (Value depth bytes) (i16_at bytes)
unfolding i16_at
i16_found depth bytes =
    bound (Signed (length bytes)) (Value depth bytes) (id_at bytes) _ (id_found bytes)
    (λ x h. record { fits = h.1; pays = omega (arith, h.0); room = tt; sized = λ _. h.2; value = tt })

i32_found : (depth : ℕ) (bytes : List ℕ) → Yields (Value depth bytes) (i32_at bytes)
unfolding i32_at
i32_found depth bytes =
    bound (Number (2 ^ 32) (length bytes)) (Value depth bytes) (varint32_at bytes) _ (number32 bytes)
    (λ x h. record { fits = h.1; pays = omega (arith, h.0); room = tt; sized = λ _. unfolded_fits32 x.0 h.2; value = tt })

i64_found : (depth : ℕ) (bytes : List ℕ) → Yields (Value depth bytes) (i64_at bytes)
unfolding i64_at
i64_found depth bytes =
    bound (Number (2 ^ 64) (length bytes)) (Value depth bytes) (varint64_at bytes) _ (number64 bytes)
    (λ x h. record { fits = h.1; pays = omega (arith, h.0); room = tt; sized = λ _. unfolded_fits64 x.0 h.2; value = tt })

first_eight : (n : ℕ) (bytes : List ℕ) → n ≤ length bytes → length (take n bytes) ≡ n
first_eight n bytes h = omega (arith, length-take {A = ℕ})

double_found : (depth : ℕ) (bytes : List ℕ) → Yields (Value depth bytes) (double_at bytes)
unfolding double_at
double_found depth bytes =
    either (Value depth bytes) (nat_lt (length bytes) 8) _ _ (λ e. tt)
    (λ e. let most : 8 ≤ length bytes = grind (arith, nat_tests, e) in
    record { fits = most; pays = omega arith; room = tt; sized = λ _. length-reverse (take 8 bytes) ∙ first_eight 8 bytes most; value = tt })

uuid_found : (depth : ℕ) (bytes : List ℕ) → Yields (Value depth bytes) (uuid_at bytes)
unfolding uuid_at
uuid_found depth bytes =
    either (Value depth bytes) (nat_lt (length bytes) 16) _ _ (λ e. tt)
    (λ e. let most : 16 ≤ length bytes = grind (arith, nat_tests, e) in
    record { fits = most; pays = omega arith; room = tt; sized = λ _. first_eight 16 bytes most; value = tt })

text_found : (depth : ℕ) (bytes : List ℕ) → Yields (Value depth bytes) (text_at bytes)
unfolding text_at
text_found depth bytes =
    bound (Text (length bytes)) (Value depth bytes) (string_at bytes) _ (string_found bytes)
    (λ x h. record { fits = h.1; pays = omega (arith, h.0); room = tt; sized = λ small. omega (arith, h.0, h.1, small); value = tt })

set_found : (depth : ℕ) (bytes : List ℕ) → depth < 256 → Yields (Value depth bytes) (set_at bytes)
unfolding set_at
set_found depth bytes room =
    bound (Sized (length bytes)) (Value depth bytes) (elements_at bytes) _ (elements_found bytes)
    (λ x h. record { fits = h.1; pays = omega (arith, h.0); room = room; sized = λ _. h.2; value = tt })

list_found : (depth : ℕ) (bytes : List ℕ) → depth < 256 → Yields (Value depth bytes) (list_at bytes)
unfolding list_at
list_found depth bytes room =
    bound (Sized (length bytes)) (Value depth bytes) (elements_at bytes) _ (elements_found bytes)
    (λ x h. record { fits = h.1; pays = omega (arith, h.0); room = room; sized = λ _. h.2; value = tt })

map_found : (depth : ℕ) (bytes : List ℕ) → depth < 256 → Yields (Value depth bytes) (map_at bytes)
unfolding map_at
map_found depth bytes room =
    bound (Number (2 ^ 31) (length bytes)) (Value depth bytes) (size_at bytes) _ (size_found bytes)
    (λ x h. either (Value depth bytes) (x.0 == 0) _ _
    (λ e. record { fits = h.1; pays = omega (arith, h.0); room = tt; sized = λ _. tt; value = tt })
    (λ e. bound (Behind x.1 (OneByte (length (drop x.1 bytes)))) (Value depth bytes) (shifted x.1 (kinds_at (drop x.1 bytes))) _ (moved_on _ x.1 _ (kinds_found (drop x.1 bytes)))
    (λ y k. record {
      fits = omega (arith, k.1, k.2.0, k.2.1, length-drop {A = ℕ} x.1 bytes);
      pays = omega (arith, k.1, k.2.0, h.0);
      room = room;
      sized = λ _. (grind (arith, nat_tests, e), h.2);
      value = tt;
    })))

roomy : (depth : ℕ) (bytes : List ℕ) (scan : Scan Item) → (depth < 256 → Yields (Value depth bytes) scan) → Yields (Value depth bytes) (if true && nat_le 256 depth then fault 0 reasons.TooDeep else scan)
roomy depth bytes scan h = either (Value depth bytes) (nat_le 256 depth) _ scan (λ e. tt) (λ e. h (grind (arith, nat_tests, e)))

value_found : (depth : ℕ) (kind : Kind) (bytes : List ℕ) → Yields (Value depth bytes) (value_in depth kind bytes)
unfolding value_in value_at
value_found depth kinds.Bool bytes = bool_found depth bytes
value_found depth kinds.I8 bytes = i8_found depth bytes
value_found depth kinds.I16 bytes = i16_found depth bytes
value_found depth kinds.I32 bytes = i32_found depth bytes
value_found depth kinds.I64 bytes = i64_found depth bytes
value_found depth kinds.Double bytes = double_found depth bytes
value_found depth kinds.Str bytes = text_found depth bytes
value_found depth kinds.Struct bytes = roomy depth bytes _ (λ room. record { fits = omega arith; pays = omega arith; room = room; sized = λ _. tt; value = tt })
value_found depth kinds.Map bytes = roomy depth bytes _ (map_found depth bytes)
value_found depth kinds.Set bytes = roomy depth bytes _ (set_found depth bytes)
value_found depth kinds.List bytes = roomy depth bytes _ (list_found depth bytes)
value_found depth kinds.Uuid bytes = uuid_found depth bytes

-- ---- an item at its level

-- the id of the last field of the innermost struct is one of 16 bits
abbrev pub HasId : List Slot → Type 0
HasId (slots.Fields last ∷ up) = FitsSigned w16 last
HasId nest = ⊤

pub record Good (nest : List Slot) (bytes : List ℕ) (item : Item) (taken : ℕ) : Type 0 where
  pub fits : taken ≤ length bytes
  pub pays : weight item + held (after item nest) ≤ 24 * taken + held nest
  pub shallow : length nest ≤ 256 → depth_after item (length nest) ≤ 256
  pub sized : HasId nest → length bytes < 2 ^ 31 → IsSized item
  pub deep : length (after item nest) ≡ depth_after item (length nest)

spent_length : (nest : List Slot) → length (spent nest) ≡ length nest
spent_length [] = refl
spent_length (slots.Fields last ∷ up) = refl
spent_length (slots.Value kind id ∷ up) = refl
spent_length (slots.Elements kind left ∷ up) = refl
spent_length (slots.Keys key value left ∷ up) = refl
spent_length (slots.Values key value left ∷ up) = refl

spent_charge : (nest : List Slot) → top_charge (spent nest) ≤ top_charge nest
spent_charge [] = omega arith
spent_charge (slots.Fields last ∷ up) = omega arith
spent_charge (slots.Value kind id ∷ up) = omega arith
spent_charge (slots.Elements kind left ∷ up) = omega arith
spent_charge (slots.Keys key value left ∷ up) = omega arith
spent_charge (slots.Values key value left ∷ up) = omega arith

-- where a value is called for
good_value : (nest : List Slot) (bytes : List ℕ) (item : Item) (taken : ℕ) → top_charge nest ≡ 5 → Value (length nest) bytes item taken → Good nest bytes item taken
good_value nest bytes (field id kind) taken five v = absurd v.value
good_value nest bytes stop taken five v = absurd v.value
good_value nest bytes end taken five v = absurd v.value
good_value nest bytes (bool_value b) taken five v = record { fits = v.fits; pays = omega (arith, v.pays, spent_length nest, spent_charge nest); shallow = λ h. h; sized = λ _. v.sized; deep = spent_length nest }
good_value nest bytes (i8_value n) taken five v = record { fits = v.fits; pays = omega (arith, v.pays, spent_length nest, spent_charge nest); shallow = λ h. h; sized = λ _. v.sized; deep = spent_length nest }
good_value nest bytes (i16_value n) taken five v = record { fits = v.fits; pays = omega (arith, v.pays, spent_length nest, spent_charge nest); shallow = λ h. h; sized = λ _. v.sized; deep = spent_length nest }
good_value nest bytes (i32_value n) taken five v = record { fits = v.fits; pays = omega (arith, v.pays, spent_length nest, spent_charge nest); shallow = λ h. h; sized = λ _. v.sized; deep = spent_length nest }
good_value nest bytes (i64_value n) taken five v = record { fits = v.fits; pays = omega (arith, v.pays, spent_length nest, spent_charge nest); shallow = λ h. h; sized = λ _. v.sized; deep = spent_length nest }
good_value nest bytes (double_value b) taken five v = record { fits = v.fits; pays = omega (arith, v.pays, spent_length nest, spent_charge nest); shallow = λ h. h; sized = λ _. v.sized; deep = spent_length nest }
good_value nest bytes (text b) taken five v = record { fits = v.fits; pays = omega (arith, v.pays, spent_length nest, spent_charge nest); shallow = λ h. h; sized = λ _. v.sized; deep = spent_length nest }
good_value nest bytes (number_text b) taken five v = record { fits = v.fits; pays = omega (arith, v.pays, spent_length nest, spent_charge nest); shallow = λ h. h; sized = λ _. v.sized; deep = spent_length nest }
good_value nest bytes (unknown_text b) taken five v = record { fits = v.fits; pays = omega (arith, v.pays, spent_length nest, spent_charge nest); shallow = λ h. h; sized = λ _. v.sized; deep = spent_length nest }
good_value nest bytes empty_map taken five v = record { fits = v.fits; pays = omega (arith, v.pays, spent_length nest, spent_charge nest); shallow = λ h. h; sized = λ _. v.sized; deep = spent_length nest }
good_value nest bytes (uuid_value b) taken five v = record { fits = v.fits; pays = omega (arith, v.pays, spent_length nest, spent_charge nest); shallow = λ h. h; sized = λ _. v.sized; deep = spent_length nest }
good_value nest bytes struct_begin taken five v = record { fits = v.fits; pays = omega (arith, v.pays, five, spent_length nest); shallow = λ h. omega (arith, v.room); sized = λ _. v.sized; deep = omega (arith, spent_length nest) }
good_value nest bytes (map_begin key value size) taken five v = record { fits = v.fits; pays = omega (arith, v.pays, five, spent_length nest); shallow = λ h. omega (arith, v.room); sized = λ _. v.sized; deep = omega (arith, spent_length nest) }
good_value nest bytes (set_begin kind size) taken five v = record { fits = v.fits; pays = omega (arith, v.pays, five, spent_length nest); shallow = λ h. omega (arith, v.room); sized = λ _. v.sized; deep = omega (arith, spent_length nest) }
good_value nest bytes (list_begin kind size) taken five v = record { fits = v.fits; pays = omega (arith, v.pays, five, spent_length nest); shallow = λ h. omega (arith, v.room); sized = λ _. v.sized; deep = omega (arith, spent_length nest) }

weaker : {X : Type 0} (P Q : X → ℕ → Type 0) (scan : Scan X) → ((x : X) (taken : ℕ) → P x taken → Q x taken) → Yields P scan → Yields Q scan
weaker P Q (Ok x) f h = f x.0 x.1 h
weaker P Q (Err f) g h = tt

good_in : (nest : List Slot) (kind : Kind) (bytes : List ℕ) → top_charge nest ≡ 5 → Yields (Good nest bytes) (value_in (length nest) kind bytes)
good_in nest kind bytes five = weaker (Value (length nest) bytes) (Good nest bytes) _ (λ item taken. good_value nest bytes item taken five) (value_found (length nest) kind bytes)

top_most : (nest : List Slot) → top_charge nest ≤ 5
top_most [] = omega arith
top_most (slots.Fields last ∷ up) = omega arith
top_most (slots.Value kind id ∷ up) = omega arith
top_most (slots.Elements kind left ∷ up) = omega arith
top_most (slots.Keys key value left ∷ up) = omega arith
top_most (slots.Values key value left ∷ up) = omega arith

-- the end of a list, a set or a map
good_end : (slot : Slot) (up : List Slot) (bytes : List ℕ) → top_charge (slot ∷ up) ≡ 5 → Good (slot ∷ up) bytes end 0
good_end slot up bytes five = record { fits = omega arith; pays = omega (arith, five, top_most up); shallow = λ h. omega arith; sized = λ _ _. tt; deep = omega arith }

good_next : (slot : Slot) (up : List Slot) (kind : Kind) (left : ℕ) (bytes : List ℕ) → top_charge (slot ∷ up) ≡ 5 → Yields (Good (slot ∷ up) bytes) (next_of (length (slot ∷ up)) kind left bytes)
unfolding next_of
good_next slot up kind left bytes five = either (Good (slot ∷ up) bytes) (left == 0) _ _ (λ e. good_end slot up bytes five) (λ e. good_in (slot ∷ up) kind bytes five)

good_bool : (kind : Kind) (id : ℤ) (up : List Slot) (flag : Bool) (bytes : List ℕ) → Good (slots.Value kind id ∷ up) bytes (bool_value flag) 0
good_bool kind id up flag bytes = record { fits = omega arith; pays = omega arith; shallow = λ h. h; sized = λ _ _. tt; deep = refl }

good_field_value : (kind : Kind) (id : ℤ) (up : List Slot) (flag : Bool) (bytes : List ℕ) → Yields (Good (slots.Value kind id ∷ up) bytes) (field_value (length (slots.Value kind id ∷ up)) kind flag bytes)
unfolding field_value
good_field_value kind id up flag bytes = either (Good (slots.Value kind id ∷ up) bytes) (is_bool kind) _ _ (λ e. good_bool kind id up flag bytes) (λ e. good_in (slots.Value kind id ∷ up) kind bytes refl)

-- ---- a field

next_fits : (last : ℤ) (step : ℕ) → FitsSigned w16 last → int_lt (pos 32767) (last +ℤ pos step) ≡ false → FitsSigned w16 (last +ℤ pos step)
next_fits (pos n) step fits e = grind (arith, nat_tests)
next_fits (negsuc n) step fits e = grind (arith, nat_tests)

good_field : (last : ℤ) (up : List Slot) (bytes : List ℕ) (id : ℤ) (kind : Kind) (taken : ℕ) → 1 ≤ taken → taken ≤ length bytes → (FitsSigned w16 last → FitsSigned w16 id) → Good (slots.Fields last ∷ up) bytes (field id kind) taken
good_field last up bytes id kind taken some fits sized = record { fits = fits; pays = omega arith; shallow = λ h. h; sized = λ has _. sized has; deep = refl }

good_long : (last : ℤ) (up : List Slot) (bytes : List ℕ) (kind : Kind) → 1 ≤ length bytes → Yields (Good (slots.Fields last ∷ up) bytes) (long_field kind bytes)
unfolding long_field
good_long last up bytes kind some =
    bound (Behind 1 (Signed (length (drop 1 bytes)))) (Good (slots.Fields last ∷ up) bytes) (shifted 1 (id_at (drop 1 bytes))) _ (moved_on _ 1 _ (id_found (drop 1 bytes)))
    (λ x h. good_field last up bytes x.0 kind x.1 (omega (arith, h.1)) (omega (arith, h.1, h.2.1, length-drop {A = ℕ} 1 bytes)) (λ _. h.2.2))

good_short : (last : ℤ) (step : ℕ) (up : List Slot) (bytes : List ℕ) (kind : Kind) → 1 ≤ length bytes → Yields (Good (slots.Fields last ∷ up) bytes) (short_field kind (next_id last step))
good_short last step up bytes kind some =
    split (int_lt (pos 32767) (last +ℤ pos step)) refl
  where
    split : (b : Bool) → int_lt (pos 32767) (last +ℤ pos step) ≡ b → Yields (Good (slots.Fields last ∷ up) bytes) (short_field kind (if b then None else Some (last +ℤ pos step)))
    split true e = tt
    split false e = good_field last up bytes (last +ℤ pos step) kind 1 (omega arith) some (λ fits. next_fits last step fits e)

good_field_of : (last : ℤ) (up : List Slot) (bytes : List ℕ) (kind : Option Kind) → 1 ≤ length bytes → Yields (Good (slots.Fields last ∷ up) bytes) (field_of last bytes kind)
good_field_of last up bytes None some = tt
good_field_of last up bytes (Some kind) some =
    either (Good (slots.Fields last ∷ up) bytes) (slice_index bytes 0 / 16 == 0) _ _ (λ e. good_long last up bytes kind some) (λ e. good_short last (slice_index bytes 0 / 16) up bytes kind some)

good_stop : (last : ℤ) (up : List Slot) (bytes : List ℕ) → 1 ≤ length bytes → Good (slots.Fields last ∷ up) bytes stop 1
good_stop last up bytes some = record { fits = some; pays = omega (arith, top_most up); shallow = λ h. omega arith; sized = λ _ _. tt; deep = omega arith }

good_field_at : (last : ℤ) (up : List Slot) (bytes : List ℕ) → Yields (Good (slots.Fields last ∷ up) bytes) (field_at last bytes)
unfolding field_at
good_field_at last up bytes =
    either (Good (slots.Fields last ∷ up) bytes) (nat_lt (length bytes) 1) _ _ (λ e. tt)
    (λ e. let some : 1 ≤ length bytes = grind (arith, nat_tests, e) in
    either (Good (slots.Fields last ∷ up) bytes) (slice_index bytes 0 == 0) _ _ (λ d. good_stop last up bytes some) (λ d. good_field_of last up bytes _ some))

item_good : (slot : Slot) (up : List Slot) (flag : Bool) (bytes : List ℕ) → Yields (Good (slot ∷ up) bytes) (item_in (length (slot ∷ up)) slot flag bytes)
unfolding item_in
item_good (slots.Fields last) up flag bytes = good_field_at last up bytes
item_good (slots.Value kind id) up flag bytes = good_field_value kind id up flag bytes
item_good (slots.Elements kind left) up flag bytes = good_next (slots.Elements kind left) up kind left bytes refl
item_good (slots.Keys key value left) up flag bytes = good_next (slots.Keys key value left) up key left bytes refl
item_good (slots.Values key value left) up flag bytes = good_in (slots.Values key value left ∷ up) value bytes refl

-- ---- the step

top_good : (nest : List Slot) (flag : Bool) (bytes : List ℕ) → Yields (Good nest bytes) (scan_at (first_of nest) (length nest) flag bytes)
top_good [] flag bytes = tt
top_good (slot ∷ up) flag bytes = item_good slot up flag bytes

moved_good : (s : State) (scan : Scan Item) → Yields (Good s.nest (rest s)) scan
    → IfOk (moved s scan) (λ x. (weight x.0 + ahead x.1 ≤ ahead s) × (length x.1.nest ≡ depth_after x.0 (length s.nest)))
moved_good s (Ok x) good = (omega (arith, good.pays, good.fits, length-drop {A = ℕ}), good.deep)
moved_good s (Err f) good = tt

reads_good : (s : State) → IfOk (reads s) (λ x. (weight x.0 + ahead x.1 ≤ ahead s) × (length x.1.nest ≡ depth_after x.0 (length s.nest)))
unfolding reads
reads_good s = moved_good s _ (top_good s.nest s.flag (rest s))

first_part : {X : Type 0} (P Q : X → Type 0) (r : Result X Fault) → IfOk r (λ x. P x × Q x) → IfOk r P
first_part P Q (Ok x) h = h.0
first_part P Q (Err f) h = tt

second_part : {X : Type 0} (P Q : X → Type 0) (r : Result X Fault) → IfOk r (λ x. P x × Q x) → IfOk r Q
second_part P Q (Ok x) h = h.1
second_part P Q (Err f) h = tt

-- what a writer needs for an item, the reader's bytes and levels pay for
pub reads_pays : (s : State) → IfOk (reads s) (λ x. weight x.0 + ahead x.1 ≤ ahead s)
reads_pays s = first_part _ _ (reads s) (reads_good s)

pub reads_nests : (s : State) → IfOk (reads s) (λ x. length x.1.nest ≡ depth_after x.0 (length s.nest))
reads_nests s = second_part _ _ (reads s) (reads_good s)

moved_follows : (s : State) (scan : Scan Item) → IfOk (moved s scan) (λ x. x.1.nest ≡ after x.0 s.nest)
moved_follows s (Ok x) = refl
moved_follows s (Err f) = tt

pub reads_follows : (s : State) → IfOk (reads s) (λ x. x.1.nest ≡ after x.0 s.nest)
unfolding reads
reads_follows s = moved_follows s _

pub begins : (frame : List ℕ) → ahead (begun frame) ≤ 24 * length frame + 64
begins frame = omega (arith, length-drop {A = ℕ})

-- what the reader's code gives
pub reads_ok : (s : State) (slot : Slot) (depth : ℕ) (item : Item) (taken : ℕ) → first_of s.nest ≡ Some slot → depth ≡ length s.nest → Ok (item, taken) ≡ item_in depth slot s.flag (rest s)
    → reads s ≡ Ok (item, record { frame = s.frame; place = s.place + taken; value = s.place; flag = flag_of (rest s); nest = after item s.nest })
unfolding reads
reads_ok s slot depth item taken top deep e = rw (top, ← deep, ← e) refl

pub reads_err : (s : State) (slot : Slot) (depth : ℕ) (f : Fault) → first_of s.nest ≡ Some slot → depth ≡ length s.nest → Err f ≡ item_in depth slot s.flag (rest s)
    → reads s ≡ Err (record { place = s.place + f.place; reason = f.reason })
unfolding reads
reads_err s slot depth f top deep e = rw (top, ← deep, ← e) refl

pub reads_none : (s : State) → first_of s.nest ≡ None → reads s ≡ Err (record { place = s.place; reason = reasons.Trailing })
unfolding reads
reads_none s top = rw (top, add-zero) refl

pub record Read (nest : List Slot) (item : Item) : Type 0 where
  pub shallow : depth_after item (length nest) ≤ 256
  pub deep : length (after item nest) ≤ 256

read_of : (nest : List Slot) (bytes : List ℕ) (item : Item) (taken : ℕ) → length nest ≤ 256 → Good nest bytes item taken → Read nest item
read_of nest bytes item taken h good = record { shallow = good.shallow h; deep = omega (arith, good.deep, good.shallow h) }

nest_of : (nest : List Slot) (slot : Slot) → first_of nest ≡ Some slot → nest ≡ slot ∷ rest_of nest
nest_of [] slot e = absurd (cc)
nest_of (first ∷ up) slot e = cc

scan_good : (nest : List Slot) (slot : Slot) (flag : Bool) (bytes : List ℕ) → first_of nest ≡ Some slot → Yields (Good nest bytes) (item_in (length nest) slot flag bytes)
scan_good nest slot flag bytes e = let P : List Slot → Type 0 = λ n. Yields (Good n bytes) (item_in (length n) slot flag bytes) in subst P (sym (nest_of nest slot e)) (item_good slot (rest_of nest) flag bytes)

pub was_read : (nest : List Slot) (slot : Slot) (depth : ℕ) (flag : Bool) (bytes : List ℕ) (item : Item) (taken : ℕ) → length nest ≤ 256 → first_of nest ≡ Some slot → depth ≡ length nest → Ok (item, taken) ≡ item_in depth slot flag bytes → Read nest item
was_read nest slot depth flag bytes item taken h top deep e =
    let P : Scan Item → Type 0 = λ scan. Yields (Good nest bytes) scan in
    read_of nest bytes item taken h (subst P (sym (rw deep at e)) (scan_good nest slot flag bytes top))

-- ---- the sizes of what was read

-- an item that was read, as code has it
pub seen_sized : (result : Result (Event × ℕ) Fault) (scan : Scan Item) → seen scan_of result ≡ scan → Yields (λ item taken. IsSized item) scan → IfOk result (λ x. IsSized (item_of x.0))
seen_sized (Ok x) scan e h = let P : Scan Item → Type 0 = λ y. Yields (λ item taken. IsSized item) y in subst P (sym e) h
seen_sized (Err f) scan e h = tt

pub sized_value : (depth : ℕ) (kind : Kind) (bytes : List ℕ) → length bytes < 2 ^ 31 → Yields (λ item taken. IsSized item) (value_in depth kind bytes)
sized_value depth kind bytes small = weaker (Value depth bytes) _ (value_in depth kind bytes) (λ item taken v. v.sized small) (value_found depth kind bytes)

pub sized_next : (depth : ℕ) (kind : Kind) (left : ℕ) (bytes : List ℕ) → length bytes < 2 ^ 31 → Yields (λ item taken. IsSized item) (next_of depth kind left bytes)
unfolding next_of
sized_next depth kind left bytes small = either (λ item taken. IsSized item) (left == 0) _ _ (λ e. tt) (λ e. sized_value depth kind bytes small)

pub sized_field_value : (depth : ℕ) (kind : Kind) (flag : Bool) (bytes : List ℕ) → length bytes < 2 ^ 31 → Yields (λ item taken. IsSized item) (field_value depth kind flag bytes)
unfolding field_value
sized_field_value depth kind flag bytes small = either (λ item taken. IsSized item) (is_bool kind) _ _ (λ e. tt) (λ e. sized_value depth kind bytes small)

pub sized_field : (last : ℤ) (bytes : List ℕ) → FitsSigned w16 last → length bytes < 2 ^ 31 → Yields (λ item taken. IsSized item) (field_at last bytes)
sized_field last bytes fits small = weaker (Good (slots.Fields last ∷ []) bytes) _ (field_at last bytes) (λ item taken g. g.sized fits small) (good_field_at last [] bytes)

pub sized_long : (kind : Kind) (bytes : List ℕ) → 1 ≤ length bytes → length bytes < 2 ^ 31 → Yields (λ item taken. IsSized item) (long_field kind bytes)
sized_long kind bytes some small = weaker (Good (slots.Fields (pos 0) ∷ []) bytes) _ (long_field kind bytes) (λ item taken g. g.sized (omega arith) small) (good_long (pos 0) [] bytes kind some)

-- ---- the header

abbrev Front : {X : Type 0} → ℕ → X → ℕ → Type 0
Front size x taken = (taken ≡ 2) × (2 ≤ size)

type_found : (bytes : List ℕ) → Yields (Front (length bytes)) (type_at bytes)
unfolding type_at
type_found bytes =
    either (Front (length bytes)) (nat_lt (length bytes) 1) _ _ (λ e. tt)
    (λ e. either (Front (length bytes)) (slice_index bytes 0 == 130) _ _
    (λ d. either (Front (length bytes)) (nat_lt (length bytes) 2) _ _ (λ c. tt)
    (λ c. let some : 2 ≤ length bytes = grind (arith, nat_tests, c) in
    either (Front (length bytes)) (slice_index bytes 1 % 32 == 1) _ _ (λ b. told (type_of (slice_index bytes 1 / 32)) some) (λ b. tt)))
    (λ d. tt))
  where
    told : (mtype : Option MessageType) → 2 ≤ length bytes → Yields (Front (length bytes)) (type_or_fault mtype)
    told None some = tt
    told (Some mtype) some = (refl, some)

abbrev Fronted : {X : Type 0} → ℕ → X → ℕ → Type 0
Fronted size x taken = (3 ≤ taken) × (taken ≤ size)

front_found : (bytes : List ℕ) → Yields (Fronted (length bytes)) (front_at bytes)
unfolding front_at
front_found bytes =
    bound (Front (length bytes)) (Fronted (length bytes)) (type_at bytes) _ (type_found bytes)
    (λ x h. bound (Behind x.1 (Number (2 ^ 32) (length (drop x.1 bytes)))) (Fronted (length bytes)) (shifted x.1 (varint32_at (drop x.1 bytes))) _ (moved_on _ x.1 _ (number32 (drop x.1 bytes)))
    (λ y k. (omega (arith, h.0, k.1, k.2.0), omega (arith, h.0, h.1, k.1, k.2.1, length-drop {A = ℕ} x.1 bytes))))

named_good : (s : State) (front : MessageType × ℤ) (at : ℕ) (scan : Scan (List ℕ)) → 3 ≤ at → at ≤ length (rest s) → Yields (Behind at (Text (length (drop at (rest s))))) scan
    → IfOk (named s front at scan) (λ x. (head_weight (length x.0.name) + ahead x.1 ≤ ahead s) × (length x.1.nest ≡ 1))
named_good s front at (Ok x) some fits h =
    let a : length (drop at (rest s)) ≡ length (rest s) - at = length-drop {A = ℕ} at (rest s) in
    let b : length (rest s) ≡ length s.frame - s.place = length-drop {A = ℕ} s.place s.frame in
    let c : length (drop (s.place + x.1) s.frame) ≡ length s.frame - (s.place + x.1) = length-drop {A = ℕ} (s.place + x.1) s.frame in
    (omega (arith, a, b, c, h.1, h.2.0, h.2.1), refl)
named_good s front at (Err f) some fits h = tt

headed_good : (s : State) (scan : Scan (MessageType × ℤ)) → Yields (Fronted (length (rest s))) scan
    → IfOk (headed s scan) (λ x. (head_weight (length x.0.name) + ahead x.1 ≤ ahead s) × (length x.1.nest ≡ 1))
headed_good s (Ok x) h = named_good s x.0 x.1 _ h.0 h.1 (moved_on _ x.1 _ (string_found (drop x.1 (rest s))))
headed_good s (Err f) h = tt

pub reads_head_pays : (s : State) → IfOk (reads_head s) (λ x. (head_weight (length x.0.name) + ahead x.1 ≤ ahead s) × (length x.1.nest ≡ 1))
unfolding reads_head
reads_head_pays s = headed_good s (front_at (rest s)) (front_found (rest s))

named_opens : (s : State) (front : MessageType × ℤ) (at : ℕ) (scan : Scan (List ℕ)) → IfOk (named s front at scan) (λ x. x.1.nest ≡ slots.Fields (pos 0) ∷ [])
named_opens s front at (Ok x) = refl
named_opens s front at (Err f) = tt

headed_opens : (s : State) (scan : Scan (MessageType × ℤ)) → IfOk (headed s scan) (λ x. x.1.nest ≡ slots.Fields (pos 0) ∷ [])
headed_opens s (Ok x) = named_opens s x.0 x.1 _
headed_opens s (Err f) = tt

pub reads_head_opens : (s : State) → IfOk (reads_head s) (λ x. x.1.nest ≡ slots.Fields (pos 0) ∷ [])
unfolding reads_head
reads_head_opens s = headed_opens s _

-- a name is shorter than the frame
pub name_sized : (bytes : List ℕ) (at : ℕ) (name : List ℕ) (taken : ℕ) → length bytes < 2 ^ 31 → Ok (name, taken) ≡ shifted at (string_at (drop at bytes)) → length name < 2 ^ 31
name_sized bytes at name taken small e =
    let P : Scan (List ℕ) → Type 0 = λ scan. Yields (Behind at (Text (length (drop at bytes)))) scan in
    let h = subst P (sym e) (moved_on _ at _ (string_found (drop at bytes))) in
    omega (arith, h.2.0, h.2.1, length-drop {A = ℕ} at bytes)

-- ---- what is written

folded_fits16 : (z : ℤ) → FitsSigned w16 z → folded z < 2 ^ 16
folded_fits16 (pos n) h = omega arith
folded_fits16 (negsuc n) h = omega arith

folded_fits32 : (z : ℤ) → FitsSigned w32 z → folded z < 2 ^ 32
folded_fits32 (pos n) h = omega arith
folded_fits32 (negsuc n) h = omega arith

folded_fits64 : (z : ℤ) → FitsSigned w64 z → folded z < 2 ^ 64
folded_fits64 (pos n) h = omega arith
folded_fits64 (negsuc n) h = omega arith

light16 : (n : ℕ) → n < 2 ^ 16 → length (shortest n) ≤ 3
light16 n h = shortest_most 2 n (omega arith)

light32 : (n : ℕ) → n < 2 ^ 32 → length (shortest n) ≤ 5
light32 n h = shortest_most 4 n (omega arith)

light64 : (n : ℕ) → n < 2 ^ 64 → length (shortest n) ≤ 10
light64 n h = shortest_most 9 n (omega arith)

light_field_with : (step : Option ℕ) (id : ℤ) (code : ℕ) → length (field_with step id code) ≤ 4
light_field_with (Some step) id code = omega arith
light_field_with None id code = omega (arith, light16 (folded id % 65536) (omega arith))

light_field : (last id : ℤ) (code : ℕ) → length (field_spelling last id code) ≤ 4
unfolding field_spelling
light_field last id code = light_field_with (short_step last id) id code

light_bool : (before : ℤ) (nest : List Slot) (b : Bool) → length (bool_spelling before nest b) ≤ 5
light_bool before [] b = omega arith
light_bool before (slots.Fields last ∷ up) b = omega arith
light_bool before (slots.Value kind id ∷ up) b = omega (arith, light_field before id (flag_code b))
light_bool before (slots.Elements kind left ∷ up) b = omega arith
light_bool before (slots.Keys key value left ∷ up) b = omega arith
light_bool before (slots.Values key value left ∷ up) b = omega arith

light_elements : (kind : Kind) (size : ℕ) → size < 2 ^ 31 → length (elements_spelling kind size) ≤ 6
unfolding elements_spelling
light_elements kind size h =
    split (nat_lt size 15)
  where
    split : (b : Bool) → length (if b then (16 * size + code_of kind) ∷ [] else (240 + code_of kind) ∷ shortest size) ≤ 6
    split true = omega arith
    split false = omega (arith, light32 size (omega arith))

light_string : (bytes : List ℕ) → length bytes < 2 ^ 31 → length (string_spelling bytes) ≤ 5 + length bytes
unfolding string_spelling
light_string bytes h = omega (arith, light32 (length bytes) (omega arith), length-append (shortest (length bytes)) bytes)

light_field_or_none : (b : Bool) (last id : ℤ) (code : ℕ) → length (if b then [] else field_spelling last id code) ≤ 4
light_field_or_none true last id code = omega arith
light_field_or_none false last id code = light_field last id code

-- no item takes more than any protocol may take for it
pub light : (w : Writer) (item : Item) → IsSized item → length (spelling w item) ≤ weight item
unfolding spelling
light w (field id kind) h = omega (arith, light_field_or_none (writes_later kind) (last_of w.nest) id (code_of kind))
light w stop h = omega arith
light w (bool_value b) h = light_bool w.before w.nest b
light w (i8_value n) h = omega arith
light w (i16_value n) h = omega (arith, light16 (folded n) (folded_fits16 n h))
light w (i32_value n) h = omega (arith, light32 (folded n) (folded_fits32 n h))
light w (i64_value n) h = omega (arith, light64 (folded n) (folded_fits64 n h))
light w (double_value bytes) h = omega (arith, length-reverse bytes, h)
light w (text bytes) h = omega (arith, light_string bytes h)
light w (number_text bytes) h = omega arith
light w (unknown_text bytes) h = omega arith
light w struct_begin h = omega arith
light w empty_map h = omega arith
light w (map_begin key value size) h = omega (arith, light32 size (omega (arith, h.1)), length-append (shortest size) ((16 * code_of key + code_of value) ∷ []))
light w (set_begin kind size) h = omega (arith, light_elements kind size h)
light w (list_begin kind size) h = omega (arith, light_elements kind size h)
light w end h = omega arith
light w (uuid_value bytes) h = omega (arith, h)

light_name : (name : List ℕ) → length (string_spelling name) ≤ 10 + length name
unfolding string_spelling
light_name name = omega (arith, shortest_ten (length name), length-append (shortest (length name)) name)

pub light_head : (h : Header) → FitsSigned w32 h.seq → length (head_spelling h) ≤ head_weight (length h.name)
unfolding head_spelling
light_head h fits =
    let word : cast_unsigned w32 h.seq < 2 ^ 32 = (Fits-of_z fits).fits in
    omega (arith, light32 (cast_unsigned w32 h.seq) word, light_name h.name, length-append (shortest (cast_unsigned w32 h.seq)) (string_spelling h.name))

rest_length : (nest : List Slot) → length (rest_of nest) ≡ length nest - 1
rest_length [] = omega arith
rest_length (slot ∷ up) = omega arith

-- the writer's levels are those of the events
pub follows_nests : (w : Writer) (item : Item) → 0 < length w.nest → length (follows w item).nest ≡ depth_after item (length w.nest)
follows_nests w (field id kind) some = omega (arith, rest_length w.nest)
follows_nests w stop some = rest_length w.nest
follows_nests w end some = rest_length w.nest
follows_nests w (bool_value b) some = spent_length w.nest
follows_nests w (i8_value n) some = spent_length w.nest
follows_nests w (i16_value n) some = spent_length w.nest
follows_nests w (i32_value n) some = spent_length w.nest
follows_nests w (i64_value n) some = spent_length w.nest
follows_nests w (double_value b) some = spent_length w.nest
follows_nests w (text b) some = spent_length w.nest
follows_nests w (number_text b) some = spent_length w.nest
follows_nests w (unknown_text b) some = spent_length w.nest
follows_nests w empty_map some = spent_length w.nest
follows_nests w (uuid_value b) some = spent_length w.nest
follows_nests w struct_begin some = omega (arith, spent_length w.nest)
follows_nests w (map_begin key value size) some = omega (arith, spent_length w.nest)
follows_nests w (set_begin kind size) some = omega (arith, spent_length w.nest)
follows_nests w (list_begin kind size) some = omega (arith, spent_length w.nest)

-- behind the header, the name lies in front of the place, and that in the frame
named_fits : (frame : List ℕ) (front : MessageType × ℤ) (at : ℕ) (scan : Scan (List ℕ)) → at ≤ length frame → Yields (Behind at (Text (length (drop at frame)))) scan
    → IfOk (named (begun frame) front at scan) (λ x. (x.1.frame ≡ frame) × (x.1.nest ≡ slots.Fields (pos 0) ∷ []) × (length x.0.name ≤ x.1.place) × (x.1.place ≤ length frame))
named_fits frame front at (Ok x) within h = (refl, refl, omega (arith, h.1, h.2.0), omega (arith, h.1, h.2.1, length-drop {A = ℕ} at frame))
named_fits frame front at (Err f) within h = tt

headed_fits : (frame : List ℕ) (scan : Scan (MessageType × ℤ)) → Yields (Fronted (length frame)) scan
    → IfOk (headed (begun frame) scan) (λ x. (x.1.frame ≡ frame) × (x.1.nest ≡ slots.Fields (pos 0) ∷ []) × (length x.0.name ≤ x.1.place) × (x.1.place ≤ length frame))
headed_fits frame (Ok x) h = named_fits frame x.0 x.1 _ h.1 (moved_on _ x.1 _ (string_found (drop x.1 frame)))
headed_fits frame (Err f) h = tt

pub head_fits : (frame : List ℕ) → IfOk (reads_head (begun frame)) (λ x. (x.1.frame ≡ frame) × (x.1.nest ≡ slots.Fields (pos 0) ∷ []) × (length x.0.name ≤ x.1.place) × (x.1.place ≤ length frame))
unfolding reads_head
head_fits frame = headed_fits frame (front_at frame) (front_found frame)
