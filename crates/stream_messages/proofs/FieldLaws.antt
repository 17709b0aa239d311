-- Headers and fields of the Binary protocol that are there whole, as the steps from byte to byte find them.
use Rattle.std.proofs.Common.{◌≡◌, ℕ, ℤ, zero, suc, ◌+◌, ◌-◌, ◌*◌, ◌<◌, ◌≤◌, Bool, true, false, List, [], ◌∷◌, length, take, drop, Ok, refl, arith, sym, ap, ◌∙◌, subst, length-drop}
use Rattle.std.specs.Prelude.{Option, Some, None, IfSome, nat_lt, nat_le, ◌==◌, ◌&&◌, slice_index}
use Rattle.std.specs.Int.{w8, w16, w32, w64, from_be_bytes, cast_signed}
use Rattle.std.proofs.lemmas.Bool.Decides.{nat_tests}
use Rattle.std.proofs.lemmas.Option.{same_Some}
use Rattle.gate_base.specs.Bytes.{AreBytes}
use Rattle.thrift_value.specs.declared.kind.Kind.{Kind}
use Rattle.thrift_value.specs.declared.kind.Kind.TheVariants as kinds
use Rattle.thrift_value.specs.declared.kind.MessageType.{MessageType}
use Rattle.thrift_value.specs.Items.{Item, field, bool_value, i8_value, i16_value, i32_value, i64_value, double_value, text, set_begin, list_begin, uuid_value}
use Rattle.protocol_traits.specs.declared.nest.Slot.{Slot}
use Rattle.protocol_traits.specs.declared.nest.Slot.TheVariants as slots
use Rattle.protocol_traits.specs.Follow.{after, spent}
use Rattle.protocol_traits.specs.Stack.{first_of, rest_of}
use Rattle.binary_protocol.specs.Codes.{kind_of_code, type_of_code}
use Rattle.binary_protocol.specs.Scan.{signed_at, field_at, bool_at, i8_at, i16_at, i32_at, i64_at, double_at, uuid_at, size_at, string_at, text_at, elements_at, set_at, list_at, value_at}
use Rattle.stream_messages.specs.declared.scan.Wire.TheVariants as wires
use Rattle.stream_messages.specs.declared.levels.Settled.TheVariants as settled
use Rattle.stream_messages.specs.declared.parts.Part.TheVariants as part
use Rattle.stream_messages.specs.declared.parts.BinaryPart.TheVariants as binary
use Rattle.stream_messages.specs.declared.parts.BinarySized.TheVariants as sizes
use Rattle.stream_messages.specs.Levels.{nests, settles, opened}
use Rattle.stream_messages.specs.Binary.{step_of, begin, sized}
use Rattle.stream_messages.specs.Scanning.{tells_bools}
use Rattle.stream_messages.specs.Feeding.{goes, behind, run}
use Rattle.stream_messages.specs.Fields.{Spans, item, width, IsHead, IsValue, AreElements, IsField, IsHeader}
use Rattle.stream_messages.proofs.Bodies as bodies
use Rattle.stream_messages.proofs.Seen.{seen}
use Rattle.stream_messages.proofs.Runs.{any_law, ran_any}
use Rattle.stream_messages.proofs.BinaryItems.{size_behind}
use Rattle.stream_messages.proofs.Reading.{item_law, opened_binary}
use Rattle.stream_messages.proofs.Whole.{one_item, later_bytes}

-- ---- a field's head

not_stop : (b : ℕ) (kind : Kind) → kind_of_code b ≡ Some kind → (b == 0) ≡ false
not_stop b kind e = by_test (b == 0) refl
  where
    none : None ≡ Some kind → ⊥
    none h = absurd (cc)

    by_test : (z : Bool) → (b == 0) ≡ z → z ≡ false
    by_test true t = let zero_is : b ≡ 0 = grind (arith, nat_tests) in absurd (none (subst (λ x. kind_of_code x ≡ Some kind) zero_is e))
    by_test false t = refl

pub head_ran : (bytes : List ℕ) (last : ℤ) (up : List Slot) (kind : Kind) (id : ℤ) → AreBytes bytes → 3 ≤ length bytes → kind_of_code (slice_index bytes 0) ≡ Some kind
    → id ≡ cast_signed w16 (from_be_bytes w16 (slice_index bytes 1 ∷ slice_index bytes 2 ∷ [])) → run wires.Binary bytes part.Item (slots.Fields last ∷ up) ≡ goes (slots.Value kind id ∷ up) 3
unfolding field_at
head_ran bytes last up kind id are long e is =
    sym (item_law wires.Binary (slots.Fields last ∷ up) false bytes (refl, tt) are) ∙ ap (λ s. seen (slots.Fields last ∷ up) s) found
  where
    found : field_at bytes ≡ Ok (field id kind, 3)
    found =
        let some : nat_lt (length bytes) 1 ≡ false = grind (arith, nat_tests) in
        let more : nat_lt (length bytes) 3 ≡ false = grind (arith, nat_tests) in
        let stops : (slice_index bytes 0 == 0) ≡ false = not_stop (slice_index bytes 0) kind e in
        rw (some, stops, e, more) (ap (λ i. Ok (field i kind, 3)) (sym is))

pub head_is : (nest : List Slot) (bytes : List ℕ) (last : ℤ) (kind : Kind) (id : ℤ) → AreBytes bytes → Some (slots.Fields last) ≡ first_of nest → length nest < 256 → 3 ≤ length bytes → Some kind ≡ kind_of_code (slice_index bytes 0)
    → id ≡ cast_signed w16 (from_be_bytes w16 (slice_index bytes 1 ∷ slice_index bytes 2 ∷ [])) → IsHead nest bytes kind id
head_is [] bytes last kind id are top shallow long e is = absurd (none top)
  where
    none : Some (slots.Fields last) ≡ None → ⊥
    none h = absurd (cc)
head_is (slot ∷ up) bytes last kind id are top shallow long e is = record {
  last = last;
  up = up;
  nest_is = ap (λ (s : Slot). s ∷ up) (sym (same_Some _ _ top));
  shallow = omega (arith, shallow);
  long = long;
  ran = head_ran bytes last up kind id are long (sym e) is;
}

-- ---- what is called for behind it, and behind the value

not_deep : (up : List Slot) → length up < 255 → nat_le 256 (suc (length up)) ≡ false
not_deep up shallow = grind (arith, nat_tests)

pub value_settles : (kind : Kind) (id : ℤ) (up : List Slot) → (kind ≡ kinds.Struct → ⊥) → length up < 255 → settles (tells_bools wires.Binary) (slots.Value kind id ∷ up) ≡ (settled.Item, slots.Value kind id ∷ up)
unfolding opened
value_settles kinds.Bool id up plain shallow = refl
value_settles kinds.I8 id up plain shallow = refl
value_settles kinds.I16 id up plain shallow = refl
value_settles kinds.I32 id up plain shallow = refl
value_settles kinds.I64 id up plain shallow = refl
value_settles kinds.Double id up plain shallow = refl
value_settles kinds.Str id up plain shallow = refl
value_settles kinds.Uuid id up plain shallow = refl
value_settles kinds.Struct id up plain shallow = absurd (plain refl)
value_settles kinds.Map id up plain shallow = rw (not_deep up shallow) refl
value_settles kinds.Set id up plain shallow = rw (not_deep up shallow) refl
value_settles kinds.List id up plain shallow = rw (not_deep up shallow) refl

pub fields_settle : (id : ℤ) (up : List Slot) → settles (tells_bools wires.Binary) (slots.Fields id ∷ up) ≡ (settled.Item, slots.Fields id ∷ up)
unfolding opened
fields_settle id up = refl

-- ---- values

and_not : (b c : Bool) → c ≡ false → (b && c) ≡ false
and_not true c e = e
and_not false c e = refl

value_ran : (kind : Kind) (id : ℤ) (up : List Slot) (bytes : List ℕ) (found : Item) (n : ℕ) → (kind ≡ kinds.Struct → ⊥) → length up < 255 → AreBytes bytes → value_at kind bytes ≡ Ok (found, n)
    → run wires.Binary bytes part.Item (slots.Value kind id ∷ up) ≡ goes (after found (slots.Value kind id ∷ up)) n
value_ran kind id up bytes found n plain shallow are e =
    let flat : (nests kind && nat_le 256 (length (slots.Value kind id ∷ up))) ≡ false = and_not (nests kind) _ (not_deep up shallow) in
    sym (item_law wires.Binary (slots.Value kind id ∷ up) false bytes (refl, (flat, plain, λ _. refl)) are)
    ∙ ap (λ s. seen (slots.Value kind id ∷ up) s) (bodies.value_at (slots.Value kind id) up bytes kind refl refl ∙ opened_binary (length (slots.Value kind id ∷ up)) kind bytes flat ∙ e)

-- a value with nothing in it
leaf_value : (kind : Kind) (bytes : List ℕ) (found : Item) (n : ℕ) → (kind ≡ kinds.Struct → ⊥) → AreBytes bytes → n ≤ length bytes → value_at kind bytes ≡ Ok (found, n) → ((nest : List Slot) → after found nest ≡ spent nest) → IsValue kind bytes n
leaf_value kind bytes found n plain are within e leaves = record {
  within = within;
  is_no_struct = plain;
  spans = λ id up shallow.
      one_item wires.Binary bytes (slots.Value kind id ∷ up) (slots.Fields id ∷ up) (slots.Fields id ∷ up) n
      (value_ran kind id up bytes found n plain shallow are e ∙ ap (λ l. goes l n) (leaves (slots.Value kind id ∷ up)))
      (fields_settle id up);
}

-- one whose bytes may be any
abbrev Leaf : Kind → List ℕ → Type 0
Leaf kind bytes = (found : Item) × (value_at kind bytes ≡ Ok (found, width kind)) × ((nest : List Slot) → after found nest ≡ spent nest)

leaf_found : (kind : Kind) (bytes : List ℕ) → 0 < width kind → width kind ≤ length bytes → Leaf kind bytes
unfolding value_at i8_at i16_at i32_at i64_at double_at uuid_at
leaf_found kinds.I8 bytes some long = let s : nat_lt (length bytes) 1 ≡ false = grind (arith, nat_tests) in (i8_value (signed_at w8 bytes), rw s refl, λ nest. refl)
leaf_found kinds.I16 bytes some long = let s : nat_lt (length bytes) 2 ≡ false = grind (arith, nat_tests) in (i16_value (signed_at w16 bytes), rw s refl, λ nest. refl)
leaf_found kinds.I32 bytes some long = let s : nat_lt (length bytes) 4 ≡ false = grind (arith, nat_tests) in (i32_value (signed_at w32 bytes), rw s refl, λ nest. refl)
leaf_found kinds.I64 bytes some long = let s : nat_lt (length bytes) 8 ≡ false = grind (arith, nat_tests) in (i64_value (signed_at w64 bytes), rw s refl, λ nest. refl)
leaf_found kinds.Double bytes some long = let s : nat_lt (length bytes) 8 ≡ false = grind (arith, nat_tests) in (double_value (take 8 bytes), rw s refl, λ nest. refl)
leaf_found kinds.Uuid bytes some long = let s : nat_lt (length bytes) 16 ≡ false = grind (arith, nat_tests) in (uuid_value (take 16 bytes), rw s refl, λ nest. refl)
leaf_found kinds.Bool bytes some long = absurd (omega (arith, some))
leaf_found kinds.Str bytes some long = absurd (omega (arith, some))
leaf_found kinds.Struct bytes some long = absurd (omega (arith, some))
leaf_found kinds.Map bytes some long = absurd (omega (arith, some))
leaf_found kinds.Set bytes some long = absurd (omega (arith, some))
leaf_found kinds.List bytes some long = absurd (omega (arith, some))

no_struct : (kind : Kind) → 0 < width kind → kind ≡ kinds.Struct → ⊥
no_struct kind some e = let none : 0 < width kinds.Struct = subst (λ k. 0 < width k) e some in absurd (omega (arith, none))

pub plain_value : (kind : Kind) (bytes : List ℕ) → AreBytes bytes → 0 < width kind → width kind ≤ length bytes → IsValue kind bytes (width kind)
plain_value kind bytes are some long = let f = leaf_found kind bytes some long in leaf_value kind bytes f.0 (width kind) (no_struct kind some) are long f.1 f.2

other_kind : (kind : Kind) → (kinds.Bool ≡ kinds.Struct → ⊥) × (kinds.Str ≡ kinds.Struct → ⊥) × (kinds.List ≡ kinds.Struct → ⊥) × (kinds.Set ≡ kinds.Struct → ⊥)
other_kind kind = ((λ e. absurd (cc)), (λ e. absurd (cc)), (λ e. absurd (cc)), (λ e. absurd (cc)))

pub bool_is : (bytes : List ℕ) → AreBytes bytes → 1 ≤ length bytes → slice_index bytes 0 ≤ 1 → IsValue kinds.Bool bytes 1
unfolding value_at bool_at
bool_is bytes are some few = by_tests (slice_index bytes 0 == 0) (slice_index bytes 0 == 1) refl refl
  where
    leaf : (b : Bool) → value_at kinds.Bool bytes ≡ Ok (bool_value b, 1) → IsValue kinds.Bool bytes 1
    leaf b e = leaf_value kinds.Bool bytes (bool_value b) 1 (other_kind kinds.Bool).0 are some e (λ nest. refl)

    there : nat_lt (length bytes) 1 ≡ false
    there = grind (arith, nat_tests)

    by_tests : (x y : Bool) → (slice_index bytes 0 == 0) ≡ x → (slice_index bytes 0 == 1) ≡ y → IsValue kinds.Bool bytes 1
    by_tests true y p q = leaf false (rw (there, p) refl)
    by_tests false true p q = leaf true (rw (there, p, q) refl)
    by_tests false false p q = absurd (grind (arith, nat_tests))

pub text_is : (bytes : List ℕ) (n : ℕ) → AreBytes bytes → size_at bytes ≡ Ok (n, 4) → 4 + n ≤ length bytes → IsValue kinds.Str bytes (4 + n)
unfolding value_at text_at string_at
text_is bytes n are e long =
    let same : n + 4 ≡ 4 + n = omega arith in
    subst (λ k. IsValue kinds.Str bytes k) same
    (leaf_value kinds.Str bytes (text (take n (drop 4 bytes))) (n + 4) (other_kind kinds.Str).1 are (omega (arith, long)) found (λ nest. refl))
  where
    found : value_at kinds.Str bytes ≡ Ok (text (take n (drop 4 bytes)), n + 4)
    found = let s : nat_lt (length bytes) (n + 4) ≡ false = grind (arith, nat_tests) in rw (e, s) refl

-- ---- lists and sets

elements_settle : (kind : Kind) (m : ℕ) (up : List Slot) → 0 < width kind → settles (tells_bools wires.Binary) (slots.Elements kind (suc m) ∷ up) ≡ (settled.Item, slots.Elements kind (suc m) ∷ up)
unfolding opened
elements_settle kind m up some = by_kind kind some (grind (arith, nat_tests))
  where
    by_kind : (k : Kind) → 0 < width k → (suc m == 0) ≡ false → settles (tells_bools wires.Binary) (slots.Elements k (suc m) ∷ up) ≡ (settled.Item, slots.Elements k (suc m) ∷ up)
    by_kind kinds.I8 s t = rw t refl
    by_kind kinds.I16 s t = rw t refl
    by_kind kinds.I32 s t = rw t refl
    by_kind kinds.I64 s t = rw t refl
    by_kind kinds.Double s t = rw t refl
    by_kind kinds.Uuid s t = rw t refl
    by_kind kinds.Bool s t = absurd (omega (arith, s))
    by_kind kinds.Str s t = absurd (omega (arith, s))
    by_kind kinds.Struct s t = absurd (omega (arith, s))
    by_kind kinds.Map s t = absurd (omega (arith, s))
    by_kind kinds.Set s t = absurd (omega (arith, s))
    by_kind kinds.List s t = absurd (omega (arith, s))

flat_kind : (kind : Kind) → 0 < width kind → (d : Bool) → (nests kind && d) ≡ false
flat_kind kinds.I8 s d = refl
flat_kind kinds.I16 s d = refl
flat_kind kinds.I32 s d = refl
flat_kind kinds.I64 s d = refl
flat_kind kinds.Double s d = refl
flat_kind kinds.Uuid s d = refl
flat_kind kinds.Bool s d = absurd (omega (arith, s))
flat_kind kinds.Str s d = absurd (omega (arith, s))
flat_kind kinds.Struct s d = absurd (omega (arith, s))
flat_kind kinds.Map s d = absurd (omega (arith, s))
flat_kind kinds.Set s d = absurd (omega (arith, s))
flat_kind kinds.List s d = absurd (omega (arith, s))

-- one element
element_ran : (kind : Kind) (m : ℕ) (up : List Slot) (bytes : List ℕ) → 0 < width kind → width kind ≤ length bytes → AreBytes bytes
    → run wires.Binary bytes part.Item (slots.Elements kind (suc m) ∷ up) ≡ goes (slots.Elements kind m ∷ up) (width kind)
element_ran kind m up bytes some long are =
    let f = leaf_found kind bytes some long in
    let left : (suc m == 0) ≡ false = grind (arith, nat_tests) in
    let flat = flat_kind kind some (nat_le 256 (length (slots.Elements kind (suc m) ∷ up))) in
    let less : suc m - 1 ≡ m = omega arith in
    sym (item_law wires.Binary (slots.Elements kind (suc m) ∷ up) false bytes (left, (flat, no_struct kind some, λ _. refl)) are)
    ∙ ap (λ s. seen (slots.Elements kind (suc m) ∷ up) s) (bodies.value_at (slots.Elements kind (suc m)) up bytes kind left refl ∙ opened_binary (length (slots.Elements kind (suc m) ∷ up)) kind bytes flat ∙ f.1)
    ∙ ap (λ l. goes l (width kind)) (f.2 (slots.Elements kind (suc m) ∷ up) ∙ ap (λ k. slots.Elements kind k ∷ up) less)

-- all of them
elements_spans : (kind : Kind) (m : ℕ) (id : ℤ) (up : List Slot) (bytes : List ℕ) → 0 < width kind → suc m * width kind ≤ length bytes → AreBytes bytes
    → Spans wires.Binary bytes (slots.Elements kind (suc m) ∷ slots.Fields id ∷ up) (suc m * width kind) (slots.Fields id ∷ up)
elements_spans kind zero id up bytes some long are =
    let one : width kind ≡ suc 0 * width kind = omega arith in
    subst (λ k. Spans wires.Binary bytes (slots.Elements kind 1 ∷ slots.Fields id ∷ up) k (slots.Fields id ∷ up)) one
    (one_item wires.Binary bytes (slots.Elements kind 1 ∷ slots.Fields id ∷ up) (slots.Elements kind 0 ∷ slots.Fields id ∷ up) (slots.Fields id ∷ up) (width kind)
    (element_ran kind 0 (slots.Fields id ∷ up) bytes some (omega (arith, long, one)) are) (fields_settle id up))
elements_spans kind (suc k) id up bytes some long are =
    let all : width kind + suc k * width kind ≡ suc (suc k) * width kind = omega arith in
    subst (λ n. Spans wires.Binary bytes (slots.Elements kind (suc (suc k)) ∷ slots.Fields id ∷ up) n (slots.Fields id ∷ up)) all
    (item bytes (slots.Elements kind (suc (suc k)) ∷ slots.Fields id ∷ up) (slots.Elements kind (suc k) ∷ slots.Fields id ∷ up) (slots.Elements kind (suc k) ∷ slots.Fields id ∷ up) (slots.Fields id ∷ up) (width kind) (suc k * width kind)
    (element_ran kind (suc k) (slots.Fields id ∷ up) bytes some (omega (arith, long, all)) are) (elements_settle kind k (slots.Fields id ∷ up) some)
    (elements_spans kind k id up (drop (width kind) bytes) some (omega (arith, long, all, length-drop (width kind) bytes)) (later_bytes (width kind) bytes are)))

-- behind the kind and the number of the elements
behind_begin : (kind : Kind) (count : ℕ) (id : ℤ) (up : List Slot) (nest : List Slot) (bytes : List ℕ) → 0 < width kind → count * width kind + 5 ≤ length bytes → AreBytes bytes
    → run wires.Binary bytes part.Item nest ≡ goes (slots.Elements kind count ∷ slots.Fields id ∷ up) 5 → Spans wires.Binary bytes nest (count * width kind + 5) (slots.Fields id ∷ up)
behind_begin kind zero id up nest bytes some long are ran =
    let five : 5 ≡ 0 * width kind + 5 = omega arith in
    subst (λ k. Spans wires.Binary bytes nest k (slots.Fields id ∷ up)) five (one_item wires.Binary bytes nest (slots.Elements kind 0 ∷ slots.Fields id ∷ up) (slots.Fields id ∷ up) 5 ran (fields_settle id up))
behind_begin kind (suc m) id up nest bytes some long are ran =
    let all : 5 + suc m * width kind ≡ suc m * width kind + 5 = omega arith in
    subst (λ k. Spans wires.Binary bytes nest k (slots.Fields id ∷ up)) all
    (item bytes nest (slots.Elements kind (suc m) ∷ slots.Fields id ∷ up) (slots.Elements kind (suc m) ∷ slots.Fields id ∷ up) (slots.Fields id ∷ up) 5 (suc m * width kind) ran (elements_settle kind m (slots.Fields id ∷ up) some)
    (elements_spans kind m id up (drop 5 bytes) some (omega (arith, long, length-drop 5 bytes)) (later_bytes 5 bytes are)))

pub list_is : (bytes : List ℕ) (n : ℕ) → AreBytes bytes → AreElements bytes n → IsValue kinds.List bytes n
unfolding value_at list_at
list_is bytes n are e = record {
  within = e.within;
  is_no_struct = (other_kind kinds.List).2;
  spans = λ id up shallow.
      subst (λ k. Spans wires.Binary bytes (slots.Value kinds.List id ∷ up) k (slots.Fields id ∷ up)) (sym e.size)
      (behind_begin e.kind e.count id up (slots.Value kinds.List id ∷ up) bytes e.wide (omega (arith, e.within, e.size)) are
      (value_ran kinds.List id up bytes (list_begin e.kind e.count) 5 (other_kind kinds.List).2 shallow are found));
}
  where
    found : value_at kinds.List bytes ≡ Ok (list_begin e.kind e.count, 5)
    found = rw (e.found) refl

pub set_is : (bytes : List ℕ) (n : ℕ) → AreBytes bytes → AreElements bytes n → IsValue kinds.Set bytes n
unfolding value_at set_at
set_is bytes n are e = record {
  within = e.within;
  is_no_struct = (other_kind kinds.Set).3;
  spans = λ id up shallow.
      subst (λ k. Spans wires.Binary bytes (slots.Value kinds.Set id ∷ up) k (slots.Fields id ∷ up)) (sym e.size)
      (behind_begin e.kind e.count id up (slots.Value kinds.Set id ∷ up) bytes e.wide (omega (arith, e.within, e.size)) are
      (value_ran kinds.Set id up bytes (set_begin e.kind e.count) 5 (other_kind kinds.Set).3 shallow are found));
}
  where
    found : value_at kinds.Set bytes ≡ Ok (set_begin e.kind e.count, 5)
    found = rw (e.found) refl

pub elements_are : (bytes : List ℕ) (kind : Kind) (count n : ℕ) → 0 < length bytes → Some kind ≡ kind_of_code (slice_index bytes 0) → size_at (drop 1 bytes) ≡ Ok (count, 4) → 0 < width kind → n ≡ count * width kind + 5 → n ≤ length bytes → AreElements bytes n
unfolding elements_at
elements_are bytes kind count n some e size wide is within = record { kind = kind; count = count; wide = wide; found = found; size = is; within = within }
  where
    found : elements_at bytes ≡ Ok ((kind, count), 5)
    found = let there : nat_lt (length bytes) 1 ≡ false = grind (arith, nat_tests) in rw (there, sym e, size) refl

pub lists : (r : Option ℕ) (bytes : List ℕ) → AreBytes bytes → IfSome r (AreElements bytes) → IfSome r (IsValue kinds.List bytes)
lists None bytes are h = tt
lists (Some n) bytes are h = list_is bytes n are h

pub sets : (r : Option ℕ) (bytes : List ℕ) → AreBytes bytes → IfSome r (AreElements bytes) → IfSome r (IsValue kinds.Set bytes)
sets None bytes are h = tt
sets (Some n) bytes are h = set_is bytes n are h

-- ---- a field with its value

pub field_is : (nest : List Slot) (bytes : List ℕ) (kind : Kind) (id : ℤ) (n : ℕ) → IsHead nest bytes kind id → IsValue kind (drop 3 bytes) n → IsField nest bytes (record { id = id; size = 3 + n })
field_is nest bytes kind id n head value = record {
  some = omega (arith, ap (λ (l : List Slot). length l) head.nest_is);
  moves = omega arith;
  within = omega (arith, value.within, length-drop 3 bytes, head.long);
  spans = subst (λ l. Spans wires.Binary bytes l (3 + n) (slots.Fields id ∷ rest_of l)) (sym head.nest_is)
      (item bytes (slots.Fields head.last ∷ head.up) (slots.Value kind id ∷ head.up) (slots.Value kind id ∷ head.up) (slots.Fields id ∷ head.up) 3 n head.ran
      (value_settles kind id head.up value.is_no_struct head.shallow) (value.spans id head.up head.shallow));
}

-- ---- headers

-- behind the version and the type
name_ran : (last : ℤ) (up : List Slot) (bytes : List ℕ) (n : ℕ) → AreBytes bytes → size_at bytes ≡ Ok (n, 4) → n + 8 ≤ length bytes
    → run wires.Binary bytes (part.Binary (binary.Size sizes.StrictName 4 0)) (slots.Fields last ∷ up) ≡ goes (slots.Fields last ∷ up) (n + 8)
unfolding sized
name_ran last up bytes n are e long =
    let some : (n + 4 == 0) ≡ false = grind (arith, nat_tests) in
    let next_is : suc (n + 3) ≡ n + 4 = omega arith in
    let left : nat_lt (length (drop 4 bytes)) (n + 4) ≡ false = let l = length-drop 4 bytes in grind (arith, nat_tests) in
    let any : run wires.Binary (drop 4 bytes) (part.Any (n + 4)) (slots.Fields last ∷ up) ≡ goes (slots.Fields last ∷ up) (n + 4) =
    subst (λ k. run wires.Binary (drop 4 bytes) (part.Any k) (slots.Fields last ∷ up) ≡ ran_any k (drop 4 bytes) (slots.Fields last ∷ up)) next_is (any_law wires.Binary (n + 3) (drop 4 bytes) (slots.Fields last ∷ up))
    ∙ rw left refl in
    let all : n + 4 + 1 + 1 + 1 + 1 ≡ n + 8 = omega arith in
    size_behind wires.Binary (slots.Fields last) up sizes.StrictName bytes are ∙ rw (e, some) (ap (λ r. behind (behind (behind (behind r)))) any ∙ ap (λ k. goes (slots.Fields last ∷ up) k) all)

pub header_ran : (bytes : List ℕ) (n : ℕ) (mtype : MessageType) → AreBytes bytes → 4 ≤ length bytes → slice_index bytes 0 ≡ 128 → slice_index bytes 1 ≡ 1 → type_of_code (slice_index bytes 3) ≡ Some mtype → size_at (drop 4 bytes) ≡ Ok (n, 4)
    → n + 12 ≤ length bytes → (last : ℤ) (up : List Slot) → run wires.Binary bytes (part.Binary binary.Start) (slots.Fields last ∷ up) ≡ goes (slots.Fields last ∷ up) (n + 12)
unfolding step_of begin
header_ran [] n mtype are four a b t e long last up = absurd (omega arith)
header_ran (x ∷ []) n mtype are four a b t e long last up = absurd (omega arith)
header_ran (x ∷ y ∷ []) n mtype are four a b t e long last up = absurd (omega arith)
header_ran (x ∷ y ∷ z ∷ []) n mtype are four a b t e long last up = absurd (omega arith)
header_ran (x ∷ y ∷ z ∷ w ∷ more) n mtype are four a b t e long last up =
    let all : n + 8 + 1 + 1 + 1 + 1 ≡ n + 12 = omega arith in
    subst (λ v. run wires.Binary (v ∷ y ∷ z ∷ w ∷ more) (part.Binary binary.Start) (slots.Fields last ∷ up) ≡ goes (slots.Fields last ∷ up) (n + 12)) (sym a)
    (subst (λ v. run wires.Binary (128 ∷ v ∷ z ∷ w ∷ more) (part.Binary binary.Start) (slots.Fields last ∷ up) ≡ goes (slots.Fields last ∷ up) (n + 12)) (sym b)
    (typed ∙ ap (λ r. behind (behind (behind (behind r)))) (name_ran last up more n are.1.1.1.1 e (omega (arith, long))) ∙ ap (λ k. goes (slots.Fields last ∷ up) k) all))
  where
    typed : run wires.Binary (128 ∷ 1 ∷ z ∷ w ∷ more) (part.Binary binary.Start) (slots.Fields last ∷ up)
        ≡ behind (behind (behind (behind (run wires.Binary more (part.Binary (binary.Size sizes.StrictName 4 0)) (slots.Fields last ∷ up)))))
    typed = rw t refl

pub header_is : (bytes : List ℕ) (n total : ℕ) (mtype : MessageType) → AreBytes bytes → slice_index bytes 0 ≡ 128 → slice_index bytes 1 ≡ 1 → Some mtype ≡ type_of_code (slice_index bytes 3) → size_at (drop 4 bytes) ≡ Ok (n, 4) → total ≡ n + 12
    → total ≤ length bytes → IsHeader bytes total
header_is bytes n total mtype are a b t e is within = record {
  within = within;
  ran = λ last up.
      subst (λ k. run wires.Binary bytes (part.Binary binary.Start) (slots.Fields last ∷ up) ≡ goes (slots.Fields last ∷ up) k) (sym is)
      (header_ran bytes n mtype are (omega (arith, within, is)) a b (sym t) e (omega (arith, within, is)) last up);
}
