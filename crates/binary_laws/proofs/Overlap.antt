-- Parts of an item that lie over one another are one part, and an item holds each part that another in its place has.
use Rattle.std.proofs.Common.{◌≡◌, ℕ, ◌+◌, ◌<◌, ◌≤◌, Bool, true, false, cond, List, drop, Option, Some, None, Ok, refl, ap, ◌∙◌, sym, arith, inl, inr}
use Rattle.std.specs.Prelude.{nat_le, ◌==◌, ◌&&◌, slice_index}
use Rattle.thrift_value.specs.declared.kind.Kind.{Kind}
use Rattle.thrift_value.specs.declared.kind.Kind.TheVariants as kinds
use Rattle.thrift_value.specs.Items.{Item, field, stop, bool_value, i8_value, i16_value, i32_value, i64_value, double_value, text, number_text, unknown_text, struct_begin, empty_map, map_begin, set_begin, list_begin, end, uuid_value}
use Rattle.protocol_traits.specs.declared.fault.Reason.{Reason}
use Rattle.protocol_traits.specs.declared.fault.Reason.TheVariants as reasons
use Rattle.protocol_traits.specs.declared.nest.Slot.{Slot}
use Rattle.protocol_traits.specs.declared.nest.Slot.TheVariants as slots
use Rattle.binary_protocol.specs.declared.scan.Called.TheVariants as calls
use Rattle.binary_protocol.specs.Codes.{kind_of_code}
use Rattle.binary_protocol.specs.Scan.{fault, nests, bool_at, i8_at, i16_at, i32_at, i64_at, double_at, uuid_at, string_at, text_at, set_at, list_at, elements_at, size_at, zero_at, map_at, map_of, map_item, is_bad_kind, field_at, field_of, value_at, value_in, item_called, item_in}
use Rattle.binary_laws.specs.Faults.{extent}
use Rattle.binary_laws.specs.Called.{width, IsPart, HasPart, HasListPart, HasMapPart}
use Rattle.binary_laws.proofs.Inverse.{no_fault, same_value}
use Rattle.binary_laws.proofs.Parts.{Tells, length_tells, either_tells, read_tells, row_tells, then_tells, shift_tells, string_tells, elements_tells, size_tells, zero_tells, SizePart, ListPart, Named, Five, Four}
use Rattle.binary_laws.proofs.Depth.{Anything}

-- ---- parts

module _ (r q : Reason) (i j : ℕ) where
  one_part : (a : Reason) (k : ℕ) → IsPart a k r i → IsPart a k q j → (r ≡ q) × (i ≡ j)
  one_part a k (e, n) (h, m) = (e ∙ sym h, n ∙ sym m)

  far_parts : (a b : Reason) (k l : ℕ) → IsPart a k r i → IsPart b l q j → k + extent a ≤ l → j < i + extent r → ⊥
  far_parts a b k l (e, n) (h, m) apart near = let size = ap extent e in omega (arith, size, n, m, apart, near)

no_deep_part : (r : Reason) (i : ℕ) → IsPart reasons.TooDeep 0 r i → 1 ≤ extent r → ⊥
no_deep_part r i (e, n) row = let none : extent r ≡ 0 = ap extent e in omega (arith, row, none)

module _ (r q : Reason) (i j : ℕ) (row : 1 ≤ extent r) (other : 1 ≤ extent q) (near : j < i + extent r) (close : i < j + extent q) where
  list_over : (d e : ℕ) → HasListPart d r i → HasListPart e q j → (r ≡ q) × (i ≡ j)
  list_over d e (inl a) (inl b) = one_part r q i j reasons.BadKind 0 a b
  list_over d e (inl a) (inr (inl b)) = absurd (far_parts r q i j reasons.BadKind reasons.BadSize 0 1 a b (omega arith) near)
  list_over d e (inr (inl a)) (inl b) = absurd (far_parts q r j i reasons.BadKind reasons.BadSize 0 1 b a (omega arith) close)
  list_over d e (inr (inl a)) (inr (inl b)) = one_part r q i j reasons.BadSize 1 a b
  list_over d e (inr (inr a)) b = absurd (no_deep_part r i a.0 row)
  list_over d e (inl a) (inr (inr b)) = absurd (no_deep_part q j b.0 other)
  list_over d e (inr (inl a)) (inr (inr b)) = absurd (no_deep_part q j b.0 other)

  map_over : (d e : ℕ) → HasMapPart d r i → HasMapPart e q j → (r ≡ q) × (i ≡ j)
  map_over d e (inl a) (inl b) = one_part r q i j reasons.BadKind 0 a b
  map_over d e (inl a) (inr (inl b)) = absurd (far_parts r q i j reasons.BadKind reasons.BadKind 0 1 a b (omega arith) near)
  map_over d e (inl a) (inr (inr (inl b))) = absurd (far_parts r q i j reasons.BadKind reasons.BadSize 0 2 a b (omega arith) near)
  map_over d e (inr (inl a)) (inl b) = absurd (far_parts q r j i reasons.BadKind reasons.BadKind 0 1 b a (omega arith) close)
  map_over d e (inr (inl a)) (inr (inl b)) = one_part r q i j reasons.BadKind 1 a b
  map_over d e (inr (inl a)) (inr (inr (inl b))) = absurd (far_parts r q i j reasons.BadKind reasons.BadSize 1 2 a b (omega arith) near)
  map_over d e (inr (inr (inl a))) (inl b) = absurd (far_parts q r j i reasons.BadKind reasons.BadSize 0 2 b a (omega arith) close)
  map_over d e (inr (inr (inl a))) (inr (inl b)) = absurd (far_parts q r j i reasons.BadKind reasons.BadSize 1 2 b a (omega arith) close)
  map_over d e (inr (inr (inl a))) (inr (inr (inl b))) = one_part r q i j reasons.BadSize 2 a b
  map_over d e (inr (inr (inr a))) b = absurd (no_deep_part r i a.0 row)
  map_over d e (inl a) (inr (inr (inr b))) = absurd (no_deep_part q j b.0 other)
  map_over d e (inr (inl a)) (inr (inr (inr b))) = absurd (no_deep_part q j b.0 other)
  map_over d e (inr (inr (inl a))) (inr (inr (inr b))) = absurd (no_deep_part q j b.0 other)

  pub part_over : (d e : ℕ) (x : Item) → HasPart d x r i → HasPart e x q j → (r ≡ q) × (i ≡ j)
  part_over d e (field id kind) a b = one_part r q i j reasons.BadKind 0 a b
  part_over d e stop a b = one_part r q i j reasons.BadKind 0 a b
  part_over d e (bool_value z) a b = one_part r q i j reasons.BadBool 0 a b
  part_over d e (text l) a b = one_part r q i j reasons.BadSize 0 a b
  part_over d e struct_begin a b = absurd (no_deep_part r i a.0 row)
  part_over d e empty_map a b = map_over d e a b
  part_over d e (map_begin key value n) a b = map_over d e a b
  part_over d e (set_begin kind n) a b = list_over d e a b
  part_over d e (list_begin kind n) a b = list_over d e a b
  part_over d e (i8_value n) a b = absurd a
  part_over d e (i16_value n) a b = absurd a
  part_over d e (i32_value n) a b = absurd a
  part_over d e (i64_value n) a b = absurd a
  part_over d e (double_value l) a b = absurd a
  part_over d e (number_text l) a b = absurd a
  part_over d e (unknown_text l) a b = absurd a
  part_over d e end a b = absurd a
  part_over d e (uuid_value l) a b = absurd a

-- ---- room for parts

-- the number of bytes that hold the parts of an item
abbrev pub room : Item → ℕ
room (field id kind) = 1
room stop = 1
room (bool_value b) = 1
room (text l) = 4
room empty_map = 6
room (map_begin key value n) = 6
room (set_begin kind n) = 5
room (list_begin kind n) = 5
room item = 0

ends_by : (a : Reason) (k n : ℕ) (r : Reason) (i : ℕ) → IsPart a k r i → k + extent a ≤ n → i + extent r ≤ n
ends_by a k n r i (e, m) h = let size = ap extent e in omega (arith, size, m, h)

list_room : (d : ℕ) (r : Reason) (i : ℕ) → 1 ≤ extent r → HasListPart d r i → i + extent r ≤ 5
list_room d r i row (inl a) = ends_by reasons.BadKind 0 5 r i a (omega arith)
list_room d r i row (inr (inl a)) = ends_by reasons.BadSize 1 5 r i a (omega arith)
list_room d r i row (inr (inr a)) = absurd (no_deep_part r i a.0 row)

map_room : (d : ℕ) (r : Reason) (i : ℕ) → 1 ≤ extent r → HasMapPart d r i → i + extent r ≤ 6
map_room d r i row (inl a) = ends_by reasons.BadKind 0 6 r i a (omega arith)
map_room d r i row (inr (inl a)) = ends_by reasons.BadKind 1 6 r i a (omega arith)
map_room d r i row (inr (inr (inl a))) = ends_by reasons.BadSize 2 6 r i a (omega arith)
map_room d r i row (inr (inr (inr a))) = absurd (no_deep_part r i a.0 row)

pub part_room : (d : ℕ) (x : Item) (r : Reason) (i : ℕ) → 1 ≤ extent r → HasPart d x r i → i + extent r ≤ room x
part_room d (field id kind) r i row a = ends_by reasons.BadKind 0 1 r i a (omega arith)
part_room d stop r i row a = ends_by reasons.BadKind 0 1 r i a (omega arith)
part_room d (bool_value z) r i row a = ends_by reasons.BadBool 0 1 r i a (omega arith)
part_room d (text l) r i row a = ends_by reasons.BadSize 0 4 r i a (omega arith)
part_room d struct_begin r i row a = absurd (no_deep_part r i a.0 row)
part_room d empty_map r i row a = map_room d r i row a
part_room d (map_begin key value n) r i row a = map_room d r i row a
part_room d (set_begin kind n) r i row a = list_room d r i row a
part_room d (list_begin kind n) r i row a = list_room d r i row a
part_room d (i8_value n) r i row a = absurd a
part_room d (i16_value n) r i row a = absurd a
part_room d (i32_value n) r i row a = absurd a
part_room d (i64_value n) r i row a = absurd a
part_room d (double_value l) r i row a = absurd a
part_room d (number_text l) r i row a = absurd a
part_room d (unknown_text l) r i row a = absurd a
part_room d end r i row a = absurd a
part_room d (uuid_value l) r i row a = absurd a

pub room_inside : (x : Item) → room x ≤ width x
room_inside (field id kind) = omega arith
room_inside stop = omega arith
room_inside (bool_value b) = omega arith
room_inside (text l) = omega arith
room_inside empty_map = omega arith
room_inside (map_begin key value n) = omega arith
room_inside (set_begin kind n) = omega arith
room_inside (list_begin kind n) = omega arith
room_inside item = omega arith

-- ---- items in one place have one room

abbrev Roomy : ℕ → Item → ℕ → Type 0
Roomy k x n = room x ≡ k

bool_roomy : (l : List ℕ) → Tells Anything (Roomy 1) (bool_at l)
unfolding bool_at
bool_roomy l =
    length_tells Anything (Roomy 1) l 1 _ (λ h. either_tells Anything (Roomy 1) (slice_index l 0 == 0) _ _ (read_tells Anything (Roomy 1) (bool_value false) 1 refl)
    (either_tells Anything (Roomy 1) (slice_index l 0 == 1) _ _ (read_tells Anything (Roomy 1) (bool_value true) 1 refl) (row_tells Anything (Roomy 1) 0 reasons.BadBool tt)))

module _ (l : List ℕ) where
  i8_roomy : Tells Anything (Roomy 0) (i8_at l)
  unfolding i8_at
  i8_roomy = length_tells Anything (Roomy 0) l 1 _ (λ h. read_tells Anything (Roomy 0) _ 1 refl)

  i16_roomy : Tells Anything (Roomy 0) (i16_at l)
  unfolding i16_at
  i16_roomy = length_tells Anything (Roomy 0) l 2 _ (λ h. read_tells Anything (Roomy 0) _ 2 refl)

  i32_roomy : Tells Anything (Roomy 0) (i32_at l)
  unfolding i32_at
  i32_roomy = length_tells Anything (Roomy 0) l 4 _ (λ h. read_tells Anything (Roomy 0) _ 4 refl)

  i64_roomy : Tells Anything (Roomy 0) (i64_at l)
  unfolding i64_at
  i64_roomy = length_tells Anything (Roomy 0) l 8 _ (λ h. read_tells Anything (Roomy 0) _ 8 refl)

  double_roomy : Tells Anything (Roomy 0) (double_at l)
  unfolding double_at
  double_roomy = length_tells Anything (Roomy 0) l 8 _ (λ h. read_tells Anything (Roomy 0) _ 8 refl)

  uuid_roomy : Tells Anything (Roomy 0) (uuid_at l)
  unfolding uuid_at
  uuid_roomy = length_tells Anything (Roomy 0) l 16 _ (λ h. read_tells Anything (Roomy 0) _ 16 refl)

  text_roomy : Tells SizePart (Roomy 4) (text_at l)
  unfolding text_at
  text_roomy = then_tells SizePart Named (Roomy 4) (string_at l) _ (string_tells l) (λ x long. read_tells SizePart (Roomy 4) _ x.1 refl)

  set_roomy : Tells ListPart (Roomy 5) (set_at l)
  unfolding set_at
  set_roomy = then_tells ListPart Five (Roomy 5) (elements_at l) _ (elements_tells l) (λ x five. read_tells ListPart (Roomy 5) _ x.1 refl)

  list_roomy : Tells ListPart (Roomy 5) (list_at l)
  unfolding list_at
  list_roomy = then_tells ListPart Five (Roomy 5) (elements_at l) _ (elements_tells l) (λ x five. read_tells ListPart (Roomy 5) _ x.1 refl)

map_item_room : (key value : Kind) (n : ℕ) (b : Bool) → room (cond b empty_map (map_begin key value n)) ≡ 6
map_item_room key value n true = refl
map_item_room key value n false = refl

map_of_roomy : (key value : Option Kind) (l : List ℕ) → Tells SizePart (Roomy 6) (map_of key value l)
map_of_roomy (Some key) (Some value) l = then_tells SizePart Four (Roomy 6) (size_at l) _ (size_tells l) (λ x four. read_tells SizePart (Roomy 6) (map_item key value x.0) x.1 (map_item_room key value x.0 (x.0 == 0)))
map_of_roomy (Some key) None l = then_tells SizePart Four (Roomy 6) (zero_at l) _ (zero_tells l) (λ x four. read_tells SizePart (Roomy 6) empty_map x.1 refl)
map_of_roomy None value l = then_tells SizePart Four (Roomy 6) (zero_at l) _ (zero_tells l) (λ x four. read_tells SizePart (Roomy 6) empty_map x.1 refl)

map_roomy : (l : List ℕ) → Tells Anything (Roomy 6) (map_at l)
unfolding map_at
map_roomy l = length_tells Anything (Roomy 6) l 1 _ (λ h. either_tells Anything (Roomy 6) (is_bad_kind (slice_index l 0)) _ _ (row_tells Anything (Roomy 6) 0 reasons.BadKind tt)
    (length_tells Anything (Roomy 6) l 2 _ (λ g. either_tells Anything (Roomy 6) (is_bad_kind (slice_index l 1)) _ _ (row_tells Anything (Roomy 6) 1 reasons.BadKind tt)
    (shift_tells SizePart Anything (Roomy 6) (Roomy 6) 2 _ (λ r at p. tt) (λ x n c. c) (map_of_roomy (kind_of_code (slice_index l 0)) (kind_of_code (slice_index l 1)) (drop 2 l))))))

abbrev room_of : Kind → ℕ
room_of kinds.Bool = 1
room_of kinds.Str = 4
room_of kinds.Map = 6
room_of kinds.Set = 5
room_of kinds.List = 5
room_of k = 0

value_roomy : (k : Kind) (l : List ℕ) (x : Item) (n : ℕ) → value_at k l ≡ Ok (x, n) → room x ≡ room_of k
unfolding value_at
value_roomy kinds.Bool l x n e = (bool_roomy l).good x n e
value_roomy kinds.I8 l x n e = (i8_roomy l).good x n e
value_roomy kinds.I16 l x n e = (i16_roomy l).good x n e
value_roomy kinds.I32 l x n e = (i32_roomy l).good x n e
value_roomy kinds.I64 l x n e = (i64_roomy l).good x n e
value_roomy kinds.Double l x n e = (double_roomy l).good x n e
value_roomy kinds.Uuid l x n e = (uuid_roomy l).good x n e
value_roomy kinds.Str l x n e = (text_roomy l).good x n e
value_roomy kinds.Struct l x n e = sym (ap room (same_value struct_begin x 0 n e))
value_roomy kinds.Map l x n e = (map_roomy l).good x n e
value_roomy kinds.Set l x n e = (set_roomy l).good x n e
value_roomy kinds.List l x n e = (list_roomy l).good x n e

field_of_roomy : (found : Option Kind) (l : List ℕ) → Tells Anything (Roomy 1) (field_of found l)
field_of_roomy None l = row_tells Anything (Roomy 1) 0 reasons.BadKind tt
field_of_roomy (Some k) l = length_tells Anything (Roomy 1) l 3 _ (λ h. read_tells Anything (Roomy 1) _ 3 refl)

field_roomy : (l : List ℕ) → Tells Anything (Roomy 1) (field_at l)
unfolding field_at
field_roomy l = length_tells Anything (Roomy 1) l 1 _ (λ h. either_tells Anything (Roomy 1) (slice_index l 0 == 0) _ _ (read_tells Anything (Roomy 1) stop 1 refl) (field_of_roomy (kind_of_code (slice_index l 0)) l))

value_in_roomy : (d : ℕ) (k : Kind) (l : List ℕ) (x : Item) (n : ℕ) → value_in d k l ≡ Ok (x, n) → room x ≡ room_of k
unfolding value_in
value_in_roomy d k l x n e = by_test (nests k && nat_le 256 d) e
  where
    by_test : (b : Bool) → cond b (fault 0 reasons.TooDeep) (value_at k l) ≡ Ok (x, n) → room x ≡ room_of k
    by_test true h = absurd (no_fault _ (x, n) h)
    by_test false h = value_roomy k l x n h

called_roomy : (d : ℕ) (k : Kind) (b : Bool) (l m : List ℕ) (x y : Item) (n t : ℕ) → item_called d (cond b calls.End (calls.Value k)) l ≡ Ok (x, n) → item_called d (cond b calls.End (calls.Value k)) m ≡ Ok (y, t) → room x ≡ room y
called_roomy d k true l m x y n t e h = sym (ap room (same_value end x 0 n e)) ∙ ap room (same_value end y 0 t h)
called_roomy d k false l m x y n t e h = value_in_roomy d k l x n e ∙ sym (value_in_roomy d k m y t h)

pub item_roomy : (d : ℕ) (slot : Slot) (l m : List ℕ) (x y : Item) (n t : ℕ) → item_in d slot l ≡ Ok (x, n) → item_in d slot m ≡ Ok (y, t) → room x ≡ room y
item_roomy d (slots.Fields last) l m x y n t e h = (field_roomy l).good x n e ∙ sym ((field_roomy m).good y t h)
item_roomy d (slots.Value k id) l m x y n t e h = value_in_roomy d k l x n e ∙ sym (value_in_roomy d k m y t h)
item_roomy d (slots.Elements k left) l m x y n t e h = called_roomy d k (left == 0) l m x y n t e h
item_roomy d (slots.Keys key value left) l m x y n t e h = called_roomy d key (left == 0) l m x y n t e h
item_roomy d (slots.Values key value left) l m x y n t e h = value_in_roomy d value l x n e ∙ sym (value_in_roomy d value m y t h)
