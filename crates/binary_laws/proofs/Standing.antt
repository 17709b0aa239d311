-- Where a scan tells a fault other than that the bytes end too early, a byte stands at its place, and it is one of those of an item.
use Rattle.std.proofs.Common.{◌≡◌, ℕ, ◌+◌, ◌<◌, ◌≤◌, ◌^◌, Bool, true, false, cond, List, [], ◌∷◌, length, drop, Option, Some, None, Ok, Err, refl, ap, sym, subst, arith, ◌⊎◌, inl, inr, length-drop}
use Rattle.std.specs.Prelude.{nat_lt, nat_le, ◌==◌, ◌&&◌, ◌||◌, slice_index}
use Rattle.std.proofs.lemmas.Bool.Decides.{nat_tests}
use Rattle.std.specs.Int.{w32}
use Rattle.thrift_value.specs.declared.kind.Kind.{Kind}
use Rattle.thrift_value.specs.declared.kind.Kind.TheVariants as kinds
use Rattle.thrift_value.specs.declared.kind.MessageType.{MessageType}
use Rattle.thrift_value.specs.Items.{Item}
use Rattle.protocol_traits.specs.declared.fault.Fault.{Fault}
use Rattle.protocol_traits.specs.declared.fault.Reason.{Reason}
use Rattle.protocol_traits.specs.declared.fault.Reason.TheVariants as reasons
use Rattle.protocol_traits.specs.declared.nest.Slot.{Slot}
use Rattle.protocol_traits.specs.declared.nest.Slot.TheVariants as slots
use Rattle.binary_protocol.specs.declared.scan.Called.TheVariants as calls
use Rattle.binary_protocol.specs.Codes.{kind_of_code, type_of_code}
use Rattle.binary_protocol.specs.Scan.{Scan, fault, cut, shifted, ◌>>=◌, unsigned_at, field_at, field_of, bool_at, i8_at, i16_at, i32_at, i64_at, double_at, uuid_at, size_at, size_begun, zero_at, string_at, string_of, text_at, elements_at, elements_of, set_at, list_at, map_at, map_of, is_bad_kind, is_zero_at, nests, value_at, value_in, item_called, item_in}
use Rattle.binary_protocol.specs.Heads.{type_of, type_at, seq_at, version_at, strict_at, old_at, head_at}
use Rattle.binary_laws.specs.Faults.{extent}
use Rattle.binary_laws.proofs.Inverse.{is_read}
use Rattle.binary_laws.proofs.Cutting.{never_read}
use Rattle.binary_laws.proofs.Stable.{there}

-- the bytes end too early, or the fault is one of an item that begins inside them
abbrev pub Standing : ℕ → Fault → Type 0
Standing n f = (f.reason ≡ reasons.Truncated) ⊎ ((1 ≤ extent f.reason) × (f.place < n))

-- of an item of a body it may also be that it lies too deep
abbrev pub DeepOr : ℕ → Fault → Type 0
DeepOr n f = ((f.reason ≡ reasons.TooDeep) × (f.place ≡ 0)) ⊎ Standing n f

pub record Stands {X : Type 0} (n : ℕ) (scan : Scan X) : Type 0 where
  pub by : (f : Fault) → scan ≡ Err f → Standing n f

-- ---- how scans are put together

abbrev blame : {X : Type 0} → Fault → Scan X → Fault
blame d (Ok x) = d
blame d (Err f) = f

cut_stands : {X : Type 0} → (n : ℕ) (l : List ℕ) → Stands {X = X} n (cut l)
cut_stands {X} n l = record { by = λ f e. inl (sym (ap (λ (s : Scan X). (blame f s).reason) e)) }

read_stands : {X : Type 0} → (n : ℕ) (x : X × ℕ) → Stands n (is_read x)
read_stands {X} n x = record { by = λ f e. absurd (never_read x f e) }

row_stands : {X : Type 0} → (n p : ℕ) (r : Reason) → 1 ≤ extent r → p < n → Stands {X = X} n (fault p r)
row_stands {X} n p r h g = record { by = λ f e. inr (subst (λ q. 1 ≤ extent q) (ap (λ (s : Scan X). (blame f s).reason) e) h, subst (λ q. q < n) (ap (λ (s : Scan X). (blame f s).place) e) g) }

either_stands : {X : Type 0} → (n : ℕ) (b : Bool) (x y : Scan X) → Stands n x → Stands n y → Stands n (cond b x y)
either_stands {X} n true x y p q = p
either_stands {X} n false x y p q = q

length_stands : {X : Type 0} → (l : List ℕ) (k : ℕ) (y : Scan X) → (k ≤ length l → Stands (length l) y) → Stands (length l) (cond (nat_lt (length l) k) (cut l) y)
length_stands {X} l k y f = by_test (nat_lt (length l) k) refl
  where
    by_test : (b : Bool) → nat_lt (length l) k ≡ b → Stands (length l) (cond b (cut l) y)
    by_test true e = cut_stands (length l) l
    by_test false e = f (there l k e)

then_stands : {X Y : Type 0} → (n : ℕ) (s : Scan X) (go : X × ℕ → Scan Y) → Stands n s → ((x : X × ℕ) → Stands n (go x)) → Stands n (s >>= go)
then_stands {X} {Y} n (Ok x) go p h = h x
then_stands {X} {Y} n (Err g) go p h = record { by = λ f e. subst (Standing n) (ap (λ (s : Scan Y). blame f s) e) (p.by g refl) }

further : (k n m : ℕ) (f : Fault) → k + m ≤ n → Standing m f → Standing n (record { place = k + f.place; reason = f.reason })
further k n m f h (inl t) = inl t
further k n m f h (inr (row, less)) = inr (row, omega arith)

-- where the bytes end before the place, it is that they end too early
far : (k n : ℕ) (f : Fault) → Standing 0 f → Standing n (record { place = k + f.place; reason = f.reason })
far k n f (inl t) = inl t
far k n f (inr (row, less)) = absurd (omega arith)

shift_stands : {X : Type 0} → (k : ℕ) (l : List ℕ) (s : Scan X) → Stands (length (drop k l)) s → Stands (length l) (shifted k s)
shift_stands {X} k l (Ok x) p = read_stands (length l) (x.0, k + x.1)
shift_stands {X} k l (Err g) p = record { by = λ f e. subst (Standing (length l)) (ap (λ (s : Scan X). blame f s) e) (by_test (nat_lt (length l) k) refl) }
  where
    by_test : (b : Bool) → nat_lt (length l) k ≡ b → Standing (length l) (record { place = k + g.place; reason = g.reason })
    by_test true e = let size = length-drop k l in let none : length (drop k l) ≡ 0 = grind (arith, nat_tests) in far k (length l) g (subst (λ n. Standing n g) none (p.by g refl))
    by_test false e = let size = length-drop k l in let less = there l k e in further k (length l) (length (drop k l)) g (omega arith) (p.by g refl)

-- ---- values with no level

module _ (l : List ℕ) where
  bool_stands : Stands (length l) (bool_at l)
  unfolding bool_at
  bool_stands = length_stands l 1 _ (λ h. either_stands (length l) (slice_index l 0 == 0) _ _ (read_stands (length l) _) (either_stands (length l) (slice_index l 0 == 1) _ _ (read_stands (length l) _) (row_stands (length l) 0 reasons.BadBool (omega arith) (omega arith))))

  i8_stands : Stands (length l) (i8_at l)
  unfolding i8_at
  i8_stands = length_stands l 1 _ (λ h. read_stands (length l) _)

  i16_stands : Stands (length l) (i16_at l)
  unfolding i16_at
  i16_stands = length_stands l 2 _ (λ h. read_stands (length l) _)

  i32_stands : Stands (length l) (i32_at l)
  unfolding i32_at
  i32_stands = length_stands l 4 _ (λ h. read_stands (length l) _)

  i64_stands : Stands (length l) (i64_at l)
  unfolding i64_at
  i64_stands = length_stands l 8 _ (λ h. read_stands (length l) _)

  double_stands : Stands (length l) (double_at l)
  unfolding double_at
  double_stands = length_stands l 8 _ (λ h. read_stands (length l) _)

  uuid_stands : Stands (length l) (uuid_at l)
  unfolding uuid_at
  uuid_stands = length_stands l 16 _ (λ h. read_stands (length l) _)

  seq_stands : Stands (length l) (seq_at l)
  unfolding seq_at
  seq_stands = length_stands l 4 _ (λ h. read_stands (length l) _)

  -- ---- sizes

  bad_size : {X : Type 0} → 1 ≤ length l → Stands {X = X} (length l) (fault 0 reasons.BadSize)
  bad_size {X} h = row_stands (length l) 0 reasons.BadSize (omega arith) (omega arith)

  size_stands : Stands (length l) (size_at l)
  unfolding size_at
  size_stands = by_length (nat_lt (length l) 4) refl
    where
      by_length : (b : Bool) → nat_lt (length l) 4 ≡ b → Stands (length l) (cond b (size_begun l) (cond (nat_lt (unsigned_at w32 l) (2 ^ 31)) (is_read (unsigned_at w32 l, 4)) (fault 0 reasons.BadSize)))
      by_length true e = length_stands l 1 _ (λ h. either_stands (length l) (nat_le 128 (slice_index l 0)) _ _ (bad_size h) (cut_stands (length l) l))
      by_length false e = let h = there l 4 e in either_stands (length l) (nat_lt (unsigned_at w32 l) (2 ^ 31)) _ _ (read_stands (length l) _) (bad_size (omega arith))

  string_of_stands : (s : Scan ℕ) → Stands (length l) s → Stands (length l) (string_of l s)
  string_of_stands (Ok x) p = length_stands l (x.0 + 4) _ (λ h. read_stands (length l) _)
  string_of_stands (Err g) p = record { by = λ f e. subst (Standing (length l)) (ap (λ (s : Scan (List ℕ)). blame f s) e) (p.by g refl) }

  string_stands : Stands (length l) (string_at l)
  unfolding string_at
  string_stands = string_of_stands (size_at l) size_stands

  text_stands : Stands (length l) (text_at l)
  unfolding text_at
  text_stands = then_stands (length l) (string_at l) _ string_stands (λ x. read_stands (length l) _)

zero_stands : (l : List ℕ) → Stands (length l) (zero_at l)
unfolding zero_at
zero_stands [] = cut_stands 0 []
zero_stands (x ∷ l) =
    either_stands (length (x ∷ l)) ((is_zero_at (x ∷ l) 0 && is_zero_at (x ∷ l) 1) && (is_zero_at (x ∷ l) 2 && is_zero_at (x ∷ l) 3)) _ _ (length_stands (x ∷ l) 4 _ (λ h. read_stands (length (x ∷ l)) _)) (bad_size (x ∷ l) (omega arith))

-- ---- lists, sets and maps

elements_of_stands : (l : List ℕ) (found : Option Kind) (s : Scan ℕ) → 1 ≤ length l → Stands (length (drop 1 l)) s → Stands (length l) (elements_of found s)
elements_of_stands l None s h p = row_stands (length l) 0 reasons.BadKind (omega arith) (omega arith)
elements_of_stands l (Some k) (Ok x) h p = read_stands (length l) ((k, x.0), 1 + x.1)
elements_of_stands l (Some k) (Err g) h p = record { by = λ f e. subst (Standing (length l)) (ap (λ (s : Scan (Kind × ℕ)). blame f s) e) (let size = length-drop 1 l in further 1 (length l) (length (drop 1 l)) g (omega arith) (p.by g refl)) }

module _ (l : List ℕ) where
  elements_stands : Stands (length l) (elements_at l)
  unfolding elements_at
  elements_stands = length_stands l 1 _ (λ h. elements_of_stands l (kind_of_code (slice_index l 0)) (size_at (drop 1 l)) h (size_stands (drop 1 l)))

  set_stands : Stands (length l) (set_at l)
  unfolding set_at
  set_stands = then_stands (length l) (elements_at l) _ elements_stands (λ x. read_stands (length l) _)

  list_stands : Stands (length l) (list_at l)
  unfolding list_at
  list_stands = then_stands (length l) (elements_at l) _ elements_stands (λ x. read_stands (length l) _)

  map_of_stands : (key value : Option Kind) → Stands (length l) (map_of key value l)
  map_of_stands (Some key) (Some value) = then_stands (length l) (size_at l) _ (size_stands l) (λ x. read_stands (length l) _)
  map_of_stands (Some key) None = then_stands (length l) (zero_at l) _ (zero_stands l) (λ x. read_stands (length l) _)
  map_of_stands None value = then_stands (length l) (zero_at l) _ (zero_stands l) (λ x. read_stands (length l) _)

map_stands : (l : List ℕ) → Stands (length l) (map_at l)
unfolding map_at
map_stands l = length_stands l 1 _ (λ h. either_stands (length l) (is_bad_kind (slice_index l 0)) _ _ (row_stands (length l) 0 reasons.BadKind (omega arith) (omega arith)) (length_stands l 2 _ (λ g.
    either_stands (length l) (is_bad_kind (slice_index l 1)) _ _ (row_stands (length l) 1 reasons.BadKind (omega arith) (omega arith))
    (shift_stands 2 l _ (map_of_stands (drop 2 l) (kind_of_code (slice_index l 0)) (kind_of_code (slice_index l 1)))))))

-- ---- values, fields and ends

pub value_at_stands : (k : Kind) (l : List ℕ) → Stands (length l) (value_at k l)
unfolding value_at
value_at_stands kinds.Bool l = bool_stands l
value_at_stands kinds.I8 l = i8_stands l
value_at_stands kinds.I16 l = i16_stands l
value_at_stands kinds.I32 l = i32_stands l
value_at_stands kinds.I64 l = i64_stands l
value_at_stands kinds.Double l = double_stands l
value_at_stands kinds.Str l = text_stands l
value_at_stands kinds.Struct l = read_stands (length l) _
value_at_stands kinds.Map l = map_stands l
value_at_stands kinds.Set l = set_stands l
value_at_stands kinds.List l = list_stands l
value_at_stands kinds.Uuid l = uuid_stands l

abbrev ItemStands : ℕ → Scan Item → Type 0
ItemStands n scan = (f : Fault) → scan ≡ Err f → DeepOr n f

value_stands : (d : ℕ) (k : Kind) (l : List ℕ) → ItemStands (length l) (value_in d k l)
unfolding value_in
value_stands d k l f e = by_test (nests k && nat_le 256 d) e
  where
    by_test : (b : Bool) → cond b (fault 0 reasons.TooDeep) (value_at k l) ≡ Err f → DeepOr (length l) f
    by_test true h = inl (sym (ap (λ (s : Scan Item). (blame f s).reason) h), sym (ap (λ (s : Scan Item). (blame f s).place) h))
    by_test false h = inr ((value_at_stands k l).by f h)

field_of_stands : (found : Option Kind) (l : List ℕ) → 1 ≤ length l → Stands (length l) (field_of found l)
field_of_stands None l h = row_stands (length l) 0 reasons.BadKind (omega arith) (omega arith)
field_of_stands (Some k) l h = length_stands l 3 _ (λ g. read_stands (length l) _)

pub field_stands : (l : List ℕ) → Stands (length l) (field_at l)
unfolding field_at
field_stands l = length_stands l 1 _ (λ h. either_stands (length l) (slice_index l 0 == 0) _ _ (read_stands (length l) _) (field_of_stands (kind_of_code (slice_index l 0)) l h))

called_stands : (d : ℕ) (k : Kind) (b : Bool) (l : List ℕ) → ItemStands (length l) (item_called d (cond b calls.End (calls.Value k)) l)
called_stands d k true l f e = absurd (never_read _ f e)
called_stands d k false l f e = value_stands d k l f e

pub item_stands : (d : ℕ) (slot : Slot) (l : List ℕ) → ItemStands (length l) (item_in d slot l)
item_stands d (slots.Fields last) l f e = inr ((field_stands l).by f e)
item_stands d (slots.Value k id) l f e = value_stands d k l f e
item_stands d (slots.Elements k left) l f e = called_stands d k (left == 0) l f e
item_stands d (slots.Keys key value left) l f e = called_stands d key (left == 0) l f e
item_stands d (slots.Values key value left) l f e = value_stands d value l f e

-- ---- the header

type_of_stands : (n : ℕ) (found : Option MessageType) → 1 ≤ n → Stands n (type_of found)
type_of_stands n None h = row_stands n 0 reasons.BadType (omega arith) (omega arith)
type_of_stands n (Some t) h = read_stands n (t, 1)

type_stands : (l : List ℕ) → Stands (length l) (type_at l)
unfolding type_at
type_stands l = length_stands l 1 _ (λ h. type_of_stands (length l) (type_of_code (slice_index l 0)) h)

version_stands : (l : List ℕ) → 1 ≤ length l → Stands (length l) (version_at l)
unfolding version_at
version_stands l h =
    either_stands (length l) ((slice_index l 0 == 128) && (nat_lt (length l) 2 || (slice_index l 1 == 1))) _ _ (length_stands l 4 _ (λ g. shift_stands 3 l _ (type_stands (drop 3 l)))) (row_stands (length l) 0 reasons.BadVersion (omega arith) (omega arith))

strict_stands : (l : List ℕ) → 1 ≤ length l → Stands (length l) (strict_at l)
unfolding strict_at
strict_stands l h = then_stands (length l) (version_at l) _ (version_stands l h) (λ t. then_stands (length l) _ _ (shift_stands t.1 l _ (string_stands (drop t.1 l))) (λ n. then_stands (length l) _ _ (shift_stands n.1 l _ (seq_stands (drop n.1 l))) (λ s. read_stands (length l) _)))

old_stands : (l : List ℕ) → Stands (length l) (old_at l)
unfolding old_at
old_stands l = then_stands (length l) (string_at l) _ (string_stands l) (λ n. then_stands (length l) _ _ (shift_stands n.1 l _ (type_stands (drop n.1 l))) (λ t. then_stands (length l) _ _ (shift_stands t.1 l _ (seq_stands (drop t.1 l))) (λ s. read_stands (length l) _)))

pub head_stands : (l : List ℕ) → Stands (length l) (head_at l)
unfolding head_at
head_stands l = length_stands l 1 _ (λ h. either_stands (length l) (nat_le 128 (slice_index l 0)) _ _ (strict_stands l h) (old_stands l))
