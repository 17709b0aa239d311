-- The parts of an item: how many bytes it takes, and where a fault in its place stands in it.
use Rattle.std.proofs.Common.{◌≡◌, ℕ, ◌+◌, ◌≤◌, ◌^◌, Bool, true, false, cond, List, length, take, drop, Option, Some, None, Ok, Err, refl, ap, ◌∙◌, sym, subst, arith, ◌⊎◌, inl, inr, length-take-le, length-drop}
use Rattle.std.specs.Prelude.{nat_lt, nat_le, ◌==◌, ◌&&◌, slice_index}
use Rattle.std.specs.Int.{w32}
use Rattle.thrift_value.specs.declared.kind.Kind.{Kind}
use Rattle.thrift_value.specs.declared.kind.Kind.TheVariants as kinds
use Rattle.thrift_value.specs.Items.{Item, empty_map, map_begin}
use Rattle.protocol_traits.specs.declared.fault.Fault.{Fault}
use Rattle.protocol_traits.specs.declared.fault.Reason.{Reason}
use Rattle.protocol_traits.specs.declared.fault.Reason.TheVariants as reasons
use Rattle.protocol_traits.specs.declared.nest.Slot.{Slot}
use Rattle.protocol_traits.specs.declared.nest.Slot.TheVariants as slots
use Rattle.binary_protocol.specs.declared.scan.Called.TheVariants as calls
use Rattle.binary_protocol.specs.Codes.{kind_of_code}
use Rattle.binary_protocol.specs.Scan.{Scan, fault, cut, shifted, ◌>>=◌, unsigned_at, field_at, field_of, bool_at, i8_at, i16_at, i32_at, i64_at, double_at, uuid_at, size_at, zero_at, string_at, string_of, text_at, elements_at, elements_of, set_at, list_at, map_at, map_of, map_item, is_bad_kind, is_zero_at, nests, value_at, value_in, item_called, item_in}
use Rattle.binary_laws.specs.Faults.{extent}
use Rattle.binary_laws.specs.Called.{width, IsPart, HasPart}
use Rattle.binary_laws.proofs.Inverse.{is_read, no_fault, same_value, same_size}
use Rattle.binary_laws.proofs.Cutting.{never_read}
use Rattle.binary_laws.proofs.Stable.{there}

-- the faults of a scan are of this sort, and what it reads of that
pub record Tells {X : Type 0} (A : Reason → ℕ → Type 0) (B : X → ℕ → Type 0) (scan : Scan X) : Type 0 where
  pub bad : (f : Fault) → scan ≡ Err f → (f.reason ≡ reasons.Truncated) ⊎ A f.reason f.place
  pub good : (x : X) (n : ℕ) → scan ≡ Ok (x, n) → B x n

abbrev blame : {X : Type 0} → Fault → Scan X → Fault
blame d (Ok x) = d
blame d (Err f) = f

-- ---- how scans are put together

module _ {X : Type 0} (A : Reason → ℕ → Type 0) (B : X → ℕ → Type 0) where
  pub cut_tells : (l : List ℕ) → Tells A B (cut l)
  cut_tells l = record { bad = λ f e. inl (sym (ap (λ (s : Scan X). (blame f s).reason) e)); good = λ x n e. absurd (no_fault _ (x, n) e) }

  pub read_tells : (x : X) (n : ℕ) → B x n → Tells A B (is_read (x, n))
  read_tells x n b = record { bad = λ f e. absurd (never_read (x, n) f e); good = λ y m e. subst (λ z. B z m) (same_value x y n m e) (subst (B x) (same_size x y n m e) b) }

  pub row_tells : (p : ℕ) (r : Reason) → A r p → Tells A B (fault p r)
  row_tells p r a = record { bad = λ f e. inr (subst (λ (g : Fault). A g.reason g.place) (ap (λ (s : Scan X). blame f s) e) a); good = λ x n e. absurd (no_fault _ (x, n) e) }

  pub either_tells : (b : Bool) (x y : Scan X) → Tells A B x → Tells A B y → Tells A B (cond b x y)
  either_tells true x y p q = p
  either_tells false x y p q = q

  pub length_tells : (l : List ℕ) (k : ℕ) (y : Scan X) → (k ≤ length l → Tells A B y) → Tells A B (cond (nat_lt (length l) k) (cut l) y)
  length_tells l k y f = by_test (nat_lt (length l) k) refl
    where
      by_test : (b : Bool) → nat_lt (length l) k ≡ b → Tells A B (cond b (cut l) y)
      by_test true e = cut_tells l
      by_test false e = f (there l k e)

pub then_tells : {X Y : Type 0} → (A : Reason → ℕ → Type 0) (B : X → ℕ → Type 0) (C : Y → ℕ → Type 0) (s : Scan X) (go : X × ℕ → Scan Y) → Tells A B s → ((x : X × ℕ) → B x.0 x.1 → Tells A C (go x)) → Tells A C (s >>= go)
then_tells {X} {Y} A B C (Ok x) go p h = h x (p.good x.0 x.1 refl)
then_tells {X} {Y} A B C (Err g) go p h = record {
  bad = λ f e. subst (λ (k : Fault). (k.reason ≡ reasons.Truncated) ⊎ A k.reason k.place) (ap (λ (s : Scan Y). blame f s) e) (p.bad g refl);
  good = λ x n e. absurd (no_fault _ (x, n) e);
}

moved_tells : (A C : Reason → ℕ → Type 0) (k : ℕ) (g : Fault) → ((r : Reason) (at : ℕ) → A r at → C r (k + at)) → (g.reason ≡ reasons.Truncated) ⊎ A g.reason g.place → (g.reason ≡ reasons.Truncated) ⊎ C g.reason (k + g.place)
moved_tells A C k g h (inl t) = inl t
moved_tells A C k g h (inr a) = inr (h g.reason g.place a)

pub shift_tells : {X : Type 0} → (A C : Reason → ℕ → Type 0) (B D : X → ℕ → Type 0) (k : ℕ) (s : Scan X) → ((r : Reason) (at : ℕ) → A r at → C r (k + at)) → ((x : X) (n : ℕ) → B x n → D x (k + n)) → Tells A B s → Tells C D (shifted k s)
shift_tells {X} A C B D k (Ok x) h g p = read_tells C D x.0 (k + x.1) (g x.0 x.1 (p.good x.0 x.1 refl))
shift_tells {X} A C B D k (Err f) h g p = record {
  bad = λ b e. subst (λ (j : Fault). (j.reason ≡ reasons.Truncated) ⊎ C j.reason j.place) (ap (λ (s : Scan X). blame b s) e) (moved_tells A C k f h (p.bad f refl));
  good = λ x n e. absurd (no_fault _ (x, n) e);
}

-- ---- sizes and strings

abbrev pub SizePart : Reason → ℕ → Type 0
SizePart r at = IsPart reasons.BadSize 0 r at

abbrev pub Four : ℕ → ℕ → Type 0
Four x n = n ≡ 4

pub size_tells : (l : List ℕ) → Tells SizePart Four (size_at l)
unfolding size_at
size_tells l =
    either_tells SizePart Four (nat_lt (length l) 4) _ _
    (either_tells SizePart Four (nat_lt (length l) 1) _ _ (cut_tells SizePart Four l) (either_tells SizePart Four (nat_le 128 (slice_index l 0)) _ _ (row_tells SizePart Four 0 reasons.BadSize (refl, refl)) (cut_tells SizePart Four l)))
    (either_tells SizePart Four (nat_lt (unsigned_at w32 l) (2 ^ 31)) _ _ (read_tells SizePart Four _ 4 refl) (row_tells SizePart Four 0 reasons.BadSize (refl, refl)))

pub zero_tells : (l : List ℕ) → Tells SizePart Four (zero_at l)
unfolding zero_at
zero_tells l =
    either_tells SizePart Four ((is_zero_at l 0 && is_zero_at l 1) && (is_zero_at l 2 && is_zero_at l 3)) _ _ (length_tells SizePart Four l 4 _ (λ h. read_tells SizePart Four 0 4 refl)) (row_tells SizePart Four 0 reasons.BadSize (refl, refl))

abbrev pub Named : List ℕ → ℕ → Type 0
Named name n = n ≡ length name + 4

string_of_tells : (l : List ℕ) (s : Scan ℕ) → Tells SizePart Four s → Tells SizePart Named (string_of l s)
string_of_tells l (Ok x) p = length_tells SizePart Named l (x.0 + 4) _ (λ h.
    let rest = length-drop 4 l in
    let size = length-take-le x.0 (drop 4 l) (omega (arith, rest, h)) in
    read_tells SizePart Named (take x.0 (drop 4 l)) (x.0 + 4) (omega (arith, size)))
string_of_tells l (Err g) p = record {
  bad = λ f e. subst (λ (k : Fault). (k.reason ≡ reasons.Truncated) ⊎ SizePart k.reason k.place) (ap (λ (s : Scan (List ℕ)). blame f s) e) (p.bad g refl);
  good = λ x n e. absurd (no_fault _ (x, n) e);
}

pub string_tells : (l : List ℕ) → Tells SizePart Named (string_at l)
unfolding string_at
string_tells l = string_of_tells l (size_at l) (size_tells l)

-- ---- lists, sets and maps

abbrev pub ListPart : Reason → ℕ → Type 0
ListPart r at = IsPart reasons.BadKind 0 r at ⊎ IsPart reasons.BadSize 1 r at

abbrev pub Five : Kind × ℕ → ℕ → Type 0
Five x n = n ≡ 5

size_of_list : (r : Reason) (at : ℕ) → SizePart r at → ListPart r (1 + at)
size_of_list r at (a, b) = inr (a, omega (arith, b))

elements_of_tells : (found : Option Kind) (s : Scan ℕ) → Tells SizePart Four s → Tells ListPart Five (elements_of found s)
elements_of_tells None s p = row_tells ListPart Five 0 reasons.BadKind (inl (refl, refl))
elements_of_tells (Some k) (Ok x) p = let four : x.1 ≡ 4 = p.good x.0 x.1 refl in read_tells ListPart Five (k, x.0) (1 + x.1) (omega (arith, four))
elements_of_tells (Some k) (Err g) p = record {
  bad = λ f e. subst (λ (j : Fault). (j.reason ≡ reasons.Truncated) ⊎ ListPart j.reason j.place) (ap (λ (s : Scan (Kind × ℕ)). blame f s) e) (moved_tells SizePart ListPart 1 g size_of_list (p.bad g refl));
  good = λ x n e. absurd (no_fault _ (x, n) e);
}

pub elements_tells : (l : List ℕ) → Tells ListPart Five (elements_at l)
unfolding elements_at
elements_tells l = length_tells ListPart Five l 1 _ (λ h. elements_of_tells (kind_of_code (slice_index l 0)) (size_at (drop 1 l)) (size_tells (drop 1 l)))

abbrev MapPart : Reason → ℕ → Type 0
MapPart r at = IsPart reasons.BadKind 0 r at ⊎ IsPart reasons.BadKind 1 r at ⊎ IsPart reasons.BadSize 2 r at

-- ---- values

-- where a value of the kind may be at fault
abbrev FaultPart : Kind → Reason → ℕ → Type 0
FaultPart kinds.Bool r at = IsPart reasons.BadBool 0 r at
FaultPart kinds.Str r at = SizePart r at
FaultPart kinds.Map r at = MapPart r at
FaultPart kinds.Set r at = ListPart r at
FaultPart kinds.List r at = ListPart r at
FaultPart k r at = ⊥

module _ (d : ℕ) where
  -- a value that is read has so many bytes, and has each part that a value of its kind has
  abbrev Made : (Reason → ℕ → Type 0) → Item → ℕ → Type 0
  Made A x n = (n ≡ width x) × ((r : Reason) (at : ℕ) → A r at → HasPart d x r at)

  abbrev Told : (Reason → ℕ → Type 0) → Scan Item → Type 0
  Told A scan = Tells A (Made A) scan

  list_part : (r : Reason) (at : ℕ) → ListPart r at → IsPart reasons.BadKind 0 r at ⊎ IsPart reasons.BadSize 1 r at ⊎ (IsPart reasons.TooDeep 0 r at × (d ≡ 256))
  list_part r at (inl p) = inl p
  list_part r at (inr p) = inr (inl p)

  map_part : (r : Reason) (at : ℕ) → MapPart r at → IsPart reasons.BadKind 0 r at ⊎ IsPart reasons.BadKind 1 r at ⊎ IsPart reasons.BadSize 2 r at ⊎ (IsPart reasons.TooDeep 0 r at × (d ≡ 256))
  map_part r at (inl p) = inl p
  map_part r at (inr (inl p)) = inr (inl p)
  map_part r at (inr (inr p)) = inr (inr (inl p))

  item_part_of : (key value : Kind) (size : ℕ) (b : Bool) (r : Reason) (at : ℕ) → MapPart r at → HasPart d (cond b empty_map (map_begin key value size)) r at
  item_part_of key value size true r at p = map_part r at p
  item_part_of key value size false r at p = map_part r at p

  item_width_of : (key value : Kind) (size : ℕ) (b : Bool) → width (cond b empty_map (map_begin key value size)) ≡ 6
  item_width_of key value size true = refl
  item_width_of key value size false = refl

  bool_told : (l : List ℕ) → Told (FaultPart kinds.Bool) (bool_at l)
  unfolding bool_at
  bool_told l =
      let A = FaultPart kinds.Bool in
      length_tells A (Made A) l 1 _ (λ h. either_tells A (Made A) (slice_index l 0 == 0) _ _ (read_tells A (Made A) _ 1 (refl, (λ r at p. p))) (either_tells A (Made A) (slice_index l 0 == 1) _ _ (read_tells A (Made A) _ 1 (refl, (λ r at p. p))) (row_tells A (Made A) 0 reasons.BadBool (refl, refl))))

  abbrev NoPart : Reason → ℕ → Type 0
  NoPart r at = ⊥

  i8_told : (l : List ℕ) → Told NoPart (i8_at l)
  unfolding i8_at
  i8_told l = length_tells NoPart (Made NoPart) l 1 _ (λ h. read_tells NoPart (Made NoPart) _ 1 (refl, (λ r at p. absurd p)))

  i16_told : (l : List ℕ) → Told NoPart (i16_at l)
  unfolding i16_at
  i16_told l = length_tells NoPart (Made NoPart) l 2 _ (λ h. read_tells NoPart (Made NoPart) _ 2 (refl, (λ r at p. absurd p)))

  i32_told : (l : List ℕ) → Told NoPart (i32_at l)
  unfolding i32_at
  i32_told l = length_tells NoPart (Made NoPart) l 4 _ (λ h. read_tells NoPart (Made NoPart) _ 4 (refl, (λ r at p. absurd p)))

  i64_told : (l : List ℕ) → Told NoPart (i64_at l)
  unfolding i64_at
  i64_told l = length_tells NoPart (Made NoPart) l 8 _ (λ h. read_tells NoPart (Made NoPart) _ 8 (refl, (λ r at p. absurd p)))

  double_told : (l : List ℕ) → Told NoPart (double_at l)
  unfolding double_at
  double_told l = length_tells NoPart (Made NoPart) l 8 _ (λ h. read_tells NoPart (Made NoPart) _ 8 (refl, (λ r at p. absurd p)))

  uuid_told : (l : List ℕ) → Told NoPart (uuid_at l)
  unfolding uuid_at
  uuid_told l = length_tells NoPart (Made NoPart) l 16 _ (λ h. read_tells NoPart (Made NoPart) _ 16 (refl, (λ r at p. absurd p)))

  text_told : (l : List ℕ) → Told SizePart (text_at l)
  unfolding text_at
  text_told l = then_tells SizePart Named (Made SizePart) (string_at l) _ (string_tells l) (λ x long. read_tells SizePart (Made SizePart) _ x.1 (long, (λ r at p. p)))

  set_told : (l : List ℕ) → Told ListPart (set_at l)
  unfolding set_at
  set_told l = then_tells ListPart Five (Made ListPart) (elements_at l) _ (elements_tells l) (λ x five. read_tells ListPart (Made ListPart) _ x.1 (five, list_part))

  list_told : (l : List ℕ) → Told ListPart (list_at l)
  unfolding list_at
  list_told l = then_tells ListPart Five (Made ListPart) (elements_at l) _ (elements_tells l) (λ x five. read_tells ListPart (Made ListPart) _ x.1 (five, list_part))

  -- behind the kinds
  abbrev Counted : Item → ℕ → Type 0
  Counted x n = (n ≡ 4) × (width x ≡ 6) × ((r : Reason) (at : ℕ) → MapPart r at → HasPart d x r at)

  map_of_tells : (key value : Option Kind) (l : List ℕ) → Tells SizePart Counted (map_of key value l)
  map_of_tells (Some key) (Some value) l =
      then_tells SizePart Four Counted (size_at l) _ (size_tells l) (λ x four. read_tells SizePart Counted (map_item key value x.0) x.1 (four, item_width_of key value x.0 (x.0 == 0), item_part_of key value x.0 (x.0 == 0)))
  map_of_tells (Some key) None l = then_tells SizePart Four Counted (zero_at l) _ (zero_tells l) (λ x four. read_tells SizePart Counted empty_map x.1 (four, refl, map_part))
  map_of_tells None value l = then_tells SizePart Four Counted (zero_at l) _ (zero_tells l) (λ x four. read_tells SizePart Counted empty_map x.1 (four, refl, map_part))

  map_told : (l : List ℕ) → Told MapPart (map_at l)
  unfolding map_at
  map_told l = length_tells MapPart (Made MapPart) l 1 _ (λ h. either_tells MapPart (Made MapPart) (is_bad_kind (slice_index l 0)) _ _ (row_tells MapPart (Made MapPart) 0 reasons.BadKind (inl (refl, refl)))
      (length_tells MapPart (Made MapPart) l 2 _ (λ g. either_tells MapPart (Made MapPart) (is_bad_kind (slice_index l 1)) _ _ (row_tells MapPart (Made MapPart) 1 reasons.BadKind (inr (inl (refl, refl))))
      (shift_tells SizePart MapPart Counted (Made MapPart) 2 _ (λ r at p. inr (inr (p.0, omega (arith, p.1)))) (λ x n c. (omega (arith, c.0, c.1), c.2)) (map_of_tells (kind_of_code (slice_index l 0)) (kind_of_code (slice_index l 1)) (drop 2 l))))))

  value_told : (k : Kind) (l : List ℕ) → Told (FaultPart k) (value_at k l)
  unfolding value_at
  value_told kinds.Bool l = bool_told l
  value_told kinds.I8 l = i8_told l
  value_told kinds.I16 l = i16_told l
  value_told kinds.I32 l = i32_told l
  value_told kinds.I64 l = i64_told l
  value_told kinds.Double l = double_told l
  value_told kinds.Str l = text_told l
  value_told kinds.Struct l = read_tells NoPart (Made NoPart) _ 0 (refl, (λ r at p. absurd p))
  value_told kinds.Map l = map_told l
  value_told kinds.Set l = set_told l
  value_told kinds.List l = list_told l
  value_told kinds.Uuid l = uuid_told l

  -- ---- fields

  abbrev FieldPart : Reason → ℕ → Type 0
  FieldPart r at = IsPart reasons.BadKind 0 r at

  field_of_told : (found : Option Kind) (l : List ℕ) → Told FieldPart (field_of found l)
  field_of_told None l = row_tells FieldPart (Made FieldPart) 0 reasons.BadKind (refl, refl)
  field_of_told (Some k) l = length_tells FieldPart (Made FieldPart) l 3 _ (λ h. read_tells FieldPart (Made FieldPart) _ 3 (refl, (λ r at p. p)))

  field_told : (l : List ℕ) → Told FieldPart (field_at l)
  unfolding field_at
  field_told l = length_tells FieldPart (Made FieldPart) l 1 _ (λ h. either_tells FieldPart (Made FieldPart) (slice_index l 0 == 0) _ _ (read_tells FieldPart (Made FieldPart) _ 1 (refl, (λ r at p. p))) (field_of_told (kind_of_code (slice_index l 0)) l))

  -- ---- what a level calls for

  -- of two scans of one item: what is wrong in one is a part of what the other reads
  abbrev pub Parted : (List ℕ → Scan Item) → Type 0
  Parted scan = (l other : List ℕ) (f : Fault) (x : Item) (n : ℕ) → scan l ≡ Err f → 1 ≤ extent f.reason → scan other ≡ Ok (x, n) → HasPart d x f.reason f.place

  abbrev pub Wide : (List ℕ → Scan Item) → Type 0
  Wide scan = (l : List ℕ) (x : Item) (n : ℕ) → scan l ≡ Ok (x, n) → n ≡ width x

  no_row : (r : Reason) → r ≡ reasons.Truncated → 1 ≤ extent r → ⊥
  no_row r e h = let none : extent r ≡ 0 = ap extent e in omega (arith, h, none)

  no_deep_row : (r : Reason) → reasons.TooDeep ≡ r → 1 ≤ extent r → ⊥
  no_deep_row r e h = let none : 0 ≡ extent r = ap extent e in omega (arith, h, none)

  told_parts : (A : Reason → ℕ → Type 0) (f : Fault) (x : Item) → (f.reason ≡ reasons.Truncated) ⊎ A f.reason f.place → 1 ≤ extent f.reason → ((r : Reason) (at : ℕ) → A r at → HasPart d x r at) → HasPart d x f.reason f.place
  told_parts A f x (inl t) row parts = absurd (no_row f.reason t row)
  told_parts A f x (inr a) row parts = parts f.reason f.place a

  value_parted : (k : Kind) → Parted (value_in d k)
  unfolding value_in
  value_parted k l other f x n bad row good = by_test (nests k && nat_le 256 d) bad good
    where
      by_test : (b : Bool) → cond b (fault 0 reasons.TooDeep) (value_at k l) ≡ Err f → cond b (fault 0 reasons.TooDeep) (value_at k other) ≡ Ok (x, n) → HasPart d x f.reason f.place
      by_test true p q = absurd (no_fault _ (x, n) q)
      by_test false p q = told_parts (FaultPart k) f x ((value_told k l).bad f p) row ((value_told k other).good x n q).1

  value_wide : (k : Kind) → Wide (value_in d k)
  unfolding value_in
  value_wide k l x n good = by_test (nests k && nat_le 256 d) good
    where
      by_test : (b : Bool) → cond b (fault 0 reasons.TooDeep) (value_at k l) ≡ Ok (x, n) → n ≡ width x
      by_test true q = absurd (no_fault _ (x, n) q)
      by_test false q = ((value_told k l).good x n q).0

  called_parted : (k : Kind) (b : Bool) → Parted (item_called d (cond b calls.End (calls.Value k)))
  called_parted k true l other f x n bad row good = absurd (never_read _ f bad)
  called_parted k false l other f x n bad row good = value_parted k l other f x n bad row good

  called_wide : (k : Kind) (b : Bool) → Wide (item_called d (cond b calls.End (calls.Value k)))
  called_wide k true l x n good = sym (same_size _ x 0 n good) ∙ ap width (same_value _ x 0 n good)
  called_wide k false l x n good = value_wide k l x n good

  pub item_parted : (slot : Slot) → Parted (item_in d slot)
  item_parted (slots.Fields last) l other f x n bad row good = told_parts FieldPart f x ((field_told l).bad f bad) row ((field_told other).good x n good).1
  item_parted (slots.Value k id) l other f x n bad row good = value_parted k l other f x n bad row good
  item_parted (slots.Elements k left) l other f x n bad row good = called_parted k (left == 0) l other f x n bad row good
  item_parted (slots.Keys key value left) l other f x n bad row good = called_parted key (left == 0) l other f x n bad row good
  item_parted (slots.Values key value left) l other f x n bad row good = value_parted value l other f x n bad row good

  pub item_wide : (slot : Slot) → Wide (item_in d slot)
  item_wide (slots.Fields last) l x n good = ((field_told l).good x n good).0
  item_wide (slots.Value k id) l x n good = value_wide k l x n good
  item_wide (slots.Elements k left) l x n good = called_wide k (left == 0) l x n good
  item_wide (slots.Keys key value left) l x n good = called_wide key (left == 0) l x n good
  item_wide (slots.Values key value left) l x n good = value_wide value l x n good
