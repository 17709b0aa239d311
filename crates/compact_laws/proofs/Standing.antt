-- A fault that a scan tells stands where a part is called for, and what begins there is none of it; but that the bytes end too early.
use Rattle.std.proofs.Common.{◌≡◌, ℕ, ℤ, pos, zero, suc, ◌+◌, ◌/◌, ◌%◌, ◌<◌, ◌≤◌, ◌^◌, Bool, true, false, cond, List, [], ◌∷◌, ◌++◌, length, take, drop, Option, Some, None, Ok, Err, refl, ap, ◌∙◌, sym, subst, arith, ◌⊎◌, inl, inr, length-drop}
use Rattle.std.specs.Prelude.{⊤, nat_lt, nat_le, int_lt, ◌==◌, ◌&&◌, ◌+ℤ◌, Result, slice_index}
use Rattle.std.proofs.lemmas.Bool.Decides.{nat_tests}
use Rattle.std.proofs.lemmas.List.{append-nil, take-append-drop}
use lib.Signed.{◌<ℤ◌, lt_z_yes}
use Rattle.std.specs.Prelude.{T}
use Rattle.varint_zigzag.specs.declared.fault.VarFault.{VarFault}
use Rattle.varint_zigzag.specs.declared.fault.VarFault.TheVariants.{Short, Bad}
use Rattle.varint_zigzag.specs.Varint.{Spells, BeginsNone, varint_at}
use Rattle.varint_zigzag.proofs.Meaning.{Means, meant}
use Rattle.thrift_value.specs.declared.kind.Kind.{Kind}
use Rattle.thrift_value.specs.declared.kind.Kind.TheVariants as kinds
use Rattle.thrift_value.specs.declared.kind.MessageType.{MessageType}
use Rattle.thrift_value.specs.Items.{Item}
use Rattle.protocol_traits.specs.declared.fault.Fault.{Fault}
use Rattle.protocol_traits.specs.declared.fault.Reason.{Reason}
use Rattle.protocol_traits.specs.declared.fault.Reason.TheVariants as reasons
use Rattle.protocol_traits.specs.declared.nest.Slot.{Slot}
use Rattle.protocol_traits.specs.declared.nest.Slot.TheVariants as slots
use Rattle.compact_protocol.specs.Codes.{kind_of, type_of}
use Rattle.compact_protocol.specs.Scan.{Scan, fault, shifted, ◌>>=◌, varint_of, varint16_at, varint32_at, varint64_at, id_at, size_at, string_at, next_id, short_field, long_field, field_of, field_at, bool_at, i8_at, i16_at, i32_at, i64_at, double_at, text_at, uuid_at, elements_of, elements_at, set_at, list_at, both_kinds, kinds_at, map_at, value_at, value_in, opens, is_bool, field_value, next_of, item_in, type_or_fault, type_at, front_at}
use Rattle.compact_protocol.specs.Grammar.{IsSize}
use Rattle.gate_base.specs.Bytes.{AreBytes}
use Rattle.binary_laws.proofs.Inverse.{bytes_front}
use Rattle.binary_laws.proofs.Leaves.{take_front}
use Rattle.compact_laws.specs.Called.{Part, protocol_byte, version_byte, field_byte, bool_byte, elements_byte, kinds_byte, varint_part, size_part, level_part, HeaderCalls, FieldCalls, ElementsCall, PairsCall, ValueCalls, ItemCalls}
use Rattle.compact_laws.specs.Faulty.{IsFaulty}
use Rattle.compact_laws.proofs.Stable.{cut, there}
use Rattle.compact_laws.proofs.Growing.{drop_on, whole_end, header_at}
use Rattle.compact_laws.proofs.Inverse.{Front, bytes_small, size_read, kind_is}
use Rattle.compact_laws.proofs.Headed.{IsVersion, IsFront, type_read, front_read}

-- At the fault's place there is a byte. What stands before it calls for a part there, and what begins there is none of it.
abbrev pub Inside : {X : Type 0} → (List ℕ → Part → Type 0) → List ℕ → Scan X → Type 0
Inside calls l (Ok x) = ⊤
Inside calls l (Err f) = (f.reason ≡ reasons.Truncated → ⊥) → (f.place < length l) × ((part : Part) × calls (take f.place l) part × IsFaulty part f.reason (drop f.place l))

-- nothing stands before the part
abbrev pub Only : Part → List ℕ → Part → Type 0
Only it begun part = (begun ≡ []) × (part ≡ it)

-- ---- how scans are put together

take_on : (n p : ℕ) (l : List ℕ) → take (n + p) l ≡ take n l ++ take p (drop n l)
take_on zero p l = ap (λ m. take m l) (omega arith)
take_on (suc n) p [] = none (suc n + p) ∙ sym (none p)
  where
    none : (m : ℕ) → take {A = ℕ} m [] ≡ []
    none zero = refl
    none (suc m) = refl
take_on (suc n) p (x ∷ l) = ap (λ m. take m (x ∷ l)) same ∙ ap (λ k. x ∷ k) (take_on n p l)
  where
    same : suc n + p ≡ suc (n + p)
    same = omega arith

module _ (C : List ℕ → Part → Type 0) where
  cut_inside : (X : Type 0) (l : List ℕ) (p : ℕ) → Inside {X = X} C l (cut p)
  cut_inside X l p = λ other. absurd (other refl)

  either_inside : {X : Type 0} → (b : Bool) (l : List ℕ) (x y : Scan X) → (b ≡ true → Inside C l x) → (b ≡ false → Inside C l y) → Inside C l (cond b x y)
  either_inside {X} true l x y p q = p refl
  either_inside {X} false l x y p q = q refl

  length_inside : {X : Type 0} → (l : List ℕ) (k p : ℕ) (y : Scan X) → (k ≤ length l → Inside C l y) → Inside C l (cond (nat_lt (length l) k) (cut p) y)
  length_inside {X} l k p y h = either_inside (nat_lt (length l) k) l (cut p) y (λ e. cut_inside X l p) (λ e. h (there l k e))

  then_inside : {X Y : Type 0} → (l : List ℕ) (s : Scan X) (go : X × ℕ → Scan Y) → Inside C l s → ((x : X × ℕ) → s ≡ Ok x → Inside C l (go x)) → Inside C l (s >>= go)
  then_inside {X} {Y} l (Ok x) go p h = h x refl
  then_inside {X} {Y} l (Err f) go p h = p

  also_inside : {X : Type 0} → (D : List ℕ → Part → Type 0) (l : List ℕ) (s : Scan X) → ((begun : List ℕ) (part : Part) → C begun part → D begun part) → Inside C l s → Inside D l s
  also_inside {X} D l (Ok x) more p = tt
  also_inside {X} D l (Err f) more p = λ other. let q = p other in (q.0, (q.1.0, more (take f.place l) q.1.0 q.1.1, q.1.2))

  shift_inside : {X : Type 0} → (D : List ℕ → Part → Type 0) (k : ℕ) (l : List ℕ) (s : Scan X) → ((begun : List ℕ) (part : Part) → C begun part → D (take k l ++ begun) part) → Inside C (drop k l) s → Inside D l (shifted k s)
  shift_inside {X} D k l (Ok x) more p = tt
  shift_inside {X} D k l (Err f) more p = λ other.
      let q = p other in
      let part = q.1.0 in
      let less = q.0 in
      let size = length-drop k l in
      (omega (arith, less, size), (part, subst (λ b. D b part) (sym (take_on k f.place l)) (more (take f.place (drop k l)) part q.1.1), subst (IsFaulty part f.reason) (sym (drop_on k f.place l)) q.1.2))

-- a fault of the very part
bad_inside : (X : Type 0) (it : Part) (l : List ℕ) (reason : Reason) → 1 ≤ length l → IsFaulty it reason l → Inside {X = X} (Only it) l (fault 0 reason)
bad_inside X it l reason some bad = λ other. (omega (arith, some), (it, (refl, refl), bad))

pub bytes_on : (k : ℕ) (l : List ℕ) → AreBytes l → AreBytes (drop k l)
bytes_on k l are = (bytes_front (take k l) (drop k l) (subst AreBytes (sym (take-append-drop k l)) are)).1

-- what is at the front
taken_front : (P : List ℕ → Type 0) (l : List ℕ) (n : ℕ) (f : Front P l n) → take n l ≡ f.front
taken_front P l n f = ap (take n) f.laid ∙ ap (λ k. take k (f.front ++ f.rest)) f.size ∙ take_front f.front f.rest

first_byte : (l : List ℕ) → 1 ≤ length l → take 1 l ≡ slice_index l 0 ∷ []
first_byte [] some = absurd (omega (arith, some))
first_byte (x ∷ l) some = refl

-- ---- numbers

found_inside : (it : Part) (most width p : ℕ) (l : List ℕ) → AreBytes l → 1 ≤ length l → (BeginsNone most width l → IsFaulty it reasons.BadVarint l) → Inside (Only it) l (varint_of p (varint_at most width l))
found_inside it most width p l are some sort = by_found (varint_at most width l) (meant most width l (bytes_small l are))
  where
    by_found : (found : Result (ℕ × ℕ) VarFault) → Means most width l found → Inside (Only it) l (varint_of p found)
    by_found (Ok x) m = tt
    by_found (Err Short) m = cut_inside (Only it) ℕ l p
    by_found (Err Bad) m = bad_inside ℕ it l reasons.BadVarint some (sort m)

varint_inside : (most width : ℕ) (l : List ℕ) → AreBytes l → Inside (Only (varint_part (suc most) width)) l (varint_of (length l) (varint_at (suc most) width l))
varint_inside most width [] are = cut_inside (Only (varint_part (suc most) width)) ℕ [] 0
varint_inside most width (b ∷ k) are = found_inside (varint_part (suc most) width) (suc most) width (length (b ∷ k)) (b ∷ k) are (omega arith) (λ n. n)

module _ (l : List ℕ) (are : AreBytes l) where
  varint16_inside : Inside (Only (varint_part 5 16)) l (varint16_at l)
  unfolding varint16_at
  varint16_inside = varint_inside 4 16 l are

  varint32_inside : Inside (Only (varint_part 5 32)) l (varint32_at l)
  unfolding varint32_at
  varint32_inside = varint_inside 4 32 l are

  varint64_inside : Inside (Only (varint_part 10 64)) l (varint64_at l)
  unfolding varint64_at
  varint64_inside = varint_inside 9 64 l are

  id_inside : Inside (Only (varint_part 5 16)) l (id_at l)
  unfolding id_at
  id_inside = then_inside (Only (varint_part 5 16)) l (varint16_at l) _ varint16_inside (λ x e. tt)

-- a size that is too large is a varint all the same
large_size : (l : List ℕ) (x : ℕ × ℕ) → AreBytes l → varint_at 5 32 l ≡ Ok x → nat_lt x.0 2147483648 ≡ false → IsFaulty size_part reasons.BadSize l
large_size l x are e big =
    let m = subst (Means 5 32 l) e (meant 5 32 l (bytes_small l are)) in
    let least : 2 ^ 31 ≤ x.0 = grind (arith, nat_tests) in
    (x.0, subst (λ n. Spells 5 32 (take n l) x.0) (sym (whole_end 5 32 l x e)) m.1, least)

size_inside : (l : List ℕ) → AreBytes l → Inside (Only size_part) l (size_at l)
unfolding size_at varint32_at
size_inside [] are = cut_inside (Only size_part) ℕ [] 0
size_inside (b ∷ k) are = by_found (varint_at 5 32 l) refl (found_inside size_part 5 32 (length l) l are (omega arith) (λ n. n))
  where
    l : List ℕ
    l = b ∷ k

    by_found : (found : Result (ℕ × ℕ) VarFault) → varint_at 5 32 l ≡ found → Inside (Only size_part) l (varint_of (length l) found) → Inside (Only size_part) l (varint_of (length l) found >>= λ n. cond (nat_lt n.0 2147483648) (Ok n) (fault 0 reasons.BadSize))
    by_found (Ok x) e p = either_inside (Only size_part) (nat_lt x.0 2147483648) l (Ok x) (fault 0 reasons.BadSize) (λ t. tt) (λ t. bad_inside (ℕ) size_part l reasons.BadSize (omega arith) (large_size l x are e t))
    by_found (Err Short) e p = p
    by_found (Err Bad) e p = p

-- ---- values

module _ (l : List ℕ) (are : AreBytes l) where
  string_inside : Inside (Only size_part) l (string_at l)
  unfolding string_at
  string_inside = then_inside (Only size_part) l (size_at l) _ (size_inside l are) (λ x e. length_inside (Only size_part) l (x.1 + x.0) (length l) _ (λ h. tt))

  bool_inside : Inside (Only bool_byte) l (bool_at l)
  unfolding bool_at
  bool_inside = length_inside (Only bool_byte) l 1 0 _ (λ h.
      either_inside (Only bool_byte) (slice_index l 0 == 1) l _ _ (λ e. tt) (λ one. either_inside (Only bool_byte) (slice_index l 0 == 2) l _ _ (λ e. tt) (λ two.
      either_inside (Only bool_byte) (slice_index l 0 == 0) l _ _ (λ e. tt) (λ none. bad_inside Item bool_byte l reasons.BadBool h (grind (arith, nat_tests))))))

  i16_inside : Inside (Only (varint_part 5 16)) l (i16_at l)
  unfolding i16_at
  i16_inside = then_inside (Only (varint_part 5 16)) l (id_at l) _ (id_inside l are) (λ x e. tt)

  i32_inside : Inside (Only (varint_part 5 32)) l (i32_at l)
  unfolding i32_at
  i32_inside = then_inside (Only (varint_part 5 32)) l (varint32_at l) _ (varint32_inside l are) (λ x e. tt)

  i64_inside : Inside (Only (varint_part 10 64)) l (i64_at l)
  unfolding i64_at
  i64_inside = then_inside (Only (varint_part 10 64)) l (varint64_at l) _ (varint64_inside l are) (λ x e. tt)

  text_inside : Inside (Only size_part) l (text_at l)
  unfolding text_at
  text_inside = then_inside (Only size_part) l (string_at l) _ string_inside (λ x e. tt)

-- where nothing is called for, the bytes may end too early
abbrev Nothing : List ℕ → Part → Type 0
Nothing begun part = ⊥

module _ (l : List ℕ) where
  i8_inside : Inside Nothing l (i8_at l)
  unfolding i8_at
  i8_inside = length_inside Nothing l 1 0 _ (λ h. tt)

  double_inside : Inside Nothing l (double_at l)
  unfolding double_at
  double_inside = length_inside Nothing l 8 (length l) _ (λ h. tt)

  uuid_inside : Inside Nothing l (uuid_at l)
  unfolding uuid_at
  uuid_inside = length_inside Nothing l 16 (length l) _ (λ h. tt)

-- ---- containers

-- the high half of a byte of the long form
long_half : (x : ℕ) → x < 256 → nat_lt (x / 16) 15 ≡ false → x ≡ 240 + x % 16
long_half x small e = grind (arith, nat_tests)

module _ (l : List ℕ) (are : AreBytes l) where
  long_calls : (k : Kind) → kind_of (slice_index l 0 % 16) ≡ Some k → 1 ≤ length l → nat_lt (slice_index l 0 / 16) 15 ≡ false → (begun : List ℕ) (part : Part) → Only size_part begun part → ElementsCall (take 1 l ++ begun) part
  long_calls k e some long begun part (none, is) =
      let x = slice_index l 0 in
      inr (k, x % 16, kind_is (x % 16) k e, ap (λ b. take 1 l ++ b) none ∙ append-nil (take 1 l) ∙ first_byte l some ∙ ap (λ y. y ∷ []) (long_half x (bytes_small l are 0) long), is)

  elements_of_inside : (found : Option Kind) → kind_of (slice_index l 0 % 16) ≡ found → 1 ≤ length l → Inside ElementsCall l (elements_of l found)
  elements_of_inside None e h = also_inside (Only elements_byte) ElementsCall l (fault {X = Kind × ℕ} 0 reasons.BadKind) (λ begun part o. inl o) (bad_inside (Kind × ℕ) elements_byte l reasons.BadKind h e)
  elements_of_inside (Some k) e h = either_inside ElementsCall (nat_lt (slice_index l 0 / 16) 15) l _ _ (λ t. tt) (λ t.
      then_inside ElementsCall l (shifted 1 (size_at (drop 1 l))) _ (shift_inside (Only size_part) ElementsCall 1 l (size_at (drop 1 l)) (long_calls k e h t) (size_inside (drop 1 l) (bytes_on 1 l are))) (λ y g. tt))

  elements_inside : Inside ElementsCall l (elements_at l)
  unfolding elements_at
  elements_inside = length_inside ElementsCall l 1 0 _ (elements_of_inside (kind_of (slice_index l 0 % 16)) refl)

  set_inside : Inside ElementsCall l (set_at l)
  unfolding set_at
  set_inside = then_inside ElementsCall l (elements_at l) _ elements_inside (λ x e. tt)

  list_inside : Inside ElementsCall l (list_at l)
  unfolding list_at
  list_inside = then_inside ElementsCall l (elements_at l) _ elements_inside (λ x e. tt)

both_inside : (l : List ℕ) (key value : Option Kind) → kind_of (slice_index l 0 / 16) ≡ key → kind_of (slice_index l 0 % 16) ≡ value → 1 ≤ length l → Inside (Only kinds_byte) l (both_kinds key value)
both_inside l None value p q h = bad_inside (Kind × Kind) kinds_byte l reasons.BadKind h (inl p)
both_inside l (Some key) None p q h = bad_inside (Kind × Kind) kinds_byte l reasons.BadKind h (inr q)
both_inside l (Some key) (Some value) p q h = tt

kinds_inside : (l : List ℕ) → Inside (Only kinds_byte) l (kinds_at l)
unfolding kinds_at
kinds_inside l = length_inside (Only kinds_byte) l 1 0 _ (both_inside l (kind_of (slice_index l 0 / 16)) (kind_of (slice_index l 0 % 16)) refl refl)

some_of : (n : ℕ) → (n == 0) ≡ false → 1 ≤ n
some_of n e = grind (arith, nat_tests)

pairs_call : (l : List ℕ) → AreBytes l → (x : ℕ × ℕ) → size_at l ≡ Ok x → (x.0 == 0) ≡ false → (begun : List ℕ) (part : Part) → Only kinds_byte begun part → PairsCall (take x.1 l ++ begun) part
pairs_call l are x e some begun part (none, is) =
    let f = size_read l are x.0 x.1 e in
    inr (x.0, some_of x.0 some, subst (IsSize x.0) (sym (ap (λ b. take x.1 l ++ b) none ∙ append-nil (take x.1 l) ∙ taken_front (IsSize x.0) l x.1 f)) f.spells, is)

map_inside : (l : List ℕ) → AreBytes l → Inside PairsCall l (map_at l)
unfolding map_at
map_inside l are =
    then_inside PairsCall l (size_at l) _ (also_inside (Only size_part) PairsCall l (size_at l) (λ begun part o. inl o) (size_inside l are))
    (λ x e. either_inside PairsCall (x.0 == 0) l _ _ (λ t. tt) (λ t. then_inside PairsCall l (shifted x.1 (kinds_at (drop x.1 l))) _ (shift_inside (Only kinds_byte) PairsCall x.1 l (kinds_at (drop x.1 l)) (pairs_call l are x e t) (kinds_inside (drop x.1 l))) (λ y g. tt)))

value_at_inside : (d : ℕ) (k : Kind) (l : List ℕ) → AreBytes l → Inside (ValueCalls d k) l (value_at k l)
unfolding value_at
value_at_inside d kinds.Bool l are = bool_inside l are
value_at_inside d kinds.I8 l are = i8_inside l
value_at_inside d kinds.I16 l are = i16_inside l are
value_at_inside d kinds.I32 l are = i32_inside l are
value_at_inside d kinds.I64 l are = i64_inside l are
value_at_inside d kinds.Double l are = double_inside l
value_at_inside d kinds.Str l are = text_inside l are
value_at_inside d kinds.Struct l are = tt
value_at_inside d kinds.Map l are = also_inside PairsCall (ValueCalls d kinds.Map) l (map_at l) (λ begun part c. inr c) (map_inside l are)
value_at_inside d kinds.Set l are = also_inside ElementsCall (ValueCalls d kinds.Set) l (set_at l) (λ begun part c. inr c) (set_inside l are)
value_at_inside d kinds.List l are = also_inside ElementsCall (ValueCalls d kinds.List) l (list_at l) (λ begun part c. inr c) (list_inside l are)
value_at_inside d kinds.Uuid l are = uuid_inside l

-- ---- items

-- where a part is called for, or at the place of a value that lies too deep
abbrev pub Lodges : (List ℕ → Part → Type 0) → List ℕ → Fault → Type 0
Lodges calls l f =
    ((f.reason ≡ reasons.TooDeep) × (f.place ≡ 0) × calls [] level_part)
    ⊎ ((f.place < length l) × ((part : Part) × calls (take f.place l) part × IsFaulty part f.reason (drop f.place l)))

abbrev pub Lodged : (List ℕ → Part → Type 0) → List ℕ → Scan Item → Type 0
Lodged calls l (Ok x) = ⊤
Lodged calls l (Err f) = (f.reason ≡ reasons.Truncated → ⊥) → Lodges calls l f

lodged : (C : List ℕ → Part → Type 0) (l : List ℕ) (s : Scan Item) → Inside C l s → Lodged C l s
lodged C l (Ok x) p = tt
lodged C l (Err f) p = λ other. inr (p other)

also_lodged : (C D : List ℕ → Part → Type 0) (l : List ℕ) (s : Scan Item) → ((begun : List ℕ) (part : Part) → C begun part → D begun part) → Lodged C l s → Lodged D l s
also_lodged C D l (Ok x) more p = tt
also_lodged C D l (Err f) more p = λ other. by_lodges (p other)
  where
    by_lodges : Lodges C l f → Lodges D l f
    by_lodges (inl (deep, first, c)) = inl (deep, first, more [] level_part c)
    by_lodges (inr (less, (part, c, bad))) = inr (less, (part, more (take f.place l) part c, bad))

either_lodged : (C : List ℕ → Part → Type 0) (b : Bool) (l : List ℕ) (x y : Scan Item) → (b ≡ true → Lodged C l x) → (b ≡ false → Lodged C l y) → Lodged C l (cond b x y)
either_lodged C true l x y p q = p refl
either_lodged C false l x y p q = q refl

level_calls : (d : ℕ) (k : Kind) → d ≤ 256 → (opens k && nat_le 256 d) ≡ true → ValueCalls d k [] level_part
level_calls d kinds.Bool most e = absurd (cc)
level_calls d kinds.I8 most e = absurd (cc)
level_calls d kinds.I16 most e = absurd (cc)
level_calls d kinds.I32 most e = absurd (cc)
level_calls d kinds.I64 most e = absurd (cc)
level_calls d kinds.Double most e = absurd (cc)
level_calls d kinds.Str most e = absurd (cc)
level_calls d kinds.Uuid most e = absurd (cc)
level_calls d kinds.Struct most e = (grind (arith, nat_tests), refl, refl)
level_calls d kinds.Map most e = inl (grind (arith, nat_tests), refl, refl)
level_calls d kinds.Set most e = inl (grind (arith, nat_tests), refl, refl)
level_calls d kinds.List most e = inl (grind (arith, nat_tests), refl, refl)

value_lodged : (d : ℕ) (k : Kind) (l : List ℕ) → d ≤ 256 → AreBytes l → Lodged (ValueCalls d k) l (value_in d k l)
unfolding value_in
value_lodged d k l most are = either_lodged (ValueCalls d k) (opens k && nat_le 256 d) l (fault 0 reasons.TooDeep) (value_at k l) (λ t. λ other. inl (refl, refl, level_calls d k most t)) (λ t. lodged (ValueCalls d k) l (value_at k l) (value_at_inside d k l are))

-- a short field's byte has a high half above 0
some_step : (x : ℕ) → (x / 16 == 0) ≡ false → 1 ≤ x / 16
some_step x e = grind (arith, nat_tests)

no_half : (x : ℕ) → (x / 16 == 0) ≡ true → x % 16 ≡ x
no_half x e = grind (arith, nat_tests)

past_last : (z : ℤ) → int_lt (pos 32767) z ≡ true → pos 32767 <ℤ z
past_last z e = lt_z_yes (subst T (sym e) tt)

not_zero : (x : ℕ) → (x == 0) ≡ false → x ≡ 0 → ⊥
not_zero x e is = grind (arith, nat_tests)

module _ (last : ℤ) (l : List ℕ) (are : AreBytes l) (some : 1 ≤ length l) where
  abbrev x : ℕ
  x = slice_index l 0

  bad_field : (X : Type 0) (reason : Reason) → IsFaulty (field_byte last) reason l → Inside {X = X} (FieldCalls last) l (fault 0 reason)
  bad_field X reason bad = also_inside (Only (field_byte last)) (FieldCalls last) l (fault {X = X} 0 reason) (λ begun part o. inl o) (bad_inside X (field_byte last) l reason some bad)

  short_inside : (k : Kind) → kind_of (x % 16) ≡ Some k → (x / 16 == 0) ≡ false → Inside (FieldCalls last) l (short_field k (next_id last (x / 16)))
  short_inside k e high = by_next (int_lt (pos 32767) (last +ℤ pos (x / 16))) refl
    where
      by_next : (b : Bool) → int_lt (pos 32767) (last +ℤ pos (x / 16)) ≡ b → Inside (FieldCalls last) l (short_field k (cond b None (Some (last +ℤ pos (x / 16)))))
      by_next true t = bad_field Item reasons.BadId (some_step x high, (k, e), past_last (last +ℤ pos (x / 16)) t)
      by_next false t = tt

  id_calls : (k : Kind) → kind_of (x % 16) ≡ Some k → (x / 16 == 0) ≡ true → (begun : List ℕ) (part : Part) → Only (varint_part 5 16) begun part → FieldCalls last (take 1 l ++ begun) part
  id_calls k e high begun part (none, is) = inr (k, x % 16, kind_is (x % 16) k e, ap (λ b. take 1 l ++ b) none ∙ append-nil (take 1 l) ∙ first_byte l some ∙ ap (λ y. y ∷ []) (sym (no_half x high)), is)

  field_of_inside : (found : Option Kind) → kind_of (x % 16) ≡ found → (x ≡ 0 → ⊥) → Inside (FieldCalls last) l (field_of last l found)
  unfolding long_field
  field_of_inside None e differs = bad_field Item reasons.BadKind (differs, e)
  field_of_inside (Some k) e differs =
      either_inside (FieldCalls last) (x / 16 == 0) l _ _ (λ t. then_inside (FieldCalls last) l (shifted 1 (id_at (drop 1 l))) _ (shift_inside (Only (varint_part 5 16)) (FieldCalls last) 1 l (id_at (drop 1 l)) (id_calls k e t) (id_inside (drop 1 l) (bytes_on 1 l are))) (λ y g. tt)) (λ t.
      short_inside k e t)

field_inside : (last : ℤ) (l : List ℕ) → AreBytes l → Inside (FieldCalls last) l (field_at last l)
unfolding field_at
field_inside last l are =
    length_inside (FieldCalls last) l 1 0 _ (λ h. either_inside (FieldCalls last) (slice_index l 0 == 0) l _ _ (λ e. tt) (λ e. field_of_inside last l are h (kind_of (slice_index l 0 % 16)) refl (not_zero (slice_index l 0) e)))

next_lodged : (d : ℕ) (k : Kind) (left : ℕ) (l : List ℕ) → d ≤ 256 → AreBytes l → Lodged (λ begun part. (1 ≤ left) × ValueCalls d k begun part) l (next_of d k left l)
unfolding next_of
next_lodged d k left l most are =
    let C : List ℕ → Part → Type 0 = λ begun part. (1 ≤ left) × ValueCalls d k begun part in
    either_lodged C (left == 0) l _ _ (λ e. tt) (λ e. also_lodged (ValueCalls d k) C l (value_in d k l) (λ begun part c. (some_of left e, c)) (value_lodged d k l most are))

no_bool : (k : Kind) → is_bool k ≡ false → k ≡ kinds.Bool → ⊥
no_bool k e is = let wrong = sym e ∙ ap is_bool is in absurd (cc)

field_value_lodged : (d : ℕ) (k : Kind) (flag : Bool) (l : List ℕ) → d ≤ 256 → AreBytes l → Lodged (λ begun part. ((k ≡ kinds.Bool) → ⊥) × ValueCalls d k begun part) l (field_value d k flag l)
unfolding field_value
field_value_lodged d k flag l most are =
    let C : List ℕ → Part → Type 0 = λ begun part. ((k ≡ kinds.Bool) → ⊥) × ValueCalls d k begun part in
    either_lodged C (is_bool k) l _ _ (λ e. tt) (λ e. also_lodged (ValueCalls d k) C l (value_in d k l) (λ begun part c. (no_bool k e, c)) (value_lodged d k l most are))

pub item_lodged : (d : ℕ) (slot : Slot) (flag : Bool) (l : List ℕ) → d ≤ 256 → AreBytes l → Lodged (ItemCalls d slot) l (item_in d slot flag l)
unfolding item_in
item_lodged d (slots.Fields last) flag l most are = lodged (FieldCalls last) l (field_at last l) (field_inside last l are)
item_lodged d (slots.Value k id) flag l most are = field_value_lodged d k flag l most are
item_lodged d (slots.Elements k left) flag l most are = next_lodged d k left l most are
item_lodged d (slots.Keys key value left) flag l most are = next_lodged d key left l most are
item_lodged d (slots.Values key value left) flag l most are = value_lodged d value l most are

-- ---- the header

test_is : (x n : ℕ) → (x == n) ≡ true → x ≡ n
test_is x n e = grind (arith, nat_tests)

test_not : (x n : ℕ) → (x == n) ≡ false → x ≡ n → ⊥
test_not x n e is = grind (arith, nat_tests)

-- a fault of the second byte
second_bad : (X : Type 0) (l : List ℕ) (reason : Reason) → 2 ≤ length l → slice_index l 0 ≡ 130 → IsFaulty version_byte reason (drop 1 l) → Inside {X = X} HeaderCalls l (fault 1 reason)
second_bad X l reason two first bad = λ other. (omega (arith, two), (version_byte, inr (inl (first_byte l (omega (arith, two)) ∙ ap (λ y. y ∷ []) first, refl)), bad))

second_is : (l : List ℕ) → slice_index (drop 1 l) 0 ≡ slice_index l 1
second_is [] = refl
second_is (x ∷ l) = refl

typed_inside : (l : List ℕ) (found : Option MessageType) → 2 ≤ length l → slice_index l 0 ≡ 130 → slice_index l 1 % 32 ≡ 1 → type_of (slice_index l 1 / 32) ≡ found → Inside HeaderCalls l (type_or_fault found)
typed_inside l None h first second e = second_bad MessageType l reasons.BadType h first (subst (λ y. (y % 32 ≡ 1) × (type_of (y / 32) ≡ None)) (sym (second_is l)) (second, e))
typed_inside l (Some t) h first second e = tt

type_inside : (l : List ℕ) → Inside HeaderCalls l (type_at l)
unfolding type_at
type_inside l = either_inside HeaderCalls (nat_lt (length l) 1) l _ _ (λ e. cut_inside HeaderCalls MessageType l 0) (λ some. either_inside HeaderCalls (slice_index l 0 == 130) l _ _
    (λ first. either_inside HeaderCalls (nat_lt (length l) 2) l _ _ (λ e. cut_inside HeaderCalls MessageType l 1) (λ two.
    either_inside HeaderCalls (slice_index l 1 % 32 == 1) l _ _ (λ second. typed_inside l (type_of (slice_index l 1 / 32)) (there l 2 two) (test_is (slice_index l 0) 130 first) (test_is (slice_index l 1 % 32) 1 second) refl)
    (λ second. second_bad MessageType l reasons.BadVersion (there l 2 two) (test_is (slice_index l 0) 130 first) (subst (λ y. y % 32 ≡ 1 → ⊥) (sym (second_is l)) (test_not (slice_index l 1 % 32) 1 second)))))
    (λ first. also_inside (Only protocol_byte) HeaderCalls l (fault {X = MessageType} 0 reasons.BadVersion) (λ begun part o. inl o) (bad_inside MessageType protocol_byte l reasons.BadVersion (there l 1 some) (test_not (slice_index l 0) 130 first))))

module _ (l : List ℕ) (are : AreBytes l) where
  number_calls : (t : MessageType × ℕ) → type_at l ≡ Ok t → (begun : List ℕ) (part : Part) → Only (varint_part 5 32) begun part → HeaderCalls (take t.1 l ++ begun) part
  number_calls t e begun part (none, is) =
      let f = type_read l t.0 t.1 e in
      inr (inr (inl (t.0, ap (λ b. take t.1 l ++ b) none ∙ append-nil (take t.1 l) ∙ taken_front (IsVersion t.0) l t.1 f ∙ f.spells, is)))

  name_calls : (t : (MessageType × ℤ) × ℕ) → front_at l ≡ Ok t → (begun : List ℕ) (part : Part) → Only size_part begun part → HeaderCalls (take t.1 l ++ begun) part
  name_calls t e begun part (none, is) =
      let f = front_read l are t.0.0 t.0.1 t.1 e in
      let number = f.spells.1 in
      inr (inr (inr (t.0.0, number.0, _, number.1, ap (λ b. take t.1 l ++ b) none ∙ append-nil (take t.1 l) ∙ taken_front (IsFront t.0.0 t.0.1) l t.1 f ∙ number.2, is)))

  front_inside : Inside HeaderCalls l (front_at l)
  unfolding front_at
  front_inside = then_inside HeaderCalls l (type_at l) _ (type_inside l) (λ t e.
      then_inside HeaderCalls l (shifted t.1 (varint32_at (drop t.1 l))) _ (shift_inside (Only (varint_part 5 32)) HeaderCalls t.1 l (varint32_at (drop t.1 l)) (number_calls t e) (varint32_inside (drop t.1 l) (bytes_on t.1 l are))) (λ n g. tt))

  pub header_inside : Inside HeaderCalls l (header_at l)
  header_inside = then_inside HeaderCalls l (front_at l) _ front_inside (λ t e. shift_inside (Only size_part) HeaderCalls t.1 l (string_at (drop t.1 l)) (name_calls t e) (string_inside (drop t.1 l) (bytes_on t.1 l are)))
