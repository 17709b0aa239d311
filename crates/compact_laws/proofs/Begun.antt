-- What one value's scan has read is a value of the grammar, or the begin of one.
use Rattle.std.proofs.Common.{◌≡◌, ℕ, pos, suc, ◌<◌, ◌≤◌, ◌^◌, Bool, true, false, cond, List, [], ◌∷◌, ◌++◌, length, take, drop, Ok, refl, ap, ◌∙◌, sym, subst, arith, ◌⊎◌, inl, inr, length-take}
use Rattle.std.proofs.lemmas.List.{take-append-drop, reverse-reverse, length-reverse}
use Rattle.std.specs.Prelude.{nat_lt, nat_le, ◌==◌, reverse, FitsSigned, slice_index}
use Rattle.std.proofs.lemmas.Bool.Decides.{nat_tests}
use Rattle.std.proofs.lemmas.Int.{of_z-to_z, ints}
use Rattle.std.specs.Int.{w8, cast_signed}
use Rattle.varint_zigzag.specs.Zigzag.{unfolded}
use Rattle.varint_zigzag.specs.Varint.{Spells}
use Rattle.thrift_value.specs.declared.kind.Kind.{Kind}
use Rattle.thrift_value.specs.declared.kind.Kind.TheVariants as kinds
use Rattle.thrift_value.specs.Items.{Item, bool_value, i8_value, i16_value, i32_value, i64_value, double_value, text, struct_begin, empty_map, map_begin, set_begin, list_begin, uuid_value}
use Rattle.thrift_value.specs.Trees.{Tree, truth, whole_8, whole_16, whole_32, whole_64, double, characters, structure, mapping_of_none, mapping, collection, sequence, unique_id, kind_of, items_of, items_of_trees, items_of_pairs, depth_of}
use Rattle.protocol_traits.specs.declared.fault.Reason.TheVariants as reasons
use Rattle.protocol_traits.specs.declared.nest.Slot.{Slot}
use Rattle.protocol_traits.specs.declared.nest.Slot.TheVariants as slots
use Rattle.protocol_traits.specs.Follow.{spent, after}
use Rattle.compact_protocol.specs.Scan.{fault, varint32_at, varint64_at, id_at, string_at, elements_at, bool_at, i8_at, i16_at, i32_at, i64_at, double_at, uuid_at, text_at, set_at, list_at, map_at, value_at, value_in}
use Rattle.compact_protocol.specs.Grammar.{IsSize, IsElementsHeader, IsPairsHeader, SpellsValue}
use Rattle.gate_base.specs.Bytes.{AreBytes}
use Rattle.binary_laws.proofs.Inverse.{is_read, same_value, same_size, no_fault}
use Rattle.binary_laws.proofs.Begun.{past, long_enough, room_left}
use Rattle.compact_laws.specs.Fronts.{Begins}
use Rattle.compact_laws.proofs.Inverse.{Front, turned, then_read, varint32_read, varint64_read, word_of, long_of, id_read, string_read, elements_read, MapRead, map_read}
use Rattle.compact_laws.proofs.Levels.{IsTree, Level, AreOuter}

-- a whole value, or one that opens a level and is whole with what that holds, whatever a byte told
abbrev pub Next : ℕ → ℕ → Kind → Item → List ℕ → Type 0
Next limit d k item front =
    (((nest : List Slot) → after item nest ≡ spent nest) × IsTree limit d k (item ∷ []) front)
    ⊎ ((slot : Slot) × (d < 256) × ((up : List Slot) → AreOuter up → AreOuter (slot ∷ up)) × ((nest : List Slot) → after item nest ≡ slot ∷ spent nest)
    × ((flag : Bool) (mine : List Item) (a : List ℕ) → Level limit flag slot (suc d) mine a → IsTree limit d k (item ∷ mine) (front ++ a)))

pub record Begun (d : ℕ) (k : Kind) (bytes : List ℕ) (item : Item) (taken : ℕ) : Type 0 where
  pub front : List ℕ
  pub rest : List ℕ
  pub laid : bytes ≡ front ++ rest
  pub size : taken ≡ length front
  pub spells : Begins k item front
  pub next : (limit : ℕ) → 256 ≤ limit → Next limit d k item front

begun : (P : List ℕ → Type 0) (d : ℕ) (k : Kind) (bytes : List ℕ) (item i : Item) (taken n : ℕ) → is_read (i, n) ≡ is_read (item, taken) → Front P bytes n → ((l : List ℕ) → P l → Begins k i l) → ((limit : ℕ) → 256 ≤ limit → (l : List ℕ) → P l → Next limit d k i l) → Begun d k bytes item taken
begun P d k bytes item i taken n e f first next =
    let same = same_value i item n taken e in
    record {
      front = f.front;
      rest = f.rest;
      laid = f.laid;
      size = sym (same_size i item n taken e) ∙ f.size;
      spells = subst (λ x. Begins k x f.front) same (first f.front f.spells);
      next = (λ limit most. subst (λ x. Next limit d k x f.front) same (next limit most f.front f.spells));
    }

-- ---- values with no level

module _ (d : ℕ) (deep : d ≤ 256) (bytes : List ℕ) (are : AreBytes bytes) (item : Item) (taken : ℕ) where
  leaf : (k : Kind) (i : Item) (n : ℕ) (t : Tree) → is_read (i, n) ≡ is_read (item, taken) → Front (SpellsValue t) bytes n → ((nest : List Slot) → after i nest ≡ spent nest) → kind_of t ≡ k → i ∷ [] ≡ items_of t → depth_of t ≡ 0 → Begun d k bytes item taken
  leaf k i n t e f same kind is flat = begun (SpellsValue t) d k bytes item i taken n e f (λ l s. inl (t, kind, flat, sym is, s)) (λ limit most l s. inl (same, record { t = t; kind = kind; spells = s; is = is; deep = omega (arith, flat, deep, most) }))

  eq_of : (x n : ℕ) → (x == n) ≡ true → x ≡ n
  eq_of x n e = grind (arith, nat_tests)

  one_byte : (P : List ℕ → Type 0) (x : ℕ) (rest : List ℕ) → bytes ≡ x ∷ rest → P (x ∷ []) → Front P bytes 1
  one_byte P x rest is p = record { front = x ∷ []; rest = rest; laid = is; size = refl; spells = p }

  bool_first : (l : List ℕ) → bytes ≡ l → nat_lt (length l) 1 ≡ false
      → cond (slice_index l 0 == 1) (is_read (bool_value true, 1)) (cond (slice_index l 0 == 2) (is_read (bool_value false, 1)) (cond (slice_index l 0 == 0) (is_read (bool_value false, 1)) (fault 0 reasons.BadBool))) ≡ Ok (item, taken)
      → Begun d kinds.Bool bytes item taken
  bool_first [] is long e = absurd (grind (arith, nat_tests))
  bool_first (x ∷ rest) is long e = by_value (x == 1) (x == 2) (x == 0) refl refl refl e
    where
      by_value : (a b c : Bool) → (x == 1) ≡ a → (x == 2) ≡ b → (x == 0) ≡ c → cond a (is_read (bool_value true, 1)) (cond b (is_read (bool_value false, 1)) (cond c (is_read (bool_value false, 1)) (fault 0 reasons.BadBool))) ≡ Ok (item, taken)
          → Begun d kinds.Bool bytes item taken
      by_value true b c p q r h = leaf kinds.Bool (bool_value true) 1 (truth true) h (one_byte (SpellsValue (truth true)) x rest is (x, eq_of x 1 p, refl)) (λ nest. refl) refl refl refl
      by_value false true c p q r h = leaf kinds.Bool (bool_value false) 1 (truth false) h (one_byte (SpellsValue (truth false)) x rest is (x, inl (eq_of x 2 q), refl)) (λ nest. refl) refl refl refl
      by_value false false true p q r h = leaf kinds.Bool (bool_value false) 1 (truth false) h (one_byte (SpellsValue (truth false)) x rest is (x, inr (eq_of x 0 r), refl)) (λ nest. refl) refl refl refl
      by_value false false false p q r h = absurd (no_fault _ (item, taken) h)

  bool_begun : bool_at bytes ≡ Ok (item, taken) → Begun d kinds.Bool bytes item taken
  unfolding bool_at
  bool_begun e = let h = past _ (nat_lt (length bytes) 1) _ (item, taken) e in bool_first bytes refl h.0 h.1

  fits_8 : (n : ℕ) → n < 256 → FitsSigned w8 (cast_signed w8 n)
  fits_8 n h = omega (arith, ints)

  i8_first : (l : List ℕ) → bytes ≡ l → nat_lt (length l) 1 ≡ false → is_read (i8_value (cast_signed w8 (slice_index l 0)), 1) ≡ Ok (item, taken) → Begun d kinds.I8 bytes item taken
  i8_first [] is long e = absurd (grind (arith, nat_tests))
  i8_first (x ∷ rest) is long e =
      let small : x < 2 ^ 8 = (subst AreBytes is are).0 in
      let z = cast_signed w8 x in
      leaf kinds.I8 (i8_value z) 1 (whole_8 z) e (one_byte (SpellsValue (whole_8 z)) x rest is (fits_8 x small, ap (λ y. y ∷ []) (sym (of_z-to_z w8 x small)))) (λ nest. refl) refl refl refl

  i8_begun : i8_at bytes ≡ Ok (item, taken) → Begun d kinds.I8 bytes item taken
  unfolding i8_at
  i8_begun e = let h = past _ (nat_lt (length bytes) 1) (is_read (i8_value (cast_signed w8 (slice_index bytes 0)), 1)) (item, taken) e in i8_first bytes refl h.0 h.1

  i16_begun : i16_at bytes ≡ Ok (item, taken) → Begun d kinds.I16 bytes item taken
  unfolding i16_at
  i16_begun e =
      let p = then_read (id_at bytes) (λ n. Ok (i16_value n.0, n.1)) (item, taken) e in
      leaf kinds.I16 (i16_value p.0.0) p.0.1 (whole_16 p.0.0) p.2 (id_read bytes are p.0.0 p.0.1 p.1) (λ nest. refl) refl refl refl

  i32_begun : i32_at bytes ≡ Ok (item, taken) → Begun d kinds.I32 bytes item taken
  unfolding i32_at
  i32_begun e =
      let p = then_read (varint32_at bytes) (λ n. Ok (i32_value (unfolded n.0), n.1)) (item, taken) e in
      let n = p.0.0 in
      let f = turned (λ l. Spells 5 32 l n) (SpellsValue (whole_32 (unfolded n))) bytes p.0.1 p.0.1 (varint32_read bytes are n p.0.1 p.1) refl (word_of n) in
      leaf kinds.I32 (i32_value (unfolded n)) p.0.1 (whole_32 (unfolded n)) p.2 f (λ nest. refl) refl refl refl

  i64_begun : i64_at bytes ≡ Ok (item, taken) → Begun d kinds.I64 bytes item taken
  unfolding i64_at
  i64_begun e =
      let p = then_read (varint64_at bytes) (λ n. Ok (i64_value (unfolded n.0), n.1)) (item, taken) e in
      let n = p.0.0 in
      let f = turned (λ l. Spells 10 64 l n) (SpellsValue (whole_64 (unfolded n))) bytes p.0.1 p.0.1 (varint64_read bytes are n p.0.1 p.1) refl (long_of n) in
      leaf kinds.I64 (i64_value (unfolded n)) p.0.1 (whole_64 (unfolded n)) p.2 f (λ nest. refl) refl refl refl

  double_begun : double_at bytes ≡ Ok (item, taken) → Begun d kinds.Double bytes item taken
  unfolding double_at
  double_begun e =
      let eight = reverse (take 8 bytes) in
      let h = past _ (nat_lt (length bytes) 8) (is_read (double_value eight, 8)) (item, taken) e in
      let size : length (take 8 bytes) ≡ 8 = omega (arith, length-take 8 bytes, long_enough (length bytes) 8 h.0) in
      let f : Front (SpellsValue (double eight)) bytes 8 =
      record { front = take 8 bytes; rest = drop 8 bytes; laid = sym (take-append-drop 8 bytes); size = sym size; spells = (length-reverse (take 8 bytes) ∙ size, sym (reverse-reverse (take 8 bytes))) } in
      leaf kinds.Double (double_value eight) 8 (double eight) h.1 f (λ nest. refl) refl refl refl

  uuid_begun : uuid_at bytes ≡ Ok (item, taken) → Begun d kinds.Uuid bytes item taken
  unfolding uuid_at
  uuid_begun e =
      let h = past _ (nat_lt (length bytes) 16) (is_read (uuid_value (take 16 bytes), 16)) (item, taken) e in
      let size : length (take 16 bytes) ≡ 16 = omega (arith, length-take 16 bytes, long_enough (length bytes) 16 h.0) in
      let f : Front (SpellsValue (unique_id (take 16 bytes))) bytes 16 = record { front = take 16 bytes; rest = drop 16 bytes; laid = sym (take-append-drop 16 bytes); size = sym size; spells = (size, refl) } in
      leaf kinds.Uuid (uuid_value (take 16 bytes)) 16 (unique_id (take 16 bytes)) h.1 f (λ nest. refl) refl refl refl

  text_begun : text_at bytes ≡ Ok (item, taken) → Begun d kinds.Str bytes item taken
  unfolding text_at
  text_begun e =
      let p = then_read (string_at bytes) (λ x. Ok (text x.0, x.1)) (item, taken) e in
      leaf kinds.Str (text p.0.0) p.0.1 (characters p.0.0) p.2 (string_read bytes are p.0.0 p.0.1 p.1) (λ nest. refl) refl refl refl

-- ---- values that open a level

module _ (d : ℕ) (bytes : List ℕ) (are : AreBytes bytes) (item : Item) (taken : ℕ) (shallow : d < 256) where
  struct_begun : is_read (struct_begin, 0) ≡ Ok (item, taken) → Begun d kinds.Struct bytes item taken
  struct_begun e = begun (λ l. l ≡ []) d kinds.Struct bytes item struct_begin taken 0 e (record { front = []; rest = bytes; laid = refl; size = refl; spells = refl }) (λ l none. inr (refl, none)) (λ limit most l none. inr (
    slots.Fields (pos 0),
    shallow,
    (λ up ids. (omega arith, ids)),
    (λ nest. refl),
    (λ flag mine a f. record {
      t = structure f.ms;
      kind = refl;
      spells = subst (λ z. SpellsValue (structure f.ms) (z ++ a)) (sym none) f.spells;
      is = ap (λ z. struct_begin ∷ z) f.is;
      deep = omega (arith, f.deep);
    }),
  ))

  small_header : (k : Kind) (n : ℕ) (l : List ℕ) → IsElementsHeader k n l → n < 2 ^ 31
  small_header k n l (code, is, inl (few, laid)) = omega (arith, few)
  small_header k n l (code, is, inr (number, size, laid)) = size.0

  set_begun : set_at bytes ≡ Ok (item, taken) → Begun d kinds.Set bytes item taken
  unfolding set_at
  set_begun e =
      let p = then_read (elements_at bytes) (λ x. Ok (set_begin x.0.0 x.0.1, x.1)) (item, taken) e in
      let k = p.0.0.0 in
      let n = p.0.0.1 in
      begun (IsElementsHeader k n) d kinds.Set bytes item (set_begin k n) taken p.0.1 p.2 (elements_read bytes are k n p.0.1 p.1) (λ l head. inr (k, n, refl, head)) (λ limit most l head. inr (
        slots.Elements k n,
        shallow,
        (λ up ids. ids),
        (λ nest. refl),
        (λ flag mine a f.
            let count = f.count in
            record {
              t = collection k f.ts;
              kind = refl;
              spells = (omega (arith, small_header k n l head, count), (l, a, subst (λ m. IsElementsHeader k m l) (sym count) head, f.spells, refl));
              is = ap (λ z. set_begin k n ∷ z) f.is ∙ ap (λ j. set_begin k j ∷ items_of_trees f.ts) (sym count);
              deep = omega (arith, f.deep);
            }),
      ))

  list_begun : list_at bytes ≡ Ok (item, taken) → Begun d kinds.List bytes item taken
  unfolding list_at
  list_begun e =
      let p = then_read (elements_at bytes) (λ x. Ok (list_begin x.0.0 x.0.1, x.1)) (item, taken) e in
      let k = p.0.0.0 in
      let n = p.0.0.1 in
      begun (IsElementsHeader k n) d kinds.List bytes item (list_begin k n) taken p.0.1 p.2 (elements_read bytes are k n p.0.1 p.1) (λ l head. inr (k, n, refl, head)) (λ limit most l head. inr (
        slots.Elements k n,
        shallow,
        (λ up ids. ids),
        (λ nest. refl),
        (λ flag mine a f.
            let count = f.count in
            record {
              t = sequence k f.ts;
              kind = refl;
              spells = (omega (arith, small_header k n l head, count), (l, a, subst (λ m. IsElementsHeader k m l) (sym count) head, f.spells, refl));
              is = ap (λ z. list_begin k n ∷ z) f.is ∙ ap (λ j. list_begin k j ∷ items_of_trees f.ts) (sym count);
              deep = omega (arith, f.deep);
            }),
      ))

  by_map : MapRead bytes item taken → Begun d kinds.Map bytes item taken
  by_map (inl (is, f)) =
      begun (IsSize 0) d kinds.Map bytes item empty_map taken taken (ap (λ i. is_read (i, taken)) is) f (λ l s. inr (inl (refl, s))) (λ limit most l s. inl ((λ nest. refl), record { t = mapping_of_none; kind = refl; spells = s; is = refl; deep = omega (arith, shallow, most) }))
  by_map (inr (key, value, n, is, some, few, f)) =
      begun (IsPairsHeader key value n) d kinds.Map bytes item (map_begin key value n) taken taken (ap (λ i. is_read (i, taken)) is) f (λ l head. inr (inr (key, value, n, some, refl, head))) (λ limit most l head. inr (
        slots.Keys key value n,
        shallow,
        (λ up ids. ids),
        (λ nest. refl),
        (λ flag mine a f.
            let count = f.count in
            record {
              t = mapping key value f.ps;
              kind = refl;
              spells = (omega (arith, some, count), (l, a, subst (λ m. IsPairsHeader key value m l) (sym count) head, f.spells, refl));
              is = ap (λ z. map_begin key value n ∷ z) f.is ∙ ap (λ j. map_begin key value j ∷ items_of_pairs f.ps) (sym count);
              deep = omega (arith, f.deep);
            }),
      ))

pub value_begun : (d : ℕ) (k : Kind) (bytes : List ℕ) (item : Item) (taken : ℕ) → d ≤ 256 → AreBytes bytes → value_in d k bytes ≡ Ok (item, taken) → Begun d k bytes item taken
unfolding value_in value_at
value_begun d kinds.Bool bytes item taken deep are e = bool_begun d deep bytes are item taken e
value_begun d kinds.I8 bytes item taken deep are e = i8_begun d deep bytes are item taken e
value_begun d kinds.I16 bytes item taken deep are e = i16_begun d deep bytes are item taken e
value_begun d kinds.I32 bytes item taken deep are e = i32_begun d deep bytes are item taken e
value_begun d kinds.I64 bytes item taken deep are e = i64_begun d deep bytes are item taken e
value_begun d kinds.Double bytes item taken deep are e = double_begun d deep bytes are item taken e
value_begun d kinds.Str bytes item taken deep are e = text_begun d deep bytes are item taken e
value_begun d kinds.Uuid bytes item taken deep are e = uuid_begun d deep bytes are item taken e
value_begun d kinds.Struct bytes item taken deep are e = let h = past _ (nat_le 256 d) (is_read (struct_begin, 0)) (item, taken) e in struct_begun d bytes are item taken (room_left d h.0) h.1
value_begun d kinds.Map bytes item taken deep are e = let h = past _ (nat_le 256 d) (map_at bytes) (item, taken) e in by_map d bytes are item taken (room_left d h.0) (map_read bytes are item taken h.1)
value_begun d kinds.Set bytes item taken deep are e = let h = past _ (nat_le 256 d) (set_at bytes) (item, taken) e in set_begun d bytes are item taken (room_left d h.0) h.1
value_begun d kinds.List bytes item taken deep are e = let h = past _ (nat_le 256 d) (list_at bytes) (item, taken) e in list_begun d bytes are item taken (room_left d h.0) h.1
