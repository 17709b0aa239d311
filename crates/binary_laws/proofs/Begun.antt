-- What one value's scan has read is a value of the grammar, or the begin of one.
use Rattle.std.proofs.Common.{◌≡◌, ℕ, pos, suc, ◌+◌, ◌<◌, ◌≤◌, ◌^◌, Bool, true, false, cond, List, [], ◌∷◌, ◌++◌, length, take, drop, Option, Some, None, Ok, Err, refl, ap, ◌∙◌, sym, subst, arith, ◌⊎◌, inl, inr, length-take}
use Rattle.std.proofs.lemmas.List.{take-append-drop}
use Rattle.std.specs.Prelude.{nat_lt, nat_le, ◌==◌, ◌&&◌, ◌||◌, not, is_none, slice_index}
use Rattle.std.proofs.lemmas.Bool.Decides.{nat_tests}
use Rattle.std.specs.Int.{w8, w16, w32, w64}
use Rattle.thrift_value.specs.declared.kind.Kind.{Kind}
use Rattle.thrift_value.specs.declared.kind.Kind.TheVariants as kinds
use Rattle.thrift_value.specs.Items.{Item, bool_value, i8_value, i16_value, i32_value, i64_value, double_value, text, struct_begin, empty_map, map_begin, set_begin, list_begin, uuid_value}
use Rattle.thrift_value.specs.Trees.{Tree, truth, whole_8, whole_16, whole_32, whole_64, double, characters, structure, mapping_of_none, mapping, collection, sequence, unique_id, kind_of, items_of, items_of_trees, items_of_pairs, depth_of}
use Rattle.protocol_traits.specs.declared.fault.Fault.{Fault}
use Rattle.protocol_traits.specs.declared.fault.Reason.TheVariants as reasons
use Rattle.protocol_traits.specs.declared.nest.Slot.{Slot}
use Rattle.protocol_traits.specs.declared.nest.Slot.TheVariants as slots
use Rattle.protocol_traits.specs.Follow.{spent, after}
use Rattle.binary_protocol.specs.Codes.{code_of_kind, kind_of_code}
use Rattle.binary_protocol.specs.Scan.{Scan, fault, cut, shifted, ◌>>=◌, unsigned_at, signed_at, bool_at, i8_at, i16_at, i32_at, i64_at, double_at, uuid_at, size_at, size_begun, zero_at, string_at, string_of, text_at, elements_at, elements_of, set_at, list_at, map_at, map_of, map_item, is_bad_kind, is_zero_at, value_at, value_in}
use Rattle.binary_protocol.specs.Grammar.{number, size, string, IsKindByte, SpellsValue}
use Rattle.gate_base.specs.Bytes.{AreBytes}
use Rattle.binary_laws.proofs.Inverse.{either, is_read, is_fault, same_value, same_size, no_fault, kind_is, front_8, front_16, front_32, front_64, front_size}
use Rattle.binary_laws.proofs.Levels.{IsTree, Level}

-- a whole value, or one that opens a level and is whole with what that holds
abbrev pub Next : ℕ → ℕ → Kind → Item → List ℕ → Type 0
Next limit d k item front =
    (((nest : List Slot) → after item nest ≡ spent nest) × IsTree limit d k (item ∷ []) front)
    ⊎ ((slot : Slot) × (d < 256) × ((nest : List Slot) → after item nest ≡ slot ∷ spent nest) × ((mine : List Item) (a : List ℕ) → Level limit slot (suc d) mine a → IsTree limit d k (item ∷ mine) (front ++ a)))

pub record Begun (d : ℕ) (k : Kind) (bytes : List ℕ) (item : Item) (taken : ℕ) : Type 0 where
  pub front : List ℕ
  pub rest : List ℕ
  pub laid : bytes ≡ front ++ rest
  pub size : taken ≡ length front
  pub next : (limit : ℕ) → 256 ≤ limit → Next limit d k item front

begun : (d : ℕ) (k : Kind) (bytes : List ℕ) (item i : Item) (taken n : ℕ) (front rest : List ℕ) → is_read (i, n) ≡ is_read (item, taken) → bytes ≡ front ++ rest → n ≡ length front → ((limit : ℕ) → 256 ≤ limit → Next limit d k i front) → Begun d k bytes item taken
begun d k bytes item i taken n front rest e laid long next =
    record { front = front; rest = rest; laid = laid; size = sym (same_size i item n taken e) ∙ long; next = (λ limit most. subst (λ x. Next limit d k x front) (same_value i item n taken e) (next limit most)) }

pub long_enough : (n m : ℕ) → nat_lt n m ≡ false → m ≤ n
long_enough n m e = grind (arith, nat_tests)

-- what isn't a fault
pub past : {X : Type 0} → (f : Fault) (b : Bool) (scan : Scan X) (x : X × ℕ) → cond b (is_fault f) scan ≡ Ok x → (b ≡ false) × (scan ≡ Ok x)
past f true scan x e = absurd (no_fault f x e)
past f false scan x e = (refl, e)

pub unless : {X : Type 0} → (f : Fault) (b : Bool) (scan : Scan X) (x : X × ℕ) → cond b scan (is_fault f) ≡ Ok x → (b ≡ true) × (scan ≡ Ok x)
unless f true scan x e = (refl, e)
unless f false scan x e = absurd (no_fault f x e)

-- ---- sizes and strings

-- a size at the front
pub record Sized (bytes : List ℕ) (n taken : ℕ) : Type 0 where
  pub rest : List ℕ
  pub laid : bytes ≡ size n ++ rest
  pub small : n < 2 ^ 31
  pub four : 4 ≡ taken

both_faults : (a b : Bool) (f g h : Fault) (x : ℕ × ℕ) → cond a (is_fault {X = ℕ} f) (cond b (is_fault g) (is_fault h)) ≡ Ok x → ⊥
both_faults true b f g h x e = no_fault f x e
both_faults false true f g h x e = no_fault g x e
both_faults false false f g h x e = no_fault h x e

pub size_read : (bytes : List ℕ) → AreBytes bytes → (n taken : ℕ) → size_at bytes ≡ Ok (n, taken) → Sized bytes n taken
unfolding size_at
size_read bytes are n taken e = by_length (either (nat_lt (length bytes) 4) _ _ (Ok (n, taken)) e)
  where
    found : Scan ℕ
    found = cond (nat_lt (unsigned_at w32 bytes) (2 ^ 31)) (Ok (unsigned_at w32 bytes, 4)) (fault 0 reasons.BadSize)

    by_length : ((nat_lt (length bytes) 4 ≡ true) × (size_begun bytes ≡ Ok (n, taken))) ⊎ ((nat_lt (length bytes) 4 ≡ false) × (found ≡ Ok (n, taken))) → Sized bytes n taken
    by_length (inl h) = absurd (both_faults (nat_lt (length bytes) 1) (nat_le 128 (slice_index bytes 0)) _ _ _ (n, taken) h.1)
    by_length (inr h) =
        let u = unsigned_at w32 bytes in
        let k = unless _ (nat_lt u (2 ^ 31)) (is_read (u, 4)) (n, taken) h.1 in
        let same = same_value u n 4 taken k.1 in
        let less : u < 2 ^ 31 = let t = k.0 in grind (arith, nat_tests) in
        let f = front_size bytes are (long_enough (length bytes) 4 h.0) in
        record { rest = f.0; laid = f.1 ∙ ap (λ v. size v ++ f.0) same; small = omega (arith, same, less); four = same_size u n 4 taken k.1 }

-- a string at the front
pub record Stringed (bytes name : List ℕ) (taken : ℕ) : Type 0 where
  pub rest : List ℕ
  pub laid : bytes ≡ string name ++ rest
  pub small : length name < 2 ^ 31
  pub long : taken ≡ length (string name)

pub string_read : (bytes : List ℕ) → AreBytes bytes → (name : List ℕ) (taken : ℕ) → string_at bytes ≡ Ok (name, taken) → Stringed bytes name taken
unfolding string_at
string_read bytes are name taken e = by_size (size_at bytes) refl e
  where
    by_size : (scan : Scan ℕ) → size_at bytes ≡ scan → string_of bytes scan ≡ Ok (name, taken) → Stringed bytes name taken
    by_size (Err f) s h = absurd (no_fault f (name, taken) h)
    by_size (Ok x) s h =
        let n = x.0 in
        let z = size_read bytes are n x.1 s in
        let k = past _ (nat_lt (length bytes) (n + 4)) (is_read (take n (drop 4 bytes), n + 4)) (name, taken) h in
        let same = same_value (take n (drop 4 bytes)) name (n + 4) taken k.1 in
        let behind : drop 4 bytes ≡ z.rest = ap (drop 4) z.laid in
        let text : take n z.rest ≡ name = ap (take n) (sym behind) ∙ same in
        let enough : n + 4 ≤ length bytes = let t = k.0 in grind (arith, nat_tests) in
        let whole : length bytes ≡ 4 + length z.rest = ap length z.laid ∙ omega arith in
        let long : length name ≡ n = omega (arith, ap length text, length-take n z.rest, enough, whole) in
        let split : z.rest ≡ name ++ drop n z.rest = sym (take-append-drop n z.rest) ∙ ap (λ l. l ++ drop n z.rest) text in
        let small = z.small in
        record {
          rest = drop n z.rest;
          laid = z.laid ∙ ap (λ l. size n ++ l) split ∙ ap (λ j. size j ++ (name ++ drop n z.rest)) (sym long);
          small = omega arith;
          long = sym (same_size (take n (drop 4 bytes)) name (n + 4) taken k.1) ∙ omega arith;
        }

-- ---- values with no level

module _ (d : ℕ) (deep : d ≤ 256) (bytes : List ℕ) (are : AreBytes bytes) (item : Item) (taken : ℕ) where
  leaf : (k : Kind) (i : Item) (n : ℕ) (front rest : List ℕ) (t : Tree) → is_read (i, n) ≡ is_read (item, taken) → bytes ≡ front ++ rest → n ≡ length front → ((nest : List Slot) → after i nest ≡ spent nest)
      → kind_of t ≡ k → SpellsValue t front → i ∷ [] ≡ items_of t → depth_of t ≡ 0 → Begun d k bytes item taken
  leaf k i n front rest t e laid long same kind spells is flat = begun d k bytes item i taken n front rest e laid long (λ limit most. inl (same, record { t = t; kind = kind; spells = spells; is = is; deep = omega (arith, flat, deep, most) }))

  one_byte : (x : ℕ) → (x == 0) ≡ true → x ≡ 0
  one_byte x e = grind (arith, nat_tests)

  is_one : (x : ℕ) → (x == 1) ≡ true → x ≡ 1
  is_one x e = grind (arith, nat_tests)

  bool_first : (l : List ℕ) → bytes ≡ l → nat_lt (length l) 1 ≡ false → cond (slice_index l 0 == 0) (is_read (bool_value false, 1)) (cond (slice_index l 0 == 1) (is_read (bool_value true, 1)) (fault 0 reasons.BadBool)) ≡ Ok (item, taken) → Begun d kinds.Bool bytes item taken
  bool_first [] is long e = absurd (grind (arith, nat_tests))
  bool_first (x ∷ rest) is long e = by_zero (either (x == 0) _ _ (Ok (item, taken)) e)
    where
      by_zero : ((x == 0) ≡ true) × (is_read (bool_value false, 1) ≡ Ok (item, taken)) ⊎ ((x == 0) ≡ false) × (cond (x == 1) (is_read (bool_value true, 1)) (fault 0 reasons.BadBool) ≡ Ok (item, taken)) → Begun d kinds.Bool bytes item taken
      by_zero (inl h) = leaf kinds.Bool (bool_value false) 1 (0 ∷ []) rest (truth false) h.1 (is ∙ ap (λ y. y ∷ rest) (one_byte x h.0)) refl (λ nest. refl) refl refl refl refl
      by_zero (inr h) =
          let k = unless _ (x == 1) (is_read (bool_value true, 1)) (item, taken) h.1 in
          leaf kinds.Bool (bool_value true) 1 (1 ∷ []) rest (truth true) k.1 (is ∙ ap (λ y. y ∷ rest) (is_one x k.0)) refl (λ nest. refl) refl refl refl refl

  bool_begun : bool_at bytes ≡ Ok (item, taken) → Begun d kinds.Bool bytes item taken
  unfolding bool_at
  bool_begun e = let h = past _ (nat_lt (length bytes) 1) _ (item, taken) e in bool_first bytes refl h.0 h.1

  i8_begun : i8_at bytes ≡ Ok (item, taken) → Begun d kinds.I8 bytes item taken
  unfolding i8_at
  i8_begun e =
      let z = signed_at w8 bytes in
      let h = past _ (nat_lt (length bytes) 1) (is_read (i8_value z, 1)) (item, taken) e in
      let f = front_8 bytes are (long_enough (length bytes) 1 h.0) in
      leaf kinds.I8 (i8_value z) 1 (number w8 z) f.rest (whole_8 z) h.1 f.laid refl (λ nest. refl) refl (f.fits, refl) refl refl

  i16_begun : i16_at bytes ≡ Ok (item, taken) → Begun d kinds.I16 bytes item taken
  unfolding i16_at
  i16_begun e =
      let z = signed_at w16 bytes in
      let h = past _ (nat_lt (length bytes) 2) (is_read (i16_value z, 2)) (item, taken) e in
      let f = front_16 bytes are (long_enough (length bytes) 2 h.0) in
      leaf kinds.I16 (i16_value z) 2 (number w16 z) f.rest (whole_16 z) h.1 f.laid refl (λ nest. refl) refl (f.fits, refl) refl refl

  i32_begun : i32_at bytes ≡ Ok (item, taken) → Begun d kinds.I32 bytes item taken
  unfolding i32_at
  i32_begun e =
      let z = signed_at w32 bytes in
      let h = past _ (nat_lt (length bytes) 4) (is_read (i32_value z, 4)) (item, taken) e in
      let f = front_32 bytes are (long_enough (length bytes) 4 h.0) in
      leaf kinds.I32 (i32_value z) 4 (number w32 z) f.rest (whole_32 z) h.1 f.laid refl (λ nest. refl) refl (f.fits, refl) refl refl

  i64_begun : i64_at bytes ≡ Ok (item, taken) → Begun d kinds.I64 bytes item taken
  unfolding i64_at
  i64_begun e =
      let z = signed_at w64 bytes in
      let h = past _ (nat_lt (length bytes) 8) (is_read (i64_value z, 8)) (item, taken) e in
      let f = front_64 bytes are (long_enough (length bytes) 8 h.0) in
      leaf kinds.I64 (i64_value z) 8 (number w64 z) f.rest (whole_64 z) h.1 f.laid refl (λ nest. refl) refl (f.fits, refl) refl refl

  double_begun : double_at bytes ≡ Ok (item, taken) → Begun d kinds.Double bytes item taken
  unfolding double_at
  double_begun e =
      let h = past _ (nat_lt (length bytes) 8) (is_read (double_value (take 8 bytes), 8)) (item, taken) e in
      let eight : length (take 8 bytes) ≡ 8 = omega (arith, length-take 8 bytes, long_enough (length bytes) 8 h.0) in
      leaf kinds.Double (double_value (take 8 bytes)) 8 (take 8 bytes) (drop 8 bytes) (double (take 8 bytes)) h.1 (sym (take-append-drop 8 bytes)) (sym eight) (λ nest. refl) refl (eight, refl) refl refl

  uuid_begun : uuid_at bytes ≡ Ok (item, taken) → Begun d kinds.Uuid bytes item taken
  unfolding uuid_at
  uuid_begun e =
      let h = past _ (nat_lt (length bytes) 16) (is_read (uuid_value (take 16 bytes), 16)) (item, taken) e in
      let sixteen : length (take 16 bytes) ≡ 16 = omega (arith, length-take 16 bytes, long_enough (length bytes) 16 h.0) in
      leaf kinds.Uuid (uuid_value (take 16 bytes)) 16 (take 16 bytes) (drop 16 bytes) (unique_id (take 16 bytes)) h.1 (sym (take-append-drop 16 bytes)) (sym sixteen) (λ nest. refl) refl (sixteen, refl) refl refl

  text_begun : text_at bytes ≡ Ok (item, taken) → Begun d kinds.Str bytes item taken
  unfolding text_at
  text_begun e = by_string (string_at bytes) refl e
    where
      by_string : (scan : Scan (List ℕ)) → string_at bytes ≡ scan → (scan >>= λ x. Ok (text x.0, x.1)) ≡ Ok (item, taken) → Begun d kinds.Str bytes item taken
      by_string (Err f) s h = absurd (no_fault f (item, taken) h)
      by_string (Ok x) s h = let z = string_read bytes are x.0 x.1 s in leaf kinds.Str (text x.0) x.1 (string x.0) z.rest (characters x.0) h z.laid z.long (λ nest. refl) refl (z.small, refl) refl refl

-- ---- values that open a level

-- a kind and a size at the front
record Counted (bytes : List ℕ) (k : Kind) (n taken : ℕ) : Type 0 where
  rest : List ℕ
  laid : bytes ≡ (code_of_kind k ∷ size n) ++ rest
  small : n < 2 ^ 31
  five : 5 ≡ taken

elements_first : (l : List ℕ) → AreBytes l → (k : Kind) (n taken : ℕ) → nat_lt (length l) 1 ≡ false → (found : Option Kind) → kind_of_code (slice_index l 0) ≡ found → (scan : Scan ℕ) → size_at (drop 1 l) ≡ scan
    → elements_of found scan ≡ Ok ((k, n), taken) → Counted l k n taken
elements_first [] are k n taken long found is scan s e = absurd (grind (arith, nat_tests))
elements_first (x ∷ rest) are k n taken long None is scan s e = absurd (no_fault _ ((k, n), taken) e)
elements_first (x ∷ rest) are k n taken long (Some kind) is (Err f) s e = absurd (no_fault _ ((k, n), taken) e)
elements_first (x ∷ rest) are k n taken long (Some kind) is (Ok y) s e =
    let both = same_value (kind, y.0) (k, n) (1 + y.1) taken e in
    let same_kind : kind ≡ k = ap (λ (p : Kind × ℕ). p.0) both in
    let same_count : y.0 ≡ n = ap (λ (p : Kind × ℕ). p.1) both in
    let z = size_read rest are.1 y.0 y.1 s in
    let four = z.four in
    record {
      rest = z.rest;
      laid = ap (λ r. x ∷ r) z.laid ∙ ap (λ c. c ∷ (size y.0 ++ z.rest)) (kind_is x kind is ∙ ap code_of_kind same_kind) ∙ ap (λ j. code_of_kind k ∷ (size j ++ z.rest)) same_count;
      small = omega (arith, z.small, same_count);
      five = omega (arith, four, same_size (kind, y.0) (k, n) (1 + y.1) taken e);
    }

elements_read : (bytes : List ℕ) → AreBytes bytes → (k : Kind) (n taken : ℕ) → elements_at bytes ≡ Ok ((k, n), taken) → Counted bytes k n taken
unfolding elements_at
elements_read bytes are k n taken e =
    let h = past _ (nat_lt (length bytes) 1) (elements_of (kind_of_code (slice_index bytes 0)) (size_at (drop 1 bytes))) ((k, n), taken) e in
    elements_first bytes are k n taken h.0 (kind_of_code (slice_index bytes 0)) refl (size_at (drop 1 bytes)) refl h.1

-- a map's kind byte
kind_byte : (x : ℕ) (found : Option Kind) → kind_of_code x ≡ found → (is_none found && not (x == 0)) ≡ false → IsKindByte x
kind_byte x (Some k) is good = inr (k, kind_is x k is)
kind_byte x None is good = inl (zero (x == 0) refl good)
  where
    zero : (b : Bool) → (x == 0) ≡ b → (true && not b) ≡ false → x ≡ 0
    zero true e g = grind (arith, nat_tests)
    zero false e g = absurd (cc)

pub named_byte : (x : ℕ) → is_bad_kind x ≡ false → IsKindByte x
named_byte x good = kind_byte x (kind_of_code x) refl good

-- a size that is 0
record Zero (bytes : List ℕ) (n taken : ℕ) : Type 0 where
  rest : List ℕ
  laid : bytes ≡ size 0 ++ rest
  four : 4 ≡ taken

pub zero_cell : (n i x : ℕ) → (nat_le n i || (x == 0)) ≡ true → i < n → x ≡ 0
zero_cell n i x e h = grind (arith, nat_tests)

pub both : (a b : Bool) → (a && b) ≡ true → (a ≡ true) × (b ≡ true)
both true true e = (refl, refl)
both true false e = absurd (cc)
both false b e = absurd (cc)

zero_first : (l : List ℕ) (n taken : ℕ) → nat_lt (length l) 4 ≡ false → ((is_zero_at l 0 && is_zero_at l 1) && (is_zero_at l 2 && is_zero_at l 3)) ≡ true → 4 ≡ taken → Zero l n taken
zero_first [] n taken long z four = absurd (grind (arith, nat_tests))
zero_first (a ∷ []) n taken long z four = absurd (grind (arith, nat_tests))
zero_first (a ∷ b ∷ []) n taken long z four = absurd (grind (arith, nat_tests))
zero_first (a ∷ b ∷ c ∷ []) n taken long z four = absurd (grind (arith, nat_tests))
zero_first (a ∷ b ∷ c ∷ d ∷ rest) n taken long z four =
    let l = a ∷ b ∷ c ∷ d ∷ rest in
    let m = length l in
    let p = both (is_zero_at l 0 && is_zero_at l 1) (is_zero_at l 2 && is_zero_at l 3) z in
    let q = both (is_zero_at l 0) (is_zero_at l 1) p.0 in
    let r = both (is_zero_at l 2) (is_zero_at l 3) p.1 in
    let za = zero_cell m 0 a q.0 (omega arith) in
    let zb = zero_cell m 1 b q.1 (omega arith) in
    let zc = zero_cell m 2 c r.0 (omega arith) in
    let zd = zero_cell m 3 d r.1 (omega arith) in
    record { rest = rest; laid = ap (λ x. x ∷ b ∷ c ∷ d ∷ rest) za ∙ ap (λ x. 0 ∷ x ∷ c ∷ d ∷ rest) zb ∙ ap (λ x. 0 ∷ 0 ∷ x ∷ d ∷ rest) zc ∙ ap (λ x. 0 ∷ 0 ∷ 0 ∷ x ∷ rest) zd; four = four }

zero_read : (bytes : List ℕ) (n taken : ℕ) → zero_at bytes ≡ Ok (n, taken) → Zero bytes n taken
unfolding zero_at
zero_read bytes n taken e =
    let h = unless _ ((is_zero_at bytes 0 && is_zero_at bytes 1) && (is_zero_at bytes 2 && is_zero_at bytes 3)) (cond (nat_lt (length bytes) 4) (cut bytes) (is_read (0, 4))) (n, taken) e in
    let k = past _ (nat_lt (length bytes) 4) (is_read (0, 4)) (n, taken) h.1 in
    zero_first bytes n taken k.0 h.0 (same_size 0 n 4 taken k.1)

module _ (d : ℕ) (bytes : List ℕ) (are : AreBytes bytes) (item : Item) (taken : ℕ) (shallow : d < 256) where
  struct_begun : is_read (struct_begin, 0) ≡ Ok (item, taken) → Begun d kinds.Struct bytes item taken
  struct_begun e = begun d kinds.Struct bytes item struct_begin taken 0 [] bytes e refl refl (λ limit most. inr (
    slots.Fields (pos 0),
    shallow,
    (λ nest. refl),
    (λ mine a f. record {
      t = structure f.ms;
      kind = refl;
      spells = f.spells;
      is = ap (λ l. struct_begin ∷ l) f.is;
      deep = omega (arith, f.deep);
    }),
  ))

  set_begun : set_at bytes ≡ Ok (item, taken) → Begun d kinds.Set bytes item taken
  unfolding set_at
  set_begun e = by_elements (elements_at bytes) refl e
    where
      by_elements : (scan : Scan (Kind × ℕ)) → elements_at bytes ≡ scan → (scan >>= λ x. Ok (set_begin x.0.0 x.0.1, x.1)) ≡ Ok (item, taken) → Begun d kinds.Set bytes item taken
      by_elements (Err f) s h = absurd (no_fault f (item, taken) h)
      by_elements (Ok x) s h =
          let k = x.0.0 in
          let n = x.0.1 in
          let z = elements_read bytes are k n x.1 s in
          let head = code_of_kind k ∷ size n in
          begun d kinds.Set bytes item (set_begin k n) taken x.1 head z.rest h z.laid (sym z.five) (λ limit most. inr (
            slots.Elements k n,
            shallow,
            (λ nest. refl),
            (λ mine a f.
                let count = f.count in
                record {
                  t = collection k f.ts;
                  kind = refl;
                  spells = (omega (arith, z.small, count), (a, f.spells, ap (λ j. (code_of_kind k ∷ size j) ++ a) (sym count)));
                  is = ap (λ l. set_begin k n ∷ l) f.is ∙ ap (λ j. set_begin k j ∷ items_of_trees f.ts) (sym count);
                  deep = omega (arith, f.deep);
                }),
          ))

  list_begun : list_at bytes ≡ Ok (item, taken) → Begun d kinds.List bytes item taken
  unfolding list_at
  list_begun e = by_elements (elements_at bytes) refl e
    where
      by_elements : (scan : Scan (Kind × ℕ)) → elements_at bytes ≡ scan → (scan >>= λ x. Ok (list_begin x.0.0 x.0.1, x.1)) ≡ Ok (item, taken) → Begun d kinds.List bytes item taken
      by_elements (Err f) s h = absurd (no_fault f (item, taken) h)
      by_elements (Ok x) s h =
          let k = x.0.0 in
          let n = x.0.1 in
          let z = elements_read bytes are k n x.1 s in
          let head = code_of_kind k ∷ size n in
          begun d kinds.List bytes item (list_begin k n) taken x.1 head z.rest h z.laid (sym z.five) (λ limit most. inr (
            slots.Elements k n,
            shallow,
            (λ nest. refl),
            (λ mine a f.
                let count = f.count in
                record {
                  t = sequence k f.ts;
                  kind = refl;
                  spells = (omega (arith, z.small, count), (a, f.spells, ap (λ j. (code_of_kind k ∷ size j) ++ a) (sym count)));
                  is = ap (λ l. list_begin k n ∷ l) f.is ∙ ap (λ j. list_begin k j ∷ items_of_trees f.ts) (sym count);
                  deep = omega (arith, f.deep);
                }),
          ))

  -- a map that tells no kinds
  no_map : (key value n t : ℕ) (rest : List ℕ) → bytes ≡ key ∷ value ∷ (size 0 ++ rest) → IsKindByte key → IsKindByte value → n ≡ 6 → is_read (empty_map, n) ≡ is_read (item, taken) → Begun d kinds.Map bytes item taken
  no_map key value n t rest laid k v six e =
      begun d kinds.Map bytes item empty_map taken n (key ∷ value ∷ size 0) rest e laid six (λ limit most. inl ((λ nest. refl), record { t = mapping_of_none; kind = refl; spells = (key, value, k, v, refl); is = refl; deep = omega (arith, shallow, most) }))

  pairs_begun : (x y n : ℕ) (key value : Kind) (rest : List ℕ) → bytes ≡ x ∷ y ∷ (size n ++ rest) → x ≡ code_of_kind key → y ≡ code_of_kind value → (n == 0) ≡ false → n < 2 ^ 31 → is_read (map_begin key value n, 6) ≡ is_read (item, taken)
      → Begun d kinds.Map bytes item taken
  pairs_begun x y n key value rest laid k v some small e =
      let head = code_of_kind key ∷ code_of_kind value ∷ size n in
      begun d kinds.Map bytes item (map_begin key value n) taken 6 head rest e (laid ∙ ap (λ c. c ∷ y ∷ (size n ++ rest)) k ∙ ap (λ c. code_of_kind key ∷ c ∷ (size n ++ rest)) v) refl (λ limit most. inr (
        slots.Keys key value n,
        shallow,
        (λ nest. refl),
        (λ mine a f.
            let count = f.count in
            let least : 1 ≤ n = grind (arith, nat_tests) in
            record {
              t = mapping key value f.ps;
              kind = refl;
              spells = (omega (arith, least, count), omega (arith, small, count), (a, f.spells, ap (λ j. (code_of_kind key ∷ code_of_kind value ∷ size j) ++ a) (sym count)));
              is = ap (λ l. map_begin key value n ∷ l) f.is ∙ ap (λ j. map_begin key value j ∷ items_of_pairs f.ps) (sym count);
              deep = omega (arith, f.deep);
            }),
      ))

  shift_ok : (n : ℕ) (scan : Scan Item) → shifted n scan ≡ Ok (item, taken) → (i : Item) × (m : ℕ) × (scan ≡ Ok (i, m)) × (is_read (i, n + m) ≡ is_read (item, taken))
  shift_ok n (Ok x) e = (x.0, x.1, refl, e)
  shift_ok n (Err f) e = absurd (no_fault _ (item, taken) e)

  by_size : (x y : ℕ) (key value : Kind) (rest : List ℕ) → bytes ≡ x ∷ y ∷ rest → AreBytes rest → x ≡ code_of_kind key → y ≡ code_of_kind value → (scan : Scan ℕ) → size_at rest ≡ scan
      → shifted 2 (scan >>= λ s. Ok (map_item key value s.0, s.1)) ≡ Ok (item, taken) → Begun d kinds.Map bytes item taken
  by_size x y key value rest laid some k v (Err f) s e = absurd (no_fault _ (item, taken) e)
  by_size x y key value rest laid some k v (Ok n) s e = by_none (n.0 == 0) refl e
    where
      z : Sized rest n.0 n.1
      z = size_read rest some n.0 n.1 s

      six : 2 + n.1 ≡ 6
      six = omega (arith, z.four)

      by_none : (b : Bool) → (n.0 == 0) ≡ b → is_read (cond b empty_map (map_begin key value n.0), 2 + n.1) ≡ is_read (item, taken) → Begun d kinds.Map bytes item taken
      by_none true t h =
          let none : n.0 ≡ 0 = grind (arith, nat_tests) in
          no_map x y (2 + n.1) taken z.rest (laid ∙ ap (λ l. x ∷ y ∷ l) (z.laid ∙ ap (λ j. size j ++ z.rest) none)) (inr (key, k)) (inr (value, v)) six h
      by_none false t h = pairs_begun x y n.0 key value z.rest (laid ∙ ap (λ l. x ∷ y ∷ l) z.laid) k v t z.small (ap (λ j. is_read (map_begin key value n.0, j)) (sym six) ∙ h)

  by_zero : (x y : ℕ) (rest : List ℕ) → bytes ≡ x ∷ y ∷ rest → IsKindByte x → IsKindByte y → (scan : Scan ℕ) → zero_at rest ≡ scan → shifted 2 (scan >>= λ s. Ok (empty_map, s.1)) ≡ Ok (item, taken) → Begun d kinds.Map bytes item taken
  by_zero x y rest laid k v (Err f) s e = absurd (no_fault _ (item, taken) e)
  by_zero x y rest laid k v (Ok n) s e =
      let z = zero_read rest n.0 n.1 s in
      let six : 2 + n.1 ≡ 6 = omega (arith, z.four) in
      no_map x y (2 + n.1) taken z.rest (laid ∙ ap (λ l. x ∷ y ∷ l) z.laid) k v six e

  by_kinds : (x y : ℕ) (rest : List ℕ) → bytes ≡ x ∷ y ∷ rest → AreBytes rest → IsKindByte x → IsKindByte y → (key value : Option Kind) → kind_of_code x ≡ key → kind_of_code y ≡ value → shifted 2 (map_of key value rest) ≡ Ok (item, taken)
      → Begun d kinds.Map bytes item taken
  by_kinds x y rest laid some k v (Some key) (Some value) p q e = by_size x y key value rest laid some (kind_is x key p) (kind_is y value q) (size_at rest) refl e
  by_kinds x y rest laid some k v (Some key) None p q e = by_zero x y rest laid k v (zero_at rest) refl e
  by_kinds x y rest laid some k v None value p q e = by_zero x y rest laid k v (zero_at rest) refl e

  map_first : (l : List ℕ) → bytes ≡ l → nat_lt (length l) 1 ≡ false → nat_lt (length l) 2 ≡ false → is_bad_kind (slice_index l 0) ≡ false → is_bad_kind (slice_index l 1) ≡ false
      → shifted 2 (map_of (kind_of_code (slice_index l 0)) (kind_of_code (slice_index l 1)) (drop 2 l)) ≡ Ok (item, taken) → Begun d kinds.Map bytes item taken
  map_first [] laid a b p q e = absurd (grind (arith, nat_tests))
  map_first (x ∷ []) laid a b p q e = absurd (grind (arith, nat_tests))
  map_first (x ∷ y ∷ rest) laid a b p q e =
      let all = subst AreBytes laid are in
      by_kinds x y rest laid all.1.1 (named_byte x p) (named_byte y q) (kind_of_code x) (kind_of_code y) refl refl e

  map_begun : map_at bytes ≡ Ok (item, taken) → Begun d kinds.Map bytes item taken
  unfolding map_at
  map_begun e =
      let x : Item × ℕ = (item, taken) in
      let a = past _ (nat_lt (length bytes) 1) _ x e in
      let b = past _ (is_bad_kind (slice_index bytes 0)) _ x a.1 in
      let c = past _ (nat_lt (length bytes) 2) _ x b.1 in
      let f = past _ (is_bad_kind (slice_index bytes 1)) _ x c.1 in
      map_first bytes refl a.0 c.0 b.0 f.0 f.1

pub room_left : (d : ℕ) → nat_le 256 d ≡ false → d < 256
room_left d e = grind (arith, nat_tests)

pub value_begun : (d : ℕ) (k : Kind) (bytes : List ℕ) (item : Item) (taken : ℕ) → d ≤ 256 → AreBytes bytes → value_in d k bytes ≡ Ok (item, taken) → Begun d k bytes item taken
unfolding value_in value_at
value_begun d kinds.Bool bytes item taken deep are e = bool_begun d deep bytes are item taken e
value_begun d kinds.I8 bytes item taken deep are e = i8_begun d deep bytes are item taken e
value_begun d kinds.I16 bytes item taken deep are e = i16_begun d deep bytes are item taken e
value_begun d kinds.I32 bytes item taken deep are e = i32_begun d deep bytes are item taken e
value_begun d kinds.I64 bytes item taken deep are e = i64_begun d deep bytes are item taken e
value_begun d kinds.Double bytes item taken deep are e = double_begun d deep bytes are item taken e
value_begun d kinds.Str bytes item taken deep are e = text_begun d deep bytes are item taken e
value_begun d kinds.Uuid bytes item taken deep are e = uuid_begun d deep bytes are item taken e
value_begun d kinds.Struct bytes item taken deep are e = let h = past _ (nat_le 256 d) (is_read (struct_begin, 0)) (item, taken) e in struct_begun d bytes are item taken (room_left d h.0) h.1
value_begun d kinds.Map bytes item taken deep are e = let h = past _ (nat_le 256 d) (map_at bytes) (item, taken) e in map_begun d bytes are item taken (room_left d h.0) h.1
value_begun d kinds.Set bytes item taken deep are e = let h = past _ (nat_le 256 d) (set_at bytes) (item, taken) e in set_begun d bytes are item taken (room_left d h.0) h.1
value_begun d kinds.List bytes item taken deep are e = let h = past _ (nat_le 256 d) (list_at bytes) (item, taken) e in list_begun d bytes are item taken (room_left d h.0) h.1
