-- What is written of a message spells it.
use Rattle.std.proofs.Common.{◌≡◌, ℕ, ℤ, pos, negsuc, ◌+◌, ◌-◌, ◌*◌, ◌%◌, ◌<◌, ◌≤◌, ◌^◌, Bool, true, false, List, [], ◌∷◌, ◌++◌, length, Some, None, refl, ap, ◌∙◌, sym, subst, arith, ◌⊎◌, inl, inr, append_assoc}
use Rattle.std.specs.Prelude.{nat_lt, int_lt, nat_abs, ◌+ℤ◌, ◌-ℤ◌, if◌then◌else◌, reverse, FitsSigned}
use Rattle.std.specs.Int.{w8, w16, w32, w64, cast_unsigned}
use Rattle.std.proofs.lemmas.Bool.Decides.{nat_tests}
use Rattle.std.proofs.lemmas.Int.{ints}
use Rattle.std.proofs.lemmas.List.{append-nil}
use Rattle.std.proofs.Math.Facts.{Fits-of_z}
use Rattle.varint_zigzag.specs.Varint.{Spells, shortest}
use Rattle.varint_zigzag.specs.Bounds.{shortest_most}
use Rattle.varint_zigzag.specs.Zigzag.{folded}
use Rattle.varint_zigzag.proofs.Shortest.{shortest_form}
use Rattle.thrift_value.specs.declared.kind.Kind.{Kind}
use Rattle.thrift_value.specs.declared.kind.Kind.TheVariants as kinds
use Rattle.thrift_value.specs.Items.{Item, field, bool_value, i8_value, i16_value, i32_value, i64_value, double_value, text, struct_begin, empty_map, map_begin, set_begin, list_begin, end, uuid_value}
use Rattle.thrift_value.specs.Trees.{Tree, truth, whole_8, whole_16, whole_32, whole_64, double, characters, loose_number, loose_text, structure, mapping_of_none, mapping, collection, sequence, unique_id, Members, no_members, one_member, Trees, no_trees, one_tree, Pairs, no_pairs, one_pair, Message, kind_of, count_of_trees, count_of_pairs, items_of, items_of_members, items_of_trees, items_of_pairs, IsValue, AreMembers, AreAll, ArePairs}
use Rattle.protocol_traits.specs.declared.fault.Bar.{Bar}
use Rattle.protocol_traits.specs.declared.fault.Bar.TheVariants as bars
use Rattle.protocol_traits.specs.declared.nest.Slot.{Slot}
use Rattle.protocol_traits.specs.declared.nest.Slot.TheVariants as slots
use Rattle.protocol_traits.specs.Follow.{spent}
use Rattle.compact_protocol.specs.Codes.{code_of, flag_code}
use Rattle.compact_protocol.specs.Scan.{is_bool}
use Rattle.compact_protocol.specs.Plain.{Writer, short_step, field_with, field_spelling, writes_later, bool_spelling, elements_spelling, string_spelling, spelling, follows, head_spelling}
use Rattle.compact_protocol.specs.Grammar.{IsSmall, IsWord, IsLong, IsSize, IsString, IsKind, field_code, is_told, IsFieldHeader, IsElementsHeader, IsPairsHeader, SpellsValue, SpellsMembers, SpellsElements, SpellsPairs, SpellsHeader, CompactSpells}
use Rattle.binary_laws.specs.Reads.{header_of_message}
use Rattle.binary_laws.specs.Written.{IsMessage}
use Rattle.compact_laws.specs.Written.{put, AreTaken, IsWritten}
use Rattle.compact_laws.proofs.Walking.{CallsFor, untold, told_is, told_code}

-- ---- numbers

folded_16 : (z : ℤ) → FitsSigned w16 z → folded z < 2 ^ 16
folded_16 (pos n) h = omega arith
folded_16 (negsuc n) h = omega arith

folded_32 : (z : ℤ) → FitsSigned w32 z → folded z < 2 ^ 32
folded_32 (pos n) h = omega arith
folded_32 (negsuc n) h = omega arith

folded_64 : (z : ℤ) → FitsSigned w64 z → folded z < 2 ^ 64
folded_64 (pos n) h = omega arith
folded_64 (negsuc n) h = omega arith

small_put : (z : ℤ) → FitsSigned w16 z → IsSmall z (shortest (folded z))
small_put z h = let n = folded z in let less = folded_16 z h in (h, record { form = shortest_form n (omega (arith, less)); within = omega (arith, shortest_most 2 n (omega (arith, less))); fits = less })

spells_32 : (n : ℕ) → n < 2 ^ 32 → Spells 5 32 (shortest n) n
spells_32 n less = record { form = shortest_form n (omega arith); within = shortest_most 4 n (omega arith); fits = less }

word_put : (z : ℤ) → FitsSigned w32 z → IsWord z (shortest (folded z))
word_put z h = (h, spells_32 (folded z) (folded_32 z h))

long_put : (z : ℤ) → FitsSigned w64 z → IsLong z (shortest (folded z))
long_put z h = let n = folded z in let less = folded_64 z h in (h, record { form = shortest_form n less; within = shortest_most 9 n (omega (arith, less)); fits = less })

size_put : (n : ℕ) → n < 2 ^ 31 → IsSize n (shortest n)
size_put n h = (h, spells_32 n (omega arith))

none_put : IsSize 0 (0 ∷ [])
none_put = (omega arith, record { form = (omega arith, refl); within = omega arith; fits = omega arith })

string_put : (b : List ℕ) → length b < 2 ^ 31 → IsString b (string_spelling b)
unfolding string_spelling
string_put b h = (shortest (length b), size_put (length b) h, refl)

kind_put : (k : Kind) → IsKind k (code_of k)
kind_put kinds.Bool = inl refl
kind_put kinds.I8 = refl
kind_put kinds.I16 = refl
kind_put kinds.I32 = refl
kind_put kinds.I64 = refl
kind_put kinds.Double = refl
kind_put kinds.Str = refl
kind_put kinds.Struct = refl
kind_put kinds.Map = refl
kind_put kinds.Set = refl
kind_put kinds.List = refl
kind_put kinds.Uuid = refl

elements_put : (k : Kind) (n : ℕ) → n < 2 ^ 31 → IsElementsHeader k n (elements_spelling k n)
unfolding elements_spelling
elements_put k n h = by_size (nat_lt n 15) refl
  where
    by_size : (b : Bool) → nat_lt n 15 ≡ b → IsElementsHeader k n (if b then (16 * n + code_of k) ∷ [] else (240 + code_of k) ∷ shortest n)
    by_size true e = (code_of k, kind_put k, inl (grind (arith, nat_tests, e), refl))
    by_size false e = (code_of k, kind_put k, inr (shortest n, size_put n h, refl))

pairs_header_put : (key value : Kind) (n : ℕ) → n < 2 ^ 31 → IsPairsHeader key value n (shortest n ++ (16 * code_of key + code_of value) ∷ [])
pairs_header_put key value n h = (shortest n, size_put n h, (code_of key, code_of value, kind_put key, kind_put value, refl))

-- ---- fields

-- a step that one byte can tell
step_of : (last id d : ℤ) → d ≡ id -ℤ last → int_lt (pos 0) d ≡ true → int_lt d (pos 16) ≡ true → (1 ≤ nat_abs d) × (nat_abs d ≤ 15) × (id ≡ last +ℤ pos (nat_abs d))
step_of last id (pos n) e some few = (grind (arith, nat_tests, some), grind (arith, nat_tests, few), omega (arith, ints))
step_of last id (negsuc n) e some few = absurd (grind (arith, nat_tests, some))

header_put : (last id : ℤ) (code : ℕ) → FitsSigned w16 id → IsFieldHeader last id code (field_spelling last id code)
unfolding field_spelling short_step
header_put last id code h = by_some (int_lt (pos 0) (id -ℤ last)) (int_lt (id -ℤ last) (pos 16)) refl refl
  where
    in_full : IsFieldHeader last id code (code ∷ shortest (folded id % 65536))
    in_full = let less = folded_16 id h in let same : folded id ≡ folded id % 65536 = omega (arith, less) in inr (shortest (folded id % 65536), (h, subst (λ n. Spells 5 16 (shortest n) (folded id)) same (small_put id h).1), refl)

    by_some : (a b : Bool) → int_lt (pos 0) (id -ℤ last) ≡ a → int_lt (id -ℤ last) (pos 16) ≡ b
        → IsFieldHeader last id code (field_with (if a then (if b then Some (nat_abs (id -ℤ last)) else None) else None) id code)
    by_some false b p q = in_full
    by_some true false p q = in_full
    by_some true true p q = let s = step_of last id (id -ℤ last) refl p q in inl (nat_abs (id -ℤ last), s.0, s.1, s.2, h, refl)

-- ---- items

abbrev writer : List Slot → ℤ → Writer
writer nest before = record { nest = nest; before = before }

-- What is put of the items, whatever is put behind them, and the levels that they leave.
record Puts (w : Writer) (items : List Item) (nest : List Slot) (Spelled : List ℕ → Type 0) : Type 0 where
  bytes : List ℕ
  before : ℤ
  spells : Spelled bytes
  is : (rest : List Item) → put w (items ++ rest) ≡ bytes ++ put (writer nest before) rest

taken_front : (a b : List Item) → AreTaken (a ++ b) → AreTaken a
taken_front [] b t = tt
taken_front (x ∷ a) b t = (t.0, taken_front a b t.1)

taken_back : (a b : List Item) → AreTaken (a ++ b) → AreTaken b
taken_back [] b t = t
taken_back (x ∷ a) b t = taken_back a b t.1

no_bar : (b : Bar) → Some b ≡ None → ⊥
no_bar b e = absurd (cc)

-- one item that is a whole value
leaf : (t : Tree) (nest : List Slot) (before : ℤ) (item : Item) (bytes : List ℕ) → follows (writer nest before) item ≡ writer (spent nest) before → spelling (writer nest before) item ≡ bytes → SpellsValue t bytes
    → Puts (writer nest before) (item ∷ []) (spent nest) (SpellsValue t)
leaf t nest before item bytes f e s = record {
  bytes = bytes;
  before = before;
  spells = s;
  is = (λ rest. ap (λ b. b ++ put (follows (writer nest before) item) rest) e ∙ ap (λ w. bytes ++ put w rest) f);
}

-- one thing behind another
both : (w : Writer) (a b : List Item) (mid nest : List Slot) (A B C : List ℕ → Type 0) → (p : Puts w a mid A) → ((before : ℤ) → Puts (writer mid before) b nest B) → ((x y : List ℕ) → A x → B y → C (x ++ y)) → Puts w (a ++ b) nest C
both w a b mid nest A B C p f join =
    let q = f p.before in
    record {
      bytes = p.bytes ++ q.bytes;
      before = q.before;
      spells = join p.bytes q.bytes p.spells q.spells;
      is = (λ rest. ap (put w) (append_assoc a b rest) ∙ p.is (b ++ rest) ∙ ap (λ l. p.bytes ++ l) (q.is rest) ∙ sym (append_assoc p.bytes q.bytes (put (writer nest q.before) rest)));
    }

-- an item in front
behind : (w : Writer) (item : Item) (items : List Item) (nest : List Slot) (front : List ℕ) (B C : List ℕ → Type 0) → spelling w item ≡ front → Puts (follows w item) items nest B → ((y : List ℕ) → B y → C (front ++ y)) → Puts w (item ∷ items) nest C
behind w item items nest front B C e q join = record {
  bytes = front ++ q.bytes;
  before = q.before;
  spells = join q.bytes q.spells;
  is = (λ rest. ap (λ l. l ++ put (follows w item) (items ++ rest)) e ∙ ap (λ l. front ++ l) (q.is rest) ∙ sym (append_assoc front q.bytes (put (writer nest q.before) rest)));
}

-- the end of a container
end_put : (slot : Slot) (up : List Slot) (before : ℤ) (C : List ℕ → Type 0) → C [] → Puts (writer (slot ∷ up) before) (end ∷ []) up C
unfolding spelling
end_put slot up before C c = record { bytes = []; before = before; spells = c; is = (λ rest. refl) }

-- a bool that no field's byte tells
bool_put : (nest : List Slot) (before : ℤ) (b : Bool) → CallsFor nest kinds.Bool → bool_spelling before nest b ≡ flag_code b ∷ []
bool_put [] before b c = absurd c
bool_put (slots.Fields last ∷ up) before b c = absurd c
bool_put (slots.Value k id ∷ up) before b c = let no = c.1 in absurd (cc)
bool_put (slots.Elements k left ∷ up) before b c = refl
bool_put (slots.Keys key value left ∷ up) before b c = refl
bool_put (slots.Values key value left ∷ up) before b c = refl

flag_put : (b : Bool) → SpellsValue (truth b) (flag_code b ∷ [])
flag_put true = (1, refl, refl)
flag_put false = (2, inl refl, refl)

later : (k : Kind) → is_bool k ≡ false → writes_later k ≡ false
later kinds.Bool e = e
later kinds.I8 e = refl
later kinds.I16 e = refl
later kinds.I32 e = refl
later kinds.I64 e = refl
later kinds.Double e = refl
later kinds.Str e = refl
later kinds.Struct e = refl
later kinds.Map e = refl
later kinds.Set e = refl
later kinds.List e = refl
later kinds.Uuid e = refl

-- a field that is no bool: its header and its value
abbrev IsField : ℤ → ℤ → Tree → List ℕ → Type 0
IsField last id t bytes =
    (header : List ℕ) × (value : List ℕ) × IsFieldHeader last id (field_code t) header × (((is_told t ≡ true) × (value ≡ [])) ⊎ ((is_told t ≡ false) × SpellsValue t value)) × (bytes ≡ header ++ value)

-- a bool field is put as a whole where its value comes
told_put : (b : Bool) (last id : ℤ) (up : List Slot) (before : ℤ) → FitsSigned w16 id → Puts (writer (slots.Fields last ∷ up) before) (field id kinds.Bool ∷ bool_value b ∷ []) (slots.Fields id ∷ up) (IsField last id (truth b))
unfolding spelling
told_put b last id up before fits =
    let head = field_spelling last id (flag_code b) in
    record {
      bytes = head;
      before = last;
      spells = (head, [], header_put last id (flag_code b) fits, inl (refl, refl), sym (append-nil head));
      is = (λ rest. refl);
    }

untold_put : (t : Tree) (last id : ℤ) (up : List Slot) (before : ℤ) → FitsSigned w16 id → is_told t ≡ false → Puts (writer (slots.Value (kind_of t) id ∷ up) last) (items_of t) (slots.Fields id ∷ up) (SpellsValue t)
    → Puts (writer (slots.Fields last ∷ up) before) (field id (kind_of t) ∷ items_of t) (slots.Fields id ∷ up) (IsField last id t)
unfolding spelling
untold_put t last id up before fits not p =
    let w = writer (slots.Fields last ∷ up) before in
    let head = field_spelling last id (code_of (kind_of t)) in
    let is : spelling w (field id (kind_of t)) ≡ head = ap (λ b. if b then [] else head) (later (kind_of t) (untold t not)) in
    let coded = subst (λ c. IsFieldHeader last id c head) (sym (told_code t not)) (header_put last id (code_of (kind_of t)) fits) in
    behind w (field id (kind_of t)) (items_of t) (slots.Fields id ∷ up) head (SpellsValue t) (IsField last id t) is p (λ y s. (head, y, coded, inr (not, s), refl))

bool_field : (t : Tree) (last id : ℤ) (up : List Slot) (before : ℤ) → FitsSigned w16 id → is_told t ≡ true → Puts (writer (slots.Fields last ∷ up) before) (field id (kind_of t) ∷ items_of t) (slots.Fields id ∷ up) (IsField last id t)
bool_field t last id up before fits told =
    let b = told_is t told in
    subst (λ x. Puts (writer (slots.Fields last ∷ up) before) (field id (kind_of x) ∷ items_of x) (slots.Fields id ∷ up) (IsField last id x)) (sym b.1) (told_put b.0 last id up before fits)

-- a field and the fields behind it
join_field : (last id : ℤ) (t : Tree) (ms : Members) (x y : List ℕ) → IsField last id t x → SpellsMembers id ms y → SpellsMembers last (one_member id t ms) (x ++ y)
join_field last id t ms x y (header, value, head, spelled, laid) others = (header, value, y, head, spelled, others, ap (λ l. l ++ y) laid ∙ append_assoc header value y)

by_telling : (t : Tree) → ((is_told t ≡ true) ⊎ (is_told t ≡ false))
by_telling t = split (is_told t)
  where
    split : (b : Bool) → (b ≡ true) ⊎ (b ≡ false)
    split true = inl refl
    split false = inr refl

mutual
  unfolding spelling

  value_put : (t : Tree) (nest : List Slot) (before : ℤ) → CallsFor nest (kind_of t) → AreTaken (items_of t) → IsValue t → Puts (writer nest before) (items_of t) (spent nest) (SpellsValue t)
  value_put (truth b) nest before c t v = leaf (truth b) nest before (bool_value b) (flag_code b ∷ []) refl (bool_put nest before b c) (flag_put b)
  value_put (whole_8 n) nest before c t v = leaf (whole_8 n) nest before (i8_value n) (cast_unsigned w8 n ∷ []) refl refl (v, refl)
  value_put (whole_16 n) nest before c t v = leaf (whole_16 n) nest before (i16_value n) (shortest (folded n)) refl refl (small_put n v)
  value_put (whole_32 n) nest before c t v = leaf (whole_32 n) nest before (i32_value n) (shortest (folded n)) refl refl (word_put n v)
  value_put (whole_64 n) nest before c t v = leaf (whole_64 n) nest before (i64_value n) (shortest (folded n)) refl refl (long_put n v)
  value_put (double bytes) nest before c t v = leaf (double bytes) nest before (double_value bytes) (reverse bytes) refl refl (v, refl)
  value_put (characters bytes) nest before c t v = leaf (characters bytes) nest before (text bytes) (string_spelling bytes) refl refl (string_put bytes v)
  value_put (loose_number bytes) nest before c t v = absurd (no_bar bars.Double t.0)
  value_put (loose_text bytes) nest before c t v = absurd (no_bar bars.UnknownString t.0)
  value_put (structure ms) nest before c t v =
      behind (writer nest before) struct_begin (items_of_members ms) (spent nest) [] (SpellsMembers (pos 0) ms) (SpellsValue (structure ms)) refl (members_put ms (pos 0) (spent nest) before t.1 v) (λ y s. s)
  value_put mapping_of_none nest before c t v = leaf mapping_of_none nest before empty_map (0 ∷ []) refl refl none_put
  value_put (mapping key value ps) nest before c t v =
      let n = count_of_pairs ps in
      let head = shortest n ++ (16 * code_of key + code_of value) ∷ [] in
      behind (writer nest before) (map_begin key value n) (items_of_pairs ps) (spent nest) head (SpellsPairs key value ps) (SpellsValue (mapping key value ps)) refl (pairs_put ps key value (spent nest) before t.1 v.2)
      (λ y s. (v.0, (head, y, pairs_header_put key value n v.1, s, refl)))
  value_put (collection kind ts) nest before c t v =
      let n = count_of_trees ts in
      let head = elements_spelling kind n in
      behind (writer nest before) (set_begin kind n) (items_of_trees ts) (spent nest) head (SpellsElements kind ts) (SpellsValue (collection kind ts)) refl (trees_put ts kind (spent nest) before t.1 v.1)
      (λ y s. (v.0, (head, y, elements_put kind n v.0, s, refl)))
  value_put (sequence kind ts) nest before c t v =
      let n = count_of_trees ts in
      let head = elements_spelling kind n in
      behind (writer nest before) (list_begin kind n) (items_of_trees ts) (spent nest) head (SpellsElements kind ts) (SpellsValue (sequence kind ts)) refl (trees_put ts kind (spent nest) before t.1 v.1)
      (λ y s. (v.0, (head, y, elements_put kind n v.0, s, refl)))
  value_put (unique_id bytes) nest before c t v = leaf (unique_id bytes) nest before (uuid_value bytes) bytes refl refl (v, refl)

  members_put : (ms : Members) (last : ℤ) (up : List Slot) (before : ℤ) → AreTaken (items_of_members ms) → AreMembers ms → Puts (writer (slots.Fields last ∷ up) before) (items_of_members ms) up (SpellsMembers last ms)
  members_put no_members last up before t v = record { bytes = 0 ∷ []; before = before; spells = refl; is = (λ rest. refl) }
  members_put (one_member id x ms) last up before t v =
      let taken = taken_front (items_of x) (items_of_members ms) t.1 in
      let others = taken_back (items_of x) (items_of_members ms) t.1 in
      let first : Puts (writer (slots.Fields last ∷ up) before) (field id (kind_of x) ∷ items_of x) (slots.Fields id ∷ up) (IsField last id x) =
      elim (by_telling x) as (λ _. Puts (writer (slots.Fields last ∷ up) before) (field id (kind_of x) ∷ items_of x) (slots.Fields id ∷ up) (IsField last id x)) [
        | inl told ↦ bool_field x last id up before v.0 told
        | inr not ↦ untold_put x last id up before v.0 not (value_put x (slots.Value (kind_of x) id ∷ up) last (refl, untold x not) taken v.1)
      ] in
      both (writer (slots.Fields last ∷ up) before) (field id (kind_of x) ∷ items_of x) (items_of_members ms) (slots.Fields id ∷ up) up (IsField last id x) (SpellsMembers id ms) (SpellsMembers last (one_member id x ms))
      first (λ b. members_put ms id up b others v.2) (λ a b p q. join_field last id x ms a b p q)

  trees_put : (ts : Trees) (kind : Kind) (up : List Slot) (before : ℤ) → AreTaken (items_of_trees ts) → AreAll kind ts → Puts (writer (slots.Elements kind (count_of_trees ts) ∷ up) before) (items_of_trees ts) up (SpellsElements kind ts)
  trees_put no_trees kind up before t v = end_put (slots.Elements kind 0) up before (SpellsElements kind no_trees) refl
  trees_put (one_tree x ts) kind up before t v =
      let n = count_of_trees ts in
      let less : n + 1 - 1 ≡ n = omega arith in
      let taken = taken_front (items_of x) (items_of_trees ts) t in
      let others = taken_back (items_of x) (items_of_trees ts) t in
      let first = value_put x (slots.Elements kind (n + 1) ∷ up) before (sym v.0, omega arith) taken v.1 in
      both (writer (slots.Elements kind (n + 1) ∷ up) before) (items_of x) (items_of_trees ts) (slots.Elements kind n ∷ up) up (SpellsValue x) (SpellsElements kind ts) (SpellsElements kind (one_tree x ts))
      (rw less at first) (λ b. trees_put ts kind up b others v.2) (λ a b p q. (v.0, (a, b, p, q, refl)))

  pairs_put : (ps : Pairs) (key value : Kind) (up : List Slot) (before : ℤ) → AreTaken (items_of_pairs ps) → ArePairs key value ps → Puts (writer (slots.Keys key value (count_of_pairs ps) ∷ up) before) (items_of_pairs ps) up (SpellsPairs key value ps)
  pairs_put no_pairs key value up before t v = end_put (slots.Keys key value 0) up before (SpellsPairs key value no_pairs) refl
  pairs_put (one_pair k x ps) key value up before t v =
      let n = count_of_pairs ps in
      let less : n + 1 - 1 ≡ n = omega arith in
      let taken = taken_front (items_of k) (items_of x ++ items_of_pairs ps) t in
      let more = taken_back (items_of k) (items_of x ++ items_of_pairs ps) t in
      let valued = taken_front (items_of x) (items_of_pairs ps) more in
      let others = taken_back (items_of x) (items_of_pairs ps) more in
      let first = value_put k (slots.Keys key value (n + 1) ∷ up) before (sym v.0, omega arith) taken v.2 in
      let Rest : List ℕ → Type 0 = λ l. (second : List ℕ) × (rest : List ℕ) × SpellsValue x second × SpellsPairs key value ps rest × (l ≡ second ++ rest) in
      let behind_key : (b : ℤ) → Puts (writer (slots.Values key value (n + 1) ∷ up) b) (items_of x ++ items_of_pairs ps) up Rest = λ b.
      both (writer (slots.Values key value (n + 1) ∷ up) b) (items_of x) (items_of_pairs ps) (slots.Keys key value n ∷ up) up (SpellsValue x) (SpellsPairs key value ps) Rest
      (rw less at (value_put x (slots.Values key value (n + 1) ∷ up) b (sym v.1) valued v.3)) (λ c. pairs_put ps key value up c others v.4) (λ s r p q. (s, r, p, q, refl)) in
      both (writer (slots.Keys key value (n + 1) ∷ up) before) (items_of k) (items_of x ++ items_of_pairs ps) (slots.Values key value (n + 1) ∷ up) up (SpellsValue k) Rest (SpellsPairs key value (one_pair k x ps))
      first behind_key (λ a b p q. (v.0, v.1, (a, q.0, q.1, p, q.2, q.3, ap (λ l. a ++ l) q.4)))

-- ---- a message

head_put : (m : Message) → IsMessage m → SpellsHeader m (head_spelling (header_of_message m))
unfolding head_spelling
head_put m good =
    let n = cast_unsigned w32 m.seq in
    let word : n < 2 ^ 32 = (Fits-of_z good.seq).fits in
    (good.seq, (shortest n, string_spelling m.name, spells_32 n word, string_put m.name good.name, refl))

pub written_spells : (m : Message) (bytes : List ℕ) → IsMessage m → IsWritten m bytes → CompactSpells m bytes
written_spells m bytes good w =
    let p = members_put m.body (pos 0) [] (pos 0) w.taken good.body in
    let all : put (writer (slots.Fields (pos 0) ∷ []) (pos 0)) (items_of_members m.body) ≡ p.bytes =
    ap (put (writer (slots.Fields (pos 0) ∷ []) (pos 0))) (sym (append-nil (items_of_members m.body))) ∙ p.is [] ∙ append-nil p.bytes in
    let head = head_spelling (header_of_message m) in
    (head, p.bytes, head_put m good, p.spells, w.bytes_are ∙ ap (λ l. head ++ l) all)
