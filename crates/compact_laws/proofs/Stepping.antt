-- One item that is read, and what the open levels held before it.
use Rattle.std.proofs.Common.{◌≡◌, ℕ, ℤ, suc, ◌%◌, ◌<◌, ◌≤◌, Bool, true, false, cond, List, [], ◌∷◌, ◌++◌, length, Some, Ok, refl, ap, ◌∙◌, sym, subst, arith, ◌⊎◌, inl, inr, append_assoc}
use Rattle.std.specs.Prelude.{nat_lt, ◌==◌, slice_index}
use Rattle.std.proofs.lemmas.Bool.Decides.{nat_tests}
use Rattle.thrift_value.specs.declared.kind.Kind.{Kind}
use Rattle.thrift_value.specs.declared.kind.Kind.TheVariants as kinds
use Rattle.thrift_value.specs.Items.{Item, field, stop, bool_value, end}
use Rattle.thrift_value.specs.Trees.{Tree, truth, no_members, one_member, no_trees, no_pairs, kind_of as kind_of_tree, items_of, items_of_members}
use Rattle.protocol_traits.specs.declared.nest.Slot.{Slot}
use Rattle.protocol_traits.specs.declared.nest.Slot.TheVariants as slots
use Rattle.protocol_traits.specs.Stack.{first_of}
use Rattle.protocol_traits.specs.Follow.{spent, after}
use Rattle.compact_protocol.specs.Codes.{kind_of, code_of, flag_code}
use Rattle.compact_protocol.specs.Scan.{is_bool, field_at, field_of, flag_of, field_value, next_of, value_in, item_in}
use Rattle.compact_protocol.specs.Reading.{scan_at}
use Rattle.compact_protocol.specs.Grammar.{field_code, is_told, IsKind, IsFieldHeader, SpellsValue}
use Rattle.gate_base.specs.Bytes.{AreBytes}
use Rattle.binary_laws.proofs.Inverse.{either, is_read, same_value, same_size}
use Rattle.binary_laws.proofs.Begun.{past}
use Rattle.binary_laws.proofs.Walking.{length-spent}
use Rattle.compact_laws.specs.Fronts.{Begins, SpellsItem, SpellsNext}
use Rattle.compact_laws.proofs.Inverse.{IsHead, FieldRead, field_read, bool_is, kind_is}
use Rattle.compact_laws.proofs.Begun.{Next, value_begun}
use Rattle.compact_laws.proofs.Levels.{IsTree, Level, Ends, AreIds, AreOuter, outer_ids, outer_spent, outer_up, with_value}
use Rattle.compact_laws.proofs.Unique.{told_kind}
use Rattle.compact_laws.proofs.Walking.{CallsFor, told_code}

-- the levels read the same, whichever of two flags was told
abbrev pub Alike : List Slot → Bool → Bool → Type 0
Alike nest told other = (bytes : List ℕ) → scan_at (first_of nest) (length nest) told bytes ≡ scan_at (first_of nest) (length nest) other bytes

outer_alike : (nest : List Slot) → AreOuter nest → (told other : Bool) → Alike nest told other
unfolding item_in
outer_alike [] h told other bytes = refl
outer_alike (slots.Fields last ∷ up) h told other bytes = refl
outer_alike (slots.Value k id ∷ up) h told other bytes = absurd h
outer_alike (slots.Elements k left ∷ up) h told other bytes = refl
outer_alike (slots.Keys key value left ∷ up) h told other bytes = refl
outer_alike (slots.Values key value left ∷ up) h told other bytes = refl

same_alike : (nest : List Slot) (told other : Bool) → told ≡ other → Alike nest told other
same_alike nest told other e bytes = ap (λ f. scan_at (first_of nest) (length nest) f bytes) e

pub record Stepped (nest : List Slot) (flag : Bool) (bytes : List ℕ) (item : Item) (taken : ℕ) : Type 0 where
  pub front : List ℕ
  pub rest : List ℕ
  pub laid : bytes ≡ front ++ rest
  pub size : taken ≡ length front
  pub spells : SpellsNext nest item front
  pub within : length (after item nest) ≤ 256
  pub ids : AreIds (after item nest)
  pub alike : (more : List ℕ) → Alike (after item nest) (flag_of bytes) (flag_of (bytes ++ more))
  pub onward : (limit : ℕ) → 256 ≤ limit → (items : List Item) (tail : List ℕ) → Ends limit (flag_of bytes) (after item nest) items tail → Ends limit flag nest (item ∷ items) (front ++ tail)

-- ---- fields

stop_byte : (l : List ℕ) → nat_lt (length l) 1 ≡ false → (slice_index l 0 == 0) ≡ true → (rest : List ℕ) × (l ≡ 0 ∷ rest)
stop_byte [] long z = absurd (grind (arith, nat_tests))
stop_byte (x ∷ rest) long z = let zero : x ≡ 0 = grind (arith, nat_tests) in (rest, ap (λ y. y ∷ rest) zero)

-- the code of a kind that is no bool
plain_code : (x : ℕ) (k : Kind) → IsKind k x → is_bool k ≡ false → x ≡ code_of k
plain_code x kinds.Bool h e = absurd (cc)
plain_code x kinds.I8 h e = h
plain_code x kinds.I16 h e = h
plain_code x kinds.I32 h e = h
plain_code x kinds.I64 h e = h
plain_code x kinds.Double h e = h
plain_code x kinds.Str h e = h
plain_code x kinds.Struct h e = h
plain_code x kinds.Map h e = h
plain_code x kinds.Set h e = h
plain_code x kinds.List h e = h
plain_code x kinds.Uuid h e = h

-- the code of a field whose value was told
told_field : (x : ℕ) (k : Kind) (t : Tree) (flag : Bool) → kind_of x ≡ Some k → kind_of_tree t ≡ k → t ≡ truth flag → flag ≡ (x == 1) → x ≡ field_code t
told_field x k t flag kind same is told =
    let bool : kinds.Bool ≡ k = ap kind_of_tree (sym is) ∙ same in
    bool_is x (kind ∙ ap (λ z. Some z) (sym bool)) ∙ ap flag_code (sym told) ∙ ap field_code (sym is)

-- and of one whose value is to come
untold_field : (x : ℕ) (k : Kind) (t : Tree) → kind_of x ≡ Some k → kind_of_tree t ≡ k → is_told t ≡ false → x ≡ field_code t
untold_field x k t kind same not =
    plain_code x k (kind_is x k kind) (ap is_bool (sym same) ∙ sym (told_kind t) ∙ not) ∙ ap code_of (sym same) ∙ sym (told_code t not)

-- a value as a field of a struct holds it
abbrev IsMember : Tree → List ℕ → Type 0
IsMember t value = ((is_told t ≡ true) × (value ≡ [])) ⊎ ((is_told t ≡ false) × SpellsValue t value)

record Membered (last id : ℤ) (t : Tree) (header value : List ℕ) : Type 0 where
  head : IsFieldHeader last id (field_code t) header
  spells : IsMember t value

membered : (last id : ℤ) (k : Kind) (t : Tree) (flag : Bool) (header value : List ℕ) (h : IsHead last id k header) → kind_of_tree t ≡ k → flag ≡ (h.code == 1) → ((t ≡ truth flag) × (value ≡ [])) ⊎ ((is_told t ≡ false) × SpellsValue t value) → Membered last id t header value
membered last id k t flag header value h same told (inl (is, none)) = record {
  head = subst (λ c. IsFieldHeader last id c header) (told_field h.code k t flag h.kind same is told) h.header;
  spells = inl (ap is_told is, none);
}
membered last id k t flag header value h same told (inr (not, s)) = record {
  head = subst (λ c. IsFieldHeader last id c header) (untold_field h.code k t h.kind same not) h.header;
  spells = inr (not, s);
}

module _ (last : ℤ) (up : List Slot) (flag : Bool) (most : suc (length up) ≤ 256) (bytes : List ℕ) (are : AreBytes bytes) (item : Item) (taken : ℕ) (ids : AreIds (slots.Fields last ∷ up)) where
  abbrev nest : List Slot
  nest = slots.Fields last ∷ up

  stop_stepped : nat_lt (length bytes) 1 ≡ false → (slice_index bytes 0 == 0) ≡ true → is_read (stop, 1) ≡ is_read (item, taken) → Stepped nest flag bytes item taken
  stop_stepped long zero e =
      let b = stop_byte bytes long zero in
      let made : Stepped nest flag bytes stop taken = record {
        front = 0 ∷ [];
        rest = b.0;
        laid = b.1;
        size = sym (same_size stop item 1 taken e);
        spells = inl (refl, refl);
        within = omega arith;
        ids = outer_ids up ids.1;
        alike = (λ more. outer_alike up ids.1 (flag_of bytes) (flag_of (bytes ++ more)));
        onward = (λ limit bound items tail ends. record { first = stop ∷ []; second = items; front = 0 ∷ []; back = tail; one = record { ms = no_members; spells = refl; is = refl; deep = omega arith }; two = (flag_of bytes, ends); is = refl; laid = refl });
      } in
      subst (λ i. Stepped nest flag bytes i taken) (same_value stop item 1 taken e) made

  -- a field in front of its value and the fields behind
  in_fields : (limit : ℕ) (k : Kind) (id : ℤ) (told : Bool) (header : List ℕ) (items : List Item) (rest : List ℕ) (h : IsHead last id k header) → told ≡ (h.code == 1) → Ends limit told (slots.Value k id ∷ up) items rest → Ends limit flag nest (field id k ∷ items) (header ++ rest)
  in_fields limit k id told header items rest h is b =
      let v = b.one.one in
      let fs = b.one.two in
      let kind = v.kind in
      let value = b.one.front in
      let m = membered last id k v.t told header value h kind is v.spells in
      record {
        first = field id k ∷ b.first;
        second = b.second;
        front = header ++ b.front;
        back = b.back;
        one = record {
          ms = one_member id v.t fs.ms;
          spells = (header, value, b.one.back, m.head, m.spells, fs.spells, ap (λ l. header ++ l) b.one.laid);
          is = ap (λ l. field id k ∷ l) (b.one.is ∙ ap (λ l. l ++ b.one.second) v.is ∙ ap (λ l. items_of v.t ++ l) fs.is) ∙ ap (λ j. field id j ∷ (items_of v.t ++ items_of_members fs.ms)) (sym kind);
          deep = omega (arith, v.deep, fs.deep);
        };
        two = b.two;
        is = ap (λ l. field id k ∷ l) b.is;
        laid = ap (λ l. header ++ l) b.laid ∙ sym (append_assoc header b.front b.back);
      }

  longer_told : (front rest more : List ℕ) → bytes ≡ front ++ rest → (b : Bool) → ((l : List ℕ) → flag_of (front ++ l) ≡ b) → flag_of (bytes ++ more) ≡ b
  longer_told front rest more laid b is = ap (λ l. flag_of (l ++ more)) laid ∙ ap flag_of (append_assoc front rest more) ∙ is (rest ++ more)

  field_stepped : FieldRead last bytes item taken → Stepped nest flag bytes item taken
  field_stepped r =
      let f = r.head in
      let told : flag_of bytes ≡ (f.spells.code == 1) = ap flag_of f.laid ∙ f.spells.told f.rest in
      let made : Stepped nest flag bytes (field r.id r.kind) taken = record {
        front = f.front;
        rest = f.rest;
        laid = f.laid;
        size = f.size;
        spells = inr (r.id, r.kind, f.spells.code, refl, kind_is f.spells.code r.kind f.spells.kind, f.spells.header);
        within = most;
        ids = (r.fits, ids.1);
        alike = (λ more. same_alike (slots.Value r.kind r.id ∷ up) (flag_of bytes) (flag_of (bytes ++ more)) (told ∙ sym (longer_told f.front f.rest more f.laid (f.spells.code == 1) f.spells.told)));
        onward = (λ limit bound items tail ends. in_fields limit r.kind r.id (flag_of bytes) f.front items tail f.spells told ends);
      } in
      subst (λ i. Stepped nest flag bytes i taken) r.is made

  found_first : (l : List ℕ) → bytes ≡ l → nat_lt (length l) 1 ≡ false → field_of last l (kind_of (slice_index l 0 % 16)) ≡ Ok (item, taken) → FieldRead last bytes item taken
  found_first [] is long e = absurd (grind (arith, nat_tests))
  found_first (x ∷ rest) is long e = subst (λ l. FieldRead last l item taken) (sym is) (field_read last x rest (kind_of (x % 16)) item taken ids.0 (subst AreBytes is are) refl e)

  fields_stepped : field_at last bytes ≡ Ok (item, taken) → Stepped nest flag bytes item taken
  unfolding field_at
  fields_stepped e =
      let h = past _ (nat_lt (length bytes) 1) (cond (slice_index bytes 0 == 0) (is_read (stop, 1)) (field_of last bytes (kind_of (slice_index bytes 0 % 16)))) (item, taken) e in
      by_zero h.0 (either (slice_index bytes 0 == 0) _ _ (Ok (item, taken)) h.1)
    where
      by_zero : nat_lt (length bytes) 1 ≡ false
          → ((slice_index bytes 0 == 0) ≡ true) × (is_read (stop, 1) ≡ Ok (item, taken)) ⊎ ((slice_index bytes 0 == 0) ≡ false) × (field_of last bytes (kind_of (slice_index bytes 0 % 16)) ≡ Ok (item, taken)) → Stepped nest flag bytes item taken
      by_zero long (inl k) = stop_stepped long k.0 k.1
      by_zero long (inr k) = field_stepped (found_first bytes refl long k.1)

-- ---- values

opened_ends : (limit : ℕ) (flag told : Bool) (nest : List Slot) (k : Kind) (slot : Slot) (item : Item) (front rest : List ℕ) (items : List Item) → CallsFor nest k
    → ((mine : List Item) (a : List ℕ) → Level limit told slot (suc (length nest)) mine a → IsTree limit (length nest) k (item ∷ mine) (front ++ a)) → Ends limit told (slot ∷ spent nest) items rest → Ends limit flag nest (item ∷ items) (front ++ rest)
opened_ends limit flag told nest k slot item front rest items c closes b =
    let inner = subst (λ n. Level limit told slot (suc n) b.first b.front) (length-spent nest) b.one in
    let all = with_value limit flag nest k (item ∷ b.first) b.second (front ++ b.front) b.back c (closes b.first b.front inner) b.two in
    subst (λ l. Ends limit flag nest (item ∷ items) l) (append_assoc front b.front b.back ∙ ap (λ l. front ++ l) (sym b.laid))
    (subst (λ l. Ends limit flag nest l ((front ++ b.front) ++ b.back)) (ap (λ l. item ∷ l) (sym b.is)) all)

still_within : (nest : List Slot) (k : Kind) (item : Item) (front : List ℕ) → length nest ≤ 256 → Next 256 (length nest) k item front → length (after item nest) ≤ 256
still_within nest k item front most (inl (same, v)) = omega (arith, ap length (same nest), length-spent nest, most)
still_within nest k item front most (inr (slot, shallow, plain, same, closes)) = omega (arith, ap length (same nest), length-spent nest, shallow)

still_outer : (nest : List Slot) (k : Kind) (item : Item) (front : List ℕ) → AreIds nest → Next 256 (length nest) k item front → AreOuter (after item nest)
still_outer nest k item front ids (inl (same, v)) = subst AreOuter (sym (same nest)) (outer_spent nest ids)
still_outer nest k item front ids (inr (slot, shallow, plain, same, closes)) = subst AreOuter (sym (same nest)) (plain (spent nest) (outer_spent nest ids))

next_ends : (limit : ℕ) (flag told : Bool) (nest : List Slot) (k : Kind) (item : Item) (front rest : List ℕ) (items : List Item) → CallsFor nest k → Next limit (length nest) k item front → Ends limit told (after item nest) items rest
    → Ends limit flag nest (item ∷ items) (front ++ rest)
next_ends limit flag told nest k item front rest items c (inl (same, v)) ends = with_value limit flag nest k (item ∷ []) items front rest c v (told, subst (λ n. Ends limit told n items rest) (same nest) ends)
next_ends limit flag told nest k item front rest items c (inr (slot, shallow, plain, same, closes)) ends = opened_ends limit flag told nest k slot item front rest items c (closes told) (subst (λ n. Ends limit told n items rest) (same nest) ends)

is_true : true ≡ false → ⊥
is_true e = absurd (cc)

-- where a value is called for, its first item is spelled
pub next_spells : (nest : List Slot) (k : Kind) (item : Item) (front : List ℕ) → CallsFor nest k → Begins k item front → SpellsNext nest item front
next_spells [] k item front c b = absurd c
next_spells (slots.Fields last ∷ up) k item front c b = absurd c
next_spells (slots.Value kind id ∷ up) k item front c b = inr ((λ bool. is_true (sym (ap is_bool (sym c.0 ∙ bool)) ∙ c.1)), subst (λ z. Begins z item front) (sym c.0) b)
next_spells (slots.Elements kind left ∷ up) k item front c b = inr (omega (arith, c.1), subst (λ z. Begins z item front) (sym c.0) b)
next_spells (slots.Keys key value left ∷ up) k item front c b = inr (omega (arith, c.1), subst (λ z. Begins z item front) (sym c.0) b)
next_spells (slots.Values key value left ∷ up) k item front c b = subst (λ z. Begins z item front) (sym c) b

value_stepped : (nest : List Slot) (flag : Bool) (k : Kind) (bytes : List ℕ) (item : Item) (taken : ℕ) → length nest ≤ 256 → AreIds nest → AreBytes bytes → CallsFor nest k → value_in (length nest) k bytes ≡ Ok (item, taken) → Stepped nest flag bytes item taken
value_stepped nest flag k bytes item taken most ids are c e =
    let b = value_begun (length nest) k bytes item taken most are e in
    let outer = still_outer nest k item b.front ids (b.next 256 (omega arith)) in
    record {
      front = b.front;
      rest = b.rest;
      laid = b.laid;
      size = b.size;
      spells = next_spells nest k item b.front c b.spells;
      within = still_within nest k item b.front most (b.next 256 (omega arith));
      ids = outer_ids (after item nest) outer;
      alike = (λ more. outer_alike (after item nest) outer (flag_of bytes) (flag_of (bytes ++ more)));
      onward = (λ limit bound items tail ends. next_ends limit flag (flag_of bytes) nest k item b.front tail items c (b.next limit bound) ends);
    }

-- a bool field's value, which its byte has told
told_stepped : (id : ℤ) (up : List Slot) (flag : Bool) (bytes : List ℕ) (item : Item) (taken : ℕ) → suc (length up) ≤ 256 → AreIds (slots.Value kinds.Bool id ∷ up) → is_read (bool_value flag, 0) ≡ is_read (item, taken) → Stepped (slots.Value kinds.Bool id ∷ up) flag bytes item taken
told_stepped id up flag bytes item taken most ids e =
    let nest = slots.Value kinds.Bool id ∷ up in
    let made : Stepped nest flag bytes (bool_value flag) taken = record {
      front = [];
      rest = bytes;
      laid = refl;
      size = sym (same_size (bool_value flag) item 0 taken e);
      spells = inl (refl, flag, refl, refl);
      within = most;
      ids = ids;
      alike = (λ more. outer_alike (slots.Fields id ∷ up) ids (flag_of bytes) (flag_of (bytes ++ more)));
      onward = (λ limit bound items tail ends. record {
        first = bool_value flag ∷ ends.first;
        second = ends.second;
        front = ends.front;
        back = ends.back;
        one = record { first = bool_value flag ∷ []; second = ends.first; front = []; back = ends.front; one = record { t = truth flag; kind = refl; spells = inl (refl, refl); is = refl; deep = omega (arith, most, bound) }; two = ends.one; is = refl; laid = refl };
        two = ends.two;
        is = ap (λ l. bool_value flag ∷ l) ends.is;
        laid = ends.laid;
      });
    } in
    subst (λ i. Stepped nest flag bytes i taken) (same_value (bool_value flag) item 0 taken e) made

field_value_stepped : (k : Kind) (id : ℤ) (up : List Slot) (flag : Bool) (bytes : List ℕ) (item : Item) (taken : ℕ) → suc (length up) ≤ 256 → AreIds (slots.Value k id ∷ up) → AreBytes bytes → field_value (suc (length up)) k flag bytes ≡ Ok (item, taken)
    → Stepped (slots.Value k id ∷ up) flag bytes item taken
unfolding field_value
field_value_stepped kinds.Bool id up flag bytes item taken most ids are e = told_stepped id up flag bytes item taken most ids e
field_value_stepped kinds.I8 id up flag bytes item taken most ids are e = value_stepped (slots.Value kinds.I8 id ∷ up) flag kinds.I8 bytes item taken most ids are (refl, refl) e
field_value_stepped kinds.I16 id up flag bytes item taken most ids are e = value_stepped (slots.Value kinds.I16 id ∷ up) flag kinds.I16 bytes item taken most ids are (refl, refl) e
field_value_stepped kinds.I32 id up flag bytes item taken most ids are e = value_stepped (slots.Value kinds.I32 id ∷ up) flag kinds.I32 bytes item taken most ids are (refl, refl) e
field_value_stepped kinds.I64 id up flag bytes item taken most ids are e = value_stepped (slots.Value kinds.I64 id ∷ up) flag kinds.I64 bytes item taken most ids are (refl, refl) e
field_value_stepped kinds.Double id up flag bytes item taken most ids are e = value_stepped (slots.Value kinds.Double id ∷ up) flag kinds.Double bytes item taken most ids are (refl, refl) e
field_value_stepped kinds.Str id up flag bytes item taken most ids are e = value_stepped (slots.Value kinds.Str id ∷ up) flag kinds.Str bytes item taken most ids are (refl, refl) e
field_value_stepped kinds.Struct id up flag bytes item taken most ids are e = value_stepped (slots.Value kinds.Struct id ∷ up) flag kinds.Struct bytes item taken most ids are (refl, refl) e
field_value_stepped kinds.Map id up flag bytes item taken most ids are e = value_stepped (slots.Value kinds.Map id ∷ up) flag kinds.Map bytes item taken most ids are (refl, refl) e
field_value_stepped kinds.Set id up flag bytes item taken most ids are e = value_stepped (slots.Value kinds.Set id ∷ up) flag kinds.Set bytes item taken most ids are (refl, refl) e
field_value_stepped kinds.List id up flag bytes item taken most ids are e = value_stepped (slots.Value kinds.List id ∷ up) flag kinds.List bytes item taken most ids are (refl, refl) e
field_value_stepped kinds.Uuid id up flag bytes item taken most ids are e = value_stepped (slots.Value kinds.Uuid id ∷ up) flag kinds.Uuid bytes item taken most ids are (refl, refl) e

-- ---- the ends of containers

end_stepped : (slot : Slot) (up : List Slot) (flag : Bool) (bytes : List ℕ) (item : Item) (taken : ℕ) → suc (length up) ≤ 256 → AreIds (slot ∷ up) → ((limit : ℕ) → 256 ≤ limit → Level limit flag slot (suc (length up)) (end ∷ []) [])
    → SpellsItem slot end [] → is_read (end, 0) ≡ is_read (item, taken) → Stepped (slot ∷ up) flag bytes item taken
end_stepped slot up flag bytes item taken most ids empty spelled e =
    let made : Stepped (slot ∷ up) flag bytes end taken = record {
      front = [];
      rest = bytes;
      laid = refl;
      size = sym (same_size end item 0 taken e);
      spells = spelled;
      within = omega arith;
      ids = outer_ids up (outer_up slot up ids);
      alike = (λ more. outer_alike up (outer_up slot up ids) (flag_of bytes) (flag_of (bytes ++ more)));
      onward = (λ limit bound items tail ends. record { first = end ∷ []; second = items; front = []; back = tail; one = empty limit bound; two = (flag_of bytes, ends); is = refl; laid = refl });
    } in
    subst (λ i. Stepped (slot ∷ up) flag bytes i taken) (same_value end item 0 taken e) made

zero_of : (n : ℕ) → (n == 0) ≡ true → n ≡ 0
zero_of n e = grind (arith, nat_tests)

some_of : (n : ℕ) → (n == 0) ≡ false → 0 < n
some_of n e = grind (arith, nat_tests)

pub stepped : (slot : Slot) (up : List Slot) (flag : Bool) (bytes : List ℕ) (item : Item) (taken : ℕ) → suc (length up) ≤ 256 → AreIds (slot ∷ up) → AreBytes bytes → item_in (suc (length up)) slot flag bytes ≡ Ok (item, taken) → Stepped (slot ∷ up) flag bytes item taken
unfolding item_in next_of
stepped (slots.Fields last) up flag bytes item taken most ids are e = fields_stepped last up flag most bytes are item taken ids e
stepped (slots.Value k id) up flag bytes item taken most ids are e = field_value_stepped k id up flag bytes item taken most ids are e
stepped (slots.Values key value left) up flag bytes item taken most ids are e = value_stepped (slots.Values key value left ∷ up) flag value bytes item taken most ids are refl e
stepped (slots.Elements k left) up flag bytes item taken most ids are e = by_left (left == 0) refl e
  where
    by_left : (b : Bool) → (left == 0) ≡ b → cond b (is_read (end, 0)) (value_in (suc (length up)) k bytes) ≡ Ok (item, taken) → Stepped (slots.Elements k left ∷ up) flag bytes item taken
    by_left true t h = end_stepped (slots.Elements k left) up flag bytes item taken most ids (λ limit bound. record { ts = no_trees; count = sym (zero_of left t); spells = refl; is = refl; deep = omega arith }) (inl (zero_of left t, refl, refl)) h
    by_left false t h = value_stepped (slots.Elements k left ∷ up) flag k bytes item taken most ids are (refl, some_of left t) h
stepped (slots.Keys key value left) up flag bytes item taken most ids are e = by_left (left == 0) refl e
  where
    by_left : (b : Bool) → (left == 0) ≡ b → cond b (is_read (end, 0)) (value_in (suc (length up)) key bytes) ≡ Ok (item, taken) → Stepped (slots.Keys key value left ∷ up) flag bytes item taken
    by_left true t h = end_stepped (slots.Keys key value left) up flag bytes item taken most ids (λ limit bound. record { ps = no_pairs; count = sym (zero_of left t); spells = refl; is = refl; deep = omega arith }) (inl (zero_of left t, refl, refl)) h
    by_left false t h = value_stepped (slots.Keys key value left ∷ up) flag key bytes item taken most ids are (refl, some_of left t) h
