-- One item that is read, and what the open levels held before it.
use Rattle.std.proofs.Common.{◌≡◌, ℕ, ℤ, suc, ◌<◌, ◌≤◌, Bool, true, false, cond, List, [], ◌∷◌, ◌++◌, length, Option, Some, None, Ok, refl, ap, ◌∙◌, sym, subst, arith, ◌⊎◌, inl, inr, append_assoc}
use Rattle.std.specs.Prelude.{nat_lt, ◌==◌, FitsSigned, slice_index}
use Rattle.std.specs.Int.{w16}
use Rattle.std.proofs.lemmas.Bool.Decides.{nat_tests}
use Rattle.thrift_value.specs.declared.kind.Kind.{Kind}
use Rattle.thrift_value.specs.Items.{Item, field, stop, end}
use Rattle.thrift_value.specs.Trees.{no_members, one_member, no_trees, no_pairs, items_of, items_of_members}
use Rattle.protocol_traits.specs.declared.nest.Slot.{Slot}
use Rattle.protocol_traits.specs.declared.nest.Slot.TheVariants as slots
use Rattle.protocol_traits.specs.Follow.{spent, after}
use Rattle.binary_protocol.specs.Codes.{code_of_kind, kind_of_code}
use Rattle.binary_protocol.specs.declared.scan.Called.TheVariants as calls
use Rattle.binary_protocol.specs.Scan.{signed_at, field_at, field_of, value_in, item_in, item_called}
use Rattle.binary_protocol.specs.Grammar.{number}
use Rattle.gate_base.specs.Bytes.{AreBytes}
use Rattle.binary_laws.proofs.Inverse.{either, is_read, same_value, same_size, no_fault, kind_is, front_16}
use Rattle.binary_laws.proofs.Begun.{Next, past, value_begun}
use Rattle.binary_laws.proofs.Levels.{IsTree, Level, Ends, with_value}
use Rattle.binary_laws.proofs.Walking.{CallsFor, length-spent}

pub record Stepped (nest : List Slot) (bytes : List ℕ) (item : Item) (taken : ℕ) : Type 0 where
  pub front : List ℕ
  pub rest : List ℕ
  pub laid : bytes ≡ front ++ rest
  pub size : taken ≡ length front
  pub within : length (after item nest) ≤ 256
  pub onward : (limit : ℕ) → 256 ≤ limit → (items : List Item) (tail : List ℕ) → Ends limit (after item nest) items tail → Ends limit nest (item ∷ items) (front ++ tail)

-- ---- fields

-- the id of a field behind its kind
id_read : (l : List ℕ) → AreBytes l → (k : Kind) → nat_lt (length l) 3 ≡ false → (x : ℕ) → x ≡ slice_index l 0 → (id : ℤ) → id ≡ signed_at w16 (slice_index l 1 ∷ slice_index l 2 ∷ [])
    → FitsSigned w16 id × ((rest : List ℕ) × (l ≡ x ∷ (number w16 id ++ rest)))
id_read [] are k long x is id e = absurd (grind (arith, nat_tests))
id_read (a ∷ []) are k long x is id e = absurd (grind (arith, nat_tests))
id_read (a ∷ b ∷ []) are k long x is id e = absurd (grind (arith, nat_tests))
id_read (a ∷ b ∷ c ∷ rest) are k long x is id e =
    let f = front_16 (b ∷ c ∷ rest) are.1 (omega arith) in
    (subst (FitsSigned w16) (sym e) f.fits, (f.rest, ap (λ r. a ∷ r) f.laid ∙ ap (λ y. y ∷ (number w16 (signed_at w16 (b ∷ c ∷ rest)) ++ f.rest)) (sym is) ∙ ap (λ z. x ∷ (number w16 z ++ f.rest)) (sym e)))

stop_byte : (l : List ℕ) → nat_lt (length l) 1 ≡ false → (slice_index l 0 == 0) ≡ true → (rest : List ℕ) × (l ≡ 0 ∷ rest)
stop_byte [] long z = absurd (grind (arith, nat_tests))
stop_byte (x ∷ rest) long z = let zero : x ≡ 0 = grind (arith, nat_tests) in (rest, ap (λ y. y ∷ rest) zero)

module _ (last : ℤ) (up : List Slot) (most : suc (length up) ≤ 256) (bytes : List ℕ) (are : AreBytes bytes) (item : Item) (taken : ℕ) where
  abbrev nest : List Slot
  nest = slots.Fields last ∷ up

  stop_stepped : nat_lt (length bytes) 1 ≡ false → (slice_index bytes 0 == 0) ≡ true → is_read (stop, 1) ≡ is_read (item, taken) → Stepped nest bytes item taken
  stop_stepped long zero e =
      let b = stop_byte bytes long zero in
      let made : Stepped nest bytes stop taken = record {
        front = 0 ∷ [];
        rest = b.0;
        laid = b.1;
        size = sym (same_size stop item 1 taken e);
        within = omega arith;
        onward = (λ limit bound items tail ends. record { first = stop ∷ []; second = items; front = 0 ∷ []; back = tail; one = record { ms = no_members; spells = refl; is = refl; deep = omega arith }; two = ends; is = refl; laid = refl });
      } in
      subst (λ i. Stepped nest bytes i taken) (same_value stop item 1 taken e) made

  -- a field in front of its value and the fields behind
  in_fields : (limit : ℕ) → (k : Kind) (id : ℤ) (items : List Item) (rest : List ℕ) → FitsSigned w16 id → Ends limit (slots.Value k id ∷ up) items rest → Ends limit nest (field id k ∷ items) ((code_of_kind k ∷ number w16 id) ++ rest)
  in_fields limit k id items rest fits b =
      let v = b.one.one in
      let fs = b.one.two in
      let head = code_of_kind k ∷ number w16 id in
      let kind = v.kind in
      record {
        first = field id k ∷ b.first;
        second = b.second;
        front = head ++ b.front;
        back = b.back;
        one = record {
          ms = one_member id v.t fs.ms;
          spells = (fits, (b.one.front, b.one.back, v.spells, fs.spells, ap (λ l. head ++ l) b.one.laid ∙ ap (λ j. (code_of_kind j ∷ number w16 id) ++ (b.one.front ++ b.one.back)) (sym kind)));
          is = ap (λ l. field id k ∷ l) (b.one.is ∙ ap (λ l. l ++ b.one.second) v.is ∙ ap (λ l. items_of v.t ++ l) fs.is) ∙ ap (λ j. field id j ∷ (items_of v.t ++ items_of_members fs.ms)) (sym kind);
          deep = omega (arith, v.deep, fs.deep);
        };
        two = b.two;
        is = ap (λ l. field id k ∷ l) b.is;
        laid = ap (λ l. head ++ l) b.laid ∙ sym (append_assoc head b.front b.back);
      }

  field_stepped : (found : Option Kind) → kind_of_code (slice_index bytes 0) ≡ found → field_of found bytes ≡ Ok (item, taken) → Stepped nest bytes item taken
  field_stepped None is e = absurd (no_fault _ (item, taken) e)
  field_stepped (Some k) is e =
      let id = signed_at w16 (slice_index bytes 1 ∷ slice_index bytes 2 ∷ []) in
      let h = past _ (nat_lt (length bytes) 3) (is_read (field id k, 3)) (item, taken) e in
      let r = id_read bytes are k h.0 (code_of_kind k) (sym (kind_is (slice_index bytes 0) k is)) id refl in
      let made : Stepped nest bytes (field id k) taken = record {
        front = code_of_kind k ∷ number w16 id;
        rest = r.1.0;
        laid = r.1.1;
        size = sym (same_size (field id k) item 3 taken h.1);
        within = most;
        onward = (λ limit bound items tail ends. in_fields limit k id items tail r.0 ends);
      } in
      subst (λ i. Stepped nest bytes i taken) (same_value (field id k) item 3 taken h.1) made

  fields_stepped : field_at bytes ≡ Ok (item, taken) → Stepped nest bytes item taken
  unfolding field_at
  fields_stepped e =
      let h = past _ (nat_lt (length bytes) 1) (cond (slice_index bytes 0 == 0) (is_read (stop, 1)) (field_of (kind_of_code (slice_index bytes 0)) bytes)) (item, taken) e in
      by_zero h.0 (either (slice_index bytes 0 == 0) _ _ (Ok (item, taken)) h.1)
    where
      by_zero : nat_lt (length bytes) 1 ≡ false → ((slice_index bytes 0 == 0) ≡ true) × (is_read (stop, 1) ≡ Ok (item, taken)) ⊎ ((slice_index bytes 0 == 0) ≡ false) × (field_of (kind_of_code (slice_index bytes 0)) bytes ≡ Ok (item, taken))
          → Stepped nest bytes item taken
      by_zero long (inl k) = stop_stepped long k.0 k.1
      by_zero long (inr k) = field_stepped (kind_of_code (slice_index bytes 0)) refl k.1

-- ---- values

opened_ends : (limit : ℕ) (nest : List Slot) (k : Kind) (slot : Slot) (item : Item) (front rest : List ℕ) (items : List Item) → CallsFor nest k
    → ((mine : List Item) (a : List ℕ) → Level limit slot (suc (length nest)) mine a → IsTree limit (length nest) k (item ∷ mine) (front ++ a)) → Ends limit (slot ∷ spent nest) items rest → Ends limit nest (item ∷ items) (front ++ rest)
opened_ends limit nest k slot item front rest items c closes b =
    let inner = subst (λ n. Level limit slot (suc n) b.first b.front) (length-spent nest) b.one in
    let all = with_value limit nest k (item ∷ b.first) b.second (front ++ b.front) b.back c (closes b.first b.front inner) b.two in
    subst (λ l. Ends limit nest (item ∷ items) l) (append_assoc front b.front b.back ∙ ap (λ l. front ++ l) (sym b.laid))
    (subst (λ l. Ends limit nest l ((front ++ b.front) ++ b.back)) (ap (λ l. item ∷ l) (sym b.is)) all)

still_within : (nest : List Slot) (k : Kind) (item : Item) (front : List ℕ) → length nest ≤ 256 → Next 256 (length nest) k item front → length (after item nest) ≤ 256
still_within nest k item front most (inl (same, v)) = omega (arith, ap length (same nest), length-spent nest, most)
still_within nest k item front most (inr (slot, shallow, same, closes)) = omega (arith, ap length (same nest), length-spent nest, shallow)

next_ends : (limit : ℕ) (nest : List Slot) (k : Kind) (item : Item) (front rest : List ℕ) (items : List Item) → CallsFor nest k → Next limit (length nest) k item front → Ends limit (after item nest) items rest → Ends limit nest (item ∷ items) (front ++ rest)
next_ends limit nest k item front rest items c (inl (same, v)) ends = with_value limit nest k (item ∷ []) items front rest c v (subst (λ n. Ends limit n items rest) (same nest) ends)
next_ends limit nest k item front rest items c (inr (slot, shallow, same, closes)) ends = opened_ends limit nest k slot item front rest items c closes (subst (λ n. Ends limit n items rest) (same nest) ends)

value_stepped : (nest : List Slot) (k : Kind) (bytes : List ℕ) (item : Item) (taken : ℕ) → length nest ≤ 256 → AreBytes bytes → CallsFor nest k → value_in (length nest) k bytes ≡ Ok (item, taken) → Stepped nest bytes item taken
value_stepped nest k bytes item taken most are c e =
    let b = value_begun (length nest) k bytes item taken most are e in
    record {
      front = b.front;
      rest = b.rest;
      laid = b.laid;
      size = b.size;
      within = still_within nest k item b.front most (b.next 256 (omega arith));
      onward = (λ limit bound items tail ends. next_ends limit nest k item b.front tail items c (b.next limit bound) ends);
    }

-- ---- the ends of containers

end_stepped : (slot : Slot) (up : List Slot) (bytes : List ℕ) (item : Item) (taken : ℕ) → suc (length up) ≤ 256 → ((limit : ℕ) → 256 ≤ limit → Level limit slot (suc (length up)) (end ∷ []) []) → is_read (end, 0) ≡ is_read (item, taken) → Stepped (slot ∷ up) bytes item taken
end_stepped slot up bytes item taken most empty e =
    let made : Stepped (slot ∷ up) bytes end taken = record {
      front = [];
      rest = bytes;
      laid = refl;
      size = sym (same_size end item 0 taken e);
      within = omega arith;
      onward = (λ limit bound items tail ends. record { first = end ∷ []; second = items; front = []; back = tail; one = empty limit bound; two = ends; is = refl; laid = refl });
    } in
    subst (λ i. Stepped (slot ∷ up) bytes i taken) (same_value end item 0 taken e) made

zero_of : (n : ℕ) → (n == 0) ≡ true → n ≡ 0
zero_of n e = grind (arith, nat_tests)

some_of : (n : ℕ) → (n == 0) ≡ false → 0 < n
some_of n e = grind (arith, nat_tests)

pub stepped : (slot : Slot) (up : List Slot) (bytes : List ℕ) (item : Item) (taken : ℕ) → suc (length up) ≤ 256 → AreBytes bytes → item_in (suc (length up)) slot bytes ≡ Ok (item, taken) → Stepped (slot ∷ up) bytes item taken
stepped (slots.Fields last) up bytes item taken most are e = fields_stepped last up most bytes are item taken e
stepped (slots.Value k id) up bytes item taken most are e = value_stepped (slots.Value k id ∷ up) k bytes item taken most are refl e
stepped (slots.Values key value left) up bytes item taken most are e = value_stepped (slots.Values key value left ∷ up) value bytes item taken most are refl e
stepped (slots.Elements k left) up bytes item taken most are e = by_left (left == 0) refl e
  where
    by_left : (b : Bool) → (left == 0) ≡ b → item_called (suc (length up)) (cond b calls.End (calls.Value k)) bytes ≡ Ok (item, taken) → Stepped (slots.Elements k left ∷ up) bytes item taken
    by_left true t h = end_stepped (slots.Elements k left) up bytes item taken most (λ limit bound. record { ts = no_trees; count = sym (zero_of left t); spells = refl; is = refl; deep = omega arith }) h
    by_left false t h = value_stepped (slots.Elements k left ∷ up) k bytes item taken most are (refl, some_of left t) h
stepped (slots.Keys key value left) up bytes item taken most are e = by_left (left == 0) refl e
  where
    by_left : (b : Bool) → (left == 0) ≡ b → item_called (suc (length up)) (cond b calls.End (calls.Value key)) bytes ≡ Ok (item, taken) → Stepped (slots.Keys key value left ∷ up) bytes item taken
    by_left true t h = end_stepped (slots.Keys key value left) up bytes item taken most (λ limit bound. record { ps = no_pairs; count = sym (zero_of left t); spells = refl; is = refl; deep = omega arith }) h
    by_left false t h = value_stepped (slots.Keys key value left ∷ up) key bytes item taken most are (refl, some_of left t) h
