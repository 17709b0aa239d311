-- What the open levels still hold, by the grammar: their items and their bytes.
use Rattle.std.proofs.Common.{◌≡◌, ℕ, ℤ, suc, ◌+◌, ◌-◌, ◌<◌, ◌≤◌, Bool, false, List, [], ◌∷◌, ◌++◌, length, refl, ap, ◌∙◌, sym, subst, arith, ◌⊎◌, inr, append_assoc}
use Rattle.std.specs.Prelude.{⊤, FitsSigned}
use Rattle.std.specs.Int.{w16}
use Rattle.thrift_value.specs.declared.kind.Kind.{Kind}
use Rattle.thrift_value.specs.Items.{Item}
use Rattle.thrift_value.specs.Trees.{Tree, truth, Members, Trees, one_tree, Pairs, one_pair, kind_of, count_of_trees, count_of_pairs, items_of, items_of_members, items_of_trees, items_of_pairs, depth_of, depth_of_members, depth_of_trees, depth_of_pairs}
use Rattle.protocol_traits.specs.declared.nest.Slot.{Slot}
use Rattle.protocol_traits.specs.declared.nest.Slot.TheVariants as slots
use Rattle.protocol_traits.specs.Follow.{spent}
use Rattle.compact_protocol.specs.Scan.{is_bool}
use Rattle.compact_protocol.specs.Grammar.{is_told, SpellsValue, SpellsMembers, SpellsElements, SpellsPairs}
use Rattle.compact_laws.proofs.Walking.{CallsFor}
use Rattle.compact_laws.proofs.Unique.{told_kind}

-- a value of this kind inside so many levels
pub record IsTree (limit d : ℕ) (k : Kind) (items : List Item) (bytes : List ℕ) : Type 0 where
  pub t : Tree
  pub kind : kind_of t ≡ k
  pub spells : SpellsValue t bytes
  pub is : items ≡ items_of t
  pub deep : depth_of t + d ≤ limit

-- a field's value of this kind, where its byte told this flag
pub record IsFieldValue (limit d : ℕ) (k : Kind) (flag : Bool) (items : List Item) (bytes : List ℕ) : Type 0 where
  pub t : Tree
  pub kind : kind_of t ≡ k
  pub spells : ((t ≡ truth flag) × (bytes ≡ [])) ⊎ ((is_told t ≡ false) × SpellsValue t bytes)
  pub is : items ≡ items_of t
  pub deep : depth_of t + d ≤ limit

pub record AreFields (limit d : ℕ) (last : ℤ) (items : List Item) (bytes : List ℕ) : Type 0 where
  pub ms : Members
  pub spells : SpellsMembers last ms bytes
  pub is : items ≡ items_of_members ms
  pub deep : depth_of_members ms + d ≤ limit

pub record AreElements (limit : ℕ) (k : Kind) (left d : ℕ) (items : List Item) (bytes : List ℕ) : Type 0 where
  pub ts : Trees
  pub count : count_of_trees ts ≡ left
  pub spells : SpellsElements k ts bytes
  pub is : items ≡ items_of_trees ts
  pub deep : depth_of_trees ts + d ≤ limit

pub record ArePairs (limit : ℕ) (key value : Kind) (left d : ℕ) (items : List Item) (bytes : List ℕ) : Type 0 where
  pub ps : Pairs
  pub count : count_of_pairs ps ≡ left
  pub spells : SpellsPairs key value ps bytes
  pub is : items ≡ items_of_pairs ps
  pub deep : depth_of_pairs ps + d ≤ limit

-- one thing behind another
pub record Both (A B : List Item → List ℕ → Type 0) (items : List Item) (bytes : List ℕ) : Type 0 where
  pub first : List Item
  pub second : List Item
  pub front : List ℕ
  pub back : List ℕ
  pub one : A first front
  pub two : B second back
  pub is : items ≡ first ++ second
  pub laid : bytes ≡ front ++ back

-- what one level still holds
abbrev pub Level : ℕ → Bool → Slot → ℕ → List Item → List ℕ → Type 0
Level limit flag (slots.Fields last) d items bytes = AreFields limit d last items bytes
Level limit flag (slots.Value k id) d items bytes = Both (IsFieldValue limit d k flag) (AreFields limit d id) items bytes
Level limit flag (slots.Elements k left) d items bytes = AreElements limit k left d items bytes
Level limit flag (slots.Keys key value left) d items bytes = ArePairs limit key value left d items bytes
Level limit flag (slots.Values key value left) d items bytes = Both (IsTree limit d value) (ArePairs limit key value (left - 1) d) items bytes

-- The flag is what the last byte told. Of outer levels none waits for the value that it tells, so any will do there.
abbrev pub Ends : ℕ → Bool → List Slot → List Item → List ℕ → Type 0
Ends limit flag [] items bytes = (items ≡ []) × (bytes ≡ [])
Ends limit flag (slot ∷ up) items bytes = Both (Level limit flag slot (suc (length up))) (λ others rest. (told : Bool) × Ends limit told up others rest) items bytes

abbrev pub Outer : ℕ → List Slot → List Item → List ℕ → Type 0
Outer limit nest items bytes = (told : Bool) × Ends limit told nest items bytes

-- of outer levels: the ids of the last fields are in range, and none waits for a field's value
abbrev pub AreOuter : List Slot → Type 0
AreOuter [] = ⊤
AreOuter (slots.Fields last ∷ up) = FitsSigned w16 last × AreOuter up
AreOuter (slots.Value k id ∷ up) = ⊥
AreOuter (slots.Elements k left ∷ up) = AreOuter up
AreOuter (slots.Keys key value left ∷ up) = AreOuter up
AreOuter (slots.Values key value left ∷ up) = AreOuter up

-- and of all, of which the innermost may
abbrev pub AreIds : List Slot → Type 0
AreIds [] = ⊤
AreIds (slots.Fields last ∷ up) = FitsSigned w16 last × AreOuter up
AreIds (slots.Value k id ∷ up) = FitsSigned w16 id × AreOuter up
AreIds (slots.Elements k left ∷ up) = AreOuter up
AreIds (slots.Keys key value left ∷ up) = AreOuter up
AreIds (slots.Values key value left ∷ up) = AreOuter up

pub outer_ids : (nest : List Slot) → AreOuter nest → AreIds nest
outer_ids [] h = h
outer_ids (slots.Fields last ∷ up) h = h
outer_ids (slots.Value k id ∷ up) h = absurd h
outer_ids (slots.Elements k left ∷ up) h = h
outer_ids (slots.Keys key value left ∷ up) h = h
outer_ids (slots.Values key value left ∷ up) h = h

pub outer_spent : (nest : List Slot) → AreIds nest → AreOuter (spent nest)
outer_spent [] h = h
outer_spent (slots.Fields last ∷ up) h = h
outer_spent (slots.Value k id ∷ up) h = h
outer_spent (slots.Elements k left ∷ up) h = h
outer_spent (slots.Keys key value left ∷ up) h = h
outer_spent (slots.Values key value left ∷ up) h = h

pub outer_up : (slot : Slot) (up : List Slot) → AreIds (slot ∷ up) → AreOuter up
outer_up (slots.Fields last) up h = h.1
outer_up (slots.Value k id) up h = h.1
outer_up (slots.Elements k left) up h = h
outer_up (slots.Keys key value left) up h = h
outer_up (slots.Values key value left) up h = h

-- a value in front of what an inner level holds
module _ (limit d : ℕ) (k : Kind) (items : List Item) (front : List ℕ) (v : IsTree limit d k items front) where
  to_elements : (left : ℕ) (mine : List Item) (a : List ℕ) → 0 < left → AreElements limit k (left - 1) d mine a → AreElements limit k left d (items ++ mine) (front ++ a)
  to_elements left mine a some e =
      let count = e.count in
      record {
        ts = one_tree v.t e.ts;
        count = omega arith;
        spells = (v.kind, (front, a, v.spells, e.spells, refl));
        is = ap (λ l. l ++ mine) v.is ∙ ap (λ l. items_of v.t ++ l) e.is;
        deep = omega (arith, v.deep, e.deep);
      }

  to_keys : (value : Kind) (left : ℕ) (mine : List Item) (a : List ℕ) → 0 < left → Both (IsTree limit d value) (ArePairs limit k value (left - 1) d) mine a → ArePairs limit k value left d (items ++ mine) (front ++ a)
  to_keys value left mine a some b =
      let w = b.one in
      let e = b.two in
      let count = e.count in
      record {
        ps = one_pair v.t w.t e.ps;
        count = omega arith;
        spells = (v.kind, w.kind, (front, b.front, b.back, v.spells, w.spells, e.spells, ap (λ l. front ++ l) b.laid));
        is = ap (λ l. l ++ mine) v.is ∙ ap (λ l. items_of v.t ++ l) (b.is ∙ ap (λ l. l ++ b.second) w.is ∙ ap (λ l. items_of w.t ++ l) e.is);
        deep = omega (arith, v.deep, w.deep, e.deep);
      }

-- what is put in front of the first of two things
in_front : (A B C : List Item → List ℕ → Type 0) (items others : List Item) (front rest : List ℕ) → Both A C others rest → ((mine : List Item) (a : List ℕ) → A mine a → B (items ++ mine) (front ++ a)) → Both B C (items ++ others) (front ++ rest)
in_front A B C items others front rest b f = record {
  first = items ++ b.first;
  second = b.second;
  front = front ++ b.front;
  back = b.back;
  one = f b.first b.front b.one;
  two = b.two;
  is = ap (λ l. items ++ l) b.is ∙ sym (append_assoc items b.first b.second);
  laid = ap (λ l. front ++ l) b.laid ∙ sym (append_assoc front b.front b.back);
}

-- a field's value that is no bool
of_field : (limit d : ℕ) (k z : Kind) (flag : Bool) (items : List Item) (front : List ℕ) → k ≡ z → is_bool z ≡ false → IsTree limit d z items front → IsFieldValue limit d k flag items front
of_field limit d k z flag items front same not v = record { t = v.t; kind = v.kind ∙ sym same; spells = inr (told_kind v.t ∙ ap is_bool v.kind ∙ not, v.spells); is = v.is; deep = v.deep }

-- a value where one is called for
pub with_value : (limit : ℕ) (flag : Bool) (nest : List Slot) (k : Kind) (items others : List Item) (front rest : List ℕ) → CallsFor nest k → IsTree limit (length nest) k items front → Outer limit (spent nest) others rest
    → Ends limit flag nest (items ++ others) (front ++ rest)
with_value limit flag [] k items others front rest c v e = absurd c
with_value limit flag (slots.Fields last ∷ up) k items others front rest c v e = absurd c
with_value limit flag (slots.Value kind id ∷ up) k items others front rest c v e =
    let d = suc (length up) in
    let w = of_field limit d kind k flag items front c.0 c.1 v in
    in_front (AreFields limit d id) (Both (IsFieldValue limit d kind flag) (AreFields limit d id)) (Outer limit up) items others front rest e.1 (λ mine a f. record { first = items; second = mine; front = front; back = a; one = w; two = f; is = refl; laid = refl })
with_value limit flag (slots.Elements kind left ∷ up) k items others front rest c v e =
    let d = suc (length up) in
    let w = subst (λ z. IsTree limit d z items front) (sym c.0) v in
    in_front (AreElements limit kind (left - 1) d) (AreElements limit kind left d) (Outer limit up) items others front rest e.1 (λ mine a f. to_elements limit d kind items front w left mine a c.1 f)
with_value limit flag (slots.Keys key value left ∷ up) k items others front rest c v e =
    let d = suc (length up) in
    let w = subst (λ z. IsTree limit d z items front) (sym c.0) v in
    in_front (Both (IsTree limit d value) (ArePairs limit key value (left - 1) d)) (ArePairs limit key value left d) (Outer limit up) items others front rest e.1 (λ mine a f. to_keys limit d key items front w value left mine a c.1 f)
with_value limit flag (slots.Values key value left ∷ up) k items others front rest c v e =
    let d = suc (length up) in
    let w = subst (λ z. IsTree limit d z items front) (sym c) v in
    in_front (ArePairs limit key value (left - 1) d) (Both (IsTree limit d value) (ArePairs limit key value (left - 1) d)) (Outer limit up) items others front rest e.1 (λ mine a f. record { first = items; second = mine; front = front; back = a; one = w; two = f; is = refl; laid = refl })
