-- What is open is closed: by the least values that it still calls for.
use Rattle.std.proofs.Common.{◌≡◌, ℕ, ℤ, pos, Bool, true, false, zero, suc, ◌-◌, ◌<◌, ◌≤◌, List, [], ◌∷◌, ◌++◌, length, refl, ap, ◌∙◌, arith, inl, inr}
use Rattle.std.proofs.lemmas.Int.{ints}
use Rattle.thrift_value.specs.declared.kind.Kind.{Kind}
use Rattle.thrift_value.specs.declared.kind.Kind.TheVariants as kinds
use Rattle.thrift_value.specs.Items.{Item}
use Rattle.thrift_value.specs.Trees.{Tree, truth, whole_8, whole_16, whole_32, whole_64, double, characters, structure, mapping_of_none, collection, sequence, unique_id, no_members, no_trees, one_tree, no_pairs, one_pair, kind_of, items_of, items_of_members, items_of_trees, items_of_pairs, depth_of}
use Rattle.protocol_traits.specs.declared.nest.Slot.{Slot}
use Rattle.protocol_traits.specs.declared.nest.Slot.TheVariants as slots
use Rattle.varint_zigzag.specs.Varint.{Spells}
use Rattle.compact_protocol.specs.Scan.{is_bool}
use Rattle.compact_protocol.specs.Grammar.{SpellsValue}
use Rattle.gate_base.specs.Bytes.{AreBytes}
use Rattle.binary_laws.proofs.Closing.{bytes_join, Closed}
use Rattle.compact_laws.proofs.Levels.{IsTree, IsFieldValue, AreFields, AreElements, ArePairs, Both, Level, Ends, Outer}
use Rattle.compact_laws.proofs.Unique.{told_kind}

-- the least value of a kind
record Least (k : Kind) : Type 0 where
  t : Tree
  bytes : List ℕ
  are : AreBytes bytes
  kind : kind_of t ≡ k
  spells : SpellsValue t bytes
  deep : depth_of t ≤ 1

z : 0 < 256
z = omega arith

one_small : AreBytes (0 ∷ [])
one_small = (z, tt)

eight_small : AreBytes (0 ∷ 0 ∷ 0 ∷ 0 ∷ 0 ∷ 0 ∷ 0 ∷ 0 ∷ [])
eight_small = (z, (z, (z, (z, (z, (z, (z, (z, tt))))))))

zero_16 : Spells 5 16 (0 ∷ []) 0
zero_16 = record { form = (omega arith, refl); within = omega arith; fits = omega arith }

pub zero_32 : Spells 5 32 (0 ∷ []) 0
zero_32 = record { form = (omega arith, refl); within = omega arith; fits = omega arith }

zero_64 : Spells 10 64 (0 ∷ []) 0
zero_64 = record { form = (omega arith, refl); within = omega arith; fits = omega arith }

least : (k : Kind) → Least k
least kinds.Bool = record { t = truth false; bytes = 2 ∷ []; are = (omega arith, tt); kind = refl; spells = (2, inl refl, refl); deep = omega arith }
least kinds.I8 = record { t = whole_8 (pos 0); bytes = 0 ∷ []; are = one_small; kind = refl; spells = (omega (arith, ints), refl); deep = omega arith }
least kinds.I16 = record { t = whole_16 (pos 0); bytes = 0 ∷ []; are = one_small; kind = refl; spells = (omega (arith, ints), zero_16); deep = omega arith }
least kinds.I32 = record { t = whole_32 (pos 0); bytes = 0 ∷ []; are = one_small; kind = refl; spells = (omega (arith, ints), zero_32); deep = omega arith }
least kinds.I64 = record { t = whole_64 (pos 0); bytes = 0 ∷ []; are = one_small; kind = refl; spells = (omega (arith, ints), zero_64); deep = omega arith }
least kinds.Double = record { t = double (0 ∷ 0 ∷ 0 ∷ 0 ∷ 0 ∷ 0 ∷ 0 ∷ 0 ∷ []); bytes = 0 ∷ 0 ∷ 0 ∷ 0 ∷ 0 ∷ 0 ∷ 0 ∷ 0 ∷ []; are = eight_small; kind = refl; spells = (refl, refl); deep = omega arith }
least kinds.Str = record { t = characters []; bytes = 0 ∷ []; are = one_small; kind = refl; spells = (0 ∷ [], (omega arith, zero_32), refl); deep = omega arith }
least kinds.Struct = record { t = structure no_members; bytes = 0 ∷ []; are = one_small; kind = refl; spells = refl; deep = omega arith }
least kinds.Map = record { t = mapping_of_none; bytes = 0 ∷ []; are = one_small; kind = refl; spells = (omega arith, zero_32); deep = omega arith }
least kinds.Set = record { t = collection kinds.I8 no_trees; bytes = 3 ∷ []; are = (omega arith, tt); kind = refl; spells = (omega arith, (3 ∷ [], [], (3, refl, inl (omega arith, refl)), refl, refl)); deep = omega arith }
least kinds.List = record { t = sequence kinds.I8 no_trees; bytes = 3 ∷ []; are = (omega arith, tt); kind = refl; spells = (omega arith, (3 ∷ [], [], (3, refl, inl (omega arith, refl)), refl, refl)); deep = omega arith }
least kinds.Uuid = record { t = unique_id (0 ∷ 0 ∷ 0 ∷ 0 ∷ 0 ∷ 0 ∷ 0 ∷ 0 ∷ 0 ∷ 0 ∷ 0 ∷ 0 ∷ 0 ∷ 0 ∷ 0 ∷ 0 ∷ []); bytes = 0 ∷ 0 ∷ 0 ∷ 0 ∷ 0 ∷ 0 ∷ 0 ∷ 0 ∷ 0 ∷ 0 ∷ 0 ∷ 0 ∷ 0 ∷ 0 ∷ 0 ∷ 0 ∷ []; are = bytes_join (0 ∷ 0 ∷ 0 ∷ 0 ∷ 0 ∷ 0 ∷ 0 ∷ 0 ∷ []) (0 ∷ 0 ∷ 0 ∷ 0 ∷ 0 ∷ 0 ∷ 0 ∷ 0 ∷ []) eight_small eight_small; kind = refl; spells = (refl, refl); deep = omega arith }

module _ (d : ℕ) (most : d ≤ 256) where
  no_fields : (last : ℤ) → Closed (AreFields 257 d last)
  no_fields last = record { items = items_of_members no_members; bytes = 0 ∷ []; are = one_small; closes = record { ms = no_members; spells = refl; is = refl; deep = omega arith } }

  a_value : (k : Kind) → Closed (IsTree 257 d k)
  a_value k = let l = least k in let deep = l.deep in record { items = items_of l.t; bytes = l.bytes; are = l.are; closes = record { t = l.t; kind = l.kind; spells = l.spells; is = refl; deep = omega arith } }

  told_value : (flag : Bool) → Closed (IsFieldValue 257 d kinds.Bool flag)
  told_value flag = record { items = items_of (truth flag); bytes = []; are = tt; closes = record { t = truth flag; kind = refl; spells = inl (refl, refl); is = refl; deep = omega arith } }

  plain_value : (k : Kind) (flag : Bool) → is_bool k ≡ false → Closed (IsFieldValue 257 d k flag)
  plain_value k flag not =
      let l = least k in
      let deep = l.deep in
      record { items = items_of l.t; bytes = l.bytes; are = l.are; closes = record { t = l.t; kind = l.kind; spells = inr (told_kind l.t ∙ ap is_bool l.kind ∙ not, l.spells); is = refl; deep = omega arith } }

  field_value : (k : Kind) (flag : Bool) → Closed (IsFieldValue 257 d k flag)
  field_value kinds.Bool flag = told_value flag
  field_value kinds.I8 flag = plain_value kinds.I8 flag refl
  field_value kinds.I16 flag = plain_value kinds.I16 flag refl
  field_value kinds.I32 flag = plain_value kinds.I32 flag refl
  field_value kinds.I64 flag = plain_value kinds.I64 flag refl
  field_value kinds.Double flag = plain_value kinds.Double flag refl
  field_value kinds.Str flag = plain_value kinds.Str flag refl
  field_value kinds.Struct flag = plain_value kinds.Struct flag refl
  field_value kinds.Map flag = plain_value kinds.Map flag refl
  field_value kinds.Set flag = plain_value kinds.Set flag refl
  field_value kinds.List flag = plain_value kinds.List flag refl
  field_value kinds.Uuid flag = plain_value kinds.Uuid flag refl

  both : (A B : List Item → List ℕ → Type 0) → Closed A → Closed B → Closed (Both A B)
  both A B a b = record { items = a.items ++ b.items; bytes = a.bytes ++ b.bytes; are = bytes_join a.bytes b.bytes a.are b.are; closes = record { first = a.items; second = b.items; front = a.bytes; back = b.bytes; one = a.closes; two = b.closes; is = refl; laid = refl } }

  elements : (k : Kind) (left : ℕ) → Closed (AreElements 257 k left d)
  elements k zero = record { items = items_of_trees no_trees; bytes = []; are = tt; closes = record { ts = no_trees; count = refl; spells = refl; is = refl; deep = omega arith } }
  elements k (suc n) =
      let e = elements k n in
      let l = least k in
      let c = e.closes in
      let count = c.count in
      let deep = c.deep in
      let flat = l.deep in
      record {
        items = items_of l.t ++ e.items;
        bytes = l.bytes ++ e.bytes;
        are = bytes_join l.bytes e.bytes l.are e.are;
        closes = record { ts = one_tree l.t c.ts; count = omega arith; spells = (l.kind, (l.bytes, e.bytes, l.spells, c.spells, refl)); is = ap (λ x. items_of l.t ++ x) c.is; deep = omega arith };
      }

  pairs : (key value : Kind) (left : ℕ) → Closed (ArePairs 257 key value left d)
  pairs key value zero = record { items = items_of_pairs no_pairs; bytes = []; are = tt; closes = record { ps = no_pairs; count = refl; spells = refl; is = refl; deep = omega arith } }
  pairs key value (suc n) =
      let e = pairs key value n in
      let l = least key in
      let v = least value in
      let c = e.closes in
      let count = c.count in
      let deep = c.deep in
      let flat = l.deep in
      let shallow = v.deep in
      record {
        items = items_of l.t ++ (items_of v.t ++ e.items);
        bytes = l.bytes ++ (v.bytes ++ e.bytes);
        are = bytes_join l.bytes (v.bytes ++ e.bytes) l.are (bytes_join v.bytes e.bytes v.are e.are);
        closes = record {
          ps = one_pair l.t v.t c.ps;
          count = omega arith;
          spells = (l.kind, v.kind, (l.bytes, v.bytes, e.bytes, l.spells, v.spells, c.spells, refl));
          is = ap (λ x. items_of l.t ++ (items_of v.t ++ x)) c.is;
          deep = omega arith;
        };
      }

  level_closed : (slot : Slot) (flag : Bool) → Closed (Level 257 flag slot d)
  level_closed (slots.Fields last) flag = no_fields last
  level_closed (slots.Value k id) flag = both (IsFieldValue 257 d k flag) (AreFields 257 d id) (field_value k flag) (no_fields id)
  level_closed (slots.Elements k left) flag = elements k left
  level_closed (slots.Keys key value left) flag = pairs key value left
  level_closed (slots.Values key value left) flag = both (IsTree 257 d value) (ArePairs 257 key value (left - 1) d) (a_value value) (pairs key value (left - 1))

any_told : (nest : List Slot) → Closed (Ends 257 true nest) → Closed (Outer 257 nest)
any_told nest c = record { items = c.items; bytes = c.bytes; are = c.are; closes = (true, c.closes) }

pub nest_closed : (nest : List Slot) (flag : Bool) → length nest ≤ 256 → Closed (Ends 257 flag nest)
nest_closed [] flag most = record { items = []; bytes = []; are = tt; closes = (refl, refl) }
nest_closed (slot ∷ up) flag most = both (suc (length up)) most (Level 257 flag slot (suc (length up))) (Outer 257 up) (level_closed (suc (length up)) most slot flag) (any_told up (nest_closed up true (omega arith)))
