-- What is open is closed: by the least values that it still calls for.
use Rattle.std.proofs.Common.{◌≡◌, ℕ, pos, false, zero, suc, ◌-◌, ◌<◌, ◌≤◌, List, [], ◌∷◌, ◌++◌, length, refl, ap, arith, inl}
use Rattle.std.specs.Int.{w8, w16, w32, w64}
use Rattle.std.proofs.lemmas.Int.{ints}
use Rattle.thrift_value.specs.declared.kind.Kind.{Kind}
use Rattle.thrift_value.specs.declared.kind.Kind.TheVariants as kinds
use Rattle.thrift_value.specs.Items.{Item}
use Rattle.thrift_value.specs.Trees.{Tree, truth, whole_8, whole_16, whole_32, whole_64, double, characters, structure, mapping_of_none, collection, sequence, unique_id, no_members, no_trees, one_tree, no_pairs, one_pair, kind_of, items_of, items_of_members, items_of_trees, items_of_pairs, depth_of}
use Rattle.protocol_traits.specs.declared.nest.Slot.{Slot}
use Rattle.protocol_traits.specs.declared.nest.Slot.TheVariants as slots
use Rattle.binary_protocol.specs.Grammar.{number, size, string, SpellsValue}
use Rattle.gate_base.specs.Bytes.{AreBytes}
use Rattle.binary_laws.proofs.Levels.{IsTree, AreFields, AreElements, ArePairs, Both, Level, Ends}

pub bytes_join : (xs ys : List ℕ) → AreBytes xs → AreBytes ys → AreBytes (xs ++ ys)
bytes_join [] ys a b = b
bytes_join (x ∷ xs) ys a b = (a.0, bytes_join xs ys a.1 b)

-- the least value of a kind
record Least (k : Kind) : Type 0 where
  t : Tree
  bytes : List ℕ
  are : AreBytes bytes
  kind : kind_of t ≡ k
  spells : SpellsValue t bytes
  deep : depth_of t ≤ 1

z : 0 < 256
z = omega arith

four_small : AreBytes (0 ∷ 0 ∷ 0 ∷ 0 ∷ [])
four_small = (z, (z, (z, (z, tt))))

eight_small : AreBytes (0 ∷ 0 ∷ 0 ∷ 0 ∷ 0 ∷ 0 ∷ 0 ∷ 0 ∷ [])
eight_small = bytes_join (0 ∷ 0 ∷ 0 ∷ 0 ∷ []) (0 ∷ 0 ∷ 0 ∷ 0 ∷ []) four_small four_small

least : (k : Kind) → Least k
least kinds.Bool = record { t = truth false; bytes = 0 ∷ []; are = (z, tt); kind = refl; spells = refl; deep = omega arith }
least kinds.I8 = record { t = whole_8 (pos 0); bytes = number w8 (pos 0); are = (z, tt); kind = refl; spells = (omega (arith, ints), refl); deep = omega arith }
least kinds.I16 = record { t = whole_16 (pos 0); bytes = number w16 (pos 0); are = (z, (z, tt)); kind = refl; spells = (omega (arith, ints), refl); deep = omega arith }
least kinds.I32 = record { t = whole_32 (pos 0); bytes = number w32 (pos 0); are = four_small; kind = refl; spells = (omega (arith, ints), refl); deep = omega arith }
least kinds.I64 = record { t = whole_64 (pos 0); bytes = number w64 (pos 0); are = eight_small; kind = refl; spells = (omega (arith, ints), refl); deep = omega arith }
least kinds.Double = record { t = double (0 ∷ 0 ∷ 0 ∷ 0 ∷ 0 ∷ 0 ∷ 0 ∷ 0 ∷ []); bytes = 0 ∷ 0 ∷ 0 ∷ 0 ∷ 0 ∷ 0 ∷ 0 ∷ 0 ∷ []; are = eight_small; kind = refl; spells = (refl, refl); deep = omega arith }
least kinds.Str = record { t = characters []; bytes = string []; are = four_small; kind = refl; spells = (omega arith, refl); deep = omega arith }
least kinds.Struct = record { t = structure no_members; bytes = 0 ∷ []; are = (z, tt); kind = refl; spells = refl; deep = omega arith }
least kinds.Map = record { t = mapping_of_none; bytes = 0 ∷ 0 ∷ size 0; are = (z, (z, four_small)); kind = refl; spells = (0, 0, inl refl, inl refl, refl); deep = omega arith }
least kinds.Set = record { t = collection kinds.I8 no_trees; bytes = 3 ∷ size 0; are = (omega arith, four_small); kind = refl; spells = (omega arith, ([], refl, refl)); deep = omega arith }
least kinds.List = record { t = sequence kinds.I8 no_trees; bytes = 3 ∷ size 0; are = (omega arith, four_small); kind = refl; spells = (omega arith, ([], refl, refl)); deep = omega arith }
least kinds.Uuid = record { t = unique_id (0 ∷ 0 ∷ 0 ∷ 0 ∷ 0 ∷ 0 ∷ 0 ∷ 0 ∷ 0 ∷ 0 ∷ 0 ∷ 0 ∷ 0 ∷ 0 ∷ 0 ∷ 0 ∷ []); bytes = 0 ∷ 0 ∷ 0 ∷ 0 ∷ 0 ∷ 0 ∷ 0 ∷ 0 ∷ 0 ∷ 0 ∷ 0 ∷ 0 ∷ 0 ∷ 0 ∷ 0 ∷ 0 ∷ []; are = bytes_join (0 ∷ 0 ∷ 0 ∷ 0 ∷ 0 ∷ 0 ∷ 0 ∷ 0 ∷ []) (0 ∷ 0 ∷ 0 ∷ 0 ∷ 0 ∷ 0 ∷ 0 ∷ 0 ∷ []) eight_small eight_small; kind = refl; spells = (refl, refl); deep = omega arith }

-- some bytes close what is open
pub record Closed (A : List Item → List ℕ → Type 0) : Type 0 where
  pub items : List Item
  pub bytes : List ℕ
  pub are : AreBytes bytes
  pub closes : A items bytes

module _ (d : ℕ) (most : d ≤ 256) where
  no_fields : Closed (AreFields 257 d)
  no_fields = record { items = items_of_members no_members; bytes = 0 ∷ []; are = (z, tt); closes = record { ms = no_members; spells = refl; is = refl; deep = omega arith } }

  a_value : (k : Kind) → Closed (IsTree 257 d k)
  a_value k = let l = least k in let deep = l.deep in record { items = items_of l.t; bytes = l.bytes; are = l.are; closes = record { t = l.t; kind = l.kind; spells = l.spells; is = refl; deep = omega arith } }

  both : (A B : List Item → List ℕ → Type 0) → Closed A → Closed B → Closed (Both A B)
  both A B a b = record { items = a.items ++ b.items; bytes = a.bytes ++ b.bytes; are = bytes_join a.bytes b.bytes a.are b.are; closes = record { first = a.items; second = b.items; front = a.bytes; back = b.bytes; one = a.closes; two = b.closes; is = refl; laid = refl } }

  elements : (k : Kind) (left : ℕ) → Closed (AreElements 257 k left d)
  elements k zero = record { items = items_of_trees no_trees; bytes = []; are = tt; closes = record { ts = no_trees; count = refl; spells = refl; is = refl; deep = omega arith } }
  elements k (suc n) =
      let e = elements k n in
      let l = least k in
      let c = e.closes in
      let count = c.count in
      let deep = c.deep in
      let flat = l.deep in
      record {
        items = items_of l.t ++ e.items;
        bytes = l.bytes ++ e.bytes;
        are = bytes_join l.bytes e.bytes l.are e.are;
        closes = record { ts = one_tree l.t c.ts; count = omega arith; spells = (l.kind, (l.bytes, e.bytes, l.spells, c.spells, refl)); is = ap (λ x. items_of l.t ++ x) c.is; deep = omega arith };
      }

  pairs : (key value : Kind) (left : ℕ) → Closed (ArePairs 257 key value left d)
  pairs key value zero = record { items = items_of_pairs no_pairs; bytes = []; are = tt; closes = record { ps = no_pairs; count = refl; spells = refl; is = refl; deep = omega arith } }
  pairs key value (suc n) =
      let e = pairs key value n in
      let l = least key in
      let v = least value in
      let c = e.closes in
      let count = c.count in
      let deep = c.deep in
      let flat = l.deep in
      let shallow = v.deep in
      record {
        items = items_of l.t ++ (items_of v.t ++ e.items);
        bytes = l.bytes ++ (v.bytes ++ e.bytes);
        are = bytes_join l.bytes (v.bytes ++ e.bytes) l.are (bytes_join v.bytes e.bytes v.are e.are);
        closes = record {
          ps = one_pair l.t v.t c.ps;
          count = omega arith;
          spells = (l.kind, v.kind, (l.bytes, v.bytes, e.bytes, l.spells, v.spells, c.spells, refl));
          is = ap (λ x. items_of l.t ++ (items_of v.t ++ x)) c.is;
          deep = omega arith;
        };
      }

  level_closed : (slot : Slot) → Closed (Level 257 slot d)
  level_closed (slots.Fields last) = no_fields
  level_closed (slots.Value k id) = both (IsTree 257 d k) (AreFields 257 d) (a_value k) no_fields
  level_closed (slots.Elements k left) = elements k left
  level_closed (slots.Keys key value left) = pairs key value left
  level_closed (slots.Values key value left) = both (IsTree 257 d value) (ArePairs 257 key value (left - 1) d) (a_value value) (pairs key value (left - 1))

pub nest_closed : (nest : List Slot) → length nest ≤ 256 → Closed (Ends 257 nest)
nest_closed [] most = record { items = []; bytes = []; are = tt; closes = (refl, refl) }
nest_closed (slot ∷ up) most = both (suc (length up)) most (Level 257 slot (suc (length up))) (Ends 257 up) (level_closed (suc (length up)) most slot) (nest_closed up (omega arith))
