-- What is open is closed: by the least values that it still calls for.
use Rattle.std.proofs.Common.{◌≡◌, ℕ, zero, suc, ◌-◌, ◌≤◌, Bool, true, false, List, [], ◌∷◌, ◌++◌, length, refl, ap, ◌∙◌, sym, arith}
use Rattle.thrift_value.specs.declared.kind.Kind.{Kind}
use Rattle.thrift_value.specs.Items.{Item}
use Rattle.thrift_value.specs.Trees.{no_members, no_trees, one_tree, no_pairs, one_pair, items_of, items_of_members, items_of_trees, items_of_pairs}
use Rattle.protocol_traits.specs.declared.nest.Slot.{Slot}
use Rattle.protocol_traits.specs.declared.nest.Slot.TheVariants as slots
use Rattle.type_tables.specs.declared.declared.Ty.{Ty}
use Rattle.type_tables.specs.Declarations.{Declarations}
use Rattle.type_walk.specs.declared.levels.Level.{Level as Walked}
use Rattle.type_walk.specs.Positions.{under}
use Rattle.json_protocol.specs.declared.opening.Opening.{Opening}
use Rattle.json_protocol.specs.declared.opening.Opening.TheVariants as openings
use Rattle.json_protocol.specs.Grammar.{Tokens, mark, comma, IsNamed}
use Rattle.json_laws.specs.Positions.{field_of, element_of, key_of, value_of}
use Rattle.json_laws.specs.Fronts.{field_leading, is_first}
use Rattle.json_laws.proofs.Trees.{tokens_append, pair_leading}
use Rattle.json_laws.proofs.Levels.{Both, IsTree, AreFields, AreElements, ArePairs, FieldsLeft, PairsLeft, Level, Ends}
use Rattle.json_laws.proofs.Stepping.{AreTied, TopTied}
use Rattle.json_laws.proofs.Named.{AreNamed, named_up}
use Rattle.json_laws.proofs.ItemsCut.{SmallValue, least}

-- some tokens close what is open
pub record Closed (A : List Item → Tokens → Type 0) : Type 0 where
  pub items : List Item
  pub tokens : Tokens
  pub closes : A items tokens

-- a message of one level more than the reader takes
abbrev pub deepest : ℕ
deepest = 257

module _ (d : Declarations) where
  -- a small value inside so many levels
  pub tree_of : (depth : ℕ) (key : Bool) (ty : Ty) (k : Kind) → depth ≤ 256 → (v : SmallValue d key ty k) → IsTree d deepest depth key ty k (items_of v.t) v.tokens
  tree_of depth key ty k most v = let flat = v.flat in record { t = v.t; kind = v.kind; value = v.value; spells = v.spells; is = refl; deep = omega arith }

  module _ (depth : ℕ) (most : depth ≤ 256) where
    a_value : (key : Bool) (ty : Ty) (k : Kind) → IsNamed k → Closed (IsTree d deepest depth key ty k)
    a_value key ty k named = let v = least d key ty k named in record { items = items_of v.t; tokens = v.tokens; closes = tree_of depth key ty k most v }

    no_fields : (first : Bool) (ty : Ty) → AreFields d deepest depth first ty (items_of_members no_members) (mark 125 ∷ [])
    no_fields first ty = record { ms = no_members; are = tt; inner = []; spells = refl; laid = refl; is = refl; deep = omega arith }

    fields : (opening : Opening) (ty : Ty) → Closed (FieldsLeft d deepest opening depth ty)
    fields opening ty = record { items = items_of_members no_members; tokens = field_leading opening (mark 125 ∷ []); closes = (mark 125 ∷ [], refl, no_fields (is_first opening) ty) }

    elements : (ty : Ty) (k : Kind) → IsNamed k → (left : ℕ) → Closed (AreElements d deepest depth ty k left)
    elements ty k named zero = record { items = items_of_trees no_trees; tokens = mark 93 ∷ []; closes = record { ts = no_trees; count = refl; are = tt; inner = []; spells = refl; laid = refl; is = refl; deep = omega arith } }
    elements ty k named (suc n) =
        let e = elements ty k named n in
        let v = a_value false (under (element_of d ty) k) k named in
        let t = v.closes in
        let c = e.closes in
        let count = c.count in
        record {
          items = v.items ++ e.items;
          tokens = mark 44 ∷ (v.tokens ++ e.tokens);
          closes = record {
            ts = one_tree t.t c.ts;
            count = omega arith;
            are = (t.kind, t.value, c.are);
            inner = mark 44 ∷ (v.tokens ++ c.inner);
            spells = (v.tokens, c.inner, t.spells, c.spells, refl);
            laid = ap (λ l. mark 44 ∷ (v.tokens ++ l)) c.laid ∙ ap (λ l. mark 44 ∷ l) (sym (tokens_append v.tokens c.inner (mark 93 ∷ [])));
            is = ap (λ l. l ++ e.items) t.is ∙ ap (λ l. items_of t.t ++ l) c.is;
            deep = omega (arith, t.deep, c.deep);
          };
        }

    pairs : (ty : Ty) (k v : Kind) → IsNamed k → IsNamed v → (first : Bool) (left : ℕ) → Closed (ArePairs d deepest depth first ty k v left)
    pairs ty k v key value first zero = record { items = items_of_pairs no_pairs; tokens = mark 125 ∷ mark 93 ∷ []; closes = record { ps = no_pairs; count = refl; are = tt; inner = []; spells = refl; laid = refl; is = refl; deep = omega arith } }
    pairs ty k v key value first (suc n) =
        let e = pairs ty k v key value false n in
        let x = a_value true (under (key_of d ty) k) k key in
        let y = a_value false (under (value_of d ty) v) v value in
        let s = x.closes in
        let t = y.closes in
        let c = e.closes in
        let count = c.count in
        let ends = mark 125 ∷ mark 93 ∷ [] in
        record {
          items = x.items ++ (y.items ++ e.items);
          tokens = comma first ++ (x.tokens ++ (mark 58 ∷ (y.tokens ++ e.tokens)));
          closes = record {
            ps = one_pair s.t t.t c.ps;
            count = omega arith;
            are = (s.kind, t.kind, s.value, t.value, c.are);
            inner = comma first ++ (x.tokens ++ (mark 58 ∷ (y.tokens ++ c.inner)));
            spells = (x.tokens, y.tokens, c.inner, s.spells, t.spells, c.spells, refl);
            laid =
                ap (λ l. comma first ++ (x.tokens ++ (mark 58 ∷ (y.tokens ++ l)))) c.laid
                ∙ ap (λ l. comma first ++ (x.tokens ++ (mark 58 ∷ l))) (sym (tokens_append y.tokens c.inner ends))
                ∙ ap (λ l. comma first ++ l) (sym (tokens_append x.tokens (mark 58 ∷ (y.tokens ++ c.inner)) ends))
                ∙ sym (tokens_append (comma first) (x.tokens ++ (mark 58 ∷ (y.tokens ++ c.inner))) ends);
            is = ap (λ l. l ++ (y.items ++ e.items)) s.is ∙ ap (λ l. items_of s.t ++ (l ++ e.items)) t.is ∙ ap (λ l. items_of s.t ++ (items_of t.t ++ l)) c.is;
            deep = omega (arith, s.deep, t.deep, c.deep);
          };
        }

    pairs_left : (opening : Opening) (ty : Ty) (k v : Kind) → IsNamed k → IsNamed v → (left : ℕ) → Closed (PairsLeft d deepest opening depth ty k v left)
    pairs_left opening ty k v key value left = let p = pairs ty k v key value (is_first opening) left in record { items = p.items; tokens = pair_leading opening p.tokens; closes = (p.tokens, refl, p.closes) }

    -- a value, and what its level holds behind it
    two : (A B : List Item → Tokens → Type 0) (a : Closed A) (b : Closed B) → Both A B (a.items ++ b.items) (a.tokens ++ b.tokens)
    two A B a b = record { first = a.items; second = b.items; front = a.tokens; back = b.tokens; one = a.closes; two = b.closes; is = refl; laid = refl }

    pub level_closed : (opening : Opening) (ty : Ty) (slot : Slot) (up : List Slot) → AreNamed (slot ∷ up) → Closed (Level d deepest opening ty slot depth)
    level_closed opening ty (slots.Fields last) up named = fields opening ty
    level_closed opening ty (slots.Value k id) up named =
        let a = a_value false (under (field_of d ty id) k) k named.0 in
        let b = fields openings.Old ty in
        record { items = a.items ++ b.items; tokens = mark 58 ∷ (a.tokens ++ b.tokens); closes = (a.tokens ++ b.tokens, refl, two (IsTree d deepest depth false (under (field_of d ty id) k) k) (FieldsLeft d deepest openings.Old depth ty) a b) }
    level_closed opening ty (slots.Elements k left) up named = elements ty k named.0 left
    level_closed opening ty (slots.Keys k v left) up named = pairs_left opening ty k v named.0 named.1 left
    level_closed opening ty (slots.Values k v left) up named =
        let a = a_value false (under (value_of d ty) v) v named.1 in
        let b = pairs_left openings.Old ty k v named.0 named.1 (left - 1) in
        record {
          items = a.items ++ b.items;
          tokens = mark 58 ∷ (a.tokens ++ b.tokens);
          closes = (a.tokens ++ b.tokens, refl, two (IsTree d deepest depth false (under (value_of d ty) v) v) (PairsLeft d deepest openings.Old depth ty k v (left - 1)) a b);
        }

  pub nest_closed : (opening : Opening) (nest : List Slot) (tys : List Ty) → length tys ≡ length nest → length nest ≤ 256 → AreNamed nest → Closed (Ends d deepest opening nest tys)
  nest_closed opening [] [] long most named = record { items = []; tokens = mark 93 ∷ []; closes = (refl, refl) }
  nest_closed opening [] (ty ∷ tys) long most named = absurd (omega arith)
  nest_closed opening (slot ∷ up) [] long most named = absurd (omega arith)
  nest_closed opening (slot ∷ up) (ty ∷ tys) long most named =
      let a = level_closed (suc (length up)) most opening ty slot up named in
      let b = nest_closed openings.Old up tys (omega arith) (omega arith) (named_up slot up named) in
      record { items = a.items ++ b.items; tokens = a.tokens ++ b.tokens; closes = two (suc (length up)) most (Level d deepest opening ty slot (suc (length up))) (Ends d deepest openings.Old up tys) a b }

  -- as many types as levels
  are_long : (nest : List Slot) (levels : List Walked) (tys : List Ty) → AreTied d nest levels tys → length tys ≡ length nest
  are_long [] [] [] t = refl
  are_long [] (level ∷ levels) tys t = absurd t
  are_long [] [] (ty ∷ tys) t = absurd t
  are_long (slots.Value k id ∷ up) levels tys t = absurd t
  are_long (slots.Fields last ∷ up) [] tys t = absurd t
  are_long (slots.Fields last ∷ up) (level ∷ levels) [] t = absurd t
  are_long (slots.Fields last ∷ up) (level ∷ levels) (ty ∷ tys) t = ap suc (are_long up levels tys t.1)
  are_long (slots.Elements k left ∷ up) [] tys t = absurd t
  are_long (slots.Elements k left ∷ up) (level ∷ levels) [] t = absurd t
  are_long (slots.Elements k left ∷ up) (level ∷ levels) (ty ∷ tys) t = ap suc (are_long up levels tys t.1)
  are_long (slots.Keys k v left ∷ up) [] tys t = absurd t
  are_long (slots.Keys k v left ∷ up) (level ∷ levels) [] t = absurd t
  are_long (slots.Keys k v left ∷ up) (level ∷ levels) (ty ∷ tys) t = ap suc (are_long up levels tys t.1)
  are_long (slots.Values k v left ∷ up) [] tys t = absurd t
  are_long (slots.Values k v left ∷ up) (level ∷ levels) [] t = absurd t
  are_long (slots.Values k v left ∷ up) (level ∷ levels) (ty ∷ tys) t = ap suc (are_long up levels tys t.1)

  pub tied_long : (nest : List Slot) (levels : List Walked) (tys : List Ty) → TopTied d nest levels tys → length tys ≡ length nest
  tied_long [] [] [] t = refl
  tied_long [] (level ∷ levels) tys t = absurd t
  tied_long [] [] (ty ∷ tys) t = absurd t
  tied_long (slot ∷ up) [] tys t = absurd t
  tied_long (slot ∷ up) (level ∷ levels) [] t = absurd t
  tied_long (slot ∷ up) (level ∷ levels) (ty ∷ tys) t = ap suc (are_long up levels tys t.1)
