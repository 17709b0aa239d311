-- What the open levels still hold, by the grammar: their items and their tokens.
use Rattle.std.proofs.Common.{◌≡◌, ℕ, ℤ, suc, ◌+◌, ◌-◌, ◌<◌, ◌≤◌, Bool, true, false, List, [], ◌∷◌, ◌++◌, length, refl, ap, ◌∙◌, sym, subst, arith}
use Rattle.thrift_value.specs.declared.kind.Kind.{Kind}
use Rattle.std.specs.Prelude.{FitsSigned}
use Rattle.std.specs.Int.{w16}
use Rattle.thrift_value.specs.Items.{Item, field}
use Rattle.thrift_value.specs.Trees.{Tree, Members, one_member, Trees, one_tree, Pairs, one_pair, kind_of, count_of_trees, count_of_pairs, items_of, items_of_members, items_of_trees, items_of_pairs, depth_of, depth_of_members, depth_of_trees, depth_of_pairs, IsValue, AreMembers, AreAll, ArePairs as HavePairs}
use Rattle.protocol_traits.specs.declared.nest.Slot.{Slot}
use Rattle.protocol_traits.specs.declared.nest.Slot.TheVariants as slots
use Rattle.protocol_traits.specs.Stack.{first_of}
use Rattle.protocol_traits.specs.Follow.{spent}
use Rattle.type_tables.specs.declared.declared.Ty.{Ty}
use Rattle.type_tables.specs.declared.declared.Ty.TheVariants as types
use Rattle.type_tables.specs.Declarations.{Declarations}
use Rattle.type_walk.specs.Positions.{under}
use Rattle.json_protocol.specs.declared.opening.Opening.{Opening}
use Rattle.json_protocol.specs.declared.opening.Opening.TheVariants as openings
use Rattle.json_text.specs.Grammar.{SpellsInt}
use Rattle.json_protocol.specs.Writing.{quoted, is_key}
use Rattle.json_protocol.specs.Grammar.{Tokens, mark, comma, name_token, IsNamed, Spells, SpellsMembers, SpellsTrees, SpellsPairs}
use Rattle.binary_laws.proofs.Walking.{CallsFor}
use Rattle.json_laws.specs.Positions.{declared_of, field_of, element_of, key_of, value_of}
use Rattle.json_laws.specs.Fronts.{leading, field_leading, is_first}
use Rattle.json_laws.proofs.Trees.{tokens_append, pair_leading, pair_leads}

items_append : (a b c : List Item) → (a ++ b) ++ c ≡ a ++ (b ++ c)
items_append [] b c = refl
items_append (x ∷ a) b c = ap (λ t. x ∷ t) (items_append a b c)

-- one thing behind another
pub record Both (A B : List Item → Tokens → Type 0) (items : List Item) (tokens : Tokens) : Type 0 where
  pub first : List Item
  pub second : List Item
  pub front : Tokens
  pub back : Tokens
  pub one : A first front
  pub two : B second back
  pub is : items ≡ first ++ second
  pub laid : tokens ≡ front ++ back

-- what is put in front of the first of two things, behind some marks
in_front : (A B C : List Item → Tokens → Type 0) (items others : List Item) (marks tokens rest : Tokens) → Both A C others rest → ((mine : List Item) (a : Tokens) → A mine a → B (items ++ mine) (marks ++ (tokens ++ a)))
    → Both B C (items ++ others) (marks ++ (tokens ++ rest))
in_front A B C items others marks tokens rest b f = record {
  first = items ++ b.first;
  second = b.second;
  front = marks ++ (tokens ++ b.front);
  back = b.back;
  one = f b.first b.front b.one;
  two = b.two;
  is = ap (λ l. items ++ l) b.is ∙ sym (items_append items b.first b.second);
  laid = ap (λ l. marks ++ (tokens ++ l)) b.laid ∙ ap (λ l. marks ++ l) (sym (tokens_append tokens b.front b.back)) ∙ sym (tokens_append marks (tokens ++ b.front) b.back);
}

module _ (d : Declarations) where
  -- the type of the value that the innermost level calls for
  abbrev pub value_type : List Slot → List Ty → Ty
  value_type (slots.Value k id ∷ up) (ty ∷ tys) = under (field_of d ty id) k
  value_type (slots.Elements k left ∷ up) (ty ∷ tys) = under (element_of d ty) k
  value_type (slots.Keys k v left ∷ up) (ty ∷ tys) = under (key_of d ty) k
  value_type (slots.Values k v left ∷ up) (ty ∷ tys) = under (value_of d ty) v
  value_type nest tys = types.Unknown

-- a message of so many levels at most
module _ (d : Declarations) (limit : ℕ) where
  -- a value of this kind inside so many levels
  pub record IsTree (depth : ℕ) (key : Bool) (ty : Ty) (k : Kind) (items : List Item) (tokens : Tokens) : Type 0 where
    pub t : Tree
    pub kind : kind_of t ≡ k
    pub value : IsValue t
    pub spells : Spells (declared_of d) key ty t tokens
    pub is : items ≡ items_of t
    pub deep : depth_of t + depth ≤ limit

  pub record AreFields (depth : ℕ) (first : Bool) (ty : Ty) (items : List Item) (tokens : Tokens) : Type 0 where
    pub ms : Members
    pub are : AreMembers ms
    pub inner : Tokens
    pub spells : SpellsMembers (declared_of d) first ty ms inner
    pub laid : tokens ≡ inner ++ mark 125 ∷ []
    pub is : items ≡ items_of_members ms
    pub deep : depth_of_members ms + depth ≤ limit

  pub record AreElements (depth : ℕ) (ty : Ty) (k : Kind) (left : ℕ) (items : List Item) (tokens : Tokens) : Type 0 where
    pub ts : Trees
    pub count : count_of_trees ts ≡ left
    pub are : AreAll k ts
    pub inner : Tokens
    pub spells : SpellsTrees (declared_of d) ty k ts inner
    pub laid : tokens ≡ inner ++ mark 93 ∷ []
    pub is : items ≡ items_of_trees ts
    pub deep : depth_of_trees ts + depth ≤ limit

  pub record ArePairs (depth : ℕ) (first : Bool) (ty : Ty) (k v : Kind) (left : ℕ) (items : List Item) (tokens : Tokens) : Type 0 where
    pub ps : Pairs
    pub count : count_of_pairs ps ≡ left
    pub are : HavePairs k v ps
    pub inner : Tokens
    pub spells : SpellsPairs (declared_of d) first ty k v ps inner
    pub laid : tokens ≡ inner ++ (mark 125 ∷ mark 93 ∷ [])
    pub is : items ≡ items_of_pairs ps
    pub deep : depth_of_pairs ps + depth ≤ limit

  -- with the marks before them
  abbrev pub FieldsLeft : Opening → ℕ → Ty → List Item → Tokens → Type 0
  FieldsLeft opening depth ty items tokens = (rest : Tokens) × (tokens ≡ field_leading opening rest) × AreFields depth (is_first opening) ty items rest

  abbrev pub PairsLeft : Opening → ℕ → Ty → Kind → Kind → ℕ → List Item → Tokens → Type 0
  PairsLeft opening depth ty k v left items tokens = (rest : Tokens) × (tokens ≡ pair_leading opening rest) × ArePairs depth (is_first opening) ty k v left items rest

  -- what one level still holds, where it has this type
  abbrev pub Level : Opening → Ty → Slot → ℕ → List Item → Tokens → Type 0
  Level opening ty (slots.Fields last) depth items tokens = FieldsLeft opening depth ty items tokens
  Level opening ty (slots.Value k id) depth items tokens =
      (rest : Tokens) × (tokens ≡ mark 58 ∷ rest) × Both (IsTree depth false (under (field_of d ty id) k) k) (FieldsLeft openings.Old depth ty) items rest
  Level opening ty (slots.Elements k left) depth items tokens = AreElements depth ty k left items tokens
  Level opening ty (slots.Keys k v left) depth items tokens = PairsLeft opening depth ty k v left items tokens
  Level opening ty (slots.Values k v left) depth items tokens =
      (rest : Tokens) × (tokens ≡ mark 58 ∷ rest) × Both (IsTree depth false (under (value_of d ty) v) v) (PairsLeft openings.Old depth ty k v (left - 1)) items rest

  -- and all levels, and the bracket that closes the message
  abbrev pub Ends : Opening → List Slot → List Ty → List Item → Tokens → Type 0
  Ends opening [] [] items tokens = (items ≡ []) × (tokens ≡ mark 93 ∷ [])
  Ends opening [] (ty ∷ tys) items tokens = ⊥
  Ends opening (slot ∷ up) [] items tokens = ⊥
  Ends opening (slot ∷ up) (ty ∷ tys) items tokens = Both (Level opening ty slot (suc (length up))) (Ends openings.Old up tys) items tokens

  -- a value in front of what a level holds
  to_elements : (depth : ℕ) (ty : Ty) (k : Kind) (left : ℕ) (items mine : List Item) (tokens a : Tokens) → IsTree depth false (under (element_of d ty) k) k items tokens → 0 < left → AreElements depth ty k (left - 1) mine a
      → AreElements depth ty k left (items ++ mine) (mark 44 ∷ (tokens ++ a))
  to_elements depth ty k left items mine tokens a v some e =
      let count = e.count in
      record {
        ts = one_tree v.t e.ts;
        count = omega arith;
        are = (v.kind, v.value, e.are);
        inner = mark 44 ∷ (tokens ++ e.inner);
        spells = (tokens, e.inner, v.spells, e.spells, refl);
        laid = ap (λ l. mark 44 ∷ (tokens ++ l)) e.laid ∙ ap (λ l. mark 44 ∷ l) (sym (tokens_append tokens e.inner (mark 93 ∷ [])));
        is = ap (λ l. l ++ mine) v.is ∙ ap (λ l. items_of v.t ++ l) e.is;
        deep = omega (arith, v.deep, e.deep);
      }

  to_pairs : (depth : ℕ) (opening : Opening) (ty : Ty) (k v : Kind) (left : ℕ) (up : List Slot) (items mine : List Item) (tokens a : Tokens) → IsTree depth true (under (key_of d ty) k) k items tokens → 0 < left
      → Level openings.Old ty (slots.Values k v left) depth mine a → PairsLeft opening depth ty k v left (items ++ mine) (leading opening (slots.Keys k v left ∷ up) (tokens ++ a))
  to_pairs depth opening ty k v left up items mine tokens a x some (rest, is_rest, b) =
      let w = b.one in
      let e = b.two.2 in
      let count = e.count in
      let ends = mark 125 ∷ mark 93 ∷ [] in
      let back : b.back ≡ e.inner ++ ends = b.two.1 ∙ e.laid in
      let value = b.front in
      let inner = comma (is_first opening) ++ (tokens ++ (mark 58 ∷ (value ++ e.inner))) in (
        comma (is_first opening) ++ (tokens ++ a),
        sym (pair_leads opening k v left up (tokens ++ a)),
        record {
          ps = one_pair x.t w.t e.ps;
          count = omega arith;
          are = (x.kind, w.kind, x.value, w.value, e.are);
          inner = inner;
          spells = (tokens, value, e.inner, x.spells, w.spells, e.spells, refl);
          laid =
              ap (λ l. comma (is_first opening) ++ (tokens ++ l)) (is_rest ∙ ap (λ l. mark 58 ∷ l) (b.laid ∙ ap (λ l. value ++ l) back ∙ sym (tokens_append value e.inner ends)))
              ∙ ap (λ l. comma (is_first opening) ++ l) (sym (tokens_append tokens (mark 58 ∷ (value ++ e.inner)) ends))
              ∙ sym (tokens_append (comma (is_first opening)) (tokens ++ (mark 58 ∷ (value ++ e.inner))) ends);
          is = ap (λ l. l ++ mine) x.is ∙ ap (λ l. items_of x.t ++ l) (b.is ∙ ap (λ l. l ++ b.second) w.is ∙ ap (λ l. items_of w.t ++ l) e.is);
          deep = omega (arith, x.deep, w.deep, e.deep);
        },
      )

  to_field : (depth : ℕ) (opening : Opening) (ty : Ty) (k : Kind) (id : ℤ) (items mine : List Item) (tokens a : Tokens) → IsTree depth false (under (field_of d ty id) k) k items tokens → FieldsLeft openings.Old depth ty mine a
      → Level opening ty (slots.Value k id) depth (items ++ mine) (mark 58 ∷ (tokens ++ a))
  to_field depth opening ty k id items mine tokens a v f = (tokens ++ a, refl, record { first = items; second = mine; front = tokens; back = a; one = v; two = f; is = refl; laid = refl })

  to_value : (depth : ℕ) (opening : Opening) (ty : Ty) (k v : Kind) (left : ℕ) (items mine : List Item) (tokens a : Tokens) → IsTree depth false (under (value_of d ty) v) v items tokens → PairsLeft openings.Old depth ty k v (left - 1) mine a
      → Level opening ty (slots.Values k v left) depth (items ++ mine) (mark 58 ∷ (tokens ++ a))
  to_value depth opening ty k v left items mine tokens a w f = (tokens ++ a, refl, record { first = items; second = mine; front = tokens; back = a; one = w; two = f; is = refl; laid = refl })

  pub with_value : (opening : Opening) (nest : List Slot) (tys : List Ty) (k : Kind) (items others : List Item) (tokens rest : Tokens) → CallsFor nest k → IsTree (length nest) (is_key (first_of nest)) (value_type d nest tys) k items tokens
      → Ends openings.Old (spent nest) tys others rest → Ends opening nest tys (items ++ others) (leading opening nest (tokens ++ rest))
  with_value opening [] tys k items others tokens rest c v e = absurd c
  with_value opening (slots.Fields last ∷ up) tys k items others tokens rest c v e = absurd c
  with_value opening (slots.Value kind id ∷ up) [] k items others tokens rest c v e = absurd e
  with_value opening (slots.Elements kind left ∷ up) [] k items others tokens rest c v e = absurd e
  with_value opening (slots.Keys key value left ∷ up) [] k items others tokens rest c v e = absurd e
  with_value opening (slots.Values key value left ∷ up) [] k items others tokens rest c v e = absurd e
  with_value opening (slots.Value kind id ∷ up) (ty ∷ tys) k items others tokens rest c v e =
      let depth = suc (length up) in
      let w = subst (λ z. IsTree depth false (under (field_of d ty id) kind) z items tokens) (sym c) v in
      in_front (FieldsLeft openings.Old depth ty) (Level opening ty (slots.Value kind id) depth) (Ends openings.Old up tys) items others (mark 58 ∷ []) tokens rest e (λ mine a f. to_field depth opening ty kind id items mine tokens a w f)
  with_value opening (slots.Elements kind left ∷ up) (ty ∷ tys) k items others tokens rest c v e =
      let depth = suc (length up) in
      let w = subst (λ z. IsTree depth false (under (element_of d ty) kind) z items tokens) (sym c.0) v in
      in_front (AreElements depth ty kind (left - 1)) (AreElements depth ty kind left) (Ends openings.Old up tys) items others (mark 44 ∷ []) tokens rest e (λ mine a f. to_elements depth ty kind left items mine tokens a w c.1 f)
  with_value openings.Old (slots.Keys key value left ∷ up) (ty ∷ tys) k items others tokens rest c v e =
      let depth = suc (length up) in
      let w = subst (λ z. IsTree depth true (under (key_of d ty) key) z items tokens) (sym c.0) v in
      in_front (Level openings.Old ty (slots.Values key value left) depth) (PairsLeft openings.Old depth ty key value left) (Ends openings.Old up tys) items others (mark 44 ∷ []) tokens rest e (λ mine a f. to_pairs depth openings.Old ty key value left up items mine tokens a w c.1 f)
  with_value openings.New (slots.Keys key value left ∷ up) (ty ∷ tys) k items others tokens rest c v e =
      let depth = suc (length up) in
      let w = subst (λ z. IsTree depth true (under (key_of d ty) key) z items tokens) (sym c.0) v in
      in_front (Level openings.Old ty (slots.Values key value left) depth) (PairsLeft openings.New depth ty key value left) (Ends openings.Old up tys) items others (mark 44 ∷ mark 123 ∷ []) tokens rest e (λ mine a f. to_pairs depth openings.New ty key value left up items mine tokens a w c.1 f)
  with_value openings.Body (slots.Keys key value left ∷ up) (ty ∷ tys) k items others tokens rest c v e =
      let depth = suc (length up) in
      let w = subst (λ z. IsTree depth true (under (key_of d ty) key) z items tokens) (sym c.0) v in
      in_front (Level openings.Old ty (slots.Values key value left) depth) (PairsLeft openings.Body depth ty key value left) (Ends openings.Old up tys) items others (mark 44 ∷ mark 123 ∷ []) tokens rest e (λ mine a f. to_pairs depth openings.Body ty key value left up items mine tokens a w c.1 f)
  with_value opening (slots.Values key value left ∷ up) (ty ∷ tys) k items others tokens rest c v e =
      let depth = suc (length up) in
      let w = subst (λ z. IsTree depth false (under (value_of d ty) value) z items tokens) (sym c) v in
      in_front (PairsLeft openings.Old depth ty key value (left - 1)) (Level opening ty (slots.Values key value left) depth) (Ends openings.Old up tys) items others (mark 58 ∷ []) tokens rest e (λ mine a f. to_value depth opening ty key value left items mine tokens a w f)

  -- a field in front of its value and the fields behind it
  pub with_field : (opening : Opening) (depth : ℕ) (ty : Ty) (id : ℤ) (kind : Kind) (digits : List ℕ) → SpellsInt id digits → FitsSigned w16 id → IsNamed kind → (items : List Item) (front : Tokens)
      → Level openings.Old ty (slots.Value kind id) depth items front → FieldsLeft opening depth ty (field id kind ∷ items) (field_leading opening (comma (is_first opening) ++ (quoted digits ∷ mark 58 ∷ mark 123 ∷ name_token kind ∷ front)))
  with_field opening depth ty id kind digits spells fits named items front (r, is_front, b) =
      let v = b.one in
      let g = b.two.2 in
      let value = b.front in
      let first = comma (is_first opening) in
      let close = mark 125 ∷ [] in
      let own = kind_of v.t in
      let body : front ≡ mark 58 ∷ ((value ++ (mark 125 ∷ g.inner)) ++ close) =
      is_front ∙ ap (λ l. mark 58 ∷ l) (b.laid ∙ ap (λ l. value ++ l) (b.two.1 ∙ ap (λ l. mark 125 ∷ l) g.laid) ∙ sym (tokens_append value (mark 125 ∷ g.inner) close)) in (
        first ++ (quoted digits ∷ mark 58 ∷ mark 123 ∷ name_token kind ∷ front),
        refl,
        record {
          ms = one_member id v.t g.ms;
          are = (fits, v.value, g.are);
          inner = first ++ (quoted digits ∷ mark 58 ∷ mark 123 ∷ name_token own ∷ mark 58 ∷ (value ++ (mark 125 ∷ g.inner)));
          spells = (digits, value, g.inner, spells, subst IsNamed (sym v.kind) named, subst (λ z. Spells (declared_of d) false (under (field_of d ty id) z) v.t value) (sym v.kind) v.spells, g.spells, refl);
          laid =
              ap (λ l. first ++ (quoted digits ∷ mark 58 ∷ mark 123 ∷ name_token kind ∷ l)) body
              ∙ ap (λ z. first ++ (quoted digits ∷ mark 58 ∷ mark 123 ∷ name_token z ∷ mark 58 ∷ ((value ++ (mark 125 ∷ g.inner)) ++ close))) (sym v.kind)
              ∙ sym (tokens_append first (quoted digits ∷ mark 58 ∷ mark 123 ∷ name_token own ∷ mark 58 ∷ (value ++ (mark 125 ∷ g.inner))) close);
          is = ap (λ l. field id kind ∷ l) (b.is ∙ ap (λ l. l ++ b.second) v.is ∙ ap (λ l. items_of v.t ++ l) g.is) ∙ ap (λ z. field id z ∷ (items_of v.t ++ items_of_members g.ms)) (sym v.kind);
          deep = omega (arith, v.deep, g.deep);
        },
      )
