-- What is open can be completed to a body.
use Rattle.std.proofs.Common.{◌≡◌, ℕ, zero, suc, ◌+◌, List, [], ◌∷◌, ◌++◌, refl, sym, ap, ◌∙◌, subst, append_assoc, arith, rules, true}
use Rattle.std.proofs.lemmas.List.{append-nil}
use Rattle.std.specs.Prelude.{pos}
use Rattle.thrift_value.specs.declared.kind.Kind.{Kind}
use Rattle.thrift_value.specs.declared.kind.Kind.TheVariants as kinds
use Rattle.value_trees.specs.declared.value.Value.{Value}
use Rattle.value_trees.specs.declared.value.Value.TheVariants as values
use Rattle.value_trees.specs.declared.value.Field.{Field}
use Rattle.value_trees.specs.declared.level.Level.{Level}
use Rattle.value_trees.specs.declared.level.Level.TheVariants as levels
use Rattle.thrift_value.specs.Items.{Item, field, stop, end, struct_begin, map_begin, set_begin, list_begin}
use Rattle.thrift_value.specs.Trees.{Trees, Pairs, no_members, no_trees, items_of, items_of_trees, items_of_pairs, kind_of, count_of_trees, count_of_pairs, IsValue, AreAll, ArePairs}
use Rattle.value_trees.specs.Views.{tree_of, then_member, then_tree, then_pair}
use Rattle.value_trees.specs.Gathering.{wants, put, Stand, going, over, refused, run, at_first, IsRefused}
use Rattle.value_trees.specs.Bodies.{BeginsBody, AreInRange}
use Rattle.value_trees.proofs.Fronts.{front_members, front_trees, front_pairs, members-end, trees-end, pairs-end, front-member, front-tree, front-pair, count-tree, count-pair, all-member, all-tree, all-pair}
use Rattle.value_trees.proofs.Levels.{level_kind, head_of, inner, IsLevel, IsStack, front, stack-put, front-put}
use Rattle.value_trees.proofs.Kept.{Holds, run-holds, first-holds}

-- some value of each kind
abbrev filler : Kind → Value
filler kinds.Bool = values.Bool true
filler kinds.I8 = values.I8 (pos 0)
filler kinds.I16 = values.I16 (pos 0)
filler kinds.I32 = values.I32 (pos 0)
filler kinds.I64 = values.I64 (pos 0)
filler kinds.Double = values.Double (0 ∷ 0 ∷ 0 ∷ 0 ∷ 0 ∷ 0 ∷ 0 ∷ 0 ∷ [])
filler kinds.Str = values.Str []
filler kinds.Struct = values.Struct no_members
filler kinds.Map = values.EmptyMap
filler kinds.Set = values.Set kinds.Bool no_trees
filler kinds.List = values.List kinds.Bool no_trees
filler kinds.Uuid = values.Uuid (0 ∷ 0 ∷ 0 ∷ 0 ∷ 0 ∷ 0 ∷ 0 ∷ 0 ∷ 0 ∷ 0 ∷ 0 ∷ 0 ∷ 0 ∷ 0 ∷ 0 ∷ 0 ∷ [])

filler-kind : (k : Kind) → kind_of (tree_of (filler k)) ≡ k
filler-kind kinds.Bool = refl
filler-kind kinds.I8 = refl
filler-kind kinds.I16 = refl
filler-kind kinds.I32 = refl
filler-kind kinds.I64 = refl
filler-kind kinds.Double = refl
filler-kind kinds.Str = refl
filler-kind kinds.Struct = refl
filler-kind kinds.Map = refl
filler-kind kinds.Set = refl
filler-kind kinds.List = refl
filler-kind kinds.Uuid = refl

filler-valid : (k : Kind) → IsValue (tree_of (filler k))
filler-valid kinds.Bool = tt
filler-valid kinds.I8 = search rules
filler-valid kinds.I16 = search rules
filler-valid kinds.I32 = search rules
filler-valid kinds.I64 = search rules
filler-valid kinds.Double = refl
filler-valid kinds.Str = omega arith
filler-valid kinds.Struct = tt
filler-valid kinds.Map = tt
filler-valid kinds.Set = (omega arith, tt)
filler-valid kinds.List = (omega arith, tt)
filler-valid kinds.Uuid = refl

-- the elements that are still to come
record Filled (kind : Kind) (left : ℕ) (ts : Trees) : Type 0 where
  all : Trees
  rest : List Item
  count : count_of_trees all ≡ count_of_trees ts + left
  valid : AreAll kind all
  told : items_of_trees all ≡ front_trees ts ++ rest

fill : (left : ℕ) (kind : Kind) (ts : Trees) → AreAll kind ts → Filled kind left ts
fill zero kind ts valid = record { all = ts; rest = end ∷ []; count = omega arith; valid = valid; told = trees-end ts }
fill (suc n) kind ts valid =
    let v = filler kind in
    let f : Filled kind n (then_tree ts (tree_of v)) = fill n kind (then_tree ts (tree_of v)) (all-tree kind ts (tree_of v) valid (filler-kind kind) (filler-valid kind)) in
    record {
      all = f.all;
      rest = items_of (tree_of v) ++ f.rest;
      count = omega (arith, f.count, count-tree ts (tree_of v));
      valid = f.valid;
      told = f.told ∙ ap (λ (xs : List Item). xs ++ f.rest) (front-tree ts (tree_of v)) ∙ append_assoc (front_trees ts) (items_of (tree_of v)) f.rest;
    }

-- and the pairs
record Paired (key value : Kind) (left : ℕ) (ps : Pairs) : Type 0 where
  all : Pairs
  rest : List Item
  count : count_of_pairs all ≡ count_of_pairs ps + left
  valid : ArePairs key value all
  told : items_of_pairs all ≡ front_pairs ps ++ rest

pair : (left : ℕ) (key value : Kind) (ps : Pairs) → ArePairs key value ps → Paired key value left ps
pair zero key value ps valid = record { all = ps; rest = end ∷ []; count = omega arith; valid = valid; told = pairs-end ps }
pair (suc n) key value ps valid =
    let k = filler key in
    let v = filler value in
    let f : Paired key value n (then_pair ps (k, v)) = pair n key value (then_pair ps (k, v)) (all-pair key value ps k v valid (filler-kind key) (filler-kind value) (filler-valid key) (filler-valid value)) in
    record {
      all = f.all;
      rest = (items_of (tree_of k) ++ items_of (tree_of v)) ++ f.rest;
      count = omega (arith, f.count, count-pair ps (k, v));
      valid = f.valid;
      told = f.told ∙ ap (λ (xs : List Item). xs ++ f.rest) (front-pair ps k v) ∙ append_assoc (front_pairs ps) (items_of (tree_of k) ++ items_of (tree_of v)) f.rest;
    }

-- a level completed to its value
record Finished (l : Level) : Type 0 where
  value : Value
  valid : IsValue (tree_of value)
  kind : kind_of (tree_of value) ≡ level_kind l
  rest : List Item
  told : items_of (tree_of value) ≡ head_of l ++ (inner l ++ rest)

finish : (l : Level) → IsLevel l → Finished l
finish (levels.Fields fs) level = record { value = values.Struct fs; valid = level; kind = refl; rest = stop ∷ []; told = ap (λ (xs : List Item). struct_begin ∷ xs) (members-end fs) }
finish (levels.Named fs id kind) level =
    let f : Field = record { id = id; value = filler kind } in
    let its = items_of (tree_of (filler kind)) in
    record {
      value = values.Struct (then_member fs f);
      valid = all-member fs f level.0 level.1 (filler-valid kind);
      kind = refl;
      rest = its ++ stop ∷ [];
      told = ap (λ (xs : List Item). struct_begin ∷ xs)
          (members-end (then_member fs f) ∙ ap (λ (xs : List Item). xs ++ stop ∷ []) (front-member fs f ∙ ap (λ (k : Kind). front_members fs ++ (field id k ∷ its)) (filler-kind kind) ∙ sym (append_assoc (front_members fs) (field id kind ∷ []) its)) ∙ append_assoc (front_members fs ++ field id kind ∷ []) its (stop ∷ []));
    }
finish (levels.Set kind left items) level =
    let f = fill left kind items level.1 in
    record { value = values.Set kind f.all; valid = (omega (arith, f.count, level.0), f.valid); kind = refl; rest = f.rest; told = ap (λ (n : ℕ). set_begin kind n ∷ items_of_trees f.all) f.count ∙ ap (λ (xs : List Item). set_begin kind (count_of_trees items + left) ∷ xs) f.told }
finish (levels.List kind left items) level =
    let f = fill left kind items level.1 in
    record { value = values.List kind f.all; valid = (omega (arith, f.count, level.0), f.valid); kind = refl; rest = f.rest; told = ap (λ (n : ℕ). list_begin kind n ∷ items_of_trees f.all) f.count ∙ ap (λ (xs : List Item). list_begin kind (count_of_trees items + left) ∷ xs) f.told }
finish (levels.Map key value left pairs) level =
    let f = pair left key value pairs level.2 in
    record { value = values.Map key value f.all; valid = (omega (arith, f.count, level.0), omega (arith, f.count, level.1), f.valid); kind = refl; rest = f.rest; told = ap (λ (n : ℕ). map_begin key value n ∷ items_of_pairs f.all) f.count ∙ ap (λ (xs : List Item). map_begin key value (count_of_pairs pairs + left) ∷ xs) f.told }
finish (levels.Keyed key value left pairs k) level =
    let v = filler value in
    let f = pair left key value (then_pair pairs (k, v)) (all-pair key value pairs k v level.1 level.2 (filler-kind value) level.3 (filler-valid value)) in
    let count : count_of_pairs f.all ≡ count_of_pairs pairs + left + 1 = omega (arith, f.count, count-pair pairs (k, v)) in
    record {
      value = values.Map key value f.all;
      valid = (omega (arith, count), omega (arith, count, level.0), f.valid);
      kind = refl;
      rest = items_of (tree_of v) ++ f.rest;
      told = ap (λ (n : ℕ). map_begin key value n ∷ items_of_pairs f.all) count ∙ ap (λ (xs : List Item). map_begin key value (count_of_pairs pairs + left + 1) ∷ xs)
          (f.told ∙ ap (λ (xs : List Item). xs ++ f.rest) (front-pair pairs k v ∙ sym (append_assoc (front_pairs pairs) (items_of (tree_of k)) (items_of (tree_of v)))) ∙ append_assoc (front_pairs pairs ++ items_of (tree_of k)) (items_of (tree_of v)) f.rest);
    }

shorter : (xs ys : List Item) → BeginsBody (xs ++ ys) → BeginsBody xs
shorter xs ys b = record { fields = b.fields; valid = b.valid; rest = ys ++ b.rest; told = b.told ∙ append_assoc xs ys b.rest }

outermost : (l : Level) → IsLevel l → level_kind l ≡ kinds.Struct → BeginsBody (inner l)
outermost (levels.Fields fs) level same = record { fields = fs; valid = level; rest = stop ∷ []; told = members-end fs }
outermost (levels.Named fs id kind) level same =
    let f : Field = record { id = id; value = filler kind } in
    let its = items_of (tree_of (filler kind)) in
    record {
      fields = then_member fs f;
      valid = all-member fs f level.0 level.1 (filler-valid kind);
      rest = its ++ stop ∷ [];
      told = members-end (then_member fs f) ∙ ap (λ (xs : List Item). xs ++ stop ∷ []) (front-member fs f ∙ ap (λ (k : Kind). front_members fs ++ (field id k ∷ its)) (filler-kind kind) ∙ sym (append_assoc (front_members fs) (field id kind ∷ []) its)) ∙ append_assoc (front_members fs ++ field id kind ∷ []) its (stop ∷ []);
    }
outermost (levels.Set kind left items) level same = absurd (cc)
outermost (levels.List kind left items) level same = absurd (cc)
outermost (levels.Map key value left pairs) level same = absurd (cc)
outermost (levels.Keyed key value left pairs k) level same = absurd (cc)

complete : (ls : List Level) (l : Level) → IsStack l ls → BeginsBody (front l ls)
complete [] l stack = outermost l stack.0 stack.1
complete (m ∷ ms) l stack =
    let f = finish l stack.0 in
    let want : wants m (kind_of (tree_of f.value)) ≡ true = ap (wants m) f.kind ∙ stack.1 in
    let whole : front (put m f.value) ms ≡ (front m ms ++ (head_of l ++ inner l)) ++ f.rest =
    front-put m f.value ms want ∙ ap (λ (xs : List Item). front m ms ++ xs) (f.told ∙ sym (append_assoc (head_of l) (inner l) f.rest)) ∙ sym (append_assoc (front m ms) (head_of l ++ inner l) f.rest) in
    shorter (front m ms ++ (head_of l ++ inner l)) f.rest (subst BeginsBody whole (complete ms (put m f.value) (stack-put m f.value ms want stack.2 f.valid)))

begun_by : (s : Stand) (items : List Item) → Holds s items → (IsRefused s → ⊥) → BeginsBody items
begun_by (going []) items h goes = absurd h
begun_by (going (l ∷ ls)) items h goes = subst BeginsBody h.0 (complete ls l h.1)
begun_by (over fields) items h goes = record { fields = fields; valid = h.valid; rest = []; told = h.told ∙ sym (append-nil items) }
begun_by refused items h goes = absurd (goes tt)

pub not-refused-begins : (items : List Item) → AreInRange items → (IsRefused (run at_first items) → ⊥) → BeginsBody items
not-refused-begins items all goes = begun_by (run at_first items) items (run-holds items at_first [] all first-holds) goes
