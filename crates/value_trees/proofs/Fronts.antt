-- The items of lists without their ends.
use Rattle.std.proofs.Common.{◌≡◌, ◌+◌, List, [], ◌∷◌, ◌++◌, refl, sym, ap, ◌∙◌, append_assoc, arith, FitsSigned}
use Rattle.std.proofs.lemmas.List.{append-nil}
use Rattle.std.specs.Int.{w16}
use Rattle.thrift_value.specs.declared.kind.Kind.{Kind}
use Rattle.value_trees.specs.declared.value.Value.{Value}
use Rattle.value_trees.specs.declared.value.Field.{Field}
use Rattle.thrift_value.specs.Items.{Item, field, stop, end}
use Rattle.thrift_value.specs.Trees.{Tree, Members, Trees, Pairs, no_members, one_member, no_trees, one_tree, no_pairs, one_pair, items_of, items_of_members, items_of_trees, items_of_pairs, kind_of, count_of_trees, count_of_pairs, IsValue, AreMembers, AreAll, ArePairs}
use Rattle.value_trees.specs.Views.{tree_of, then_member, then_tree, then_pair}

abbrev pub front_members : Members → List Item
front_members no_members = []
front_members (one_member id t ms) = field id (kind_of t) ∷ (items_of t ++ front_members ms)

abbrev pub front_trees : Trees → List Item
front_trees no_trees = []
front_trees (one_tree t ts) = items_of t ++ front_trees ts

abbrev pub front_pairs : Pairs → List Item
front_pairs no_pairs = []
front_pairs (one_pair k v ps) = items_of k ++ (items_of v ++ front_pairs ps)

pub members-end : (ms : Members) → items_of_members ms ≡ front_members ms ++ stop ∷ []
members-end no_members = refl
members-end (one_member id t ms) = ap (λ (xs : List Item). field id (kind_of t) ∷ xs) (ap (λ (xs : List Item). items_of t ++ xs) (members-end ms) ∙ sym (append_assoc (items_of t) (front_members ms) (stop ∷ [])))

pub trees-end : (ts : Trees) → items_of_trees ts ≡ front_trees ts ++ end ∷ []
trees-end no_trees = refl
trees-end (one_tree t ts) = ap (λ (xs : List Item). items_of t ++ xs) (trees-end ts) ∙ sym (append_assoc (items_of t) (front_trees ts) (end ∷ []))

pub pairs-end : (ps : Pairs) → items_of_pairs ps ≡ front_pairs ps ++ end ∷ []
pairs-end no_pairs = refl
pairs-end (one_pair k v ps) =
    ap (λ (xs : List Item). items_of k ++ xs) (ap (λ (xs : List Item). items_of v ++ xs) (pairs-end ps) ∙ sym (append_assoc (items_of v) (front_pairs ps) (end ∷ []))) ∙ sym (append_assoc (items_of k) (items_of v ++ front_pairs ps) (end ∷ []))

pub front-member : (ms : Members) (f : Field) → front_members (then_member ms f) ≡ front_members ms ++ (field f.id (kind_of (tree_of f.value)) ∷ items_of (tree_of f.value))
front-member no_members f = ap (λ (xs : List Item). field f.id (kind_of (tree_of f.value)) ∷ xs) (append-nil (items_of (tree_of f.value)))
front-member (one_member id t ms) f = ap (λ (xs : List Item). field id (kind_of t) ∷ xs) (ap (λ (xs : List Item). items_of t ++ xs) (front-member ms f) ∙ sym (append_assoc (items_of t) (front_members ms) (field f.id (kind_of (tree_of f.value)) ∷ items_of (tree_of f.value))))

pub front-tree : (ts : Trees) (t : Tree) → front_trees (then_tree ts t) ≡ front_trees ts ++ items_of t
front-tree no_trees t = append-nil (items_of t)
front-tree (one_tree u ts) t = ap (λ (xs : List Item). items_of u ++ xs) (front-tree ts t) ∙ sym (append_assoc (items_of u) (front_trees ts) (items_of t))

pub front-pair : (ps : Pairs) (k v : Value) → front_pairs (then_pair ps (k, v)) ≡ front_pairs ps ++ (items_of (tree_of k) ++ items_of (tree_of v))
front-pair no_pairs k v = ap (λ (xs : List Item). items_of (tree_of k) ++ xs) (append-nil (items_of (tree_of v)))
front-pair (one_pair a b ps) k v =
    ap (λ (xs : List Item). items_of a ++ xs) (ap (λ (xs : List Item). items_of b ++ xs) (front-pair ps k v) ∙ sym (append_assoc (items_of b) (front_pairs ps) (items_of (tree_of k) ++ items_of (tree_of v)))) ∙ sym (append_assoc (items_of a) (items_of b ++ front_pairs ps) (items_of (tree_of k) ++ items_of (tree_of v)))

pub count-tree : (ts : Trees) (t : Tree) → count_of_trees (then_tree ts t) ≡ count_of_trees ts + 1
count-tree no_trees t = refl
count-tree (one_tree u ts) t = omega (arith, count-tree ts t)

pub count-pair : (ps : Pairs) (p : Value × Value) → count_of_pairs (then_pair ps p) ≡ count_of_pairs ps + 1
count-pair no_pairs p = refl
count-pair (one_pair a b ps) p = omega (arith, count-pair ps p)

pub all-member : (ms : Members) (f : Field) → AreMembers ms → FitsSigned w16 f.id → IsValue (tree_of f.value) → AreMembers (then_member ms f)
all-member no_members f all id value = (id, value, tt)
all-member (one_member i t ms) f all id value = (all.0, all.1, all-member ms f all.2 id value)

pub all-tree : (kind : Kind) (ts : Trees) (t : Tree) → AreAll kind ts → kind_of t ≡ kind → IsValue t → AreAll kind (then_tree ts t)
all-tree kind no_trees t all same value = (same, value, tt)
all-tree kind (one_tree u ts) t all same value = (all.0, all.1, all-tree kind ts t all.2 same value)

pub all-pair : (key value : Kind) (ps : Pairs) (k v : Value) → ArePairs key value ps → kind_of (tree_of k) ≡ key → kind_of (tree_of v) ≡ value → IsValue (tree_of k) → IsValue (tree_of v) → ArePairs key value (then_pair ps (k, v))
all-pair key value no_pairs k v all a b c d = (a, b, c, d, tt)
all-pair key value (one_pair x y ps) k v all a b c d = (all.0, all.1, all.2, all.3, all-pair key value ps k v all.4 a b c d)
