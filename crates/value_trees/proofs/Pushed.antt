-- One more at the end of a list of values, fields or pairs.
use Rattle.std.proofs.Common.{◌≡◌, List, [], ◌∷◌, ◌++◌, refl, ap}
use Rattle.value_trees.specs.declared.value.Value.{Value}
use Rattle.value_trees.specs.declared.value.Field.{Field}
use Rattle.thrift_value.specs.Trees.{one_member, one_tree, one_pair}
use Rattle.value_trees.specs.Views.{tree_of, trees_of, members_of, pairs_of, then_tree, then_member, then_pair}

pub tree-pushed : (vs : List Value) (v : Value) → trees_of (vs ++ v ∷ []) ≡ then_tree (trees_of vs) (tree_of v)
tree-pushed [] v = refl
tree-pushed (w ∷ ws) v = ap (one_tree (tree_of w)) (tree-pushed ws v)

pub member-pushed : (fs : List Field) (f : Field) → members_of (fs ++ f ∷ []) ≡ then_member (members_of fs) f
member-pushed [] f = refl
member-pushed (g ∷ gs) f = ap (one_member g.id (tree_of g.value)) (member-pushed gs f)

pub pair-pushed : (ps : List (Value × Value)) (p : Value × Value) → pairs_of (ps ++ p ∷ []) ≡ then_pair (pairs_of ps) p
pair-pushed [] p = refl
pair-pushed (q ∷ qs) p = ap (one_pair (tree_of q.0) (tree_of q.1)) (pair-pushed qs p)
