-- The trees that the code's values are.
use Rattle.std.specs.Prelude.{List, [], ◌∷◌}
use Rattle.value_trees.specs.declared.value.Value.{Value}
use Rattle.value_trees.specs.declared.value.Value.TheVariants as values
use Rattle.value_trees.specs.declared.value.Field.{Field}
use Rattle.thrift_value.specs.Trees.{Tree, Members, Trees, Pairs, truth, whole_8, whole_16, whole_32, whole_64, double, characters, loose_number, loose_text, structure, mapping_of_none, mapping, collection, sequence, unique_id, no_members, one_member, no_trees, one_tree, no_pairs, one_pair}

-- a value's own lists are seen as trees already
abbrev pub tree_of : Value → Tree
tree_of (values.Bool b) = truth b
tree_of (values.I8 n) = whole_8 n
tree_of (values.I16 n) = whole_16 n
tree_of (values.I32 n) = whole_32 n
tree_of (values.I64 n) = whole_64 n
tree_of (values.Double bytes) = double bytes
tree_of (values.Str text) = characters text
tree_of (values.Struct fields) = structure fields
tree_of values.EmptyMap = mapping_of_none
tree_of (values.Map key value pairs) = mapping key value pairs
tree_of (values.Set kind items) = collection kind items
tree_of (values.List kind items) = sequence kind items
tree_of (values.NumberText text) = loose_number text
tree_of (values.UnknownText text) = loose_text text
tree_of (values.Uuid bytes) = unique_id bytes

-- a list of values, of fields and of pairs
abbrev pub trees_of : List Value → Trees
trees_of [] = no_trees
trees_of (v ∷ vs) = one_tree (tree_of v) (trees_of vs)

abbrev pub members_of : List Field → Members
members_of [] = no_members
members_of (f ∷ fs) = one_member f.id (tree_of f.value) (members_of fs)

abbrev pub pairs_of : List (Value × Value) → Pairs
pairs_of [] = no_pairs
pairs_of (p ∷ ps) = one_pair (tree_of p.0) (tree_of p.1) (pairs_of ps)

-- one more at the end
abbrev pub then_tree : Trees → Tree → Trees
then_tree no_trees last = one_tree last no_trees
then_tree (one_tree t ts) last = one_tree t (then_tree ts last)

abbrev pub then_member : Members → Field → Members
then_member no_members last = one_member last.id (tree_of last.value) no_members
then_member (one_member id t ms) last = one_member id t (then_member ms last)

abbrev pub then_pair : Pairs → Value × Value → Pairs
then_pair no_pairs last = one_pair (tree_of last.0) (tree_of last.1) no_pairs
then_pair (one_pair k v ps) last = one_pair k v (then_pair ps last)
