-- How many values lie in a tree, by which work on it comes to an end: each value has fewer than what holds it.
use Rattle.std.proofs.Common.{ℕ, ◌≤◌, List, [], ◌∷◌, arith}
use Rattle.value_trees.specs.declared.value.Value.{Value}
use Rattle.value_trees.specs.declared.value.Value.TheVariants as values
use Rattle.value_trees.specs.declared.value.Field.{Field}
use Rattle.value_trees.specs.declared.value.Fields.TheDeep.{deep-Value, deep-Field, deep-Items, deep-Pairs, deep-Fields}
use Rattle.value_trees.specs.declared.value.Items.TheInside as items
use Rattle.value_trees.specs.declared.value.Pairs.TheInside as pairs
use Rattle.value_trees.specs.declared.value.Fields.TheInside as fields
use Rattle.value_trees.specs.Counts.{size_of, size_of_members, size_of_trees, size_of_pairs}
use Rattle.value_trees.specs.Views.{tree_of, trees_of, members_of, pairs_of}
use Rattle.value_trees.specs.declared.value.Fields.TheShapes.{weighed-Pairs-list-at-2}
use denote.Param.Weighed.{most}

pub value_falls : (v : Value) → deep-Value v ≤ size_of (tree_of v)
value_falls (values.Bool b) = omega arith
value_falls (values.I8 n) = omega arith
value_falls (values.I16 n) = omega arith
value_falls (values.I32 n) = omega arith
value_falls (values.I64 n) = omega arith
value_falls (values.Double bytes) = omega arith
value_falls (values.Str text) = omega arith
value_falls (values.Struct fs) = omega arith
value_falls values.EmptyMap = omega arith
value_falls (values.Map key value ps) = omega arith
value_falls (values.Set kind vs) = omega arith
value_falls (values.List kind vs) = omega arith
value_falls (values.NumberText text) = omega arith
value_falls (values.UnknownText text) = omega arith
value_falls (values.Uuid bytes) = omega arith

each_falls : (vs : List Value) → most deep-Value vs ≤ size_of_trees (trees_of vs)
each_falls [] = omega arith
each_falls (v ∷ vs) = omega (arith, value_falls v, each_falls vs)

each_field_falls : (fs : List Field) → most deep-Field fs ≤ size_of_members (members_of fs)
each_field_falls [] = omega arith
each_field_falls (f ∷ fs) = omega (arith, value_falls f.value, each_field_falls fs)

pub values_fall : (a : items.Inside) → deep-Items a ≤ size_of_trees (trees_of a.list.items)
values_fall a = omega (arith, each_falls a.list.items)

pub fields_fall : (a : fields.Inside) → deep-Fields a ≤ size_of_members (members_of a.list.items)
fields_fall a = omega (arith, each_field_falls a.list.items)

-- a pair weighs what the heavier of its two values does
abbrev weight_of_pair : Value × Value → ℕ
weight_of_pair p = weighed-Pairs-list-at-2.weight Value deep-Value p

each_pair_falls : (ps : List (Value × Value)) → most weight_of_pair ps ≤ size_of_pairs (pairs_of ps)
each_pair_falls [] = omega arith
each_pair_falls (p ∷ ps) = omega (arith, value_falls p.0, value_falls p.1, each_pair_falls ps)

pub pairs_fall : (a : pairs.Inside) → deep-Pairs a ≤ size_of_pairs (pairs_of a.list.items)
pairs_fall a = omega (arith, each_pair_falls a.list.items)
