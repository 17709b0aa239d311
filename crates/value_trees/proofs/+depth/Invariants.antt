use Rattle.std.proofs.Common.{◌≡◌, ◌+◌, ◌*◌, ◌≤◌, max, drop}
use Rattle.thrift_value.specs.Trees.{depth_of_members, depth_of_trees, depth_of_pairs}
use Rattle.value_trees.specs.Counts.{size_of, size_of_members, size_of_trees, size_of_pairs}
use Rattle.value_trees.specs.Views.{tree_of, trees_of, members_of, pairs_of}
use Rattle.value_trees.proofs.+depth.Given as goal

abbrev pub decreases-value::Value::depth : goal.decreases-value::Value::depth
decreases-value::Value::depth l = 2 * size_of (tree_of l.self.now)

abbrev pub decreases-depth::deepest : goal.decreases-depth::deepest
decreases-depth::deepest l = 2 * size_of_trees (trees_of l.values.now) + 1

abbrev pub decreases-depth::deepest_field : goal.decreases-depth::deepest_field
decreases-depth::deepest_field l = 2 * size_of_members (members_of l.fields.now) + 1

abbrev pub decreases-depth::deepest_pair : goal.decreases-depth::deepest_pair
decreases-depth::deepest_pair l = 2 * size_of_pairs (pairs_of l.pairs.now) + 1

abbrev pub invariant-depth::deepest-loop-value : goal.invariant-depth::deepest-loop-value
invariant-depth::deepest-loop-value l = record {
  most_is : max l.most (depth_of_trees (trees_of (drop l.value-index l.values))) ≡ depth_of_trees (trees_of l.values);
  fewer : size_of_trees (trees_of (drop l.value-index l.values)) ≤ size_of_trees (trees_of l.values);
}

abbrev pub invariant-depth::deepest_field-loop-field : goal.invariant-depth::deepest_field-loop-field
invariant-depth::deepest_field-loop-field l = record {
  most_is : max l.most (depth_of_members (members_of (drop l.field-index l.fields))) ≡ depth_of_members (members_of l.fields);
  fewer : size_of_members (members_of (drop l.field-index l.fields)) ≤ size_of_members (members_of l.fields);
}

abbrev pub invariant-depth::deepest_pair-loop-pair : goal.invariant-depth::deepest_pair-loop-pair
invariant-depth::deepest_pair-loop-pair l = record {
  most_is : max l.most (depth_of_pairs (pairs_of (drop l.pair-index l.pairs))) ≡ depth_of_pairs (pairs_of l.pairs);
  fewer : size_of_pairs (pairs_of (drop l.pair-index l.pairs)) ≤ size_of_pairs (pairs_of l.pairs);
}
