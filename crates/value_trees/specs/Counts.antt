-- How many values lie in a tree.
use Rattle.std.specs.Prelude.{ℕ, ◌+◌}
use Rattle.thrift_value.specs.Trees.{Tree, Members, Trees, Pairs, truth, whole_8, whole_16, whole_32, whole_64, double, characters, loose_number, loose_text, structure, mapping_of_none, mapping, collection, sequence, unique_id, no_members, one_member, no_trees, one_tree, no_pairs, one_pair}

abbrev mutual
  pub size_of : Tree → ℕ
  size_of (truth b) = 1
  size_of (whole_8 n) = 1
  size_of (whole_16 n) = 1
  size_of (whole_32 n) = 1
  size_of (whole_64 n) = 1
  size_of (double bytes) = 1
  size_of (characters bytes) = 1
  size_of (loose_number bytes) = 1
  size_of (loose_text bytes) = 1
  size_of (structure ms) = size_of_members ms + 1
  size_of mapping_of_none = 1
  size_of (mapping key value ps) = size_of_pairs ps + 1
  size_of (collection kind ts) = size_of_trees ts + 1
  size_of (sequence kind ts) = size_of_trees ts + 1
  size_of (unique_id bytes) = 1

  pub size_of_members : Members → ℕ
  size_of_members no_members = 0
  size_of_members (one_member id t ms) = size_of t + size_of_members ms

  pub size_of_trees : Trees → ℕ
  size_of_trees no_trees = 0
  size_of_trees (one_tree t ts) = size_of t + size_of_trees ts

  pub size_of_pairs : Pairs → ℕ
  size_of_pairs no_pairs = 0
  size_of_pairs (one_pair k v ps) = size_of k + (size_of v + size_of_pairs ps)
