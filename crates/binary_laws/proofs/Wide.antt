-- The spelling of a body is as long as the spellings of its items together.
use Rattle.std.proofs.Common.{◌≡◌, ℕ, List, ◌++◌, length, ap, arith, length-append}
use Rattle.thrift_value.specs.declared.kind.Kind.{Kind}
use Rattle.thrift_value.specs.Trees.{Tree, truth, whole_8, whole_16, whole_32, whole_64, double, characters, loose_number, loose_text, structure, mapping_of_none, mapping, collection, sequence, unique_id, Members, no_members, one_member, Trees, no_trees, one_tree, Pairs, no_pairs, one_pair, items_of, items_of_members, items_of_trees, items_of_pairs}
use Rattle.binary_protocol.specs.Grammar.{SpellsValue, SpellsMembers, SpellsElements, SpellsPairs}
use Rattle.binary_laws.specs.Called.{width_of_all}
use Rattle.binary_laws.proofs.Depth.{width_append}

mutual
  pub value_width : (t : Tree) (bytes : List ℕ) → SpellsValue t bytes → length bytes ≡ width_of_all (items_of t)
  value_width (truth b) bytes s = let n = ap length s in omega (arith, n)
  value_width (whole_8 z) bytes s = let n = ap length s.1 in omega (arith, n)
  value_width (whole_16 z) bytes s = let n = ap length s.1 in omega (arith, n)
  value_width (whole_32 z) bytes s = let n = ap length s.1 in omega (arith, n)
  value_width (whole_64 z) bytes s = let n = ap length s.1 in omega (arith, n)
  value_width (double eight) bytes s = let n = ap length s.1 in let m = s.0 in omega (arith, n, m)
  value_width (characters text) bytes s = let n = ap length s.1 in omega (arith, n)
  value_width (loose_number text) bytes s = absurd s
  value_width (loose_text text) bytes s = absurd s
  value_width (structure ms) bytes s = let n = members_width ms bytes s in omega (arith, n)
  value_width mapping_of_none bytes s = let n = ap length s.4 in omega (arith, n)
  value_width (mapping key value ps) bytes s = let p = s.2 in let n = ap length p.2 in let m = pairs_width ps key value p.0 p.1 in omega (arith, n, m)
  value_width (collection kind ts) bytes s = let p = s.1 in let n = ap length p.2 in let m = elements_width ts kind p.0 p.1 in omega (arith, n, m)
  value_width (sequence kind ts) bytes s = let p = s.1 in let n = ap length p.2 in let m = elements_width ts kind p.0 p.1 in omega (arith, n, m)
  value_width (unique_id sixteen) bytes s = let n = ap length s.1 in let m = s.0 in omega (arith, n, m)

  pub members_width : (ms : Members) (bytes : List ℕ) → SpellsMembers ms bytes → length bytes ≡ width_of_all (items_of_members ms)
  members_width no_members bytes s = let n = ap length s in omega (arith, n)
  members_width (one_member id t ms) bytes s =
      let p = s.1 in
      let n = ap length p.4 in
      let a = value_width t p.0 p.2 in
      let b = members_width ms p.1 p.3 in
      let both = length-append p.0 p.1 in
      let all = width_append (items_of t) (items_of_members ms) in
      omega (arith, n, a, b, both, all)

  elements_width : (ts : Trees) (kind : Kind) (bytes : List ℕ) → SpellsElements kind ts bytes → length bytes ≡ width_of_all (items_of_trees ts)
  elements_width no_trees kind bytes s = let n = ap length s in omega (arith, n)
  elements_width (one_tree t ts) kind bytes s =
      let p = s.1 in
      let n = ap length p.4 in
      let a = value_width t p.0 p.2 in
      let b = elements_width ts kind p.1 p.3 in
      let both = length-append p.0 p.1 in
      let all = width_append (items_of t) (items_of_trees ts) in
      omega (arith, n, a, b, both, all)

  pairs_width : (ps : Pairs) (key value : Kind) (bytes : List ℕ) → SpellsPairs key value ps bytes → length bytes ≡ width_of_all (items_of_pairs ps)
  pairs_width no_pairs key value bytes s = let n = ap length s in omega (arith, n)
  pairs_width (one_pair k v ps) key value bytes s =
      let p = s.2 in
      let n = ap length p.6 in
      let a = value_width k p.0 p.3 in
      let b = value_width v p.1 p.4 in
      let c = pairs_width ps key value p.2 p.5 in
      let two = length-append p.1 p.2 in
      let both = length-append p.0 (p.1 ++ p.2) in
      let some = width_append (items_of v) (items_of_pairs ps) in
      let all = width_append (items_of k) (items_of v ++ items_of_pairs ps) in
      omega (arith, n, a, b, c, two, both, some, all)
