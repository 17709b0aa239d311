-- What is spelled in Compact holds no loose text.
use Rattle.std.proofs.Common.{◌≡◌, ℕ, ℤ, pos, true, List, ◌++◌, inl, inr}
use Rattle.thrift_value.specs.declared.kind.Kind.{Kind}
use Rattle.thrift_value.specs.Trees.{Tree, truth, whole_8, whole_16, whole_32, whole_64, double, characters, loose_number, loose_text, structure, mapping_of_none, mapping, collection, sequence, unique_id, Members, no_members, one_member, Trees, no_trees, one_tree, Pairs, no_pairs, one_pair, items_of, items_of_members, items_of_trees, items_of_pairs}
use Rattle.compact_protocol.specs.Grammar.{SpellsValue, SpellsMembers, SpellsElements, SpellsPairs, is_told}
use Rattle.verdict_laws.proofs.Firm.{AreFirm, both}

-- a bool that is told by its field's header
told_firm : (t : Tree) → is_told t ≡ true → AreFirm (items_of t)
told_firm (truth b) e = (tt, tt)
told_firm (whole_8 n) e = absurd (cc)
told_firm (whole_16 n) e = absurd (cc)
told_firm (whole_32 n) e = absurd (cc)
told_firm (whole_64 n) e = absurd (cc)
told_firm (double eight) e = absurd (cc)
told_firm (characters chars) e = absurd (cc)
told_firm (loose_number chars) e = absurd (cc)
told_firm (loose_text chars) e = absurd (cc)
told_firm (structure ms) e = absurd (cc)
told_firm (mapping key value ps) e = absurd (cc)
told_firm (collection kind ts) e = absurd (cc)
told_firm (sequence kind ts) e = absurd (cc)
told_firm (unique_id sixteen) e = absurd (cc)
told_firm mapping_of_none e = absurd (cc)

mutual
  value_firm : (t : Tree) (bytes : List ℕ) → SpellsValue t bytes → AreFirm (items_of t)
  value_firm (truth b) bytes s = (tt, tt)
  value_firm (whole_8 n) bytes s = (tt, tt)
  value_firm (whole_16 n) bytes s = (tt, tt)
  value_firm (whole_32 n) bytes s = (tt, tt)
  value_firm (whole_64 n) bytes s = (tt, tt)
  value_firm (double eight) bytes s = (tt, tt)
  value_firm (characters chars) bytes s = (tt, tt)
  value_firm (loose_number chars) bytes s = absurd s
  value_firm (loose_text chars) bytes s = absurd s
  value_firm (structure ms) bytes s = (tt, members_firm (pos 0) ms bytes s)
  value_firm mapping_of_none bytes s = (tt, tt)
  value_firm (mapping key value ps) bytes (some, (header, pairs, is, one, laid)) = (tt, pairs_firm key value ps pairs one)
  value_firm (collection kind ts) bytes (few, (header, elements, is, one, laid)) = (tt, elements_firm kind ts elements one)
  value_firm (sequence kind ts) bytes (few, (header, elements, is, one, laid)) = (tt, elements_firm kind ts elements one)
  value_firm (unique_id sixteen) bytes s = (tt, tt)

  pub members_firm : (last : ℤ) (ms : Members) (bytes : List ℕ) → SpellsMembers last ms bytes → AreFirm (items_of_members ms)
  members_firm last no_members bytes s = (tt, tt)
  members_firm last (one_member id t ms) bytes (header, value, rest, is, inl told, more, laid) = (tt, both (items_of t) (items_of_members ms) (told_firm t told.0) (members_firm id ms rest more))
  members_firm last (one_member id t ms) bytes (header, value, rest, is, inr one, more, laid) = (tt, both (items_of t) (items_of_members ms) (value_firm t value one.1) (members_firm id ms rest more))

  elements_firm : (kind : Kind) (ts : Trees) (bytes : List ℕ) → SpellsElements kind ts bytes → AreFirm (items_of_trees ts)
  elements_firm kind no_trees bytes s = (tt, tt)
  elements_firm kind (one_tree t ts) bytes (is, (first, rest, one, more, laid)) = both (items_of t) (items_of_trees ts) (value_firm t first one) (elements_firm kind ts rest more)

  pairs_firm : (key value : Kind) (ps : Pairs) (bytes : List ℕ) → SpellsPairs key value ps bytes → AreFirm (items_of_pairs ps)
  pairs_firm key value no_pairs bytes s = (tt, tt)
  pairs_firm key value (one_pair k v ps) bytes (is, was, (first, second, rest, one, two, more, laid)) =
      both (items_of k) (items_of v ++ items_of_pairs ps) (value_firm k first one) (both (items_of v) (items_of_pairs ps) (value_firm v second two) (pairs_firm key value ps rest more))
