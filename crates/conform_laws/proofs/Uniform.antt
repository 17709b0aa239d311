-- In a message that a grammar spells, the parts of each container have the kinds that it tells.
use Rattle.std.proofs.Common.{◌≡◌, List, ℕ, ℤ, inl, inr, true}
use Rattle.thrift_value.specs.declared.kind.Kind.{Kind}
use Rattle.thrift_value.specs.Trees.{Tree, Members, Trees, Pairs, truth, whole_8, whole_16, whole_32, whole_64, double, characters, loose_number, loose_text, structure, mapping_of_none, mapping, collection, sequence, unique_id, no_members, one_member, no_trees, one_tree, no_pairs, one_pair}
use Rattle.binary_protocol.specs.Grammar as binary
use Rattle.compact_protocol.specs.Grammar as compact
use Rattle.conform_laws.proofs.Meeting.{AllAre, AreUniform, IsUniform, PairsAre}

mutual
  pub binary_value : (t : Tree) (bytes : List ℕ) → binary.SpellsValue t bytes → IsUniform t
  binary_value (truth b) bytes h = tt
  binary_value (whole_8 n) bytes h = tt
  binary_value (whole_16 n) bytes h = tt
  binary_value (whole_32 n) bytes h = tt
  binary_value (whole_64 n) bytes h = tt
  binary_value (double eight) bytes h = tt
  binary_value (characters text) bytes h = tt
  binary_value (loose_number text) bytes h = tt
  binary_value (loose_text text) bytes h = tt
  binary_value (structure ms) bytes h = binary_members ms bytes h
  binary_value mapping_of_none bytes h = tt
  binary_value (mapping key value ps) bytes h = binary_pairs key value ps h.2.0 h.2.1
  binary_value (collection kind ts) bytes h = binary_all kind ts h.1.0 h.1.1
  binary_value (sequence kind ts) bytes h = binary_all kind ts h.1.0 h.1.1
  binary_value (unique_id sixteen) bytes h = tt

  pub binary_members : (ms : Members) (bytes : List ℕ) → binary.SpellsMembers ms bytes → AreUniform ms
  binary_members no_members bytes h = tt
  binary_members (one_member id t ms) bytes h = (binary_value t h.1.0 h.1.2, binary_members ms h.1.1 h.1.3)

  binary_all : (kind : Kind) (ts : Trees) (bytes : List ℕ) → binary.SpellsElements kind ts bytes → AllAre kind ts
  binary_all kind no_trees bytes h = tt
  binary_all kind (one_tree t ts) bytes h = (h.0, binary_value t h.1.0 h.1.2, binary_all kind ts h.1.1 h.1.3)

  binary_pairs : (key value : Kind) (ps : Pairs) (bytes : List ℕ) → binary.SpellsPairs key value ps bytes → PairsAre key value ps
  binary_pairs key value no_pairs bytes h = tt
  binary_pairs key value (one_pair k v ps) bytes h = (h.0, h.1, binary_value k h.2.0 h.2.3, binary_value v h.2.1 h.2.4, binary_pairs key value ps h.2.2 h.2.5)

-- a field that is told by its header alone has no parts
told : (t : Tree) → compact.is_told t ≡ true → IsUniform t
told (truth b) e = tt
told (whole_8 n) e = tt
told (whole_16 n) e = tt
told (whole_32 n) e = tt
told (whole_64 n) e = tt
told (double eight) e = tt
told (characters text) e = tt
told (loose_number text) e = tt
told (loose_text text) e = tt
told (structure ms) e = absurd (cc)
told mapping_of_none e = tt
told (mapping key value ps) e = absurd (cc)
told (collection kind ts) e = absurd (cc)
told (sequence kind ts) e = absurd (cc)
told (unique_id sixteen) e = tt

mutual
  pub compact_value : (t : Tree) (bytes : List ℕ) → compact.SpellsValue t bytes → IsUniform t
  compact_value (truth b) bytes h = tt
  compact_value (whole_8 n) bytes h = tt
  compact_value (whole_16 n) bytes h = tt
  compact_value (whole_32 n) bytes h = tt
  compact_value (whole_64 n) bytes h = tt
  compact_value (double eight) bytes h = tt
  compact_value (characters text) bytes h = tt
  compact_value (loose_number text) bytes h = tt
  compact_value (loose_text text) bytes h = tt
  compact_value (structure ms) bytes h = compact_members ms _ bytes h
  compact_value mapping_of_none bytes h = tt
  compact_value (mapping key value ps) bytes h = compact_pairs key value ps h.1.1 h.1.3
  compact_value (collection kind ts) bytes h = compact_all kind ts h.1.1 h.1.3
  compact_value (sequence kind ts) bytes h = compact_all kind ts h.1.1 h.1.3
  compact_value (unique_id sixteen) bytes h = tt

  pub compact_members : (ms : Members) (last : ℤ) (bytes : List ℕ) → compact.SpellsMembers last ms bytes → AreUniform ms
  compact_members no_members last bytes h = tt
  compact_members (one_member id t ms) last bytes (header, value, rest, laid, inl is, more, all) = (told t is.0, compact_members ms id rest more)
  compact_members (one_member id t ms) last bytes (header, value, rest, laid, inr is, more, all) = (compact_value t value is.1, compact_members ms id rest more)

  compact_all : (kind : Kind) (ts : Trees) (bytes : List ℕ) → compact.SpellsElements kind ts bytes → AllAre kind ts
  compact_all kind no_trees bytes h = tt
  compact_all kind (one_tree t ts) bytes h = (h.0, compact_value t h.1.0 h.1.2, compact_all kind ts h.1.1 h.1.3)

  compact_pairs : (key value : Kind) (ps : Pairs) (bytes : List ℕ) → compact.SpellsPairs key value ps bytes → PairsAre key value ps
  compact_pairs key value no_pairs bytes h = tt
  compact_pairs key value (one_pair k v ps) bytes h = (h.0, h.1, compact_value k h.2.0 h.2.3, compact_value v h.2.1 h.2.4, compact_pairs key value ps h.2.2 h.2.5)
