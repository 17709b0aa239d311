-- What is spelled lies in its ranges.
use Rattle.std.proofs.Common.{◌≡◌, ℕ, ℤ, pos, true, List, inl, inr}
use Rattle.std.specs.Prelude.{FitsSigned}
use Rattle.std.specs.Int.{w16}
use Rattle.thrift_value.specs.declared.kind.Kind.{Kind}
use Rattle.thrift_value.specs.Trees.{Tree, truth, whole_8, whole_16, whole_32, whole_64, double, characters, loose_number, loose_text, structure, mapping_of_none, mapping, collection, sequence, unique_id, Members, no_members, one_member, Trees, no_trees, one_tree, Pairs, no_pairs, one_pair, Message, IsValue, AreMembers, AreAll, ArePairs}
use Rattle.binary_protocol.specs.Grammar as binary
use Rattle.compact_protocol.specs.Grammar as compact
use Rattle.compact_protocol.specs.Grammar.{is_told}
use Rattle.binary_laws.specs.Written.{IsMessage}

-- ---- in Binary

mutual
  binary_value : (t : Tree) (bytes : List ℕ) → binary.SpellsValue t bytes → IsValue t
  binary_value (truth b) bytes s = tt
  binary_value (whole_8 n) bytes s = s.0
  binary_value (whole_16 n) bytes s = s.0
  binary_value (whole_32 n) bytes s = s.0
  binary_value (whole_64 n) bytes s = s.0
  binary_value (double eight) bytes s = s.0
  binary_value (characters chars) bytes s = s.0
  binary_value (loose_number chars) bytes s = absurd s
  binary_value (loose_text chars) bytes s = absurd s
  binary_value (structure ms) bytes s = binary_members ms bytes s
  binary_value mapping_of_none bytes s = tt
  binary_value (mapping key value ps) bytes (some, few, (pairs, one, laid)) = (some, few, binary_pairs key value ps pairs one)
  binary_value (collection kind ts) bytes (few, (elements, one, laid)) = (few, binary_elements kind ts elements one)
  binary_value (sequence kind ts) bytes (few, (elements, one, laid)) = (few, binary_elements kind ts elements one)
  binary_value (unique_id sixteen) bytes s = s.0

  binary_members : (ms : Members) (bytes : List ℕ) → binary.SpellsMembers ms bytes → AreMembers ms
  binary_members no_members bytes s = tt
  binary_members (one_member id t ms) bytes (fits, (value, rest, one, more, laid)) = (fits, binary_value t value one, binary_members ms rest more)

  binary_elements : (kind : Kind) (ts : Trees) (bytes : List ℕ) → binary.SpellsElements kind ts bytes → AreAll kind ts
  binary_elements kind no_trees bytes s = tt
  binary_elements kind (one_tree t ts) bytes (is, (first, rest, one, more, laid)) = (is, binary_value t first one, binary_elements kind ts rest more)

  binary_pairs : (key value : Kind) (ps : Pairs) (bytes : List ℕ) → binary.SpellsPairs key value ps bytes → ArePairs key value ps
  binary_pairs key value no_pairs bytes s = tt
  binary_pairs key value (one_pair k v ps) bytes (is, was, (first, second, rest, one, two, more, laid)) = (is, was, binary_value k first one, binary_value v second two, binary_pairs key value ps rest more)

pub binary_message : (m : Message) (bytes : List ℕ) → binary.BinarySpells m bytes → IsMessage m
binary_message m bytes (small, fits, (header, body, head, members, laid)) = record { name = small; seq = fits; body = binary_members m.body body members }

-- ---- in Compact

told : (t : Tree) → is_told t ≡ true → IsValue t
told (truth b) e = tt
told (whole_8 n) e = absurd (cc)
told (whole_16 n) e = absurd (cc)
told (whole_32 n) e = absurd (cc)
told (whole_64 n) e = absurd (cc)
told (double eight) e = absurd (cc)
told (characters chars) e = absurd (cc)
told (loose_number chars) e = absurd (cc)
told (loose_text chars) e = absurd (cc)
told (structure ms) e = absurd (cc)
told mapping_of_none e = absurd (cc)
told (mapping key value ps) e = absurd (cc)
told (collection kind ts) e = absurd (cc)
told (sequence kind ts) e = absurd (cc)
told (unique_id sixteen) e = absurd (cc)

field_id : (last id : ℤ) (code : ℕ) (bytes : List ℕ) → compact.IsFieldHeader last id code bytes → FitsSigned w16 id
field_id last id code bytes (inl (step, some, few, is, fits, laid)) = fits
field_id last id code bytes (inr (number, small, laid)) = small.0

mutual
  compact_value : (t : Tree) (bytes : List ℕ) → compact.SpellsValue t bytes → IsValue t
  compact_value (truth b) bytes s = tt
  compact_value (whole_8 n) bytes s = s.0
  compact_value (whole_16 n) bytes s = s.0
  compact_value (whole_32 n) bytes s = s.0
  compact_value (whole_64 n) bytes s = s.0
  compact_value (double eight) bytes s = s.0
  compact_value (characters chars) bytes (size, (small, spells), laid) = small
  compact_value (loose_number chars) bytes s = absurd s
  compact_value (loose_text chars) bytes s = absurd s
  compact_value (structure ms) bytes s = compact_members (pos 0) ms bytes s
  compact_value mapping_of_none bytes s = tt
  compact_value (mapping key value ps) bytes (some, (header, pairs, (number, (few, spells), kinds), one, laid)) = (some, few, compact_pairs key value ps pairs one)
  compact_value (collection kind ts) bytes (few, (header, elements, is, one, laid)) = (few, compact_elements kind ts elements one)
  compact_value (sequence kind ts) bytes (few, (header, elements, is, one, laid)) = (few, compact_elements kind ts elements one)
  compact_value (unique_id sixteen) bytes s = s.0

  compact_members : (last : ℤ) (ms : Members) (bytes : List ℕ) → compact.SpellsMembers last ms bytes → AreMembers ms
  compact_members last no_members bytes s = tt
  compact_members last (one_member id t ms) bytes (header, value, rest, is, inl (e, none), more, laid) = (field_id last id _ header is, told t e, compact_members id ms rest more)
  compact_members last (one_member id t ms) bytes (header, value, rest, is, inr (e, one), more, laid) = (field_id last id _ header is, compact_value t value one, compact_members id ms rest more)

  compact_elements : (kind : Kind) (ts : Trees) (bytes : List ℕ) → compact.SpellsElements kind ts bytes → AreAll kind ts
  compact_elements kind no_trees bytes s = tt
  compact_elements kind (one_tree t ts) bytes (is, (first, rest, one, more, laid)) = (is, compact_value t first one, compact_elements kind ts rest more)

  compact_pairs : (key value : Kind) (ps : Pairs) (bytes : List ℕ) → compact.SpellsPairs key value ps bytes → ArePairs key value ps
  compact_pairs key value no_pairs bytes s = tt
  compact_pairs key value (one_pair k v ps) bytes (is, was, (first, second, rest, one, two, more, laid)) = (is, was, compact_value k first one, compact_value v second two, compact_pairs key value ps rest more)

pub compact_message : (m : Message) (bytes : List ℕ) → compact.CompactSpells m bytes → IsMessage m
compact_message m bytes (header, body, (seq, (number, name, spells, (size, (small, sized), text), front)), members, laid) = record { name = small; seq = seq; body = compact_members (pos 0) m.body body members }
