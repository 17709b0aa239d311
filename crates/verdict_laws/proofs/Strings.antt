-- The strings of a message that is spelled in bytes consist of bytes.
use Rattle.std.proofs.Common.{◌≡◌, ℕ, ℤ, pos, true, List, [], ◌∷◌, ◌++◌, length, subst, inl, inr}
use Rattle.std.specs.Int.{w16}
use Rattle.gate_base.specs.Bytes.{AreBytes}
use Rattle.thrift_value.specs.declared.kind.Kind.{Kind}
use Rattle.thrift_value.specs.Trees.{Tree, truth, whole_8, whole_16, whole_32, whole_64, double, characters, loose_number, loose_text, structure, mapping_of_none, mapping, collection, sequence, unique_id, Members, no_members, one_member, Trees, no_trees, one_tree, Pairs, no_pairs, one_pair, Message, kind_of, count_of_trees, count_of_pairs, items_of, items_of_members, items_of_trees, items_of_pairs}
use Rattle.binary_protocol.specs.Codes.{code_of_kind}
use Rattle.binary_protocol.specs.Grammar as binary
use Rattle.binary_laws.proofs.Inverse.{bytes_front}
use Rattle.compact_protocol.specs.Grammar as compact
use Rattle.compact_protocol.specs.Grammar.{is_told}
use Rattle.json_text.specs.Grammar as json
use Rattle.json_laws.specs.Written.{HaveBytes}
use Rattle.json_laws.proofs.Strings.{both_have}

same_bytes : (xs : List ℕ) → AreBytes xs → json.AreBytes xs
same_bytes [] h = tt
same_bytes (x ∷ xs) h = (h.0, same_bytes xs h.1)

-- ---- in Binary

mutual
  binary_value : (t : Tree) (bytes : List ℕ) → binary.SpellsValue t bytes → AreBytes bytes → HaveBytes (items_of t)
  binary_value (truth b) bytes s are = (tt, tt)
  binary_value (whole_8 n) bytes s are = (tt, tt)
  binary_value (whole_16 n) bytes s are = (tt, tt)
  binary_value (whole_32 n) bytes s are = (tt, tt)
  binary_value (whole_64 n) bytes s are = (tt, tt)
  binary_value (double eight) bytes s are = (tt, tt)
  binary_value (characters chars) bytes (small, is) are = (same_bytes chars (bytes_front (binary.size (length chars)) chars (subst AreBytes is are)).1, tt)
  binary_value (loose_number chars) bytes s are = absurd s
  binary_value (loose_text chars) bytes s are = absurd s
  binary_value (structure ms) bytes s are = (tt, binary_members ms bytes s are)
  binary_value mapping_of_none bytes s are = (tt, tt)
  binary_value (mapping key value ps) bytes (some, few, (pairs, one, laid)) are =
      (tt, binary_pairs key value ps pairs one (bytes_front (code_of_kind key ∷ code_of_kind value ∷ binary.size (count_of_pairs ps)) pairs (subst AreBytes laid are)).1)
  binary_value (collection kind ts) bytes (few, (elements, one, laid)) are =
      (tt, binary_elements kind ts elements one (bytes_front (code_of_kind kind ∷ binary.size (count_of_trees ts)) elements (subst AreBytes laid are)).1)
  binary_value (sequence kind ts) bytes (few, (elements, one, laid)) are =
      (tt, binary_elements kind ts elements one (bytes_front (code_of_kind kind ∷ binary.size (count_of_trees ts)) elements (subst AreBytes laid are)).1)
  binary_value (unique_id sixteen) bytes s are = (tt, tt)

  binary_members : (ms : Members) (bytes : List ℕ) → binary.SpellsMembers ms bytes → AreBytes bytes → HaveBytes (items_of_members ms)
  binary_members no_members bytes s are = (tt, tt)
  binary_members (one_member id t ms) bytes (fits, (value, rest, one, more, laid)) are =
      let inner = bytes_front value rest (bytes_front (code_of_kind (kind_of t) ∷ binary.number w16 id) (value ++ rest) (subst AreBytes laid are)).1 in
      (tt, both_have (items_of t) (items_of_members ms) (binary_value t value one inner.0) (binary_members ms rest more inner.1))

  binary_elements : (kind : Kind) (ts : Trees) (bytes : List ℕ) → binary.SpellsElements kind ts bytes → AreBytes bytes → HaveBytes (items_of_trees ts)
  binary_elements kind no_trees bytes s are = (tt, tt)
  binary_elements kind (one_tree t ts) bytes (is, (first, rest, one, more, laid)) are =
      let parts = bytes_front first rest (subst AreBytes laid are) in
      both_have (items_of t) (items_of_trees ts) (binary_value t first one parts.0) (binary_elements kind ts rest more parts.1)

  binary_pairs : (key value : Kind) (ps : Pairs) (bytes : List ℕ) → binary.SpellsPairs key value ps bytes → AreBytes bytes → HaveBytes (items_of_pairs ps)
  binary_pairs key value no_pairs bytes s are = (tt, tt)
  binary_pairs key value (one_pair k v ps) bytes (is, was, (first, second, rest, one, two, more, laid)) are =
      let parts = bytes_front first (second ++ rest) (subst AreBytes laid are) in
      let others = bytes_front second rest parts.1 in
      both_have (items_of k) (items_of v ++ items_of_pairs ps) (binary_value k first one parts.0)
      (both_have (items_of v) (items_of_pairs ps) (binary_value v second two others.0) (binary_pairs key value ps rest more others.1))

pub binary_strings : (m : Message) (frame : List ℕ) → binary.BinarySpells m frame → AreBytes frame → HaveBytes (items_of_members m.body)
binary_strings m frame (small, fits, (header, body, head, members, laid)) are = binary_members m.body body members (bytes_front header body (subst AreBytes laid are)).1

-- ---- in Compact

told : (t : Tree) → is_told t ≡ true → HaveBytes (items_of t)
told (truth b) e = (tt, tt)
told (whole_8 n) e = absurd (cc)
told (whole_16 n) e = absurd (cc)
told (whole_32 n) e = absurd (cc)
told (whole_64 n) e = absurd (cc)
told (double eight) e = absurd (cc)
told (characters chars) e = absurd (cc)
told (loose_number chars) e = absurd (cc)
told (loose_text chars) e = absurd (cc)
told (structure ms) e = absurd (cc)
told mapping_of_none e = absurd (cc)
told (mapping key value ps) e = absurd (cc)
told (collection kind ts) e = absurd (cc)
told (sequence kind ts) e = absurd (cc)
told (unique_id sixteen) e = absurd (cc)

mutual
  compact_value : (t : Tree) (bytes : List ℕ) → compact.SpellsValue t bytes → AreBytes bytes → HaveBytes (items_of t)
  compact_value (truth b) bytes s are = (tt, tt)
  compact_value (whole_8 n) bytes s are = (tt, tt)
  compact_value (whole_16 n) bytes s are = (tt, tt)
  compact_value (whole_32 n) bytes s are = (tt, tt)
  compact_value (whole_64 n) bytes s are = (tt, tt)
  compact_value (double eight) bytes s are = (tt, tt)
  compact_value (characters chars) bytes (size, few, laid) are = (same_bytes chars (bytes_front size chars (subst AreBytes laid are)).1, tt)
  compact_value (loose_number chars) bytes s are = absurd s
  compact_value (loose_text chars) bytes s are = absurd s
  compact_value (structure ms) bytes s are = (tt, compact_members (pos 0) ms bytes s are)
  compact_value mapping_of_none bytes s are = (tt, tt)
  compact_value (mapping key value ps) bytes (some, (header, pairs, is, one, laid)) are = (tt, compact_pairs key value ps pairs one (bytes_front header pairs (subst AreBytes laid are)).1)
  compact_value (collection kind ts) bytes (few, (header, elements, is, one, laid)) are = (tt, compact_elements kind ts elements one (bytes_front header elements (subst AreBytes laid are)).1)
  compact_value (sequence kind ts) bytes (few, (header, elements, is, one, laid)) are = (tt, compact_elements kind ts elements one (bytes_front header elements (subst AreBytes laid are)).1)
  compact_value (unique_id sixteen) bytes s are = (tt, tt)

  compact_members : (last : ℤ) (ms : Members) (bytes : List ℕ) → compact.SpellsMembers last ms bytes → AreBytes bytes → HaveBytes (items_of_members ms)
  compact_members last no_members bytes s are = (tt, tt)
  compact_members last (one_member id t ms) bytes (header, value, rest, is, inl (e, none), more, laid) are =
      let inner = bytes_front value rest (bytes_front header (value ++ rest) (subst AreBytes laid are)).1 in
      (tt, both_have (items_of t) (items_of_members ms) (told t e) (compact_members id ms rest more inner.1))
  compact_members last (one_member id t ms) bytes (header, value, rest, is, inr (e, one), more, laid) are =
      let inner = bytes_front value rest (bytes_front header (value ++ rest) (subst AreBytes laid are)).1 in
      (tt, both_have (items_of t) (items_of_members ms) (compact_value t value one inner.0) (compact_members id ms rest more inner.1))

  compact_elements : (kind : Kind) (ts : Trees) (bytes : List ℕ) → compact.SpellsElements kind ts bytes → AreBytes bytes → HaveBytes (items_of_trees ts)
  compact_elements kind no_trees bytes s are = (tt, tt)
  compact_elements kind (one_tree t ts) bytes (is, (first, rest, one, more, laid)) are =
      let parts = bytes_front first rest (subst AreBytes laid are) in
      both_have (items_of t) (items_of_trees ts) (compact_value t first one parts.0) (compact_elements kind ts rest more parts.1)

  compact_pairs : (key value : Kind) (ps : Pairs) (bytes : List ℕ) → compact.SpellsPairs key value ps bytes → AreBytes bytes → HaveBytes (items_of_pairs ps)
  compact_pairs key value no_pairs bytes s are = (tt, tt)
  compact_pairs key value (one_pair k v ps) bytes (is, was, (first, second, rest, one, two, more, laid)) are =
      let parts = bytes_front first (second ++ rest) (subst AreBytes laid are) in
      let others = bytes_front second rest parts.1 in
      both_have (items_of k) (items_of v ++ items_of_pairs ps) (compact_value k first one parts.0)
      (both_have (items_of v) (items_of_pairs ps) (compact_value v second two others.0) (compact_pairs key value ps rest more others.1))

pub compact_strings : (m : Message) (frame : List ℕ) → compact.CompactSpells m frame → AreBytes frame → HaveBytes (items_of_members m.body)
compact_strings m frame (header, body, head, members, laid) are = compact_members (pos 0) m.body body members (bytes_front header body (subst AreBytes laid are)).1
