-- What is spelled in Binary holds no loose text.
use Rattle.std.proofs.Common.{◌≡◌, ℕ, List, [], ◌∷◌, ◌++◌, None, refl}
use Rattle.std.specs.Bool.{⊤}
use Rattle.thrift_value.specs.declared.kind.Kind.{Kind}
use Rattle.thrift_value.specs.Items.{Item, field, stop, bool_value, i8_value, i16_value, i32_value, i64_value, double_value, text, number_text, unknown_text, struct_begin, empty_map, map_begin, set_begin, list_begin, end, uuid_value}
use Rattle.thrift_value.specs.Trees.{Tree, truth, whole_8, whole_16, whole_32, whole_64, double, characters, loose_number, loose_text, structure, mapping_of_none, mapping, collection, sequence, unique_id, Members, no_members, one_member, Trees, no_trees, one_tree, Pairs, no_pairs, one_pair, items_of, items_of_members, items_of_trees, items_of_pairs}
use Rattle.protocol_traits.specs.declared.proto.Mark.{Mark}
use Rattle.type_walk.specs.Positions.{Position, mark_of, after}
use Rattle.translate_core.specs.Answers.{TakesAll, marked}
use Rattle.binary_protocol.specs.Grammar.{SpellsValue, SpellsMembers, SpellsElements, SpellsPairs}
use Rattle.binary_protocol.specs.Plain as binary
use Rattle.compact_protocol.specs.Plain as compact

abbrev pub IsFirm : Item → Type 0
IsFirm (number_text bytes) = ⊥
IsFirm (unknown_text bytes) = ⊥
IsFirm item = ⊤

abbrev pub AreFirm : List Item → Type 0
AreFirm [] = ⊤
AreFirm (item ∷ items) = IsFirm item × AreFirm items

pub both : (a b : List Item) → AreFirm a → AreFirm b → AreFirm (a ++ b)
both [] b f g = g
both (item ∷ a) b f g = (f.0, both a b f.1 g)

mutual
  value_firm : (t : Tree) (bytes : List ℕ) → SpellsValue t bytes → AreFirm (items_of t)
  value_firm (truth b) bytes s = (tt, tt)
  value_firm (whole_8 n) bytes s = (tt, tt)
  value_firm (whole_16 n) bytes s = (tt, tt)
  value_firm (whole_32 n) bytes s = (tt, tt)
  value_firm (whole_64 n) bytes s = (tt, tt)
  value_firm (double eight) bytes s = (tt, tt)
  value_firm (characters chars) bytes s = (tt, tt)
  value_firm (loose_number chars) bytes s = absurd s
  value_firm (loose_text chars) bytes s = absurd s
  value_firm (structure ms) bytes s = (tt, members_firm ms bytes s)
  value_firm mapping_of_none bytes s = (tt, tt)
  value_firm (mapping key value ps) bytes (some, few, (pairs, one, laid)) = (tt, pairs_firm key value ps pairs one)
  value_firm (collection kind ts) bytes (few, (elements, one, laid)) = (tt, elements_firm kind ts elements one)
  value_firm (sequence kind ts) bytes (few, (elements, one, laid)) = (tt, elements_firm kind ts elements one)
  value_firm (unique_id sixteen) bytes s = (tt, tt)

  pub members_firm : (ms : Members) (bytes : List ℕ) → SpellsMembers ms bytes → AreFirm (items_of_members ms)
  members_firm no_members bytes s = (tt, tt)
  members_firm (one_member id t ms) bytes (fits, (value, rest, one, more, laid)) = (tt, both (items_of t) (items_of_members ms) (value_firm t value one) (members_firm ms rest more))

  elements_firm : (kind : Kind) (ts : Trees) (bytes : List ℕ) → SpellsElements kind ts bytes → AreFirm (items_of_trees ts)
  elements_firm kind no_trees bytes s = (tt, tt)
  elements_firm kind (one_tree t ts) bytes (is, (first, rest, one, more, laid)) = both (items_of t) (items_of_trees ts) (value_firm t first one) (elements_firm kind ts rest more)

  pairs_firm : (key value : Kind) (ps : Pairs) (bytes : List ℕ) → SpellsPairs key value ps bytes → AreFirm (items_of_pairs ps)
  pairs_firm key value no_pairs bytes s = (tt, tt)
  pairs_firm key value (one_pair k v ps) bytes (is, was, (first, second, rest, one, two, more, laid)) =
      both (items_of k) (items_of v ++ items_of_pairs ps) (value_firm k first one) (both (items_of v) (items_of_pairs ps) (value_firm v second two) (pairs_firm key value ps rest more))

binary_takes : (item : Item) (mark : Mark) → IsFirm item → binary.bar item mark ≡ None
binary_takes (field id kind) mark f = refl
binary_takes stop mark f = refl
binary_takes (bool_value b) mark f = refl
binary_takes (i8_value n) mark f = refl
binary_takes (i16_value n) mark f = refl
binary_takes (i32_value n) mark f = refl
binary_takes (i64_value n) mark f = refl
binary_takes (double_value bytes) mark f = refl
binary_takes (text bytes) mark f = refl
binary_takes (number_text bytes) mark f = absurd f
binary_takes (unknown_text bytes) mark f = absurd f
binary_takes struct_begin mark f = refl
binary_takes empty_map mark f = refl
binary_takes (map_begin key value size) mark f = refl
binary_takes (set_begin kind size) mark f = refl
binary_takes (list_begin kind size) mark f = refl
binary_takes end mark f = refl
binary_takes (uuid_value bytes) mark f = refl

compact_takes : (item : Item) → IsFirm item → compact.bar item ≡ None
compact_takes (field id kind) f = refl
compact_takes stop f = refl
compact_takes (bool_value b) f = refl
compact_takes (i8_value n) f = refl
compact_takes (i16_value n) f = refl
compact_takes (i32_value n) f = refl
compact_takes (i64_value n) f = refl
compact_takes (double_value bytes) f = refl
compact_takes (text bytes) f = refl
compact_takes (number_text bytes) f = absurd f
compact_takes (unknown_text bytes) f = absurd f
compact_takes struct_begin f = refl
compact_takes empty_map f = refl
compact_takes (map_begin key value size) f = refl
compact_takes (set_begin kind size) f = refl
compact_takes (list_begin kind size) f = refl
compact_takes end f = refl
compact_takes (uuid_value bytes) f = refl

pub binary_takes_all : (items : List Item) (p : Position) → AreFirm items → TakesAll binary.bar (marked p items)
binary_takes_all [] p f = tt
binary_takes_all (item ∷ items) p f = (binary_takes item (mark_of p item) f.0, binary_takes_all items (after p item) f.1)

pub compact_takes_all : (items : List Item) (p : Position) → AreFirm items → TakesAll (λ item mark. compact.bar item) (marked p items)
compact_takes_all [] p f = tt
compact_takes_all (item ∷ items) p f = (compact_takes item f.0, compact_takes_all items (after p item) f.1)
