-- What is written of a message spells it.
use Rattle.std.proofs.Common.{◌≡◌, ℕ, List, [], ◌∷◌, ◌++◌, Some, None, refl, ap, ◌∙◌, sym, subst, arith, inl, inr, append_assoc}
use Rattle.std.proofs.lemmas.List.{append-nil}
use Rattle.thrift_value.specs.declared.kind.Kind.{Kind}
use Rattle.thrift_value.specs.Items.{Item, field, stop, bool_value, i8_value, i16_value, i32_value, i64_value, double_value, text, number_text, unknown_text, struct_begin, empty_map, map_begin, set_begin, list_begin, end, uuid_value}
use Rattle.thrift_value.specs.Trees.{Tree, truth, whole_8, whole_16, whole_32, whole_64, double, characters, loose_number, loose_text, structure, mapping_of_none, mapping, collection, sequence, unique_id, Members, no_members, one_member, Trees, no_trees, one_tree, Pairs, no_pairs, one_pair, Message, kind_of, count_of_trees, count_of_pairs, items_of, items_of_members, items_of_trees, items_of_pairs, IsValue, AreMembers, AreAll, ArePairs}
use Rattle.protocol_traits.specs.declared.fault.Bar.{Bar}
use Rattle.protocol_traits.specs.declared.fault.Bar.TheVariants as bars
use Rattle.protocol_traits.specs.declared.proto.Mark.{Mark}
use Rattle.binary_protocol.specs.Codes.{code_of_kind}
use Rattle.binary_protocol.specs.Plain.{bar, plain, plain_head}
use Rattle.binary_protocol.specs.Grammar.{SpellsValue, SpellsMembers, SpellsElements, SpellsPairs, BinarySpells}
use Rattle.binary_laws.specs.Reads.{header_of_message}
use Rattle.binary_laws.specs.Written.{items_in, put, AreTaken, IsMessage, IsWritten}

abbrev Marked : Type 0
Marked = List (Item × Mark)

item_same : (x y : Item) (xs ys : List Item) → x ∷ xs ≡ y ∷ ys → x ≡ y
item_same x y xs ys e = cc

items_same : (x y : Item) (xs ys : List Item) → x ∷ xs ≡ y ∷ ys → xs ≡ ys
items_same x y xs ys e = cc

-- the first of them is this item
record IsFirst (item : Item) (rest : List Item) (all : Marked) : Type 0 where
  mark : Mark
  more : Marked
  is : all ≡ (item, mark) ∷ more
  others : items_in more ≡ rest

first_is : (item : Item) (rest : List Item) (all : Marked) → items_in all ≡ item ∷ rest → IsFirst item rest all
first_is item rest [] e = absurd (cc)
first_is item rest (x ∷ xs) e = record {
  mark = x.1;
  more = xs;
  is = ap (λ i. (i, x.1) ∷ xs) (item_same x.0 item (items_in xs) rest e);
  others = items_same x.0 item (items_in xs) rest e;
}

-- none behind them
none_left : (all : Marked) → items_in all ≡ [] → all ≡ []
none_left [] e = refl
none_left (x ∷ xs) e = absurd (cc)

-- parted as their items are
record AreParted (a b : List Item) (all : Marked) : Type 0 where
  one : Marked
  two : Marked
  is : all ≡ one ++ two
  front : items_in one ≡ a
  back : items_in two ≡ b

parted : (a b : List Item) (all : Marked) → items_in all ≡ a ++ b → AreParted a b all
parted [] b all e = record { one = []; two = all; is = refl; front = refl; back = e }
parted (item ∷ a) b [] e = absurd (cc)
parted (item ∷ a) b (x ∷ xs) e =
    let p = parted a b xs (items_same x.0 item (items_in xs) (a ++ b) e) in
    record {
      one = x ∷ p.one;
      two = p.two;
      is = ap (λ l. x ∷ l) p.is;
      front = ap (λ l. x.0 ∷ l) p.front ∙ ap (λ i. i ∷ a) (item_same x.0 item (items_in xs) (a ++ b) e);
      back = p.back;
    }

put_both : (a b : Marked) → put (a ++ b) ≡ put a ++ put b
put_both [] b = refl
put_both (x ∷ a) b = ap (λ l. plain x.0 x.1 ++ l) (put_both a b) ∙ sym (append_assoc (plain x.0 x.1) (put a) (put b))

taken_front : (a b : Marked) → AreTaken (a ++ b) → AreTaken a
taken_front [] b t = tt
taken_front (x ∷ a) b t = (t.0, taken_front a b t.1)

taken_back : (a b : Marked) → AreTaken (a ++ b) → AreTaken b
taken_back [] b t = t
taken_back (x ∷ a) b t = taken_back a b t.1

-- a single item
single : (item : Item) (all : Marked) → items_in all ≡ item ∷ [] → (mark : Mark) × (all ≡ (item, mark) ∷ [])
single item all e =
    let f = first_is item [] all e in
    (f.mark, f.is ∙ ap (λ l. (item, f.mark) ∷ l) (none_left f.more f.others))

single_put : (item : Item) (all : Marked) → items_in all ≡ item ∷ [] → (mark : Mark) × (put all ≡ plain item mark)
single_put item all e = let s = single item all e in (s.0, ap put s.1 ∙ append-nil (plain item s.0))

single_taken : (item : Item) (all : Marked) → items_in all ≡ item ∷ [] → AreTaken all → (mark : Mark) × (bar item mark ≡ None)
single_taken item all e t = let s = single item all e in (s.0, (subst AreTaken s.1 t).0)

no_bar : (b : Bar) → Some b ≡ None → ⊥
no_bar b e = absurd (cc)

mutual
  value_put : (t : Tree) (all : Marked) → items_in all ≡ items_of t → AreTaken all → IsValue t → SpellsValue t (put all)
  value_put (truth b) all e t v = (single_put (bool_value b) all e).1
  value_put (whole_8 n) all e t v = (v, (single_put (i8_value n) all e).1)
  value_put (whole_16 n) all e t v = (v, (single_put (i16_value n) all e).1)
  value_put (whole_32 n) all e t v = (v, (single_put (i32_value n) all e).1)
  value_put (whole_64 n) all e t v = (v, (single_put (i64_value n) all e).1)
  value_put (double bytes) all e t v = (v, (single_put (double_value bytes) all e).1)
  value_put (characters bytes) all e t v = (v, (single_put (text bytes) all e).1)
  value_put (loose_number bytes) all e t v = absurd (no_bar bars.Double (single_taken (number_text bytes) all e t).1)
  value_put (loose_text bytes) all e t v = absurd (no_bar bars.UnknownString (single_taken (unknown_text bytes) all e t).1)
  value_put (structure ms) all e t v =
      let f = first_is struct_begin (items_of_members ms) all e in
      subst (λ l. SpellsMembers ms (put l)) (sym f.is) (members_put ms f.more f.others (subst AreTaken f.is t).1 v)
  value_put mapping_of_none all e t v =
      let s = single_put empty_map all e in
      (code_of_kind s.0.key, code_of_kind s.0.value, inr (s.0.key, refl), inr (s.0.value, refl), s.1)
  value_put (mapping key value ps) all e t v =
      let f = first_is (map_begin key value (count_of_pairs ps)) (items_of_pairs ps) all e in
      (v.0, v.1, (put f.more, pairs_put key value ps f.more f.others (subst AreTaken f.is t).1 v.2, ap put f.is))
  value_put (collection kind ts) all e t v =
      let f = first_is (set_begin kind (count_of_trees ts)) (items_of_trees ts) all e in
      (v.0, (put f.more, trees_put kind ts f.more f.others (subst AreTaken f.is t).1 v.1, ap put f.is))
  value_put (sequence kind ts) all e t v =
      let f = first_is (list_begin kind (count_of_trees ts)) (items_of_trees ts) all e in
      (v.0, (put f.more, trees_put kind ts f.more f.others (subst AreTaken f.is t).1 v.1, ap put f.is))
  value_put (unique_id bytes) all e t v = (v, (single_put (uuid_value bytes) all e).1)

  members_put : (ms : Members) (all : Marked) → items_in all ≡ items_of_members ms → AreTaken all → AreMembers ms → SpellsMembers ms (put all)
  members_put no_members all e t v = (single_put stop all e).1
  members_put (one_member id x ms) all e t v =
      let f = first_is (field id (kind_of x)) (items_of x ++ items_of_members ms) all e in
      let p = parted (items_of x) (items_of_members ms) f.more f.others in
      let taken = subst AreTaken p.is (subst AreTaken f.is t).1 in (
        v.0,
        (
          put p.one,
          put p.two,
          value_put x p.one p.front (taken_front p.one p.two taken) v.1,
          members_put ms p.two p.back (taken_back p.one p.two taken) v.2,
          ap put f.is ∙ ap (λ l. plain (field id (kind_of x)) f.mark ++ l) (ap put p.is ∙ put_both p.one p.two),
        ),
      )

  trees_put : (kind : Kind) (ts : Trees) (all : Marked) → items_in all ≡ items_of_trees ts → AreTaken all → AreAll kind ts → SpellsElements kind ts (put all)
  trees_put kind no_trees all e t v = (single_put end all e).1
  trees_put kind (one_tree x ts) all e t v =
      let p = parted (items_of x) (items_of_trees ts) all e in
      let taken = subst AreTaken p.is t in
      (v.0, (put p.one, put p.two, value_put x p.one p.front (taken_front p.one p.two taken) v.1, trees_put kind ts p.two p.back (taken_back p.one p.two taken) v.2, ap put p.is ∙ put_both p.one p.two))

  pairs_put : (key value : Kind) (ps : Pairs) (all : Marked) → items_in all ≡ items_of_pairs ps → AreTaken all → ArePairs key value ps → SpellsPairs key value ps (put all)
  pairs_put key value no_pairs all e t v = (single_put end all e).1
  pairs_put key value (one_pair k x ps) all e t v =
      let p = parted (items_of k) (items_of x ++ items_of_pairs ps) all e in
      let q = parted (items_of x) (items_of_pairs ps) p.two p.back in
      let taken = subst AreTaken p.is t in
      let behind = subst AreTaken q.is (taken_back p.one p.two taken) in (
        v.0,
        v.1,
        (
          put p.one,
          put q.one,
          put q.two,
          value_put k p.one p.front (taken_front p.one p.two taken) v.2,
          value_put x q.one q.front (taken_front q.one q.two behind) v.3,
          pairs_put key value ps q.two q.back (taken_back q.one q.two behind) v.4,
          ap put p.is ∙ put_both p.one p.two ∙ ap (λ l. put p.one ++ l) (ap put q.is ∙ put_both q.one q.two),
        ),
      )

pub written_spells : (m : Message) (bytes : List ℕ) → IsMessage m → IsWritten m bytes → BinarySpells m bytes
written_spells m bytes good w =
    (good.name, good.seq, (plain_head (header_of_message m), put w.marked, inl (0, omega arith, refl), members_put m.body w.marked w.items w.taken good.body, w.bytes_are))
