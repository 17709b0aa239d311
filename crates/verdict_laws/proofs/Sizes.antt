-- How long the plain spelling of a message is that a frame spells.
use Rattle.std.proofs.Common.{ℕ, ◌+◌, ◌*◌, ◌≤◌, List, [], ◌∷◌, ◌++◌, length, ap, subst, arith, length-append}
use Rattle.std.specs.Bool.{⊤}
use Rattle.std.specs.Prelude.{IfOk}
use Rattle.thrift_value.specs.declared.kind.Kind.{Kind}
use Rattle.thrift_value.specs.Items.{Item}
use Rattle.thrift_value.specs.Trees.{Tree, truth, whole_8, whole_16, whole_32, whole_64, double, characters, loose_number, loose_text, structure, mapping_of_none, mapping, collection, sequence, unique_id, Members, no_members, one_member, Trees, no_trees, one_tree, Pairs, no_pairs, one_pair, items_of, items_of_members, items_of_trees, items_of_pairs, IsValue, AreMembers, AreAll, ArePairs}
use Rattle.protocol_traits.specs.Heads.{Header}
use Rattle.protocol_traits.specs.Room.{weight, head_weight, IsSized}
use Rattle.protocol_traits.specs.declared.proto.Mark.{Mark}
use Rattle.type_walk.specs.Positions.{Position, hint_of, mark_of, after}
use Rattle.translate_verdicts.specs.Body.{Source, TargetRules}
use Rattle.translate_core.specs.Answers.{marked, spelled}
use Rattle.verdict_laws.specs.Following.{Follows}
use Rattle.verdict_laws.proofs.Bodies.{IsNested}
use Rattle.verdict_laws.proofs.Firm.{AreFirm}

-- ---- the items of a value are sized

abbrev pub AreSized : List Item → Type 0
AreSized [] = ⊤
AreSized (item ∷ items) = IsSized item × AreSized items

joined : (a b : List Item) → AreSized a → AreSized b → AreSized (a ++ b)
joined [] b s t = t
joined (item ∷ a) b s t = (s.0, joined a b s.1 t)

firm_front : (a b : List Item) → AreFirm (a ++ b) → AreFirm a
firm_front [] b f = tt
firm_front (item ∷ a) b f = (f.0, firm_front a b f.1)

firm_back : (a b : List Item) → AreFirm (a ++ b) → AreFirm b
firm_back [] b f = f
firm_back (item ∷ a) b f = firm_back a b f.1

mutual
  value_sized : (t : Tree) → IsValue t → AreFirm (items_of t) → AreSized (items_of t)
  value_sized (truth b) v f = (tt, tt)
  value_sized (whole_8 n) v f = (v, tt)
  value_sized (whole_16 n) v f = (v, tt)
  value_sized (whole_32 n) v f = (v, tt)
  value_sized (whole_64 n) v f = (v, tt)
  value_sized (double eight) v f = (v, tt)
  value_sized (characters chars) v f = (v, tt)
  value_sized (loose_number chars) v f = absurd f.0
  value_sized (loose_text chars) v f = absurd f.0
  value_sized (structure ms) v f = (tt, members_sized ms v f.1)
  value_sized mapping_of_none v f = (tt, tt)
  value_sized (mapping key value ps) v f = ((v.0, v.1), pairs_sized key value ps v.2 f.1)
  value_sized (collection kind ts) v f = (v.0, trees_sized kind ts v.1 f.1)
  value_sized (sequence kind ts) v f = (v.0, trees_sized kind ts v.1 f.1)
  value_sized (unique_id sixteen) v f = (v, tt)

  pub members_sized : (ms : Members) → AreMembers ms → AreFirm (items_of_members ms) → AreSized (items_of_members ms)
  members_sized no_members v f = (tt, tt)
  members_sized (one_member id t ms) (fits, v, vs) f =
      (fits, joined (items_of t) (items_of_members ms) (value_sized t v (firm_front (items_of t) (items_of_members ms) f.1)) (members_sized ms vs (firm_back (items_of t) (items_of_members ms) f.1)))

  trees_sized : (kind : Kind) (ts : Trees) → AreAll kind ts → AreFirm (items_of_trees ts) → AreSized (items_of_trees ts)
  trees_sized kind no_trees v f = (tt, tt)
  trees_sized kind (one_tree t ts) (is, v, vs) f =
      joined (items_of t) (items_of_trees ts) (value_sized t v (firm_front (items_of t) (items_of_trees ts) f)) (trees_sized kind ts vs (firm_back (items_of t) (items_of_trees ts) f))

  pairs_sized : (key value : Kind) (ps : Pairs) → ArePairs key value ps → AreFirm (items_of_pairs ps) → AreSized (items_of_pairs ps)
  pairs_sized key value no_pairs v f = (tt, tt)
  pairs_sized key value (one_pair k x ps) (is, was, v, w, vs) f =
      let back = firm_back (items_of k) (items_of x ++ items_of_pairs ps) f in
      joined (items_of k) (items_of x ++ items_of_pairs ps) (value_sized k v (firm_front (items_of k) (items_of x ++ items_of_pairs ps) f))
      (joined (items_of x) (items_of_pairs ps) (value_sized x w (firm_front (items_of x) (items_of_pairs ps) back)) (pairs_sized key value ps vs (firm_back (items_of x) (items_of_pairs ps) back)))

-- ---- weights

abbrev total : List Item → ℕ
total [] = 0
total (item ∷ items) = weight item + total items

module _ {S : Type 0} (source : Source S) (level : S → ℕ) (nested : IsNested source level) where
  -- what is read was paid for
  paid : (items : List Item) (s last : S) (p : Position) → Follows source s p items last → total items + source.ahead last ≤ source.ahead s
  paid [] s last p same = let e = ap source.ahead same in omega (arith, e)
  paid (item ∷ items) s last p (next, reads, more) =
      let one = subst (λ r. IfOk r (λ x. weight x.0 + source.ahead x.1 ≤ source.ahead s)) reads (nested.pays s (hint_of p)) in
      let rest = paid items next last (after p item) more in
      omega (arith, one, rest)

module _ {T : Type 0} (target : TargetRules T) (light : (w : T) (item : Item) (mark : Mark) → IsSized item → length (target.plain w item mark) ≤ weight item) where
  -- what is written weighs no more than its items
  written : (w : T) (p : Position) (items : List Item) → AreSized items → length (spelled target.plain target.after w (marked p items)) ≤ total items
  written w p [] sized = omega arith
  written w p (item ∷ items) sized =
      let one = light w item (mark_of p item) sized.0 in
      let rest = written (target.after w item (mark_of p item)) (after p item) items sized.1 in
      omega (arith, one, rest, length-append (target.plain w item (mark_of p item)) (spelled target.plain target.after (target.after w item (mark_of p item)) (marked (after p item) items)))

  -- the whole spelling, where so much was ahead of the reader
  pub short : {S : Type 0} (source : Source S) (level : S → ℕ) (nested : IsNested source level) (header : Header) (items : List Item) (first last : S) (p : Position) (n : ℕ)
      → Follows source first p items last → AreSized items → length (target.plain_head header) ≤ head_weight (length header.name)
      → head_weight (length header.name) + source.ahead first ≤ 24 * n + 64
      → length (target.plain_head header ++ spelled target.plain target.after target.begun (marked p items)) ≤ 24 * n + 256
  short source level nested header items first last p n follows sized head ahead =
      let body = written target.begun p items sized in
      let cost = paid source level nested items first last p follows in
      omega (arith, body, cost, head, ahead, length-append (target.plain_head header) (spelled target.plain target.after target.begun (marked p items)))
