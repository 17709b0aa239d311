-- Trees as data of the logic's own kind, one to one: what lets a struct be seen as a tree.
use Rattle.std.specs.Prelude.{◌≡◌, ℕ, zero, suc, ℤ, pos, negsuc, Bool, true, false, List, [], ◌∷◌, refl}
use Rattle.std.proofs.Common.{sym, ◌∙◌, ap}
use base.Stored.{Coded, Gv, gnil, gnum, gcons}
use Rattle.thrift_value.specs.declared.kind.Kind.{Kind}
use Rattle.thrift_value.specs.declared.kind.Kind.TheVariants as kinds
use Rattle.thrift_value.specs.Trees.{Tree, Members, Trees, Pairs, truth, whole_8, whole_16, whole_32, whole_64, double, characters, loose_number, loose_text, structure, mapping_of_none, mapping, collection, sequence, unique_id, no_members, one_member, no_trees, one_tree, no_pairs, one_pair}

abbrev of_kind : Kind → Gv
of_kind kinds.Bool = gnum 0
of_kind kinds.I8 = gnum 1
of_kind kinds.I16 = gnum 2
of_kind kinds.I32 = gnum 3
of_kind kinds.I64 = gnum 4
of_kind kinds.Double = gnum 5
of_kind kinds.Str = gnum 6
of_kind kinds.Struct = gnum 7
of_kind kinds.Map = gnum 8
of_kind kinds.Set = gnum 9
of_kind kinds.List = gnum 10
of_kind kinds.Uuid = gnum 11

-- what stands at a place of a list
abbrev nth : {A : Type 0} → A → List A → ℕ → A
nth other [] n = other
nth other (x ∷ xs) zero = x
nth other (x ∷ xs) (suc n) = nth other xs n

abbrev all_kinds : List Kind
all_kinds = kinds.Bool ∷ kinds.I8 ∷ kinds.I16 ∷ kinds.I32 ∷ kinds.I64 ∷ kinds.Double ∷ kinds.Str ∷ kinds.Struct ∷ kinds.Map ∷ kinds.Set ∷ kinds.List ∷ kinds.Uuid ∷ []

abbrev to_kind : Gv → Kind
to_kind (gnum n) = nth kinds.Uuid all_kinds n
to_kind _ = kinds.Uuid

kind_again : (k : Kind) → to_kind (of_kind k) ≡ k
kind_again kinds.Bool = refl
kind_again kinds.I8 = refl
kind_again kinds.I16 = refl
kind_again kinds.I32 = refl
kind_again kinds.I64 = refl
kind_again kinds.Double = refl
kind_again kinds.Str = refl
kind_again kinds.Struct = refl
kind_again kinds.Map = refl
kind_again kinds.Set = refl
kind_again kinds.List = refl
kind_again kinds.Uuid = refl

abbrev of_integer : ℤ → Gv
of_integer (pos n) = gcons gnil (gnum n)
of_integer (negsuc n) = gnum n

abbrev to_integer : Gv → ℤ
to_integer (gnum n) = negsuc n
to_integer (gcons a (gnum n)) = pos n
to_integer _ = pos 0

integer_again : (z : ℤ) → to_integer (of_integer z) ≡ z
integer_again (pos n) = refl
integer_again (negsuc n) = refl

abbrev of_bytes : List ℕ → Gv
of_bytes [] = gnil
of_bytes (b ∷ bs) = gcons (gnum b) (of_bytes bs)

abbrev to_bytes : Gv → List ℕ
to_bytes (gcons (gnum b) bs) = b ∷ to_bytes bs
to_bytes _ = []

bytes_again : (bs : List ℕ) → to_bytes (of_bytes bs) ≡ bs
bytes_again [] = refl
bytes_again (b ∷ bs) = ap (λ (xs : List ℕ). b ∷ xs) (bytes_again bs)

abbrev of_truth : Bool → Gv
of_truth true = gnum 1
of_truth false = gnum 0

abbrev to_truth : Gv → Bool
to_truth (gnum n) = nth false (false ∷ true ∷ []) n
to_truth _ = false

truth_again : (b : Bool) → to_truth (of_truth b) ≡ b
truth_again true = refl
truth_again false = refl

abbrev mutual
  of_tree : Tree → Gv
  of_tree (truth b) = gcons (gnum 0) (of_truth b)
  of_tree (whole_8 n) = gcons (gnum 1) (of_integer n)
  of_tree (whole_16 n) = gcons (gnum 2) (of_integer n)
  of_tree (whole_32 n) = gcons (gnum 3) (of_integer n)
  of_tree (whole_64 n) = gcons (gnum 4) (of_integer n)
  of_tree (double bytes) = gcons (gnum 5) (of_bytes bytes)
  of_tree (characters bytes) = gcons (gnum 6) (of_bytes bytes)
  of_tree (loose_number bytes) = gcons (gnum 7) (of_bytes bytes)
  of_tree (loose_text bytes) = gcons (gnum 8) (of_bytes bytes)
  of_tree (structure ms) = gcons (gnum 9) (of_members ms)
  of_tree mapping_of_none = gcons (gnum 10) gnil
  of_tree (mapping key value ps) = gcons (gnum 11) (gcons (of_kind key) (gcons (of_kind value) (of_pairs ps)))
  of_tree (collection kind ts) = gcons (gnum 12) (gcons (of_kind kind) (of_trees ts))
  of_tree (sequence kind ts) = gcons (gnum 13) (gcons (of_kind kind) (of_trees ts))
  of_tree (unique_id bytes) = gcons (gnum 14) (of_bytes bytes)

  of_members : Members → Gv
  of_members no_members = gnil
  of_members (one_member id t ms) = gcons (of_integer id) (gcons (of_tree t) (of_members ms))

  of_trees : Trees → Gv
  of_trees no_trees = gnil
  of_trees (one_tree t ts) = gcons (of_tree t) (of_trees ts)

  of_pairs : Pairs → Gv
  of_pairs no_pairs = gnil
  of_pairs (one_pair k v ps) = gcons (of_tree k) (gcons (of_tree v) (of_pairs ps))

abbrev mutual
  to_tree : Gv → Tree
  to_tree (gcons (gnum n) x) =
      nth mapping_of_none
      (truth (to_truth x) ∷ whole_8 (to_integer x) ∷ whole_16 (to_integer x) ∷ whole_32 (to_integer x) ∷ whole_64 (to_integer x) ∷ double (to_bytes x) ∷ characters (to_bytes x)
      ∷ loose_number (to_bytes x) ∷ loose_text (to_bytes x) ∷ structure (to_members x) ∷ mapping_of_none ∷ to_mapping x ∷ to_collection x ∷ to_sequence x ∷ unique_id (to_bytes x) ∷ []) n
  to_tree _ = mapping_of_none

  to_mapping : Gv → Tree
  to_mapping (gcons k (gcons v x)) = mapping (to_kind k) (to_kind v) (to_pairs x)
  to_mapping _ = mapping_of_none

  to_collection : Gv → Tree
  to_collection (gcons k x) = collection (to_kind k) (to_trees x)
  to_collection _ = mapping_of_none

  to_sequence : Gv → Tree
  to_sequence (gcons k x) = sequence (to_kind k) (to_trees x)
  to_sequence _ = mapping_of_none

  to_members : Gv → Members
  to_members (gcons id (gcons t ms)) = one_member (to_integer id) (to_tree t) (to_members ms)
  to_members _ = no_members

  to_trees : Gv → Trees
  to_trees (gcons t ts) = one_tree (to_tree t) (to_trees ts)
  to_trees _ = no_trees

  to_pairs : Gv → Pairs
  to_pairs (gcons k (gcons v ps)) = one_pair (to_tree k) (to_tree v) (to_pairs ps)
  to_pairs _ = no_pairs

mutual
  tree_again : (t : Tree) → to_tree (of_tree t) ≡ t
  tree_again (truth b) = ap truth (truth_again b)
  tree_again (whole_8 n) = ap whole_8 (integer_again n)
  tree_again (whole_16 n) = ap whole_16 (integer_again n)
  tree_again (whole_32 n) = ap whole_32 (integer_again n)
  tree_again (whole_64 n) = ap whole_64 (integer_again n)
  tree_again (double bytes) = ap double (bytes_again bytes)
  tree_again (characters bytes) = ap characters (bytes_again bytes)
  tree_again (loose_number bytes) = ap loose_number (bytes_again bytes)
  tree_again (loose_text bytes) = ap loose_text (bytes_again bytes)
  tree_again (structure ms) = ap structure (members_again ms)
  tree_again mapping_of_none = refl
  tree_again (mapping key value ps) = λ i. mapping (kind_again key i) (kind_again value i) (pairs_again ps i)
  tree_again (collection kind ts) = λ i. collection (kind_again kind i) (trees_again ts i)
  tree_again (sequence kind ts) = λ i. sequence (kind_again kind i) (trees_again ts i)
  tree_again (unique_id bytes) = ap unique_id (bytes_again bytes)

  members_again : (ms : Members) → to_members (of_members ms) ≡ ms
  members_again no_members = refl
  members_again (one_member id t ms) = λ i. one_member (integer_again id i) (tree_again t i) (members_again ms i)

  trees_again : (ts : Trees) → to_trees (of_trees ts) ≡ ts
  trees_again no_trees = refl
  trees_again (one_tree t ts) = λ i. one_tree (tree_again t i) (trees_again ts i)

  pairs_again : (ps : Pairs) → to_pairs (of_pairs ps) ≡ ps
  pairs_again no_pairs = refl
  pairs_again (one_pair k v ps) = λ i. one_pair (tree_again k i) (tree_again v i) (pairs_again ps i)

pub members_one : (x y : Members) → of_members x ≡ of_members y → x ≡ y
members_one x y same = sym (members_again x) ∙ ap to_members same ∙ members_again y

pub trees_one : (x y : Trees) → of_trees x ≡ of_trees y → x ≡ y
trees_one x y same = sym (trees_again x) ∙ ap to_trees same ∙ trees_again y

pub pairs_one : (x y : Pairs) → of_pairs x ≡ of_pairs y → x ≡ y
pairs_one x y same = sym (pairs_again x) ∙ ap to_pairs same ∙ pairs_again y

abbrev pub coded_members : Coded Members
coded_members = record { code = of_members; inj = members_one }

abbrev pub coded_trees : Coded Trees
coded_trees = record { code = of_trees; inj = trees_one }

abbrev pub coded_pairs : Coded Pairs
coded_pairs = record { code = of_pairs; inj = pairs_one }
