-- What is open, by the events that were told of it.
use Rattle.std.proofs.Common.{◌≡◌, ℕ, ◌+◌, ◌-◌, ◌<◌, ◌≤◌, ◌^◌, List, [], ◌∷◌, ◌++◌, refl, sym, ap, ◌∙◌, append_assoc, arith, FitsSigned, Bool, true, false, ◌&&◌, nat_lt}
use Rattle.std.proofs.lemmas.Bool.Decides.{nat_tests}
use Rattle.std.specs.Int.{w16}
use Rattle.thrift_value.specs.declared.kind.Kind.{Kind}
use Rattle.thrift_value.specs.declared.kind.Kind.TheVariants as kinds
use Rattle.value_trees.specs.declared.value.Value.{Value}
use Rattle.value_trees.specs.declared.level.Level.{Level}
use Rattle.value_trees.specs.declared.level.Level.TheVariants as levels
use Rattle.thrift_value.specs.Items.{Item, field, struct_begin, map_begin, set_begin, list_begin}
use Rattle.thrift_value.specs.Trees.{items_of, kind_of, count_of_trees, count_of_pairs, IsValue, AreMembers, AreAll, ArePairs}
use Rattle.value_trees.specs.Views.{tree_of, then_tree, then_pair}
use Rattle.thrift_value.specs.Kinds.{rank_of, same_kind}
use Rattle.value_trees.specs.Gathering.{wants, put}
use Rattle.value_trees.proofs.Fronts.{front_members, front_trees, front_pairs, front-member, front-tree, front-pair, count-tree, count-pair, all-member, all-tree, all-pair}

abbrev nth : Kind → List Kind → ℕ → Kind
nth other [] n = other
nth other (k ∷ ks) Prim.Native.Nat.zero = k
nth other (k ∷ ks) (Prim.Native.Nat.suc n) = nth other ks n

abbrev kind_at : ℕ → Kind
kind_at = nth kinds.Uuid (kinds.Bool ∷ kinds.I8 ∷ kinds.I16 ∷ kinds.I32 ∷ kinds.I64 ∷ kinds.Double ∷ kinds.Str ∷ kinds.Struct ∷ kinds.Map ∷ kinds.Set ∷ kinds.List ∷ [])

ranked : (k : Kind) → kind_at (rank_of k) ≡ k
ranked kinds.Bool = refl
ranked kinds.I8 = refl
ranked kinds.I16 = refl
ranked kinds.I32 = refl
ranked kinds.I64 = refl
ranked kinds.Double = refl
ranked kinds.Str = refl
ranked kinds.Struct = refl
ranked kinds.Map = refl
ranked kinds.Set = refl
ranked kinds.List = refl
ranked kinds.Uuid = refl

pub kinds-same : (a b : Kind) → same_kind a b ≡ true → a ≡ b
kinds-same a b same =
    let ranks : rank_of a ≡ rank_of b = grind (arith, nat_tests) in
    sym (ranked a) ∙ ap kind_at ranks ∙ ranked b

pub kind-itself : (k : Kind) → same_kind k k ≡ true
kind-itself kinds.Bool = refl
kind-itself kinds.I8 = refl
kind-itself kinds.I16 = refl
kind-itself kinds.I32 = refl
kind-itself kinds.I64 = refl
kind-itself kinds.Double = refl
kind-itself kinds.Str = refl
kind-itself kinds.Struct = refl
kind-itself kinds.Map = refl
kind-itself kinds.Set = refl
kind-itself kinds.List = refl
kind-itself kinds.Uuid = refl

both : (a b : Bool) → (a && b) ≡ true → (a ≡ true) × (b ≡ true)
both true b h = (refl, h)
both false b h = absurd (cc)

some : (n : ℕ) → nat_lt 0 n ≡ true → 1 ≤ n
some n h = grind (arith, nat_tests)

-- the kind of the value that a level becomes
abbrev pub level_kind : Level → Kind
level_kind (levels.Fields fields) = kinds.Struct
level_kind (levels.Named fields id kind) = kinds.Struct
level_kind (levels.Set kind left items) = kinds.Set
level_kind (levels.List kind left items) = kinds.List
level_kind (levels.Map key value left pairs) = kinds.Map
level_kind (levels.Keyed key value left pairs k) = kinds.Map

-- the event that a level began with
abbrev pub head_of : Level → List Item
head_of (levels.Fields fields) = struct_begin ∷ []
head_of (levels.Named fields id kind) = struct_begin ∷ []
head_of (levels.Set kind left items) = set_begin kind (count_of_trees items + left) ∷ []
head_of (levels.List kind left items) = list_begin kind (count_of_trees items + left) ∷ []
head_of (levels.Map key value left pairs) = map_begin key value (count_of_pairs pairs + left) ∷ []
head_of (levels.Keyed key value left pairs k) = map_begin key value (count_of_pairs pairs + left + 1) ∷ []

-- and those since
abbrev pub inner : Level → List Item
inner (levels.Fields fields) = front_members fields
inner (levels.Named fields id kind) = front_members fields ++ field id kind ∷ []
inner (levels.Set kind left items) = front_trees items
inner (levels.List kind left items) = front_trees items
inner (levels.Map key value left pairs) = front_pairs pairs
inner (levels.Keyed key value left pairs k) = front_pairs pairs ++ items_of (tree_of k)

abbrev pub IsLevel : Level → Type 0
IsLevel (levels.Fields fields) = AreMembers fields
IsLevel (levels.Named fields id kind) = AreMembers fields × FitsSigned w16 id
IsLevel (levels.Set kind left items) = (count_of_trees items + left < 2 ^ 31) × AreAll kind items
IsLevel (levels.List kind left items) = (count_of_trees items + left < 2 ^ 31) × AreAll kind items
IsLevel (levels.Map key value left pairs) = (1 ≤ count_of_pairs pairs + left) × (count_of_pairs pairs + left < 2 ^ 31) × ArePairs key value pairs
IsLevel (levels.Keyed key value left pairs k) = (count_of_pairs pairs + left + 1 < 2 ^ 31) × ArePairs key value pairs × (kind_of (tree_of k) ≡ key) × IsValue (tree_of k)

-- a level and those around it, the outermost a struct
abbrev pub IsStack : Level → List Level → Type 0
IsStack l [] = IsLevel l × (level_kind l ≡ kinds.Struct)
IsStack l (m ∷ ms) = IsLevel l × (wants m (level_kind l) ≡ true) × IsStack m ms

-- all events so far
abbrev pub front : Level → List Level → List Item
front l [] = inner l
front l (m ∷ ms) = front m ms ++ (head_of l ++ inner l)

pub kind-kept : (l : Level) (v : Value) → level_kind (put l v) ≡ level_kind l
kind-kept (levels.Fields fields) v = refl
kind-kept (levels.Named fields id kind) v = refl
kind-kept (levels.Set kind left items) v = refl
kind-kept (levels.List kind left items) v = refl
kind-kept (levels.Map key value left pairs) v = refl
kind-kept (levels.Keyed key value left pairs k) v = refl

pub level-put : (l : Level) (v : Value) → wants l (kind_of (tree_of v)) ≡ true → IsLevel l → IsValue (tree_of v) → IsLevel (put l v)
level-put (levels.Fields fields) v want level value = absurd (cc)
level-put (levels.Named fields id kind) v want level value = all-member fields (record { id = id; value = v }) level.0 level.1 value
level-put (levels.Set kind left items) v want level value =
    let w = both (nat_lt 0 left) (same_kind kind (kind_of (tree_of v))) want in
    (omega (arith, some left w.0, count-tree items (tree_of v), level.0), all-tree kind items (tree_of v) level.1 (sym (kinds-same kind (kind_of (tree_of v)) w.1)) value)
level-put (levels.List kind left items) v want level value =
    let w = both (nat_lt 0 left) (same_kind kind (kind_of (tree_of v))) want in
    (omega (arith, some left w.0, count-tree items (tree_of v), level.0), all-tree kind items (tree_of v) level.1 (sym (kinds-same kind (kind_of (tree_of v)) w.1)) value)
level-put (levels.Map key value left pairs) v want level valid =
    let w = both (nat_lt 0 left) (same_kind key (kind_of (tree_of v))) want in
    (omega (arith, some left w.0, level.1), level.2, sym (kinds-same key (kind_of (tree_of v)) w.1), valid)
level-put (levels.Keyed key value left pairs k) v want level valid =
    (omega (arith, count-pair pairs (k, v)), omega (arith, count-pair pairs (k, v), level.0), all-pair key value pairs k v level.1 level.2 (sym (kinds-same value (kind_of (tree_of v)) want)) level.3 valid)

pub head-kept : (l : Level) (v : Value) → wants l (kind_of (tree_of v)) ≡ true → head_of (put l v) ≡ head_of l
head-kept (levels.Fields fields) v want = refl
head-kept (levels.Named fields id kind) v want = refl
head-kept (levels.Set kind left items) v want =
    let w = both (nat_lt 0 left) (same_kind kind (kind_of (tree_of v))) want in
    let n : count_of_trees (then_tree items (tree_of v)) + (left - 1) ≡ count_of_trees items + left = omega (arith, some left w.0, count-tree items (tree_of v)) in
    ap (λ (k : ℕ). set_begin kind k ∷ []) n
head-kept (levels.List kind left items) v want =
    let w = both (nat_lt 0 left) (same_kind kind (kind_of (tree_of v))) want in
    let n : count_of_trees (then_tree items (tree_of v)) + (left - 1) ≡ count_of_trees items + left = omega (arith, some left w.0, count-tree items (tree_of v)) in
    ap (λ (k : ℕ). list_begin kind k ∷ []) n
head-kept (levels.Map key value left pairs) v want =
    let w = both (nat_lt 0 left) (same_kind key (kind_of (tree_of v))) want in
    let n : count_of_pairs pairs + (left - 1) + 1 ≡ count_of_pairs pairs + left = omega (arith, some left w.0) in
    ap (λ (k : ℕ). map_begin key value k ∷ []) n
head-kept (levels.Keyed key value left pairs k) v want =
    let n : count_of_pairs (then_pair pairs (k, v)) + left ≡ count_of_pairs pairs + left + 1 = omega (arith, count-pair pairs (k, v)) in
    ap (λ (m : ℕ). map_begin key value m ∷ []) n

pub inner-put : (l : Level) (v : Value) → wants l (kind_of (tree_of v)) ≡ true → inner (put l v) ≡ inner l ++ items_of (tree_of v)
inner-put (levels.Fields fields) v want = absurd (cc)
inner-put (levels.Named fields id kind) v want =
    front-member fields (record { id = id; value = v }) ∙ ap (λ (k : Kind). front_members fields ++ (field id k ∷ items_of (tree_of v))) (sym (kinds-same kind (kind_of (tree_of v)) want)) ∙ sym (append_assoc (front_members fields) (field id kind ∷ []) (items_of (tree_of v)))
inner-put (levels.Set kind left items) v want = front-tree items (tree_of v)
inner-put (levels.List kind left items) v want = front-tree items (tree_of v)
inner-put (levels.Map key value left pairs) v want = refl
inner-put (levels.Keyed key value left pairs k) v want = front-pair pairs k v ∙ sym (append_assoc (front_pairs pairs) (items_of (tree_of k)) (items_of (tree_of v)))

pub stack-put : (l : Level) (v : Value) (ls : List Level) → wants l (kind_of (tree_of v)) ≡ true → IsStack l ls → IsValue (tree_of v) → IsStack (put l v) ls
stack-put l v [] want stack value = (level-put l v want stack.0 value, kind-kept l v ∙ stack.1)
stack-put l v (m ∷ ms) want stack value = (level-put l v want stack.0 value, ap (wants m) (kind-kept l v) ∙ stack.1, stack.2)

pub front-put : (l : Level) (v : Value) (ls : List Level) → wants l (kind_of (tree_of v)) ≡ true → front (put l v) ls ≡ front l ls ++ items_of (tree_of v)
front-put l v [] want = inner-put l v want
front-put l v (m ∷ ms) want =
    rw (head-kept l v want, inner-put l v want)
    (ap (λ (xs : List Item). front m ms ++ xs) (sym (append_assoc (head_of l) (inner l) (items_of (tree_of v)))) ∙ sym (append_assoc (front m ms) (head_of l ++ inner l) (items_of (tree_of v))))
