-- The events of each body are gathered to it.
use Rattle.std.proofs.Common.{◌≡◌, ℕ, ◌+◌, ◌-◌, ◌<◌, ◌≤◌, ◌^◌, List, [], ◌∷◌, ◌++◌, length, refl, sym, ap, ◌∙◌, append_assoc, arith, Bool, true, ◌&&◌, nat_lt, if◌then◌else◌}
use Rattle.std.proofs.lemmas.List.{append-nil}
use Rattle.std.proofs.lemmas.Bool.Decides.{nat_tests}
use Rattle.thrift_value.specs.declared.kind.Kind.{Kind}
use Rattle.thrift_value.specs.declared.kind.Kind.TheVariants as kinds
use Rattle.value_trees.specs.declared.value.Value.{Value}
use Rattle.value_trees.specs.declared.value.Value.TheVariants as values
use Rattle.value_trees.specs.declared.value.Field.{Field}
use Rattle.value_trees.specs.declared.level.Level.{Level}
use Rattle.value_trees.specs.declared.level.Level.TheVariants as levels
use Rattle.value_trees.specs.declared.level.Start.TheVariants as starts
use Rattle.thrift_value.specs.Items.{Item, text, unknown_text, map_begin, set_begin, list_begin}
use Rattle.thrift_value.specs.Trees.{Tree, Trees, Pairs, Members, truth, whole_8, whole_16, whole_32, whole_64, double, characters, loose_number, loose_text, structure, mapping_of_none, mapping, collection, sequence, unique_id, no_members, one_member, no_trees, one_tree, no_pairs, one_pair, items_of, items_of_members, items_of_trees, items_of_pairs, kind_of, count_of_trees, count_of_pairs, IsValue, AreAll, ArePairs, AreMembers}
use Rattle.value_trees.specs.Views.{tree_of, then_member, then_tree, then_pair}
use Rattle.thrift_value.specs.Kinds.{same_kind}
use Rattle.value_trees.specs.Gathering.{wants, put, Stand, going, over, refused, settled, started, onward, run, at_first, IsRefused}
use Rattle.value_trees.specs.Bodies.{BeginsBody}
use Rattle.value_trees.proofs.Levels.{kind-itself}
use Rattle.value_trees.proofs.Kept.{settled-at}

abbrev value_of : Tree → Value
value_of (truth b) = values.Bool b
value_of (whole_8 n) = values.I8 n
value_of (whole_16 n) = values.I16 n
value_of (whole_32 n) = values.I32 n
value_of (whole_64 n) = values.I64 n
value_of (double x) = values.Double x
value_of (characters x) = values.Str x
value_of (loose_number x) = values.NumberText x
value_of (loose_text x) = values.UnknownText x
value_of (structure ms) = values.Struct ms
value_of mapping_of_none = values.EmptyMap
value_of (mapping key value ps) = values.Map key value ps
value_of (collection kind ts) = values.Set kind ts
value_of (sequence kind ts) = values.List kind ts
value_of (unique_id x) = values.Uuid x

tree-again : (t : Tree) → tree_of (value_of t) ≡ t
tree-again (truth b) = refl
tree-again (whole_8 n) = refl
tree-again (whole_16 n) = refl
tree-again (whole_32 n) = refl
tree-again (whole_64 n) = refl
tree-again (double x) = refl
tree-again (characters x) = refl
tree-again (loose_number x) = refl
tree-again (loose_text x) = refl
tree-again (structure ms) = refl
tree-again mapping_of_none = refl
tree-again (mapping key value ps) = refl
tree-again (collection kind ts) = refl
tree-again (sequence kind ts) = refl
tree-again (unique_id x) = refl

-- one list behind another
abbrev join_members : Members → Members → Members
join_members no_members ms = ms
join_members (one_member id t acc) ms = one_member id t (join_members acc ms)

abbrev join_trees : Trees → Trees → Trees
join_trees no_trees ts = ts
join_trees (one_tree t acc) ts = one_tree t (join_trees acc ts)

abbrev join_pairs : Pairs → Pairs → Pairs
join_pairs no_pairs ps = ps
join_pairs (one_pair k v acc) ps = one_pair k v (join_pairs acc ps)

members-none : (acc : Members) → join_members acc no_members ≡ acc
members-none no_members = refl
members-none (one_member id t acc) = ap (one_member id t) (members-none acc)

trees-none : (acc : Trees) → join_trees acc no_trees ≡ acc
trees-none no_trees = refl
trees-none (one_tree t acc) = ap (one_tree t) (trees-none acc)

pairs-none : (acc : Pairs) → join_pairs acc no_pairs ≡ acc
pairs-none no_pairs = refl
pairs-none (one_pair k v acc) = ap (one_pair k v) (pairs-none acc)

members-more : (acc : Members) (f : Field) (ms : Members) → join_members (then_member acc f) ms ≡ join_members acc (one_member f.id (tree_of f.value) ms)
members-more no_members f ms = refl
members-more (one_member id t acc) f ms = ap (one_member id t) (members-more acc f ms)

trees-more : (acc : Trees) (t : Tree) (ts : Trees) → join_trees (then_tree acc t) ts ≡ join_trees acc (one_tree t ts)
trees-more no_trees t ts = refl
trees-more (one_tree u acc) t ts = ap (one_tree u) (trees-more acc t ts)

pairs-more : (acc : Pairs) (k v : Value) (ps : Pairs) → join_pairs (then_pair acc (k, v)) ps ≡ join_pairs acc (one_pair (tree_of k) (tree_of v) ps)
pairs-more no_pairs k v ps = refl
pairs-more (one_pair a b acc) k v ps = ap (one_pair a b) (pairs-more acc k v ps)

-- a value is put where it is called for
settle_on : (v : Value) (l : Level) (ls : List Level) (rest : List Item) → wants l (kind_of (tree_of v)) ≡ true → run (settled v (l ∷ ls)) rest ≡ run (going (put l v ∷ ls)) rest
settle_on v l ls rest want = ap (λ (s : Stand). run s rest) (settled-at v l ls ∙ ap (λ (b : Bool). if b then going (put l v ∷ ls) else refused) want)

opens_on : (kind : Kind) (new l : Level) (ls : List Level) (rest : List Item) → wants l kind ≡ true → run (if wants l kind then going (new ∷ l ∷ ls) else refused) rest ≡ run (going (new ∷ l ∷ ls)) rest
opens_on kind new l ls rest want = ap (λ (b : Bool). run (if b then going (new ∷ l ∷ ls) else refused) rest) want

is_below : (n : ℕ) → n < 2 ^ 31 → nat_lt n (2 ^ 31) ≡ true
is_below n h = grind (arith, nat_tests)

is_some : (n : ℕ) → 1 ≤ n → nat_lt 0 n ≡ true
is_some n h = grind (arith, nat_tests)

calls : (n : ℕ) (b : Bool) → b ≡ true → (nat_lt 0 (n + 1) && b) ≡ true
calls n b h = rw (is_some (n + 1) (omega arith), h) refl

mutual
  accept_tree : (t : Tree) (l : Level) (ls : List Level) (rest : List Item) → IsValue t → wants l (kind_of t) ≡ true → run (going (l ∷ ls)) (items_of t ++ rest) ≡ run (going (put l (value_of t) ∷ ls)) rest
  accept_tree (truth b) l ls rest valid want = settle_on (values.Bool b) l ls rest want
  accept_tree (whole_8 n) l ls rest valid want = settle_on (values.I8 n) l ls rest want
  accept_tree (whole_16 n) l ls rest valid want = settle_on (values.I16 n) l ls rest want
  accept_tree (whole_32 n) l ls rest valid want = settle_on (values.I32 n) l ls rest want
  accept_tree (whole_64 n) l ls rest valid want = settle_on (values.I64 n) l ls rest want
  accept_tree (double x) l ls rest valid want = settle_on (values.Double x) l ls rest want
  accept_tree (loose_number x) l ls rest valid want = settle_on (values.NumberText x) l ls rest want
  accept_tree (unique_id x) l ls rest valid want = settle_on (values.Uuid x) l ls rest want
  accept_tree mapping_of_none l ls rest valid want = settle_on values.EmptyMap l ls rest want
  accept_tree (characters x) l ls rest valid want =
      ap (λ (b : Bool). run (started (if b then starts.Whole (values.Str x) else starts.Nothing) (text x) l ls) rest) (is_below (length x) valid) ∙ settle_on (values.Str x) l ls rest want
  accept_tree (loose_text x) l ls rest valid want =
      ap (λ (b : Bool). run (started (if b then starts.Whole (values.UnknownText x) else starts.Nothing) (unknown_text x) l ls) rest) (is_below (length x) valid) ∙ settle_on (values.UnknownText x) l ls rest want
  accept_tree (structure ms) l ls rest valid want =
      opens_on kinds.Struct (levels.Fields no_members) l ls (items_of_members ms ++ rest) want ∙ accept_members ms no_members (l ∷ ls) rest valid ∙ settle_on (values.Struct ms) l ls rest want
  accept_tree (mapping key value ps) l ls rest valid want =
      ap (λ (b : Bool). run (started (if b && nat_lt (count_of_pairs ps) (2 ^ 31) then starts.Opens kinds.Map (levels.Map key value (count_of_pairs ps) no_pairs) else starts.Nothing) (map_begin key value (count_of_pairs ps)) l ls) (items_of_pairs ps ++ rest)) (is_some (count_of_pairs ps) valid.0)
      ∙ ap (λ (b : Bool). run (started (if b then starts.Opens kinds.Map (levels.Map key value (count_of_pairs ps) no_pairs) else starts.Nothing) (map_begin key value (count_of_pairs ps)) l ls) (items_of_pairs ps ++ rest)) (is_below (count_of_pairs ps) valid.1)
      ∙ opens_on kinds.Map (levels.Map key value (count_of_pairs ps) no_pairs) l ls (items_of_pairs ps ++ rest) want ∙ accept_pairs ps key value no_pairs (l ∷ ls) rest valid.2 ∙ settle_on (values.Map key value ps) l ls rest want
  accept_tree (collection kind ts) l ls rest valid want =
      ap (λ (b : Bool). run (started (if b then starts.Opens kinds.Set (levels.Set kind (count_of_trees ts) no_trees) else starts.Nothing) (set_begin kind (count_of_trees ts)) l ls) (items_of_trees ts ++ rest)) (is_below (count_of_trees ts) valid.0)
      ∙ opens_on kinds.Set (levels.Set kind (count_of_trees ts) no_trees) l ls (items_of_trees ts ++ rest) want ∙ accept_set ts kind no_trees (l ∷ ls) rest valid.1 ∙ settle_on (values.Set kind ts) l ls rest want
  accept_tree (sequence kind ts) l ls rest valid want =
      ap (λ (b : Bool). run (started (if b then starts.Opens kinds.List (levels.List kind (count_of_trees ts) no_trees) else starts.Nothing) (list_begin kind (count_of_trees ts)) l ls) (items_of_trees ts ++ rest)) (is_below (count_of_trees ts) valid.0)
      ∙ opens_on kinds.List (levels.List kind (count_of_trees ts) no_trees) l ls (items_of_trees ts ++ rest) want ∙ accept_list ts kind no_trees (l ∷ ls) rest valid.1 ∙ settle_on (values.List kind ts) l ls rest want

  accept_members : (ms acc : Members) (ls : List Level) (rest : List Item) → AreMembers ms → run (going (levels.Fields acc ∷ ls)) (items_of_members ms ++ rest) ≡ run (settled (values.Struct (join_members acc ms)) ls) rest
  accept_members no_members acc ls rest valid = ap (λ (xs : Members). run (settled (values.Struct xs) ls) rest) (sym (members-none acc))
  accept_members (one_member id t ms) acc ls rest valid =
      let f : Field = record { id = id; value = value_of t } in
      ap (run (going (levels.Named acc id (kind_of t) ∷ ls))) (append_assoc (items_of t) (items_of_members ms) rest)
      ∙ accept_tree t (levels.Named acc id (kind_of t)) ls (items_of_members ms ++ rest) valid.1 (kind-itself (kind_of t))
      ∙ accept_members ms (then_member acc f) ls rest valid.2
      ∙ ap (λ (xs : Members). run (settled (values.Struct xs) ls) rest) (members-more acc f ms ∙ ap (λ (u : Tree). join_members acc (one_member id u ms)) (tree-again t))

  accept_set : (ts : Trees) (kind : Kind) (acc : Trees) (ls : List Level) (rest : List Item) → AreAll kind ts → run (going (levels.Set kind (count_of_trees ts) acc ∷ ls)) (items_of_trees ts ++ rest) ≡ run (settled (values.Set kind (join_trees acc ts)) ls) rest
  accept_set no_trees kind acc ls rest valid = ap (λ (xs : Trees). run (settled (values.Set kind xs) ls) rest) (sym (trees-none acc))
  accept_set (one_tree t ts) kind acc ls rest valid =
      let left : count_of_trees ts + 1 - 1 ≡ count_of_trees ts = omega arith in
      let same : same_kind kind (kind_of t) ≡ true = ap (same_kind kind) valid.0 ∙ kind-itself kind in
      ap (run (going (levels.Set kind (count_of_trees ts + 1) acc ∷ ls))) (append_assoc (items_of t) (items_of_trees ts) rest)
      ∙ accept_tree t (levels.Set kind (count_of_trees ts + 1) acc) ls (items_of_trees ts ++ rest) valid.1 (calls (count_of_trees ts) (same_kind kind (kind_of t)) same)
      ∙ ap (λ (n : ℕ). run (going (levels.Set kind n (then_tree acc (tree_of (value_of t))) ∷ ls)) (items_of_trees ts ++ rest)) left
      ∙ accept_set ts kind (then_tree acc (tree_of (value_of t))) ls rest valid.2
      ∙ ap (λ (xs : Trees). run (settled (values.Set kind xs) ls) rest) (trees-more acc (tree_of (value_of t)) ts ∙ ap (λ (u : Tree). join_trees acc (one_tree u ts)) (tree-again t))

  accept_list : (ts : Trees) (kind : Kind) (acc : Trees) (ls : List Level) (rest : List Item) → AreAll kind ts → run (going (levels.List kind (count_of_trees ts) acc ∷ ls)) (items_of_trees ts ++ rest) ≡ run (settled (values.List kind (join_trees acc ts)) ls) rest
  accept_list no_trees kind acc ls rest valid = ap (λ (xs : Trees). run (settled (values.List kind xs) ls) rest) (sym (trees-none acc))
  accept_list (one_tree t ts) kind acc ls rest valid =
      let left : count_of_trees ts + 1 - 1 ≡ count_of_trees ts = omega arith in
      let same : same_kind kind (kind_of t) ≡ true = ap (same_kind kind) valid.0 ∙ kind-itself kind in
      ap (run (going (levels.List kind (count_of_trees ts + 1) acc ∷ ls))) (append_assoc (items_of t) (items_of_trees ts) rest)
      ∙ accept_tree t (levels.List kind (count_of_trees ts + 1) acc) ls (items_of_trees ts ++ rest) valid.1 (calls (count_of_trees ts) (same_kind kind (kind_of t)) same)
      ∙ ap (λ (n : ℕ). run (going (levels.List kind n (then_tree acc (tree_of (value_of t))) ∷ ls)) (items_of_trees ts ++ rest)) left
      ∙ accept_list ts kind (then_tree acc (tree_of (value_of t))) ls rest valid.2
      ∙ ap (λ (xs : Trees). run (settled (values.List kind xs) ls) rest) (trees-more acc (tree_of (value_of t)) ts ∙ ap (λ (u : Tree). join_trees acc (one_tree u ts)) (tree-again t))

  accept_pairs : (ps : Pairs) (key value : Kind) (acc : Pairs) (ls : List Level) (rest : List Item) → ArePairs key value ps → run (going (levels.Map key value (count_of_pairs ps) acc ∷ ls)) (items_of_pairs ps ++ rest) ≡ run (settled (values.Map key value (join_pairs acc ps)) ls) rest
  accept_pairs no_pairs key value acc ls rest valid = ap (λ (xs : Pairs). run (settled (values.Map key value xs) ls) rest) (sym (pairs-none acc))
  accept_pairs (one_pair k v ps) key value acc ls rest valid =
      let left : count_of_pairs ps + 1 - 1 ≡ count_of_pairs ps = omega arith in
      let first : same_kind key (kind_of k) ≡ true = ap (same_kind key) valid.0 ∙ kind-itself key in
      let second : same_kind value (kind_of v) ≡ true = ap (same_kind value) valid.1 ∙ kind-itself value in
      ap (run (going (levels.Map key value (count_of_pairs ps + 1) acc ∷ ls))) (append_assoc (items_of k) (items_of v ++ items_of_pairs ps) rest ∙ ap (λ (xs : List Item). items_of k ++ xs) (append_assoc (items_of v) (items_of_pairs ps) rest))
      ∙ accept_tree k (levels.Map key value (count_of_pairs ps + 1) acc) ls (items_of v ++ (items_of_pairs ps ++ rest)) valid.2 (calls (count_of_pairs ps) (same_kind key (kind_of k)) first)
      ∙ ap (λ (n : ℕ). run (going (levels.Keyed key value n acc (value_of k) ∷ ls)) (items_of v ++ (items_of_pairs ps ++ rest))) left
      ∙ accept_tree v (levels.Keyed key value (count_of_pairs ps) acc (value_of k)) ls (items_of_pairs ps ++ rest) valid.3 second
      ∙ accept_pairs ps key value (then_pair acc (value_of k, value_of v)) ls rest valid.4
      ∙ ap (λ (xs : Pairs). run (settled (values.Map key value xs) ls) rest) (pairs-more acc (value_of k) (value_of v) ps ∙ ap (λ (u : Tree). join_pairs acc (one_pair u (tree_of (value_of v)) ps)) (tree-again k) ∙ ap (λ (u : Tree). join_pairs acc (one_pair k u ps)) (tree-again v))

pub body-is-gathered : (fields : Members) → AreMembers fields → run at_first (items_of_members fields) ≡ over fields
body-is-gathered fields valid = ap (run at_first) (sym (append-nil (items_of_members fields))) ∙ accept_members fields no_members [] [] valid

run-append : (s : Stand) (xs ys : List Item) → run s (xs ++ ys) ≡ run (run s xs) ys
run-append s [] ys = refl
run-append s (x ∷ xs) ys = run-append (onward s x) xs ys

refused-stays : (items : List Item) → run refused items ≡ refused
refused-stays [] = refl
refused-stays (x ∷ xs) = refused-stays xs

refused-by : (s : Stand) (items : List Item) → IsRefused s → run s items ≡ refused
refused-by (going ls) items h = absurd h
refused-by (over fields) items h = absurd h
refused-by refused items h = refused-stays items

pub refused-begins-none : (items : List Item) → IsRefused (run at_first items) → BeginsBody items → ⊥
refused-begins-none items h b =
    let one : over b.fields ≡ refused = sym (body-is-gathered b.fields b.valid) ∙ ap (run at_first) b.told ∙ run-append at_first items b.rest ∙ refused-by (run at_first items) b.rest h in
    absurd (cc)
