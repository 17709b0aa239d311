-- The events of a body tell its fields: no two bodies have the same.
use Rattle.std.proofs.Common.{◌≡◌, ℕ, ℤ, Bool, List, [], ◌∷◌, ◌++◌, refl, ap, ◌∙◌, sym}
use Rattle.std.proofs.lemmas.List.{append-nil}
use Rattle.thrift_value.specs.declared.kind.Kind.{Kind}
use Rattle.thrift_value.specs.Items.{Item, field, stop, bool_value, i8_value, i16_value, i32_value, i64_value, double_value, text, number_text, unknown_text, struct_begin, empty_map, map_begin, set_begin, list_begin, end, uuid_value}
use Rattle.thrift_value.specs.Trees.{Tree, truth, whole_8, whole_16, whole_32, whole_64, double, characters, loose_number, loose_text, structure, mapping_of_none, mapping, collection, sequence, unique_id, Members, no_members, one_member, Trees, no_trees, one_tree, Pairs, no_pairs, one_pair, kind_of, count_of_trees, count_of_pairs, items_of, items_of_members, items_of_trees, items_of_pairs}

items_append : (a b c : List Item) → (a ++ b) ++ c ≡ a ++ (b ++ c)
items_append [] b c = refl
items_append (x ∷ a) b c = ap (λ t. x ∷ t) (items_append a b c)

-- the same first item, and the same behind it
abbrev Same : Tree → Tree → List Item → List Item → Type 0
Same t u xs ys = (t ≡ u) × (xs ≡ ys)

-- ---- by the first item

as_truth : (b : Bool) (xs : List Item) (u : Tree) (ys : List Item) → bool_value b ∷ xs ≡ items_of u ++ ys → Same (truth b) u xs ys
as_truth b xs (truth c) ys e = let same : b ≡ c = cc in (ap truth same, cc)
as_truth b xs u ys e = absurd (cc)

as_8 : (n : ℤ) (xs : List Item) (u : Tree) (ys : List Item) → i8_value n ∷ xs ≡ items_of u ++ ys → Same (whole_8 n) u xs ys
as_8 n xs (whole_8 m) ys e = let same : n ≡ m = cc in (ap whole_8 same, cc)
as_8 n xs u ys e = absurd (cc)

as_16 : (n : ℤ) (xs : List Item) (u : Tree) (ys : List Item) → i16_value n ∷ xs ≡ items_of u ++ ys → Same (whole_16 n) u xs ys
as_16 n xs (whole_16 m) ys e = let same : n ≡ m = cc in (ap whole_16 same, cc)
as_16 n xs u ys e = absurd (cc)

as_32 : (n : ℤ) (xs : List Item) (u : Tree) (ys : List Item) → i32_value n ∷ xs ≡ items_of u ++ ys → Same (whole_32 n) u xs ys
as_32 n xs (whole_32 m) ys e = let same : n ≡ m = cc in (ap whole_32 same, cc)
as_32 n xs u ys e = absurd (cc)

as_64 : (n : ℤ) (xs : List Item) (u : Tree) (ys : List Item) → i64_value n ∷ xs ≡ items_of u ++ ys → Same (whole_64 n) u xs ys
as_64 n xs (whole_64 m) ys e = let same : n ≡ m = cc in (ap whole_64 same, cc)
as_64 n xs u ys e = absurd (cc)

as_double : (b : List ℕ) (xs : List Item) (u : Tree) (ys : List Item) → double_value b ∷ xs ≡ items_of u ++ ys → Same (double b) u xs ys
as_double b xs (double c) ys e = let same : b ≡ c = cc in (ap double same, cc)
as_double b xs u ys e = absurd (cc)

as_text : (b : List ℕ) (xs : List Item) (u : Tree) (ys : List Item) → text b ∷ xs ≡ items_of u ++ ys → Same (characters b) u xs ys
as_text b xs (characters c) ys e = let same : b ≡ c = cc in (ap characters same, cc)
as_text b xs u ys e = absurd (cc)

as_number : (b : List ℕ) (xs : List Item) (u : Tree) (ys : List Item) → number_text b ∷ xs ≡ items_of u ++ ys → Same (loose_number b) u xs ys
as_number b xs (loose_number c) ys e = let same : b ≡ c = cc in (ap loose_number same, cc)
as_number b xs u ys e = absurd (cc)

as_loose : (b : List ℕ) (xs : List Item) (u : Tree) (ys : List Item) → unknown_text b ∷ xs ≡ items_of u ++ ys → Same (loose_text b) u xs ys
as_loose b xs (loose_text c) ys e = let same : b ≡ c = cc in (ap loose_text same, cc)
as_loose b xs u ys e = absurd (cc)

as_uuid : (b : List ℕ) (xs : List Item) (u : Tree) (ys : List Item) → uuid_value b ∷ xs ≡ items_of u ++ ys → Same (unique_id b) u xs ys
as_uuid b xs (unique_id c) ys e = let same : b ≡ c = cc in (ap unique_id same, cc)
as_uuid b xs u ys e = absurd (cc)

as_none : (xs : List Item) (u : Tree) (ys : List Item) → empty_map ∷ xs ≡ items_of u ++ ys → Same mapping_of_none u xs ys
as_none xs mapping_of_none ys e = (refl, cc)
as_none xs u ys e = absurd (cc)

as_struct : (xs : List Item) (u : Tree) (ys : List Item) → struct_begin ∷ xs ≡ items_of u ++ ys → (ns : Members) × (u ≡ structure ns) × (xs ≡ items_of_members ns ++ ys)
as_struct xs (structure ns) ys e = (ns, refl, cc)
as_struct xs u ys e = absurd (cc)

as_map : (k v : Kind) (n : ℕ) (xs : List Item) (u : Tree) (ys : List Item) → map_begin k v n ∷ xs ≡ items_of u ++ ys → (qs : Pairs) × (u ≡ mapping k v qs) × (xs ≡ items_of_pairs qs ++ ys)
as_map k v n xs (mapping l w qs) ys e = let one : k ≡ l = cc in let two : v ≡ w = cc in (qs, ap (λ z. mapping z w qs) (sym one) ∙ ap (λ z. mapping k z qs) (sym two), cc)
as_map k v n xs u ys e = absurd (cc)

as_set : (k : Kind) (n : ℕ) (xs : List Item) (u : Tree) (ys : List Item) → set_begin k n ∷ xs ≡ items_of u ++ ys → (us : Trees) × (u ≡ collection k us) × (xs ≡ items_of_trees us ++ ys)
as_set k n xs (collection l us) ys e = let one : k ≡ l = cc in (us, ap (λ z. collection z us) (sym one), cc)
as_set k n xs u ys e = absurd (cc)

as_list : (k : Kind) (n : ℕ) (xs : List Item) (u : Tree) (ys : List Item) → list_begin k n ∷ xs ≡ items_of u ++ ys → (us : Trees) × (u ≡ sequence k us) × (xs ≡ items_of_trees us ++ ys)
as_list k n xs (sequence l us) ys e = let one : k ≡ l = cc in (us, ap (λ z. sequence z us) (sym one), cc)
as_list k n xs u ys e = absurd (cc)

-- no value begins with the end of a container
no_end : (xs : List Item) (u : Tree) (ys : List Item) → end ∷ xs ≡ items_of u ++ ys → ⊥
no_end xs (truth b) ys e = absurd (cc)
no_end xs u ys e = absurd (cc)

tail_same : (x y : Item) (xs ys : List Item) → x ∷ xs ≡ y ∷ ys → xs ≡ ys
tail_same x y xs ys e = cc

id_same : (i j : ℤ) (k l : Kind) (xs ys : List Item) → field i k ∷ xs ≡ field j l ∷ ys → i ≡ j
id_same i j k l xs ys e = cc

no_stop : (i : ℤ) (k : Kind) (xs ys : List Item) → stop ∷ xs ≡ field i k ∷ ys → ⊥
no_stop i k xs ys e = absurd (cc)

mutual
  items_same : (t u : Tree) (xs ys : List Item) → items_of t ++ xs ≡ items_of u ++ ys → Same t u xs ys
  items_same (truth b) u xs ys e = as_truth b xs u ys e
  items_same (whole_8 n) u xs ys e = as_8 n xs u ys e
  items_same (whole_16 n) u xs ys e = as_16 n xs u ys e
  items_same (whole_32 n) u xs ys e = as_32 n xs u ys e
  items_same (whole_64 n) u xs ys e = as_64 n xs u ys e
  items_same (double b) u xs ys e = as_double b xs u ys e
  items_same (characters b) u xs ys e = as_text b xs u ys e
  items_same (loose_number b) u xs ys e = as_number b xs u ys e
  items_same (loose_text b) u xs ys e = as_loose b xs u ys e
  items_same (unique_id b) u xs ys e = as_uuid b xs u ys e
  items_same mapping_of_none u xs ys e = as_none xs u ys e
  items_same (structure ms) u xs ys e =
      let v = as_struct (items_of_members ms ++ xs) u ys e in
      let s = members_same ms v.0 xs ys v.2 in
      (ap structure s.0 ∙ sym v.1, s.1)
  items_same (mapping k v ps) u xs ys e =
      let w = as_map k v (count_of_pairs ps) (items_of_pairs ps ++ xs) u ys e in
      let s = pairs_same ps w.0 xs ys w.2 in
      (ap (mapping k v) s.0 ∙ sym w.1, s.1)
  items_same (collection k ts) u xs ys e =
      let w = as_set k (count_of_trees ts) (items_of_trees ts ++ xs) u ys e in
      let s = trees_same ts w.0 xs ys w.2 in
      (ap (collection k) s.0 ∙ sym w.1, s.1)
  items_same (sequence k ts) u xs ys e =
      let w = as_list k (count_of_trees ts) (items_of_trees ts ++ xs) u ys e in
      let s = trees_same ts w.0 xs ys w.2 in
      (ap (sequence k) s.0 ∙ sym w.1, s.1)

  members_same : (ms ns : Members) (xs ys : List Item) → items_of_members ms ++ xs ≡ items_of_members ns ++ ys → (ms ≡ ns) × (xs ≡ ys)
  members_same no_members no_members xs ys e = (refl, tail_same stop stop xs ys e)
  members_same no_members (one_member j u ns) xs ys e = absurd (no_stop j (kind_of u) xs _ e)
  members_same (one_member i t ms) no_members xs ys e = absurd (no_stop i (kind_of t) ys _ (sym e))
  members_same (one_member i t ms) (one_member j u ns) xs ys e =
      let behind = sym (items_append (items_of t) (items_of_members ms) xs) ∙ tail_same _ _ _ _ e ∙ items_append (items_of u) (items_of_members ns) ys in
      let first = items_same t u (items_of_members ms ++ xs) (items_of_members ns ++ ys) behind in
      let others = members_same ms ns xs ys first.1 in
      (ap (λ k. one_member k t ms) (id_same i j (kind_of t) (kind_of u) _ _ e) ∙ ap (λ v. one_member j v ms) first.0 ∙ ap (one_member j u) others.0, others.1)

  trees_same : (ts us : Trees) (xs ys : List Item) → items_of_trees ts ++ xs ≡ items_of_trees us ++ ys → (ts ≡ us) × (xs ≡ ys)
  trees_same no_trees no_trees xs ys e = (refl, tail_same end end xs ys e)
  trees_same no_trees (one_tree u us) xs ys e = absurd (no_end xs u (items_of_trees us ++ ys) (e ∙ items_append (items_of u) (items_of_trees us) ys))
  trees_same (one_tree t ts) no_trees xs ys e = absurd (no_end ys t (items_of_trees ts ++ xs) (sym e ∙ items_append (items_of t) (items_of_trees ts) xs))
  trees_same (one_tree t ts) (one_tree u us) xs ys e =
      let behind = sym (items_append (items_of t) (items_of_trees ts) xs) ∙ e ∙ items_append (items_of u) (items_of_trees us) ys in
      let first = items_same t u (items_of_trees ts ++ xs) (items_of_trees us ++ ys) behind in
      let others = trees_same ts us xs ys first.1 in
      (ap (λ v. one_tree v ts) first.0 ∙ ap (one_tree u) others.0, others.1)

  pairs_same : (ps qs : Pairs) (xs ys : List Item) → items_of_pairs ps ++ xs ≡ items_of_pairs qs ++ ys → (ps ≡ qs) × (xs ≡ ys)
  pairs_same no_pairs no_pairs xs ys e = (refl, tail_same end end xs ys e)
  pairs_same no_pairs (one_pair k v qs) xs ys e = absurd (no_end xs k ((items_of v ++ items_of_pairs qs) ++ ys) (e ∙ items_append (items_of k) (items_of v ++ items_of_pairs qs) ys))
  pairs_same (one_pair k v ps) no_pairs xs ys e = absurd (no_end ys k ((items_of v ++ items_of_pairs ps) ++ xs) (sym e ∙ items_append (items_of k) (items_of v ++ items_of_pairs ps) xs))
  pairs_same (one_pair k v ps) (one_pair l w qs) xs ys e =
      let behind = sym (items_append (items_of k) (items_of v ++ items_of_pairs ps) xs) ∙ e ∙ items_append (items_of l) (items_of w ++ items_of_pairs qs) ys in
      let first = items_same k l ((items_of v ++ items_of_pairs ps) ++ xs) ((items_of w ++ items_of_pairs qs) ++ ys) behind in
      let later = sym (items_append (items_of v) (items_of_pairs ps) xs) ∙ first.1 ∙ items_append (items_of w) (items_of_pairs qs) ys in
      let second = items_same v w (items_of_pairs ps ++ xs) (items_of_pairs qs ++ ys) later in
      let others = pairs_same ps qs xs ys second.1 in
      (ap (λ z. one_pair z v ps) first.0 ∙ ap (λ z. one_pair l z ps) second.0 ∙ ap (one_pair l w) others.0, others.1)

pub bodies_same : (ms ns : Members) → items_of_members ms ≡ items_of_members ns → ms ≡ ns
bodies_same ms ns e = (members_same ms ns [] [] (append-nil (items_of_members ms) ∙ e ∙ sym (append-nil (items_of_members ns)))).0
