-- Bytes spell one message at most, and no spelling begins another.
use Rattle.std.proofs.Common.{◌≡◌, ℕ, ℤ, pos, ◌+◌, true, false, List, [], ◌∷◌, ◌++◌, length, drop, Ok, refl, ap, ◌∙◌, sym, subst, arith, ◌⊎◌, inl, inr, append_assoc}
use Rattle.std.proofs.lemmas.List.{append-nil, length-reverse}
use Rattle.thrift_value.specs.declared.kind.Kind.{Kind}
use Rattle.thrift_value.specs.declared.kind.Kind.TheVariants as kinds
use Rattle.thrift_value.specs.declared.kind.MessageType.{MessageType}
use Rattle.thrift_value.specs.Items.{Item, field, stop, bool_value, i8_value, i16_value, i32_value, i64_value, double_value, text, empty_map, map_begin, end, uuid_value}
use Rattle.thrift_value.specs.Trees.{Tree, truth, whole_8, whole_16, whole_32, whole_64, double, characters, loose_number, loose_text, structure, mapping_of_none, mapping, collection, sequence, unique_id, Members, no_members, one_member, Trees, no_trees, one_tree, Pairs, no_pairs, one_pair, Message, kind_of, count_of_trees, count_of_pairs}
use Rattle.compact_protocol.specs.Scan.{Scan, value_at, opens, is_bool, field_at, flag_of, elements_at, map_at, front_at, string_at}
use Rattle.compact_protocol.specs.Grammar.{field_code, is_told, IsFieldHeader, IsElementsHeader, SpellsValue, SpellsMembers, SpellsElements, SpellsPairs, SpellsHeader, CompactSpells}
use Rattle.binary_laws.proofs.Inverse.{is_read, same_value, same_size}
use Rattle.binary_laws.proofs.Unique.{split_same}
use Rattle.compact_laws.proofs.Leaves.{bool_again, i8_again, i16_again, i32_again, i64_again, eight_again, sixteen_again, text_again, elements_again, map_again, no_map_again, field_again, told_again, stop_again}
use Rattle.compact_laws.proofs.Walking.{field_code_again, told_is}
use Rattle.compact_laws.proofs.Heading.{head_again}

-- ---- what is read at the front of the same bytes

-- a scan reads one thing, and so its bytes are the same
scan_same : {X : Type 0} → (scan : List ℕ → Scan X) (v w : X) (a b x y : List ℕ) → scan (a ++ x) ≡ Ok (v, length a) → scan (b ++ y) ≡ Ok (w, length b) → a ++ x ≡ b ++ y → (v ≡ w) × (x ≡ y)
scan_same {X} scan v w a b x y p q e =
    let same : is_read (v, length a) ≡ is_read (w, length b) = sym p ∙ ap scan e ∙ q in
    (same_value v w (length a) (length b) same, (split_same a b x y (same_size v w (length a) (length b) same) e).1)

-- a spelling that is laid out in two parts
pub laid_out : (a b x y front more back rest : List ℕ) → a ≡ front ++ more → b ≡ back ++ rest → a ++ x ≡ b ++ y → front ++ (more ++ x) ≡ back ++ (rest ++ y)
laid_out a b x y front more back rest p q e = sym (append_assoc front more x) ∙ ap (λ l. l ++ x) (sym p) ∙ e ∙ ap (λ l. l ++ y) q ∙ append_assoc back rest y

-- ---- values with no level

abbrev item_of_leaf : Tree → Item
item_of_leaf (truth b) = bool_value b
item_of_leaf (whole_8 n) = i8_value n
item_of_leaf (whole_16 n) = i16_value n
item_of_leaf (whole_32 n) = i32_value n
item_of_leaf (whole_64 n) = i64_value n
item_of_leaf (double bytes) = double_value bytes
item_of_leaf (characters bytes) = text bytes
item_of_leaf (unique_id bytes) = uuid_value bytes
item_of_leaf t = end

abbrev tree_of_leaf : Item → Tree
tree_of_leaf (bool_value b) = truth b
tree_of_leaf (i8_value n) = whole_8 n
tree_of_leaf (i16_value n) = whole_16 n
tree_of_leaf (i32_value n) = whole_32 n
tree_of_leaf (i64_value n) = whole_64 n
tree_of_leaf (double_value bytes) = double bytes
tree_of_leaf (text bytes) = characters bytes
tree_of_leaf (uuid_value bytes) = unique_id bytes
tree_of_leaf item = mapping_of_none

-- it is read as its one item, and is the tree of that
record IsLeaf (t : Tree) (bytes more : List ℕ) : Type 0 where
  scan : value_at (kind_of t) (bytes ++ more) ≡ Ok (item_of_leaf t, length bytes)
  is : tree_of_leaf (item_of_leaf t) ≡ t

yes_no : true ≡ false → ⊥
yes_no e = absurd (cc)

leaf : (t : Tree) (bytes more : List ℕ) → SpellsValue t bytes → opens (kind_of t) ≡ false → IsLeaf t bytes more
unfolding value_at
leaf (truth b) bytes more (byte, is, laid) o = record { scan = ap (λ l. value_at kinds.Bool (l ++ more)) laid ∙ bool_again b byte more is ∙ ap (λ l. Ok (bool_value b, length l)) (sym laid); is = refl }
leaf (whole_8 n) bytes more s o = record { scan = ap (λ l. value_at kinds.I8 (l ++ more)) s.1 ∙ i8_again n more s.0 ∙ ap (λ l. Ok (i8_value n, length l)) (sym s.1); is = refl }
leaf (whole_16 n) bytes more s o = record { scan = i16_again n bytes more s; is = refl }
leaf (whole_32 n) bytes more s o = record { scan = i32_again n bytes more s; is = refl }
leaf (whole_64 n) bytes more s o = record { scan = i64_again n bytes more s; is = refl }
leaf (double eight) bytes more s o =
    let long : 8 ≡ length bytes = sym (ap length s.1 ∙ length-reverse eight ∙ s.0) in
    record { scan = ap (λ l. value_at kinds.Double (l ++ more)) s.1 ∙ eight_again eight more s.0 ∙ ap (λ n. Ok (double_value eight, n)) long; is = refl }
leaf (characters b) bytes more s o = record { scan = text_again b bytes more s; is = refl }
leaf (loose_number b) bytes more s o = absurd s
leaf (loose_text b) bytes more s o = absurd s
leaf (unique_id sixteen) bytes more s o =
    let long : 16 ≡ length bytes = sym (ap length s.1 ∙ s.0) in
    record { scan = ap (λ l. value_at kinds.Uuid (l ++ more)) s.1 ∙ sixteen_again sixteen more s.0 ∙ ap (λ n. Ok (uuid_value sixteen, n)) long; is = refl }
leaf (structure ms) bytes more s o = absurd (yes_no o)
leaf mapping_of_none bytes more s o = absurd (yes_no o)
leaf (mapping key value ps) bytes more s o = absurd (yes_no o)
leaf (collection kind ts) bytes more s o = absurd (yes_no o)
leaf (sequence kind ts) bytes more s o = absurd (yes_no o)

abbrev SameValue : Tree → Tree → List ℕ → List ℕ → Type 0
SameValue t u x y = (t ≡ u) × (x ≡ y)

leaves_same : (t u : Tree) (a b x y : List ℕ) → SpellsValue t a → SpellsValue u b → kind_of t ≡ kind_of u → opens (kind_of t) ≡ false → a ++ x ≡ b ++ y → SameValue t u x y
leaves_same t u a b x y s r k o e =
    let p = leaf t a x s o in
    let q = leaf u b y r (ap opens (sym k) ∙ o) in
    let same = scan_same (value_at (kind_of t)) (item_of_leaf t) (item_of_leaf u) a b x y p.scan (ap (λ z. value_at z (b ++ y)) k ∙ q.scan) e in
    (sym p.is ∙ ap tree_of_leaf same.0 ∙ q.is, same.1)

-- ---- what is spelled of the other kinds

as_structure : (u : Tree) (b : List ℕ) → SpellsValue u b → kind_of u ≡ kinds.Struct → (ms : Members) × (u ≡ structure ms) × SpellsMembers (pos 0) ms b
as_structure (structure ms) b s k = (ms, refl, s)
as_structure u b s k = absurd (cc)

as_set : (u : Tree) (b : List ℕ) → SpellsValue u b → kind_of u ≡ kinds.Set → (kind : Kind) × (ts : Trees) × (u ≡ collection kind ts) × SpellsValue (collection kind ts) b
as_set (collection kind ts) b s k = (kind, ts, refl, s)
as_set u b s k = absurd (cc)

as_list : (u : Tree) (b : List ℕ) → SpellsValue u b → kind_of u ≡ kinds.List → (kind : Kind) × (ts : Trees) × (u ≡ sequence kind ts) × SpellsValue (sequence kind ts) b
as_list (sequence kind ts) b s k = (kind, ts, refl, s)
as_list u b s k = absurd (cc)

abbrev Map : Tree → List ℕ → Type 0
Map u b = ((u ≡ mapping_of_none) × SpellsValue mapping_of_none b) ⊎ ((key : Kind) × (value : Kind) × (ps : Pairs) × (u ≡ mapping key value ps) × SpellsValue (mapping key value ps) b)

as_map : (u : Tree) (b : List ℕ) → SpellsValue u b → kind_of u ≡ kinds.Map → Map u b
as_map mapping_of_none b s k = inl (refl, s)
as_map (mapping key value ps) b s k = inr (key, value, ps, refl, s)
as_map u b s k = absurd (cc)

-- ---- maps

abbrev kinds_and_count : Item → Kind × (Kind × ℕ)
kinds_and_count (map_begin key value n) = (key, (value, n))
kinds_and_count item = (kinds.Bool, (kinds.Bool, 0))

no_pairs_there : (key value : Kind) (n : ℕ) → empty_map ≡ map_begin key value n → ⊥
no_pairs_there key value n e = absurd (cc)

none_same : (u : Tree) (a b x y : List ℕ) → SpellsValue mapping_of_none a → Map u b → a ++ x ≡ b ++ y → SameValue mapping_of_none u x y
none_same u a b x y s (inl (same, r)) e =
    (sym same, (scan_same map_at empty_map empty_map a b x y (no_map_again a x s) (no_map_again b y r) e).1)
none_same u a b x y s (inr (key, value, ps, same, (some, (header, pairs, head, spelled, laid)))) e =
    let n = count_of_pairs ps in
    let whole = e ∙ ap (λ l. l ++ y) laid ∙ append_assoc header pairs y in
    absurd (no_pairs_there key value n (scan_same map_at empty_map (map_begin key value n) a header x (pairs ++ y) (no_map_again a x s) (map_again key value n header (pairs ++ y) some head) whole).0)

mapping_same : (ps : Pairs) (key value : Kind) (u : Tree) (a b x y : List ℕ) → SpellsValue (mapping key value ps) a → Map u b → a ++ x ≡ b ++ y
    → ((qs : Pairs) (a b x y : List ℕ) → count_of_pairs ps ≡ count_of_pairs qs → SpellsPairs key value ps a → SpellsPairs key value qs b → a ++ x ≡ b ++ y → (ps ≡ qs) × (x ≡ y)) → SameValue (mapping key value ps) u x y
mapping_same ps key value u a b x y (some, (header, pairs, head, spelled, laid)) (inl (same, r)) e go =
    let n = count_of_pairs ps in
    let whole = sym e ∙ ap (λ l. l ++ x) laid ∙ append_assoc header pairs x in
    absurd (no_pairs_there key value n (scan_same map_at empty_map (map_begin key value n) b header y (pairs ++ x) (no_map_again b y r) (map_again key value n header (pairs ++ x) some head) whole).0)
mapping_same ps key value u a b x y (some, (header, pairs, head, spelled, laid)) (inr (l, w, qs, is, (more, (other, rest, heading, told, like)))) e go =
    let n = count_of_pairs ps in
    let m = count_of_pairs qs in
    let found = scan_same map_at (map_begin key value n) (map_begin l w m) header other (pairs ++ x) (rest ++ y) (map_again key value n header (pairs ++ x) some head) (map_again l w m other (rest ++ y) more heading)
    (laid_out a b x y header pairs other rest laid like e) in
    let same_key : key ≡ l = ap (λ i. (kinds_and_count i).0) found.0 in
    let same_value : value ≡ w = ap (λ i. (kinds_and_count i).1.0) found.0 in
    let same_count : n ≡ m = ap (λ i. (kinds_and_count i).1.1) found.0 in
    let turned = subst (λ z. SpellsPairs z value qs rest) (sym same_key) (subst (λ z. SpellsPairs l z qs rest) (sym same_value) told) in
    let same = go qs pairs rest x y same_count spelled turned found.1 in
    (ap (λ z. mapping z value ps) same_key ∙ ap (λ z. mapping l z ps) same_value ∙ ap (mapping l w) same.0 ∙ sym is, same.1)

-- ---- lists and sets

record SameElements (k l : Kind) (m n : ℕ) (x y : List ℕ) : Type 0 where
  kind : k ≡ l
  count : m ≡ n
  rest : x ≡ y

elements_head : (k l : Kind) (m n : ℕ) (header other x y : List ℕ) → IsElementsHeader k m header → IsElementsHeader l n other → header ++ x ≡ other ++ y → SameElements k l m n x y
elements_head k l m n header other x y p q e =
    let same = scan_same elements_at (k, m) (l, n) header other x y (elements_again k m header x p) (elements_again l n other y q) e in
    record { kind = ap (λ (z : Kind × ℕ). z.0) same.0; count = ap (λ (z : Kind × ℕ). z.1) same.0; rest = same.1 }

-- ---- fields

abbrev id_and_kind : Item → ℤ × Kind
id_and_kind (field id kind) = (id, kind)
id_and_kind item = (pos 0, kinds.Bool)

record SameField (id new : ℤ) (k l : Kind) (x y : List ℕ) : Type 0 where
  ids : id ≡ new
  kind : k ≡ l
  rest : x ≡ y

field_head : (last id new : ℤ) (t u : Tree) (header other x y : List ℕ) → IsFieldHeader last id (field_code t) header → IsFieldHeader last new (field_code u) other → header ++ x ≡ other ++ y → SameField id new (kind_of t) (kind_of u) x y
field_head last id new t u header other x y p q e =
    let k = kind_of t in
    let l = kind_of u in
    let same = scan_same (field_at last) (field id k) (field new l) header other x y (field_again last id (field_code t) k header x (field_code_again t) p) (field_again last new (field_code u) l other y (field_code_again u) q) e in
    record { ids = ap (λ i. (id_and_kind i).0) same.0; kind = ap (λ i. (id_and_kind i).1) same.0; rest = same.1 }

no_field : (id : ℤ) (k : Kind) → stop ≡ field id k → ⊥
no_field id k e = absurd (cc)

-- the end of a struct is no field
end_apart : (last id : ℤ) (t : Tree) (header x y : List ℕ) → IsFieldHeader last id (field_code t) header → 0 ∷ x ≡ header ++ y → ⊥
end_apart last id t header x y p e =
    no_field id (kind_of t) (scan_same (field_at last) stop (field id (kind_of t)) (0 ∷ []) header x y (stop_again last x) (field_again last id (field_code t) (kind_of t) header y (field_code_again t) p) e).0

pub told_kind : (t : Tree) → is_told t ≡ is_bool (kind_of t)
told_kind (truth b) = refl
told_kind (whole_8 n) = refl
told_kind (whole_16 n) = refl
told_kind (whole_32 n) = refl
told_kind (whole_64 n) = refl
told_kind (double bytes) = refl
told_kind (characters bytes) = refl
told_kind (loose_number bytes) = refl
told_kind (loose_text bytes) = refl
told_kind (structure ms) = refl
told_kind mapping_of_none = refl
told_kind (mapping key value ps) = refl
told_kind (collection kind ts) = refl
told_kind (sequence kind ts) = refl
told_kind (unique_id bytes) = refl

-- of two fields of one kind both are told, or none
told_apart : (t u : Tree) → kind_of t ≡ kind_of u → is_told t ≡ true → is_told u ≡ false → ⊥
told_apart t u k p q = yes_no (sym p ∙ told_kind t ∙ ap is_bool k ∙ sym (told_kind u) ∙ q)

-- two bools that one byte tells
bools_same : (last id new : ℤ) (t u : Tree) (header other x y : List ℕ) → IsFieldHeader last id (field_code t) header → IsFieldHeader last new (field_code u) other → header ++ x ≡ other ++ y → is_told t ≡ true → is_told u ≡ true → t ≡ u
bools_same last id new t u header other x y p q e told also =
    let b = told_is t told in
    let c = told_is u also in
    let one = told_again last id b.0 header x (subst (λ z. IsFieldHeader last id (field_code z) header) b.1 p) in
    let two = told_again last new c.0 other y (subst (λ z. IsFieldHeader last new (field_code z) other) c.1 q) in
    b.1 ∙ ap truth (sym one ∙ ap flag_of e ∙ two) ∙ sym c.1

-- ---- two spellings at the front of the same bytes

mutual
  values_same : (t u : Tree) (a b x y : List ℕ) → SpellsValue t a → SpellsValue u b → kind_of t ≡ kind_of u → a ++ x ≡ b ++ y → SameValue t u x y
  values_same (truth c) u a b x y s r k e = leaves_same (truth c) u a b x y s r k refl e
  values_same (whole_8 n) u a b x y s r k e = leaves_same (whole_8 n) u a b x y s r k refl e
  values_same (whole_16 n) u a b x y s r k e = leaves_same (whole_16 n) u a b x y s r k refl e
  values_same (whole_32 n) u a b x y s r k e = leaves_same (whole_32 n) u a b x y s r k refl e
  values_same (whole_64 n) u a b x y s r k e = leaves_same (whole_64 n) u a b x y s r k refl e
  values_same (double eight) u a b x y s r k e = leaves_same (double eight) u a b x y s r k refl e
  values_same (characters l) u a b x y s r k e = leaves_same (characters l) u a b x y s r k refl e
  values_same (loose_number l) u a b x y s r k e = absurd s
  values_same (loose_text l) u a b x y s r k e = absurd s
  values_same (unique_id sixteen) u a b x y s r k e = leaves_same (unique_id sixteen) u a b x y s r k refl e
  values_same (structure ms) u a b x y s r k e =
      let v = as_structure u b r (sym k) in
      let same = members_same ms v.0 (pos 0) (pos 0) a b x y refl s v.2 e in
      (ap structure same.0 ∙ sym v.1, same.1)
  values_same mapping_of_none u a b x y s r k e = none_same u a b x y s (as_map u b r (sym k)) e
  values_same (mapping key value ps) u a b x y s r k e = mapping_same ps key value u a b x y s (as_map u b r (sym k)) e (λ qs c d v w n f g h. pairs_same ps key value qs c d v w n f g h)
  values_same (collection kind ts) u a b x y s r k e =
      let v = as_set u b r (sym k) in
      let p = s.1 in
      let q = v.3.1 in
      let h = elements_head kind v.0 (count_of_trees ts) (count_of_trees v.1) p.0 q.0 (p.1 ++ x) (q.1 ++ y) p.2 q.2 (laid_out a b x y p.0 p.1 q.0 q.1 p.4 q.4 e) in
      let same = elements_same ts kind v.1 p.1 q.1 x y h.count p.3 (subst (λ z. SpellsElements z v.1 q.1) (sym h.kind) q.3) h.rest in
      (ap (λ z. collection z ts) h.kind ∙ ap (collection v.0) same.0 ∙ sym v.2, same.1)
  values_same (sequence kind ts) u a b x y s r k e =
      let v = as_list u b r (sym k) in
      let p = s.1 in
      let q = v.3.1 in
      let h = elements_head kind v.0 (count_of_trees ts) (count_of_trees v.1) p.0 q.0 (p.1 ++ x) (q.1 ++ y) p.2 q.2 (laid_out a b x y p.0 p.1 q.0 q.1 p.4 q.4 e) in
      let same = elements_same ts kind v.1 p.1 q.1 x y h.count p.3 (subst (λ z. SpellsElements z v.1 q.1) (sym h.kind) q.3) h.rest in
      (ap (λ z. sequence z ts) h.kind ∙ ap (sequence v.0) same.0 ∙ sym v.2, same.1)

  members_same : (ms ns : Members) (last before : ℤ) (a b x y : List ℕ) → last ≡ before → SpellsMembers last ms a → SpellsMembers before ns b → a ++ x ≡ b ++ y → (ms ≡ ns) × (x ≡ y)
  members_same no_members no_members last before a b x y l s r e = (refl, ap (drop 1) (ap (λ z. z ++ x) (sym s) ∙ e ∙ ap (λ z. z ++ y) r))
  members_same no_members (one_member id u ns) last before a b x y l s (header, value, rest, head, v, others, laid) e =
      absurd (end_apart before id u header x ((value ++ rest) ++ y) head (ap (λ z. z ++ x) (sym s) ∙ e ∙ ap (λ z. z ++ y) laid ∙ append_assoc header (value ++ rest) y))
  members_same (one_member id t ms) no_members last before a b x y l (header, value, rest, head, v, others, laid) r e =
      absurd (end_apart last id t header y ((value ++ rest) ++ x) head (ap (λ z. z ++ y) (sym r) ∙ sym e ∙ ap (λ z. z ++ x) laid ∙ append_assoc header (value ++ rest) x))
  members_same (one_member id t ms) (one_member new u ns) last before a b x y l (header, value, rest, head, inl (told, none), others, laid) (other, found, tail, heading, inl (also, gone), more, like) e =
      let whole = laid_out a b x y header (value ++ rest) other (found ++ tail) laid like e in
      let turned = subst (λ z. IsFieldHeader z new (field_code u) other) (sym l) heading in
      let h = field_head last id new t u header other ((value ++ rest) ++ x) ((found ++ tail) ++ y) head turned whole in
      let v = bools_same last id new t u header other ((value ++ rest) ++ x) ((found ++ tail) ++ y) head turned whole told also in
      let behind = ap (λ z. (z ++ rest) ++ x) (sym none) ∙ h.rest ∙ ap (λ z. (z ++ tail) ++ y) gone in
      let m = members_same ms ns id new rest tail x y h.ids others more behind in
      (ap (λ z. one_member z t ms) h.ids ∙ ap (λ z. one_member new z ms) v ∙ ap (one_member new u) m.0, m.1)
  members_same (one_member id t ms) (one_member new u ns) last before a b x y l (header, value, rest, head, inl (told, none), others, laid) (other, found, tail, heading, inr (not, r), more, like) e =
      let h = field_head last id new t u header other ((value ++ rest) ++ x) ((found ++ tail) ++ y) head (subst (λ z. IsFieldHeader z new (field_code u) other) (sym l) heading) (laid_out a b x y header (value ++ rest) other (found ++ tail) laid like e) in
      absurd (told_apart t u h.kind told not)
  members_same (one_member id t ms) (one_member new u ns) last before a b x y l (header, value, rest, head, inr (not, s), others, laid) (other, found, tail, heading, inl (also, gone), more, like) e =
      let h = field_head last id new t u header other ((value ++ rest) ++ x) ((found ++ tail) ++ y) head (subst (λ z. IsFieldHeader z new (field_code u) other) (sym l) heading) (laid_out a b x y header (value ++ rest) other (found ++ tail) laid like e) in
      absurd (told_apart u t (sym h.kind) also not)
  members_same (one_member id t ms) (one_member new u ns) last before a b x y l (header, value, rest, head, inr (not, s), others, laid) (other, found, tail, heading, inr (nor, r), more, like) e =
      let h = field_head last id new t u header other ((value ++ rest) ++ x) ((found ++ tail) ++ y) head (subst (λ z. IsFieldHeader z new (field_code u) other) (sym l) heading) (laid_out a b x y header (value ++ rest) other (found ++ tail) laid like e) in
      let v = values_same t u value found (rest ++ x) (tail ++ y) s r h.kind (sym (append_assoc value rest x) ∙ h.rest ∙ append_assoc found tail y) in
      let m = members_same ms ns id new rest tail x y h.ids others more v.1 in
      (ap (λ z. one_member z t ms) h.ids ∙ ap (λ z. one_member new z ms) v.0 ∙ ap (one_member new u) m.0, m.1)

  elements_same : (ts : Trees) (kind : Kind) (us : Trees) (a b x y : List ℕ) → count_of_trees ts ≡ count_of_trees us → SpellsElements kind ts a → SpellsElements kind us b → a ++ x ≡ b ++ y → (ts ≡ us) × (x ≡ y)
  elements_same no_trees kind no_trees a b x y n s r e = (refl, ap (λ l. l ++ x) (sym s) ∙ e ∙ ap (λ l. l ++ y) r)
  elements_same no_trees kind (one_tree u us) a b x y n s r e = absurd (omega (arith, n))
  elements_same (one_tree t ts) kind no_trees a b x y n s r e = absurd (omega (arith, n))
  elements_same (one_tree t ts) kind (one_tree u us) a b x y n s r e =
      let p = s.1 in
      let q = r.1 in
      let v = values_same t u p.0 q.0 (p.1 ++ x) (q.1 ++ y) p.2 q.2 (s.0 ∙ sym r.0) (laid_out a b x y p.0 p.1 q.0 q.1 p.4 q.4 e) in
      let m = elements_same ts kind us p.1 q.1 x y (omega (arith, n)) p.3 q.3 v.1 in
      (ap (λ z. one_tree z ts) v.0 ∙ ap (one_tree u) m.0, m.1)

  pairs_same : (ps : Pairs) (key value : Kind) (qs : Pairs) (a b x y : List ℕ) → count_of_pairs ps ≡ count_of_pairs qs → SpellsPairs key value ps a → SpellsPairs key value qs b → a ++ x ≡ b ++ y → (ps ≡ qs) × (x ≡ y)
  pairs_same no_pairs key value no_pairs a b x y n s r e = (refl, ap (λ l. l ++ x) (sym s) ∙ e ∙ ap (λ l. l ++ y) r)
  pairs_same no_pairs key value (one_pair k v qs) a b x y n s r e = absurd (omega (arith, n))
  pairs_same (one_pair k v ps) key value no_pairs a b x y n s r e = absurd (omega (arith, n))
  pairs_same (one_pair k v ps) key value (one_pair l w qs) a b x y n s r e =
      let p = s.2 in
      let q = r.2 in
      let first = values_same k l p.0 q.0 ((p.1 ++ p.2) ++ x) ((q.1 ++ q.2) ++ y) p.3 q.3 (s.0 ∙ sym r.0) (laid_out a b x y p.0 (p.1 ++ p.2) q.0 (q.1 ++ q.2) p.6 q.6 e) in
      let second = values_same v w p.1 q.1 (p.2 ++ x) (q.2 ++ y) p.4 q.4 (s.1 ∙ sym r.1) (sym (append_assoc p.1 p.2 x) ∙ first.1 ∙ append_assoc q.1 q.2 y) in
      let m = pairs_same ps key value qs p.2 q.2 x y (omega (arith, n)) p.5 q.5 second.1 in
      (ap (λ z. one_pair z v ps) first.0 ∙ ap (λ z. one_pair l z ps) second.0 ∙ ap (one_pair l w) m.0, m.1)

-- ---- messages

record SameHead (m n : Message) (x y : List ℕ) : Type 0 where
  name : m.name ≡ n.name
  mtype : m.mtype ≡ n.mtype
  seq : m.seq ≡ n.seq
  rest : x ≡ y

abbrev front_read : MessageType × ℤ → ℕ → Scan (MessageType × ℤ)
front_read front at = is_read (front, at)

heads_same : (m n : Message) (a b x y : List ℕ) → SpellsHeader m a → SpellsHeader n b → a ++ x ≡ b ++ y → SameHead m n x y
heads_same m n a b x y s r e =
    let p = head_again m a x s in
    let q = head_again n b y r in
    let front : front_read (m.mtype, m.seq) p.at ≡ front_read (n.mtype, n.seq) q.at = sym p.front ∙ ap front_at e ∙ q.front in
    let fronts = same_value (m.mtype, m.seq) (n.mtype, n.seq) p.at q.at front in
    let at : p.at ≡ q.at = same_size (m.mtype, m.seq) (n.mtype, n.seq) p.at q.at front in
    let name : is_read (m.name, p.long) ≡ is_read (n.name, q.long) = sym p.name ∙ ap (λ l. string_at (drop p.at l)) e ∙ ap (λ k. string_at (drop k (b ++ y))) at ∙ q.name in
    let long : p.long ≡ q.long = same_size m.name n.name p.long q.long name in
    let size : length a ≡ length b = sym p.whole ∙ ap (λ k. k + p.long) at ∙ ap (λ k. q.at + k) long ∙ q.whole in
    record {
      name = same_value m.name n.name p.long q.long name;
      mtype = ap (λ (z : MessageType × ℤ). z.0) fronts;
      seq = ap (λ (z : MessageType × ℤ). z.1) fronts;
      rest = (split_same a b x y size e).1;
    }

abbrev message : List ℕ → MessageType → ℤ → Members → Message
message name mtype seq body = record { name = name; mtype = mtype; seq = seq; body = body }

pub messages_same : (m n : Message) (a b x y : List ℕ) → CompactSpells m a → CompactSpells n b → a ++ x ≡ b ++ y → (m ≡ n) × (x ≡ y)
messages_same m n a b x y (header, body, head, members, is) (other, rest, heading, fields, like) e =
    let h = heads_same m n header other (body ++ x) (rest ++ y) head heading (laid_out a b x y header body other rest is like e) in
    let r = members_same m.body n.body (pos 0) (pos 0) body rest x y refl members fields h.rest in (
      ap (λ z. message z m.mtype m.seq m.body) h.name ∙ ap (λ z. message n.name z m.seq m.body) h.mtype ∙ ap (λ z. message n.name n.mtype z m.body) h.seq ∙ ap (message n.name n.mtype n.seq) r.0,
      r.1,
    )

pub one_message : (m n : Message) (front rest : List ℕ) → CompactSpells m front → CompactSpells n (front ++ rest) → (m ≡ n) × (rest ≡ [])
one_message m n front rest s r = messages_same m n front (front ++ rest) rest [] s r (sym (append-nil (front ++ rest)))
