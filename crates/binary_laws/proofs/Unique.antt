-- Bytes spell one message at most, and no spelling begins another.
use Rattle.std.proofs.Common.{◌≡◌, ℕ, ℤ, ◌<◌, ◌≤◌, ◌^◌, Bool, true, false, List, [], ◌∷◌, ◌++◌, length, drop, Option, Some, None, refl, ap, ◌∙◌, sym, subst, arith, ◌⊎◌, inl, inr, append_assoc}
use Rattle.std.specs.Prelude.{FitsSigned}
use Rattle.std.specs.Int.{w8, w16, w32, w64}
use Rattle.std.proofs.lemmas.List.{append-nil}
use Rattle.thrift_value.specs.declared.kind.Kind.{Kind}
use Rattle.thrift_value.specs.declared.kind.Kind.TheVariants as kinds
use Rattle.thrift_value.specs.declared.kind.MessageType.{MessageType}
use Rattle.thrift_value.specs.Trees.{Tree, truth, whole_8, whole_16, whole_32, whole_64, double, characters, loose_number, loose_text, structure, mapping_of_none, mapping, collection, sequence, unique_id, Members, no_members, one_member, Trees, no_trees, one_tree, Pairs, no_pairs, one_pair, Message, kind_of, count_of_trees, count_of_pairs}
use Rattle.binary_protocol.specs.Codes.{code_of_kind, kind_of_code, code_of_type, type_of_code}
use Rattle.binary_protocol.specs.Scan.{signed_at, unsigned_at}
use Rattle.binary_protocol.specs.Grammar.{number, size, string, flag, SpellsValue, SpellsMembers, SpellsElements, SpellsPairs, SpellsStrictHeader, SpellsOldHeader, BinarySpells}
use Rattle.binary_laws.proofs.Leaves.{kind_again, type_again, code_some, four_again, i8_signed, i16_signed, i32_signed, i64_signed}

-- ---- lists

head_same : (x y : ℕ) (xs ys : List ℕ) → x ∷ xs ≡ y ∷ ys → x ≡ y
head_same x y xs ys e = cc

tail_same : (x y : ℕ) (xs ys : List ℕ) → x ∷ xs ≡ y ∷ ys → xs ≡ ys
tail_same x y xs ys e = cc

pub split_same : (a b x y : List ℕ) → length a ≡ length b → a ++ x ≡ b ++ y → (a ≡ b) × (x ≡ y)
split_same [] [] x y l e = (refl, e)
split_same [] (d ∷ b) x y l e = absurd (omega arith)
split_same (c ∷ a) [] x y l e = absurd (omega arith)
split_same (c ∷ a) (d ∷ b) x y l e =
    let r = split_same a b x y (omega arith) (tail_same c d (a ++ x) (b ++ y) e) in
    (ap (λ z. z ∷ a) (head_same c d (a ++ x) (b ++ y) e) ∙ ap (λ l. d ∷ l) r.0, r.1)

-- ---- numbers, sizes, strings and codes

pub size_same : (m n : ℕ) (x y : List ℕ) → m < 2 ^ 31 → n < 2 ^ 31 → size m ++ x ≡ size n ++ y → (m ≡ n) × (x ≡ y)
size_same m n x y p q e = (sym (four_again m x (omega arith)) ∙ ap (unsigned_at w32) e ∙ four_again n y (omega arith), ap (drop 4) e)

string_same : (a b x y : List ℕ) → length a < 2 ^ 31 → length b < 2 ^ 31 → string a ++ x ≡ string b ++ y → (a ≡ b) × (x ≡ y)
string_same a b x y p q e = let s = size_same (length a) (length b) (a ++ x) (b ++ y) p q e in split_same a b x y s.0 s.1

some_same : {A : Type 0} → (x y : A) → Some x ≡ Some y → x ≡ y
some_same {A} x y e = ap (λ (o : Option A). or_else o) e
  where
    or_else : Option A → A
    or_else (Some z) = z
    or_else None = x

kind_same : (k l : Kind) → code_of_kind k ≡ code_of_kind l → k ≡ l
kind_same k l e = some_same k l (sym (kind_again k) ∙ ap (λ c. kind_of_code c) e ∙ kind_again l)

type_same : (t u : MessageType) → code_of_type t ≡ code_of_type u → t ≡ u
type_same t u e = some_same t u (sym (type_again t) ∙ ap (λ c. type_of_code c) e ∙ type_again u)

flag_same : (b c : Bool) → flag b ≡ flag c → b ≡ c
flag_same true true e = refl
flag_same true false e = absurd (cc)
flag_same false true e = absurd (cc)
flag_same false false e = refl

-- ---- what is spelled of each kind

as_truth : (u : Tree) (b : List ℕ) → SpellsValue u b → kind_of u ≡ kinds.Bool → (c : Bool) × (u ≡ truth c) × (b ≡ flag c ∷ [])
as_truth (truth c) b s k = (c, refl, s)
as_truth u b s k = absurd (cc)

as_8 : (u : Tree) (b : List ℕ) → SpellsValue u b → kind_of u ≡ kinds.I8 → (n : ℤ) × (u ≡ whole_8 n) × SpellsValue (whole_8 n) b
as_8 (whole_8 n) b s k = (n, refl, s)
as_8 u b s k = absurd (cc)

as_16 : (u : Tree) (b : List ℕ) → SpellsValue u b → kind_of u ≡ kinds.I16 → (n : ℤ) × (u ≡ whole_16 n) × SpellsValue (whole_16 n) b
as_16 (whole_16 n) b s k = (n, refl, s)
as_16 u b s k = absurd (cc)

as_32 : (u : Tree) (b : List ℕ) → SpellsValue u b → kind_of u ≡ kinds.I32 → (n : ℤ) × (u ≡ whole_32 n) × SpellsValue (whole_32 n) b
as_32 (whole_32 n) b s k = (n, refl, s)
as_32 u b s k = absurd (cc)

as_64 : (u : Tree) (b : List ℕ) → SpellsValue u b → kind_of u ≡ kinds.I64 → (n : ℤ) × (u ≡ whole_64 n) × SpellsValue (whole_64 n) b
as_64 (whole_64 n) b s k = (n, refl, s)
as_64 u b s k = absurd (cc)

as_double : (u : Tree) (b : List ℕ) → SpellsValue u b → kind_of u ≡ kinds.Double → (eight : List ℕ) × (u ≡ double eight) × SpellsValue (double eight) b
as_double (double eight) b s k = (eight, refl, s)
as_double (loose_number l) b s k = absurd s
as_double u b s k = absurd (cc)

as_text : (u : Tree) (b : List ℕ) → SpellsValue u b → kind_of u ≡ kinds.Str → (l : List ℕ) × (u ≡ characters l) × SpellsValue (characters l) b
as_text (characters l) b s k = (l, refl, s)
as_text (loose_text l) b s k = absurd s
as_text u b s k = absurd (cc)

as_uuid : (u : Tree) (b : List ℕ) → SpellsValue u b → kind_of u ≡ kinds.Uuid → (l : List ℕ) × (u ≡ unique_id l) × SpellsValue (unique_id l) b
as_uuid (unique_id l) b s k = (l, refl, s)
as_uuid u b s k = absurd (cc)

as_structure : (u : Tree) (b : List ℕ) → SpellsValue u b → kind_of u ≡ kinds.Struct → (ms : Members) × (u ≡ structure ms) × SpellsMembers ms b
as_structure (structure ms) b s k = (ms, refl, s)
as_structure u b s k = absurd (cc)

as_set : (u : Tree) (b : List ℕ) → SpellsValue u b → kind_of u ≡ kinds.Set → (kind : Kind) × (ts : Trees) × (u ≡ collection kind ts) × SpellsValue (collection kind ts) b
as_set (collection kind ts) b s k = (kind, ts, refl, s)
as_set u b s k = absurd (cc)

as_list : (u : Tree) (b : List ℕ) → SpellsValue u b → kind_of u ≡ kinds.List → (kind : Kind) × (ts : Trees) × (u ≡ sequence kind ts) × SpellsValue (sequence kind ts) b
as_list (sequence kind ts) b s k = (kind, ts, refl, s)
as_list u b s k = absurd (cc)

abbrev Map : Tree → List ℕ → Type 0
Map u b = ((u ≡ mapping_of_none) × SpellsValue mapping_of_none b) ⊎ ((key : Kind) × (value : Kind) × (ps : Pairs) × (u ≡ mapping key value ps) × SpellsValue (mapping key value ps) b)

as_map : (u : Tree) (b : List ℕ) → SpellsValue u b → kind_of u ≡ kinds.Map → Map u b
as_map mapping_of_none b s k = inl (refl, s)
as_map (mapping key value ps) b s k = inr (key, value, ps, refl, s)
as_map u b s k = absurd (cc)

-- ---- two spellings at the front of the same bytes

abbrev SameValue : Tree → Tree → List ℕ → List ℕ → Type 0
SameValue t u x y = (t ≡ u) × (x ≡ y)

-- two numbers of one width
numbers_same : (t u : Tree) (m n : ℤ) (f : ℤ → Tree) (x y : List ℕ) → t ≡ f m → u ≡ f n → m ≡ n → x ≡ y → SameValue t u x y
numbers_same t u m n f x y p q e h = (p ∙ ap f e ∙ sym q, h)

-- the kinds and the size of a map
map_head : (k l v w : Kind) (m n : ℕ) (x y : List ℕ) → m < 2 ^ 31 → n < 2 ^ 31 → code_of_kind k ∷ code_of_kind v ∷ (size m ++ x) ≡ code_of_kind l ∷ code_of_kind w ∷ (size n ++ y) → (k ≡ l) × (v ≡ w) × (m ≡ n) × (x ≡ y)
map_head k l v w m n x y p q e =
    let tail = tail_same _ _ _ _ e in
    let s = size_same m n x y p q (tail_same _ _ _ _ tail) in
    (kind_same k l (head_same _ _ _ _ e), kind_same v w (head_same _ _ _ _ tail), s.0, s.1)

-- the kind and the size of a list or set
list_head : (k l : Kind) (m n : ℕ) (x y : List ℕ) → m < 2 ^ 31 → n < 2 ^ 31 → code_of_kind k ∷ (size m ++ x) ≡ code_of_kind l ∷ (size n ++ y) → (k ≡ l) × (m ≡ n) × (x ≡ y)
list_head k l m n x y p q e = let s = size_same m n x y p q (tail_same _ _ _ _ e) in (kind_same k l (head_same _ _ _ _ e), s.0, s.1)

-- a spelling that is laid out in two parts
laid_out : (a b x y front more back rest : List ℕ) → a ≡ front ++ more → b ≡ back ++ rest → a ++ x ≡ b ++ y → front ++ (more ++ x) ≡ back ++ (rest ++ y)
laid_out a b x y front more back rest p q e = sym (append_assoc front more x) ∙ ap (λ l. l ++ x) (sym p) ∙ e ∙ ap (λ l. l ++ y) q ∙ append_assoc back rest y

none_same : (u : Tree) (a b x y : List ℕ) → SpellsValue mapping_of_none a → Map u b → a ++ x ≡ b ++ y → SameValue mapping_of_none u x y
none_same u a b x y (k, v, p, q, is) (inl (same, (l, w, r, t, like))) e =
    (sym same, ap (drop 6) (ap (λ z. z ++ x) (sym is) ∙ e ∙ ap (λ z. z ++ y) like))
none_same u a b x y (k, v, p, q, is) (inr (key, value, ps, same, s)) e =
    let laid = ap (λ z. z ++ x) (sym is) ∙ e ∙ ap (λ z. z ++ y) s.2.2 in
    let n = count_of_pairs ps in
    let least : 1 ≤ n = s.0 in
    let sizes = tail_same _ _ _ _ (tail_same _ _ _ _ laid) in
    let zero = size_same 0 n x (s.2.0 ++ y) (omega arith) s.1 (sizes ∙ append_assoc (size n) s.2.0 y) in
    absurd (omega (arith, zero.0, least))

mapping_same : (ps : Pairs) (key value : Kind) (u : Tree) (a b x y : List ℕ) → SpellsValue (mapping key value ps) a → Map u b → a ++ x ≡ b ++ y
    → ((qs : Pairs) (a b x y : List ℕ) → count_of_pairs ps ≡ count_of_pairs qs → SpellsPairs key value ps a → SpellsPairs key value qs b → a ++ x ≡ b ++ y → (ps ≡ qs) × (x ≡ y)) → SameValue (mapping key value ps) u x y
mapping_same ps key value u a b x y s (inl (same, (l, w, r, t, like))) e go =
    let laid = ap (λ z. z ++ x) (sym s.2.2) ∙ e ∙ ap (λ z. z ++ y) like in
    let n = count_of_pairs ps in
    let least : 1 ≤ n = s.0 in
    let sizes = tail_same _ _ _ _ (tail_same _ _ _ _ laid) in
    let zero = size_same n 0 (s.2.0 ++ x) y s.1 (omega arith) (sym (append_assoc (size n) s.2.0 x) ∙ sizes) in
    absurd (omega (arith, zero.0, least))
mapping_same ps key value u a b x y s (inr (l, w, qs, is, r)) e go =
    let p = s.2 in
    let q = r.2 in
    let laid = laid_out a b x y (code_of_kind key ∷ code_of_kind value ∷ size (count_of_pairs ps)) p.0 (code_of_kind l ∷ code_of_kind w ∷ size (count_of_pairs qs)) q.0 p.2 q.2 e in
    let h = map_head key l value w (count_of_pairs ps) (count_of_pairs qs) (p.0 ++ x) (q.0 ++ y) s.1 r.1 laid in
    let other = subst (λ z. SpellsPairs z value qs q.0) (sym h.0) (subst (λ z. SpellsPairs l z qs q.0) (sym h.1) q.1) in
    let same = go qs p.0 q.0 x y h.2 p.1 other h.3 in
    (ap (λ z. mapping z value ps) h.0 ∙ ap (λ z. mapping l z ps) h.1 ∙ ap (mapping l w) same.0 ∙ sym is, same.1)

mutual
  values_same : (t u : Tree) (a b x y : List ℕ) → SpellsValue t a → SpellsValue u b → kind_of t ≡ kind_of u → a ++ x ≡ b ++ y → SameValue t u x y
  values_same (truth c) u a b x y s r k e =
      let v = as_truth u b r (sym k) in
      let same = ap (λ l. l ++ x) (sym s) ∙ e ∙ ap (λ l. l ++ y) v.2 in
      (ap truth (flag_same c v.0 (head_same _ _ _ _ same)) ∙ sym v.1, tail_same _ _ _ _ same)
  values_same (whole_8 n) u a b x y s r k e =
      let v = as_8 u b r (sym k) in
      let same = ap (λ l. l ++ x) (sym s.1) ∙ e ∙ ap (λ l. l ++ y) v.2.1 in
      numbers_same (whole_8 n) u n v.0 whole_8 x y refl v.1 (sym (i8_signed n x s.0) ∙ ap (signed_at w8) same ∙ i8_signed v.0 y v.2.0) (ap (drop 1) same)
  values_same (whole_16 n) u a b x y s r k e =
      let v = as_16 u b r (sym k) in
      let same = ap (λ l. l ++ x) (sym s.1) ∙ e ∙ ap (λ l. l ++ y) v.2.1 in
      numbers_same (whole_16 n) u n v.0 whole_16 x y refl v.1 (sym (i16_signed n x s.0) ∙ ap (signed_at w16) same ∙ i16_signed v.0 y v.2.0) (ap (drop 2) same)
  values_same (whole_32 n) u a b x y s r k e =
      let v = as_32 u b r (sym k) in
      let same = ap (λ l. l ++ x) (sym s.1) ∙ e ∙ ap (λ l. l ++ y) v.2.1 in
      numbers_same (whole_32 n) u n v.0 whole_32 x y refl v.1 (sym (i32_signed n x s.0) ∙ ap (signed_at w32) same ∙ i32_signed v.0 y v.2.0) (ap (drop 4) same)
  values_same (whole_64 n) u a b x y s r k e =
      let v = as_64 u b r (sym k) in
      let same = ap (λ l. l ++ x) (sym s.1) ∙ e ∙ ap (λ l. l ++ y) v.2.1 in
      numbers_same (whole_64 n) u n v.0 whole_64 x y refl v.1 (sym (i64_signed n x s.0) ∙ ap (signed_at w64) same ∙ i64_signed v.0 y v.2.0) (ap (drop 8) same)
  values_same (double eight) u a b x y s r k e =
      let v = as_double u b r (sym k) in
      let same = split_same eight v.0 x y (s.0 ∙ sym v.2.0) (ap (λ l. l ++ x) (sym s.1) ∙ e ∙ ap (λ l. l ++ y) v.2.1) in
      (ap double same.0 ∙ sym v.1, same.1)
  values_same (characters text) u a b x y s r k e =
      let v = as_text u b r (sym k) in
      let same = string_same text v.0 x y s.0 v.2.0 (ap (λ l. l ++ x) (sym s.1) ∙ e ∙ ap (λ l. l ++ y) v.2.1) in
      (ap characters same.0 ∙ sym v.1, same.1)
  values_same (loose_number text) u a b x y s r k e = absurd s
  values_same (loose_text text) u a b x y s r k e = absurd s
  values_same (unique_id sixteen) u a b x y s r k e =
      let v = as_uuid u b r (sym k) in
      let same = split_same sixteen v.0 x y (s.0 ∙ sym v.2.0) (ap (λ l. l ++ x) (sym s.1) ∙ e ∙ ap (λ l. l ++ y) v.2.1) in
      (ap unique_id same.0 ∙ sym v.1, same.1)
  values_same (structure ms) u a b x y s r k e =
      let v = as_structure u b r (sym k) in
      let same = members_same ms v.0 a b x y s v.2 e in
      (ap structure same.0 ∙ sym v.1, same.1)
  values_same (collection kind ts) u a b x y s r k e =
      let v = as_set u b r (sym k) in
      let p = s.1 in
      let q = v.3.1 in
      let laid = laid_out a b x y (code_of_kind kind ∷ size (count_of_trees ts)) p.0 (code_of_kind v.0 ∷ size (count_of_trees v.1)) q.0 p.2 q.2 e in
      let h = list_head kind v.0 (count_of_trees ts) (count_of_trees v.1) (p.0 ++ x) (q.0 ++ y) s.0 v.3.0 laid in
      let same = elements_same ts kind v.1 p.0 q.0 x y h.1 p.1 (subst (λ z. SpellsElements z v.1 q.0) (sym h.0) q.1) h.2 in
      (ap (λ z. collection z ts) h.0 ∙ ap (collection v.0) same.0 ∙ sym v.2, same.1)
  values_same (sequence kind ts) u a b x y s r k e =
      let v = as_list u b r (sym k) in
      let p = s.1 in
      let q = v.3.1 in
      let laid = laid_out a b x y (code_of_kind kind ∷ size (count_of_trees ts)) p.0 (code_of_kind v.0 ∷ size (count_of_trees v.1)) q.0 p.2 q.2 e in
      let h = list_head kind v.0 (count_of_trees ts) (count_of_trees v.1) (p.0 ++ x) (q.0 ++ y) s.0 v.3.0 laid in
      let same = elements_same ts kind v.1 p.0 q.0 x y h.1 p.1 (subst (λ z. SpellsElements z v.1 q.0) (sym h.0) q.1) h.2 in
      (ap (λ z. sequence z ts) h.0 ∙ ap (sequence v.0) same.0 ∙ sym v.2, same.1)
  values_same mapping_of_none u a b x y s r k e = none_same u a b x y s (as_map u b r (sym k)) e
  values_same (mapping key value ps) u a b x y s r k e = mapping_same ps key value u a b x y s (as_map u b r (sym k)) e (λ qs c d v w n f g h. pairs_same ps key value qs c d v w n f g h)

  members_same : (ms ns : Members) (a b x y : List ℕ) → SpellsMembers ms a → SpellsMembers ns b → a ++ x ≡ b ++ y → (ms ≡ ns) × (x ≡ y)
  members_same no_members no_members a b x y s r e = (refl, ap (drop 1) (ap (λ l. l ++ x) (sym s) ∙ e ∙ ap (λ l. l ++ y) r))
  members_same no_members (one_member id u ns) a b x y s r e =
      let zero = head_same _ _ _ _ (ap (λ l. l ++ x) (sym s) ∙ e ∙ ap (λ l. l ++ y) r.1.4) in absurd (omega (arith, zero, code_some (kind_of u)))
  members_same (one_member id t ms) no_members a b x y s r e =
      let zero = head_same _ _ _ _ (ap (λ l. l ++ x) (sym s.1.4) ∙ e ∙ ap (λ l. l ++ y) r) in absurd (omega (arith, zero, code_some (kind_of t)))
  members_same (one_member id t ms) (one_member new u ns) a b x y s r e =
      let p = s.1 in
      let q = r.1 in
      let laid = laid_out a b x y (code_of_kind (kind_of t) ∷ number w16 id) (p.0 ++ p.1) (code_of_kind (kind_of u) ∷ number w16 new) (q.0 ++ q.1) p.4 q.4 e in
      let tail = tail_same _ _ _ _ laid in
      let kind = kind_same (kind_of t) (kind_of u) (head_same _ _ _ _ laid) in
      let ids = sym (i16_signed id ((p.0 ++ p.1) ++ x) s.0) ∙ ap (signed_at w16) tail ∙ i16_signed new ((q.0 ++ q.1) ++ y) r.0 in
      let v = values_same t u p.0 q.0 (p.1 ++ x) (q.1 ++ y) p.2 q.2 kind (sym (append_assoc p.0 p.1 x) ∙ ap (drop 2) tail ∙ append_assoc q.0 q.1 y) in
      let m = members_same ms ns p.1 q.1 x y p.3 q.3 v.1 in
      (ap (λ z. one_member z t ms) ids ∙ ap (λ z. one_member new z ms) v.0 ∙ ap (one_member new u) m.0, m.1)

  elements_same : (ts : Trees) (kind : Kind) (us : Trees) (a b x y : List ℕ) → count_of_trees ts ≡ count_of_trees us → SpellsElements kind ts a → SpellsElements kind us b → a ++ x ≡ b ++ y → (ts ≡ us) × (x ≡ y)
  elements_same no_trees kind no_trees a b x y n s r e = (refl, ap (λ l. l ++ x) (sym s) ∙ e ∙ ap (λ l. l ++ y) r)
  elements_same no_trees kind (one_tree u us) a b x y n s r e = absurd (omega (arith, n))
  elements_same (one_tree t ts) kind no_trees a b x y n s r e = absurd (omega (arith, n))
  elements_same (one_tree t ts) kind (one_tree u us) a b x y n s r e =
      let p = s.1 in
      let q = r.1 in
      let v = values_same t u p.0 q.0 (p.1 ++ x) (q.1 ++ y) p.2 q.2 (s.0 ∙ sym r.0) (laid_out a b x y p.0 p.1 q.0 q.1 p.4 q.4 e) in
      let m = elements_same ts kind us p.1 q.1 x y (omega (arith, n)) p.3 q.3 v.1 in
      (ap (λ z. one_tree z ts) v.0 ∙ ap (one_tree u) m.0, m.1)

  pairs_same : (ps : Pairs) (key value : Kind) (qs : Pairs) (a b x y : List ℕ) → count_of_pairs ps ≡ count_of_pairs qs → SpellsPairs key value ps a → SpellsPairs key value qs b → a ++ x ≡ b ++ y → (ps ≡ qs) × (x ≡ y)
  pairs_same no_pairs key value no_pairs a b x y n s r e = (refl, ap (λ l. l ++ x) (sym s) ∙ e ∙ ap (λ l. l ++ y) r)
  pairs_same no_pairs key value (one_pair k v qs) a b x y n s r e = absurd (omega (arith, n))
  pairs_same (one_pair k v ps) key value no_pairs a b x y n s r e = absurd (omega (arith, n))
  pairs_same (one_pair k v ps) key value (one_pair l w qs) a b x y n s r e =
      let p = s.2 in
      let q = r.2 in
      let first = values_same k l p.0 q.0 ((p.1 ++ p.2) ++ x) ((q.1 ++ q.2) ++ y) p.3 q.3 (s.0 ∙ sym r.0) (laid_out a b x y p.0 (p.1 ++ p.2) q.0 (q.1 ++ q.2) p.6 q.6 e) in
      let second = values_same v w p.1 q.1 (p.2 ++ x) (q.2 ++ y) p.4 q.4 (s.1 ∙ sym r.1) (sym (append_assoc p.1 p.2 x) ∙ first.1 ∙ append_assoc q.1 q.2 y) in
      let m = pairs_same ps key value qs p.2 q.2 x y (omega (arith, n)) p.5 q.5 second.1 in
      (ap (λ z. one_pair z v ps) first.0 ∙ ap (λ z. one_pair l z ps) second.0 ∙ ap (one_pair l w) m.0, m.1)

-- ---- messages

record SameHead (m n : Message) (x y : List ℕ) : Type 0 where
  name : m.name ≡ n.name
  mtype : m.mtype ≡ n.mtype
  seq : m.seq ≡ n.seq
  rest : x ≡ y

-- the first byte of a size is below that of a version
pub low_first : (n : ℕ) (rest more : List ℕ) → n < 2 ^ 31 → size n ++ rest ≡ 128 ∷ more → ⊥
low_first n rest more h e = let first = head_same _ _ _ _ e in omega (arith, first, h)

heads_same : (m n : Message) (a b x y : List ℕ) → length m.name < 2 ^ 31 → length n.name < 2 ^ 31 → FitsSigned w32 m.seq → FitsSigned w32 n.seq
    → SpellsStrictHeader m a ⊎ SpellsOldHeader m a → SpellsStrictHeader n b ⊎ SpellsOldHeader n b → a ++ x ≡ b ++ y → SameHead m n x y
heads_same m n a b x y p q f g (inl (c, less, is)) (inl (d, small, like)) e =
    let laid = ap (λ l. l ++ x) (sym is) ∙ e ∙ ap (λ l. l ++ y) like in
    let codes = tail_same _ _ _ _ (tail_same _ _ _ _ (tail_same _ _ _ _ laid)) in
    let names = tail_same _ _ _ _ codes in
    let s = string_same m.name n.name (number w32 m.seq ++ x) (number w32 n.seq ++ y) p q (sym (append_assoc (string m.name) (number w32 m.seq) x) ∙ names ∙ append_assoc (string n.name) (number w32 n.seq) y) in
    record {
      name = s.0;
      mtype = type_same m.mtype n.mtype (head_same _ _ _ _ codes);
      seq = sym (i32_signed m.seq x f) ∙ ap (signed_at w32) s.1 ∙ i32_signed n.seq y g;
      rest = ap (drop 4) s.1;
    }
heads_same m n a b x y p q f g (inl (c, less, is)) (inr like) e =
    let laid = ap (λ l. l ++ x) (sym is) ∙ e ∙ ap (λ l. l ++ y) like ∙ append_assoc (string n.name) (code_of_type n.mtype ∷ number w32 n.seq) y ∙ append_assoc (size (length n.name)) n.name ((code_of_type n.mtype ∷ number w32 n.seq) ++ y) in
    absurd (low_first (length n.name) _ _ q (sym laid))
heads_same m n a b x y p q f g (inr is) (inl (d, small, like)) e =
    let laid = sym (ap (λ l. l ++ x) is ∙ append_assoc (string m.name) (code_of_type m.mtype ∷ number w32 m.seq) x ∙ append_assoc (size (length m.name)) m.name ((code_of_type m.mtype ∷ number w32 m.seq) ++ x)) ∙ e ∙ ap (λ l. l ++ y) like in
    absurd (low_first (length m.name) _ _ p laid)
heads_same m n a b x y p q f g (inr is) (inr like) e =
    let laid = laid_out a b x y (string m.name) (code_of_type m.mtype ∷ number w32 m.seq) (string n.name) (code_of_type n.mtype ∷ number w32 n.seq) is like e in
    let s = string_same m.name n.name ((code_of_type m.mtype ∷ number w32 m.seq) ++ x) ((code_of_type n.mtype ∷ number w32 n.seq) ++ y) p q laid in
    let numbers = tail_same _ _ _ _ s.1 in
    record {
      name = s.0;
      mtype = type_same m.mtype n.mtype (head_same _ _ _ _ s.1);
      seq = sym (i32_signed m.seq x f) ∙ ap (signed_at w32) numbers ∙ i32_signed n.seq y g;
      rest = ap (drop 4) numbers;
    }

abbrev message : List ℕ → MessageType → ℤ → Members → Message
message name mtype seq body = record { name = name; mtype = mtype; seq = seq; body = body }

pub messages_same : (m n : Message) (a b x y : List ℕ) → BinarySpells m a → BinarySpells n b → a ++ x ≡ b ++ y → (m ≡ n) × (x ≡ y)
messages_same m n a b x y (p, f, (header, body, head, members, is)) (q, g, (other, rest, heading, fields, like)) e =
    let laid = laid_out a b x y header body other rest is like e in
    let h = heads_same m n header other (body ++ x) (rest ++ y) p q f g head heading laid in
    let r = members_same m.body n.body body rest x y members fields h.rest in (
      ap (λ z. message z m.mtype m.seq m.body) h.name ∙ ap (λ z. message n.name z m.seq m.body) h.mtype ∙ ap (λ z. message n.name n.mtype z m.body) h.seq ∙ ap (message n.name n.mtype n.seq) r.0,
      r.1,
    )

pub one_message : (m n : Message) (front rest : List ℕ) → BinarySpells m front → BinarySpells n (front ++ rest) → (m ≡ n) × (rest ≡ [])
one_message m n front rest s r = messages_same m n front (front ++ rest) rest [] s r (sym (append-nil (front ++ rest)))
