-- What is written of a message spells it.
use Rattle.std.proofs.Common.{◌≡◌, ℕ, ℤ, pos, ◌+◌, ◌-◌, ◌<◌, false, List, [], ◌∷◌, ◌++◌, Some, refl, ap, ◌∙◌, sym, subst, arith, append_assoc}
use Rattle.std.proofs.lemmas.List.{append-nil}
use Rattle.std.specs.Fmt.{signed_decimal}
use Rattle.thrift_value.specs.declared.kind.Kind.{Kind}
use Rattle.thrift_value.specs.declared.kind.Kind.TheVariants as kinds
use Rattle.thrift_value.specs.Items.{Item, field, stop, bool_value, i8_value, i16_value, i32_value, i64_value, text, struct_begin, empty_map, map_begin, set_begin, list_begin, end}
use Rattle.thrift_value.specs.Trees.{Tree, truth, whole_8, whole_16, whole_32, whole_64, double, characters, loose_number, loose_text, structure, mapping_of_none, mapping, collection, sequence, unique_id, Members, no_members, one_member, Trees, no_trees, one_tree, Pairs, no_pairs, one_pair, Message, kind_of, count_of_trees, count_of_pairs, items_of, items_of_members, items_of_trees, items_of_pairs, depth_of_members, IsValue, AreMembers, AreAll, ArePairs}
use Rattle.protocol_traits.specs.declared.fault.Bar.TheVariants as bars
use Rattle.protocol_traits.specs.declared.nest.Slot.{Slot}
use Rattle.protocol_traits.specs.declared.nest.Slot.TheVariants as slots
use Rattle.protocol_traits.specs.Stack.{first_of}
use Rattle.protocol_traits.specs.Follow.{spent, after}
use Rattle.type_tables.specs.declared.declared.Ty.{Ty}
use Rattle.type_tables.specs.Declarations.{Declarations}
use Rattle.type_walk.specs.declared.levels.Level.{Level}
use Rattle.type_walk.specs.Positions.{Position, under, mark_at, field_type, in_struct, in_map, in_set, in_list, passed, standing, start}
use Rattle.type_walk.specs.Positions.{after as position_after}
use Rattle.json_text.specs.Plain.{text_spelling}
use Rattle.json_protocol.specs.declared.opening.Opening.{Opening}
use Rattle.json_protocol.specs.declared.opening.Opening.TheVariants as openings
use Rattle.json_protocol.specs.Reading.{opening_after}
use Rattle.json_protocol.specs.Writing.{begun, number, flag, is_key, value_lead, string_spelling, type_digit, plain, plain_head}
use Rattle.json_protocol.specs.Grammar.{Tokens, Laid, mark, comma, sequence_tokens, IsNamed, IsStringToken, Spells, SpellsMembers, SpellsTrees, SpellsPairs}
use Rattle.binary_laws.specs.Reads.{header_of_message}
use Rattle.binary_laws.specs.Written.{IsMessage}
use Rattle.binary_laws.proofs.Walking.{CallsFor}
use Rattle.json_laws.specs.Positions.{declared_of, body_of, field_of, element_of, key_of, value_of}
use Rattle.json_laws.specs.Stated.{Known, JsonSpells, IsReadAs}
use Rattle.json_laws.specs.Written.{put, AreTaken, HaveBytes, IsWritten}
use Rattle.json_laws.proofs.PlainWords.{spells_8, spells_16, spells_32, spells_64, text_spells}
use Rattle.json_laws.proofs.Places.{IsOf, under_of, struct_steady, field_place, Holds, list_holds, set_holds, HoldsPairs, map_holds, at_type, at_level, start_is}
use Rattle.json_laws.specs.Fronts.{leading, field_leading, is_first}
use Rattle.json_laws.proofs.Trees.{tokens_append, pair_leading, pair_leads, MayStand, some_pair, may_end}
use Rattle.json_laws.proofs.Spelled.{spelled_read}
use Rattle.json_laws.proofs.Putting.{flat, lead_is, lead_more, field_more, closing, none_closed, stop_put, field_tokens, field_put, sequence_put, map_front, map_put, named_by, none_tokens, none_put, no_bar, named, both_named, mark_hint, name_valid, string_put, writer, Puts, turned, nothing_put, behind, both, bytes_front, bytes_back}

tokens_nil : (tokens : Tokens) → tokens ++ [] ≡ tokens
tokens_nil [] = refl
tokens_nil (token ∷ tokens) = ap (λ t. token ∷ t) (tokens_nil tokens)

-- nothing more is put
none_more : (tokens x : Tokens) → x ≡ [] → tokens ++ x ≡ tokens
none_more tokens x e = ap (λ y. tokens ++ y) e ∙ tokens_nil tokens

taken_on : (p : Position) (a b c : List Item) → AreTaken p ((a ++ b) ++ c) → AreTaken p (a ++ (b ++ c))
taken_on p [] b c h = h
taken_on p (x ∷ a) b c h = (h.0, taken_on (position_after p x) a b c h.1)

-- a value that no bar refuses has a kind with a name
has_name : (t : Tree) (p : Position) (rest : List Item) → AreTaken p (items_of t ++ rest) → IsNamed (kind_of t)
has_name (truth b) p rest h = refl
has_name (whole_8 n) p rest h = refl
has_name (whole_16 n) p rest h = refl
has_name (whole_32 n) p rest h = refl
has_name (whole_64 n) p rest h = refl
has_name (double bytes) p rest h = refl
has_name (characters bytes) p rest h = refl
has_name (loose_number bytes) p rest h = refl
has_name (loose_text bytes) p rest h = refl
has_name (structure ms) p rest h = refl
has_name mapping_of_none p rest h = refl
has_name (mapping k v ps) p rest h = refl
has_name (collection kind ts) p rest h = refl
has_name (sequence kind ts) p rest h = refl
has_name (unique_id bytes) p rest h = absurd (no_bar bars.Uuid h.0)

-- ---- how the tokens of a field and of a pair lie

member_laid : (opening : Opening) (head value others ends z : Tokens) → z ≡ mark 58 ∷ (value ++ (mark 125 ∷ (others ++ ends)))
    → field_leading opening (comma (is_first opening) ++ head) ++ z ≡ field_leading opening ((comma (is_first opening) ++ (head ++ (mark 58 ∷ (value ++ (mark 125 ∷ others))))) ++ ends)
member_laid opening head value others ends z e =
    let c = comma (is_first opening) in
    let w = mark 58 ∷ (value ++ (mark 125 ∷ others)) in
    let same : z ≡ w ++ ends = e ∙ ap (λ u. mark 58 ∷ u) (sym (tokens_append value (mark 125 ∷ others) ends)) in
    field_more opening (c ++ head) z
    ∙ ap (field_leading opening) (tokens_append c head z ∙ ap (λ u. c ++ (head ++ u)) same ∙ ap (λ u. c ++ u) (sym (tokens_append head w ends)) ∙ sym (tokens_append c (head ++ w) ends))

pair_laid : (opening : Opening) (k v : Kind) (n : ℕ) (up : List Slot) (left right others ends x y : Tokens) → x ≡ leading opening (slots.Keys k v n ∷ up) left → y ≡ mark 58 ∷ (right ++ (others ++ ends))
    → x ++ y ≡ pair_leading opening ((comma (is_first opening) ++ (left ++ (mark 58 ∷ (right ++ others)))) ++ ends)
pair_laid opening k v n up left right others ends x y e f =
    let c = comma (is_first opening) in
    let w = mark 58 ∷ (right ++ others) in
    let same : y ≡ w ++ ends = f ∙ ap (λ u. mark 58 ∷ u) (sym (tokens_append right others ends)) in
    ap (λ u. u ++ y) e ∙ lead_more opening (slots.Keys k v n ∷ up) left y ∙ sym (pair_leads opening k v n up (left ++ y))
    ∙ ap (pair_leading opening) (ap (λ u. c ++ (left ++ u)) same ∙ ap (λ u. c ++ u) (sym (tokens_append left w ends)) ∙ sym (tokens_append c (left ++ w) ends))

module _ (d : Declarations) where
  -- the marks before a value and it
  abbrev ValuePut : Opening → List Slot → Ty → Tree → Tokens → Type 0
  ValuePut opening nest ty t x = (inner : Tokens) × Spells (declared_of d) (is_key (first_of nest)) ty t inner × (x ≡ leading opening nest inner)

  -- the fields, and the braces round them that are not yet put
  abbrev MembersPut : Opening → List Slot → Ty → Members → Tokens → Type 0
  MembersPut opening up ty ms x = (inner : Tokens) × SpellsMembers (declared_of d) (is_first opening) ty ms inner × (x ≡ field_leading opening (inner ++ (mark 125 ∷ closing up)))

  abbrev TreesPut : Ty → Kind → Trees → Tokens → Type 0
  TreesPut ty kind ts x = (inner : Tokens) × SpellsTrees (declared_of d) ty kind ts inner × (x ≡ inner ++ (mark 93 ∷ []))

  abbrev PairsPut : Opening → Ty → Kind → Kind → Pairs → Tokens → Type 0
  PairsPut opening ty k v ps x = (inner : Tokens) × SpellsPairs (declared_of d) (is_first opening) ty k v ps inner × (x ≡ pair_leading opening (inner ++ (mark 125 ∷ mark 93 ∷ [])))

  -- a value whose first item is put as these tokens
  begins : (t : Tree) (outer : List Level) (ty : Ty) (nest : List Slot) (opening : Opening) (item : Item) (items rest : List Item) (last : Position) (up : List Slot) (front : Tokens) (B : Tokens → Type 0)
      → plain (writer nest opening) item (mark_at d ty) ≡ value_lead opening (first_of nest) ++ flat front → Puts (position_after (at_type d outer ty) item) (after item nest) (opening_after item) items rest last up B
      → ((x : Tokens) → B x → Spells (declared_of d) (is_key (first_of nest)) ty t (front ++ x)) → Puts (at_type d outer ty) nest opening (item ∷ items) rest last up (ValuePut opening nest ty t)
  begins t outer ty nest opening item items rest last up front B e q join =
      behind (at_type d outer ty) nest opening item items rest last up (leading opening nest front) B (ValuePut opening nest ty t) (e ∙ sym (lead_is opening nest front)) q (λ x b. (front ++ x, join x b, lead_more opening nest front x))

  -- a value that is one item
  leaf : (t : Tree) (outer : List Level) (ty : Ty) (nest : List Slot) (opening : Opening) (item : Item) (rest : List Item) (front : Tokens)
      → position_after (at_type d outer ty) item ≡ standing d (passed outer) → after item nest ≡ spent nest → opening_after item ≡ openings.Old → plain (writer nest opening) item (mark_at d ty) ≡ value_lead opening (first_of nest) ++ flat front
      → Spells (declared_of d) (is_key (first_of nest)) ty t front → AreTaken (at_type d outer ty) (item ∷ rest) → Puts (at_type d outer ty) nest opening (item ∷ []) rest (standing d (passed outer)) (spent nest) (ValuePut opening nest ty t)
  leaf t outer ty nest opening item rest front e f g is spells taken =
      begins t outer ty nest opening item [] rest (standing d (passed outer)) (spent nest) front (λ x. x ≡ []) is
      (nothing_put (position_after (at_type d outer ty) item) (standing d (passed outer)) (after item nest) (spent nest) (opening_after item) rest e f g taken.1)
      (λ x none. subst (Spells (declared_of d) (is_key (first_of nest)) ty t) (sym (none_more front x none)) spells)

  -- one word
  word : (opening : Opening) (nest : List Slot) (token : List ℕ) → value_lead opening (first_of nest) ++ token ≡ value_lead opening (first_of nest) ++ flat (token ∷ [])
  word opening nest token = ap (λ l. value_lead opening (first_of nest) ++ l) (sym (append-nil token))

  of_kind : (ty : Ty) (k l : Kind) → k ≡ l → IsOf (under ty k) k → IsOf (under ty k) l
  of_kind ty k l e h = subst (IsOf (under ty k)) e h

  mutual
    value_put : (t : Tree) (outer : List Level) (ty : Ty) (nest : List Slot) (opening : Opening) (rest : List Item) → CallsFor nest (kind_of t) → IsOf ty (kind_of t) → AreTaken (at_type d outer ty) (items_of t ++ rest)
        → HaveBytes (items_of t) → IsValue t → Puts (at_type d outer ty) nest opening (items_of t) rest (standing d (passed outer)) (spent nest) (ValuePut opening nest ty t)
    value_put (truth b) outer ty nest opening rest c of taken bytes v =
        let token = number (is_key (first_of nest)) (flag b) in leaf (truth b) outer ty nest opening (bool_value b) rest (token ∷ []) refl refl refl (word opening nest token) refl taken
    value_put (whole_8 n) outer ty nest opening rest c of taken bytes v =
        let token = number (is_key (first_of nest)) (signed_decimal n) in
        leaf (whole_8 n) outer ty nest opening (i8_value n) rest (token ∷ []) refl refl refl (word opening nest token) (signed_decimal n, spells_8 n v, refl) taken
    value_put (whole_16 n) outer ty nest opening rest c of taken bytes v =
        let token = number (is_key (first_of nest)) (signed_decimal n) in
        leaf (whole_16 n) outer ty nest opening (i16_value n) rest (token ∷ []) refl refl refl (word opening nest token) (signed_decimal n, spells_16 n v, refl) taken
    value_put (whole_32 n) outer ty nest opening rest c of taken bytes v =
        let token = number (is_key (first_of nest)) (signed_decimal n) in
        leaf (whole_32 n) outer ty nest opening (i32_value n) rest (token ∷ []) refl refl refl (word opening nest token) (signed_decimal n, spells_32 n v, refl) taken
    value_put (whole_64 n) outer ty nest opening rest c of taken bytes v =
        let token = number (is_key (first_of nest)) (signed_decimal n) in
        leaf (whole_64 n) outer ty nest opening (i64_value n) rest (token ∷ []) refl refl refl (word opening nest token) (signed_decimal n, spells_64 n v, refl) taken
    value_put (double eight) outer ty nest opening rest c of taken bytes v = absurd (no_bar bars.Double taken.0)
    value_put (characters b) outer ty nest opening rest c of taken bytes v =
        let token = string_spelling b (mark_at d ty).hint in
        let spelled = subst (λ hint. IsStringToken hint b (token ∷ [])) (mark_hint d ty) (string_put (mark_at d ty).hint b taken.0 bytes.0) in
        leaf (characters b) outer ty nest opening (text b) rest (token ∷ []) refl refl refl (word opening nest token) spelled taken
    value_put (loose_number b) outer ty nest opening rest c of taken bytes v = absurd (no_bar bars.Double taken.0)
    value_put (loose_text b) outer ty nest opening rest c of taken bytes v = absurd (no_bar bars.UnknownString taken.0)
    value_put (structure ms) outer ty nest opening rest c of taken bytes v =
        begins (structure ms) outer ty nest opening struct_begin (items_of_members ms) rest (standing d (passed outer)) (spent nest) (mark 123 ∷ []) (MembersPut openings.New (spent nest) ty ms) refl
        (members_put ms ty (passed outer) (pos 0) (spent nest) openings.New rest taken.1 bytes.1 v)
        (λ x m. (m.0, m.1, ap (λ y. mark 123 ∷ y) (m.2 ∙ ap (λ e. m.0 ++ (mark 125 ∷ e)) (none_closed nest kinds.Struct c))))
    value_put mapping_of_none outer ty nest opening rest c of taken bytes v =
        let filled = mark_at d ty in
        let k = named_by filled.key in
        let w = named_by filled.value in
        leaf mapping_of_none outer ty nest opening empty_map rest (none_tokens k.by w.by) refl refl refl (ap (λ l. value_lead opening (first_of nest) ++ l) (none_put filled.key filled.value k w)) (k.by, w.by, k.named, w.named, refl) taken
    value_put (mapping k w ps) outer ty nest opening rest c of taken bytes v =
        let n = count_of_pairs ps in
        let m = map_holds d ty k w in
        let names = both_named k w taken.0 in
        begins (mapping k w ps) outer ty nest opening (map_begin k w n) (items_of_pairs ps) rest (standing d (passed outer)) (spent nest) (map_front k w n) (PairsPut openings.New ty k w ps)
        (ap (λ l. value_lead opening (first_of nest) ++ l) (map_put k w n))
        (pairs_put ps k w ty (in_map d ty k w) m.0 (passed outer) (spent nest) openings.New rest m.1 (some_pair ps v.0) taken.1 bytes.1 v.2)
        (λ x q. (q.0, names.0, names.1, q.1, ap (λ y. map_front k w n ++ y) q.2))
    value_put (collection kind ts) outer ty nest opening rest c of taken bytes v =
        let n = count_of_trees ts in
        begins (collection kind ts) outer ty nest opening (set_begin kind n) (items_of_trees ts) rest (standing d (passed outer)) (spent nest) (sequence_tokens kind n) (TreesPut ty kind ts)
        (ap (λ l. value_lead opening (first_of nest) ++ l) (sequence_put kind n))
        (trees_put ts kind ty (in_set d ty kind) (passed outer) (spent nest) openings.New rest (set_holds d ty kind of) taken.1 bytes.1 v.1)
        (λ x q. (q.0, named kind taken.0, q.1, ap (λ y. sequence_tokens kind n ++ y) q.2))
    value_put (sequence kind ts) outer ty nest opening rest c of taken bytes v =
        let n = count_of_trees ts in
        begins (sequence kind ts) outer ty nest opening (list_begin kind n) (items_of_trees ts) rest (standing d (passed outer)) (spent nest) (sequence_tokens kind n) (TreesPut ty kind ts)
        (ap (λ l. value_lead opening (first_of nest) ++ l) (sequence_put kind n))
        (trees_put ts kind ty (in_list d ty kind) (passed outer) (spent nest) openings.New rest (list_holds d ty kind of) taken.1 bytes.1 v.1)
        (λ x q. (q.0, named kind taken.0, q.1, ap (λ y. sequence_tokens kind n ++ y) q.2))
    value_put (unique_id sixteen) outer ty nest opening rest c of taken bytes v = absurd (no_bar bars.Uuid taken.0)

    members_put : (ms : Members) (ty : Ty) (outer : List Level) (last : ℤ) (up : List Slot) (opening : Opening) (rest : List Item) → AreTaken (standing d (in_struct ty ∷ outer)) (items_of_members ms ++ rest)
        → HaveBytes (items_of_members ms) → AreMembers ms → Puts (standing d (in_struct ty ∷ outer)) (slots.Fields last ∷ up) opening (items_of_members ms) rest (standing d outer) up (MembersPut opening up ty ms)
    members_put no_members ty outer last up opening rest taken bytes are =
        let front = field_leading opening (mark 125 ∷ closing up) in
        behind (standing d (in_struct ty ∷ outer)) (slots.Fields last ∷ up) opening stop [] rest (standing d outer) up front (λ x. x ≡ []) (MembersPut opening up ty no_members) (stop_put opening last up)
        (nothing_put (standing d outer) (standing d outer) up up openings.Old rest refl refl refl taken.1) (λ x none. ([], refl, none_more front x none))
    members_put (one_member id t ms) ty outer last up opening rest taken bytes are =
        let kind = kind_of t in
        let held = in_struct ty in
        let fty = under (field_of d ty id) kind in
        let own = at_type d (held ∷ outer) fty in
        let found = at_type d (held ∷ outer) (field_type d (Some held) id kind) in
        let place : found ≡ own = ap (at_type d (held ∷ outer)) (field_place d ty id kind) in
        let others = items_of_members ms in
        let more : AreTaken found (items_of t ++ (others ++ rest)) = taken_on found (items_of t) others rest taken.1 in
        let here : AreTaken own (items_of t ++ (others ++ rest)) = subst (λ (p : Position). AreTaken p (items_of t ++ (others ++ rest))) place more in
        let A = ValuePut openings.Old (slots.Value kind id ∷ up) fty t in
        let B = MembersPut openings.Old up ty ms in
        let C : Tokens → Type 0 = λ z.
        (value : Tokens) × (inner : Tokens) × Spells (declared_of d) false fty t value × SpellsMembers (declared_of d) false ty ms inner × (z ≡ mark 58 ∷ (value ++ (mark 125 ∷ (inner ++ (mark 125 ∷ closing up))))) in
        behind (standing d (held ∷ outer)) (slots.Fields last ∷ up) opening (field id kind) (items_of t ++ others) rest (standing d outer) up (field_leading opening (comma (is_first opening) ++ field_tokens id kind)) C (MembersPut opening up ty (one_member id t ms))
        (field_put opening last id kind)
        (both found (slots.Value kind id ∷ up) openings.Old (items_of t) others rest (standing d (held ∷ outer)) (slots.Fields id ∷ up) (standing d outer) up A B C
        (turned d own found (passed (held ∷ outer)) (held ∷ outer) (slots.Fields id ∷ up) (slots.Fields id ∷ up) (slots.Value kind id ∷ up) openings.Old (items_of t) (others ++ rest) A (sym place) (struct_steady ty outer) refl
        (value_put t (held ∷ outer) fty (slots.Value kind id ∷ up) openings.Old (others ++ rest) refl (under_of (field_of d ty id) kind) here (bytes_front (items_of t) others bytes.1) are.1))
        (λ left. members_put ms ty outer id up openings.Old rest left (bytes_back (items_of t) others bytes.1) are.2)
        (λ x y a b. (a.0, b.0, a.1, b.1, ap (λ l. l ++ y) a.2 ∙ ap (λ l. mark 58 ∷ (a.0 ++ l)) b.2)))
        (λ z q. (_, (signed_decimal id, q.0, q.1, spells_16 id are.0, has_name t found (others ++ rest) more, q.2, q.3, refl), member_laid opening (field_tokens id kind) q.0 q.1 (mark 125 ∷ closing up) z q.4))

    trees_put : (ts : Trees) (kind : Kind) (ty : Ty) (held : Level) (outer : List Level) (up : List Slot) (opening : Opening) (rest : List Item) → Holds held (under (element_of d ty) kind) → AreTaken (standing d (held ∷ outer)) (items_of_trees ts ++ rest)
        → HaveBytes (items_of_trees ts) → AreAll kind ts → Puts (standing d (held ∷ outer)) (slots.Elements kind (count_of_trees ts) ∷ up) opening (items_of_trees ts) rest (standing d outer) up (TreesPut ty kind ts)
    trees_put no_trees kind ty held outer up opening rest holds taken bytes are =
        behind (standing d (held ∷ outer)) (slots.Elements kind 0 ∷ up) opening end [] rest (standing d outer) up (mark 93 ∷ []) (λ x. x ≡ []) (TreesPut ty kind no_trees) refl
        (nothing_put (standing d outer) (standing d outer) up up openings.Old rest refl refl refl taken.1) (λ x none. ([], refl, none_more (mark 93 ∷ []) x none))
    trees_put (one_tree t ts) kind ty held outer up opening rest holds taken bytes are =
        let n = count_of_trees ts in
        let ety = under (element_of d ty) kind in
        let others = items_of_trees ts in
        let place = at_level d held outer ety holds.calls in
        let here = subst (λ (p : Position). AreTaken p (items_of t ++ (others ++ rest))) place (taken_on (standing d (held ∷ outer)) (items_of t) others rest taken) in
        let A = ValuePut opening (slots.Elements kind (n + 1) ∷ up) ety t in
        let same : slots.Elements kind (n + 1 - 1) ∷ up ≡ slots.Elements kind n ∷ up = ap (λ k. slots.Elements kind k ∷ up) (omega arith) in
        both (standing d (held ∷ outer)) (slots.Elements kind (n + 1) ∷ up) opening (items_of t) others rest (standing d (held ∷ outer)) (slots.Elements kind n ∷ up) (standing d outer) up A (TreesPut ty kind ts) (TreesPut ty kind (one_tree t ts))
        (turned d (at_type d (held ∷ outer) ety) (standing d (held ∷ outer)) (passed (held ∷ outer)) (held ∷ outer) (slots.Elements kind (n + 1 - 1) ∷ up) (slots.Elements kind n ∷ up) (slots.Elements kind (n + 1) ∷ up) opening (items_of t) (others ++ rest) A
        (sym place) (holds.steady outer) same
        (value_put t (held ∷ outer) ety (slots.Elements kind (n + 1) ∷ up) opening (others ++ rest) (sym are.0, omega arith) (of_kind (element_of d ty) kind (kind_of t) (sym are.0) (under_of (element_of d ty) kind)) here (bytes_front (items_of t) others bytes) are.1))
        (λ left. trees_put ts kind ty held outer up openings.Old rest holds left (bytes_back (items_of t) others bytes) are.2)
        (λ x y a b. (mark 44 ∷ (a.0 ++ b.0), (a.0, b.0, a.1, b.1, refl), ap (λ l. l ++ y) a.2 ∙ ap (λ l. mark 44 ∷ (a.0 ++ l)) b.2 ∙ ap (λ l. mark 44 ∷ l) (sym (tokens_append a.0 b.0 (mark 93 ∷ [])))))

    pairs_put : (ps : Pairs) (k w : Kind) (ty : Ty) (keys values : Level) (outer : List Level) (up : List Slot) (opening : Opening) (rest : List Item) → HoldsPairs keys values (under (key_of d ty) k) (under (value_of d ty) w) → MayStand opening ps
        → AreTaken (standing d (keys ∷ outer)) (items_of_pairs ps ++ rest) → HaveBytes (items_of_pairs ps) → ArePairs k w ps
        → Puts (standing d (keys ∷ outer)) (slots.Keys k w (count_of_pairs ps) ∷ up) opening (items_of_pairs ps) rest (standing d outer) up (PairsPut opening ty k w ps)
    pairs_put no_pairs k w ty keys values outer up openings.Old rest holds may taken bytes are =
        behind (standing d (keys ∷ outer)) (slots.Keys k w 0 ∷ up) openings.Old end [] rest (standing d outer) up (mark 125 ∷ mark 93 ∷ []) (λ x. x ≡ []) (PairsPut openings.Old ty k w no_pairs) refl
        (nothing_put (standing d outer) (standing d outer) up up openings.Old rest refl refl refl taken.1) (λ x none. ([], refl, none_more (mark 125 ∷ mark 93 ∷ []) x none))
    pairs_put no_pairs k w ty keys values outer up openings.New rest holds may taken bytes are = absurd may
    pairs_put no_pairs k w ty keys values outer up openings.Body rest holds may taken bytes are = absurd may
    pairs_put (one_pair a b ps) k w ty keys values outer up opening rest holds may taken bytes are =
        let n = count_of_pairs ps in
        let kty = under (key_of d ty) k in
        let wty = under (value_of d ty) w in
        let others = items_of_pairs ps in
        let later = items_of b ++ others in
        let behind_key = bytes_back (items_of a) later bytes in
        let end_marks = mark 125 ∷ mark 93 ∷ [] in
        let key_place = at_level d keys outer kty holds.key_calls in
        let value_place = at_level d values outer wty holds.value_calls in
        let here = subst (λ (p : Position). AreTaken p (items_of a ++ (later ++ rest))) key_place (taken_on (standing d (keys ∷ outer)) (items_of a) later rest taken) in
        let same : slots.Keys k w (n + 1 - 1) ∷ up ≡ slots.Keys k w n ∷ up = ap (λ j. slots.Keys k w j ∷ up) (omega arith) in
        let A = ValuePut opening (slots.Keys k w (n + 1) ∷ up) kty a in
        let B = ValuePut openings.Old (slots.Values k w (n + 1) ∷ up) wty b in
        let R : Tokens → Type 0 = λ y.
        (right : Tokens) × (inner : Tokens) × Spells (declared_of d) false wty b right × SpellsPairs (declared_of d) false ty k w ps inner × (y ≡ mark 58 ∷ (right ++ (inner ++ end_marks))) in
        both (standing d (keys ∷ outer)) (slots.Keys k w (n + 1) ∷ up) opening (items_of a) later rest (standing d (values ∷ outer)) (slots.Values k w (n + 1) ∷ up) (standing d outer) up A R (PairsPut opening ty k w (one_pair a b ps))
        (turned d (at_type d (keys ∷ outer) kty) (standing d (keys ∷ outer)) (passed (keys ∷ outer)) (values ∷ outer) (slots.Values k w (n + 1) ∷ up) (slots.Values k w (n + 1) ∷ up) (slots.Keys k w (n + 1) ∷ up) opening (items_of a) (later ++ rest) A
        (sym key_place) (holds.key_passed outer) refl
        (value_put a (keys ∷ outer) kty (slots.Keys k w (n + 1) ∷ up) opening (later ++ rest) (sym are.0, omega arith) (of_kind (key_of d ty) k (kind_of a) (sym are.0) (under_of (key_of d ty) k)) here (bytes_front (items_of a) later bytes) are.2))
        (λ left.
        both (standing d (values ∷ outer)) (slots.Values k w (n + 1) ∷ up) openings.Old (items_of b) others rest (standing d (keys ∷ outer)) (slots.Keys k w n ∷ up) (standing d outer) up B (PairsPut openings.Old ty k w ps) R
        (turned d (at_type d (values ∷ outer) wty) (standing d (values ∷ outer)) (passed (values ∷ outer)) (keys ∷ outer) (slots.Keys k w (n + 1 - 1) ∷ up) (slots.Keys k w n ∷ up) (slots.Values k w (n + 1) ∷ up) openings.Old (items_of b) (others ++ rest) B
        (sym value_place) (holds.value_passed outer) same
        (value_put b (values ∷ outer) wty (slots.Values k w (n + 1) ∷ up) openings.Old (others ++ rest) (sym are.1) (of_kind (value_of d ty) w (kind_of b) (sym are.1) (under_of (value_of d ty) w))
        (subst (λ (p : Position). AreTaken p (items_of b ++ (others ++ rest))) value_place (taken_on (standing d (values ∷ outer)) (items_of b) others rest left)) (bytes_front (items_of b) others behind_key) are.3))
        (λ more. pairs_put ps k w ty keys values outer up openings.Old rest holds (may_end ps) more (bytes_back (items_of b) others behind_key) are.4)
        (λ x y p q. (p.0, q.0, p.1, q.1, ap (λ l. l ++ y) p.2 ∙ ap (λ l. mark 58 ∷ (p.0 ++ l)) q.2)))
        (λ x y p q. (_, (p.0, q.0, q.1, p.1, q.2, q.3, refl), pair_laid opening k w (n + 1) up p.0 q.0 q.1 end_marks x y p.2 q.4))

-- ---- a message

laid_flat : (tokens : Tokens) → Laid tokens (flat tokens)
laid_flat [] = tt
laid_flat (token ∷ tokens) = ([], flat tokens, refl, tt, laid_flat tokens)

head_flat : (a b c more : List ℕ) → ((((91 ∷ 49 ∷ 44 ∷ a) ++ (44 ∷ b)) ++ (44 ∷ c)) ++ (44 ∷ [])) ++ more ≡ 91 ∷ 49 ∷ 44 ∷ (a ++ (44 ∷ (b ++ (44 ∷ (c ++ (44 ∷ more))))))
head_flat a b c more =
    append_assoc (((91 ∷ 49 ∷ 44 ∷ a) ++ (44 ∷ b)) ++ (44 ∷ c)) (44 ∷ []) more ∙ append_assoc ((91 ∷ 49 ∷ 44 ∷ a) ++ (44 ∷ b)) (44 ∷ c) (44 ∷ more)
    ∙ append_assoc (91 ∷ 49 ∷ 44 ∷ a) (44 ∷ b) (44 ∷ (c ++ (44 ∷ more)))

items_nil : (items : List Item) → items ++ [] ≡ items
items_nil [] = refl
items_nil (item ∷ items) = ap (λ l. item ∷ l) (items_nil items)

pub written_spells : (k : Known) (m : Message) (bytes : List ℕ) → IsMessage m → IsWritten k m bytes → JsonSpells k m bytes
written_spells k m bytes good w =
    let d = k.declared in
    let body = body_of k.body in
    let items = items_of_members m.body in
    let place = start_is d k.body in
    let from = standing d (in_struct body ∷ []) in
    let taken = subst (AreTaken from) (sym (items_nil items)) (subst (λ (p : Position). AreTaken p items) place w.taken) in
    let q = members_put d m.body body [] (pos 0) [] openings.Body [] taken w.strings good.body in
    let inner = q.spells in
    let name = text_spelling m.name in
    let seq = signed_decimal m.seq in
    let rest = mark 123 ∷ (inner.0 ++ (mark 125 ∷ mark 93 ∷ [])) in
    let tokens = mark 91 ∷ mark 49 ∷ mark 44 ∷ name ∷ mark 44 ∷ type_digit m.mtype ∷ mark 44 ∷ seq ∷ mark 44 ∷ rest in
    let put_is : put (start d k.body) begun items ≡ flat rest =
    ap (λ p. put p begun items) place ∙ ap (put from begun) (sym (items_nil items)) ∙ q.is ∙ append-nil (flat q.tokens) ∙ ap flat inner.2 in
    let all : bytes ≡ flat tokens = w.bytes_are ∙ ap (λ l. plain_head (header_of_message m) ++ l) put_is ∙ head_flat name (type_digit m.mtype) seq (flat rest) in
    (name, seq, inner.0, text_spells m.name (name_valid m.name bars.NotUtf8 w.name), spells_32 m.seq good.seq, good.seq, good.body, inner.1, subst (Laid tokens) (sym all) (laid_flat tokens))

-- the plain spelling is one
pub written_once : (k : Known) (m : Message) (a b : List ℕ) → IsWritten k m a → IsWritten k m b → a ≡ b
written_once k m a b v w = v.bytes_are ∙ sym w.bytes_are

-- there and back
pub written_read : (k : Known) (m : Message) (bytes : List ℕ) → IsMessage m → IsWritten k m bytes → depth_of_members m.body < 256 → IsReadAs k m bytes
written_read k m bytes good w shallow = spelled_read k.declared k.body m bytes (written_spells k m bytes good w) shallow
