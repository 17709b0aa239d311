-- Each value, whatever its spelling, is read item by item.
use Rattle.std.proofs.Common.{◌≡◌, ℕ, ℤ, suc, pos, ◌+◌, ◌-◌, ◌≤◌, Bool, false, List, [], ◌∷◌, ◌++◌, length, Some, refl, ap, ◌∙◌, sym, subst, arith, inl, inr}
use Rattle.std.specs.Fmt.{decimal}
use Rattle.thrift_value.specs.declared.kind.Kind.{Kind}
use Rattle.thrift_value.specs.declared.kind.Kind.TheVariants as kinds
use Rattle.thrift_value.specs.Items.{Item, bool_value, i8_value, i16_value, i32_value, i64_value, text, number_text, unknown_text, struct_begin, empty_map, map_begin, set_begin, list_begin}
use Rattle.thrift_value.specs.Trees.{Tree, truth, whole_8, whole_16, whole_32, whole_64, double, characters, loose_number, loose_text, structure, mapping_of_none, mapping, collection, sequence, unique_id, Members, no_members, one_member, Trees, no_trees, one_tree, Pairs, no_pairs, one_pair, kind_of, count_of_trees, count_of_pairs, items_of, items_of_members, items_of_trees, items_of_pairs, depth_of, depth_of_members, depth_of_trees, depth_of_pairs, IsValue, AreMembers, AreAll, ArePairs}
use Rattle.protocol_traits.specs.declared.nest.Slot.{Slot}
use Rattle.protocol_traits.specs.declared.nest.Slot.TheVariants as slots
use Rattle.protocol_traits.specs.Stack.{first_of}
use Rattle.protocol_traits.specs.Follow.{spent}
use Rattle.type_tables.specs.declared.declared.Ty.{Ty}
use Rattle.type_tables.specs.Declarations.{Declarations}
use Rattle.type_walk.specs.declared.levels.Level.{Level}
use Rattle.type_walk.specs.Positions.{Position, under, hint_at, field_type, in_struct, in_map, in_set, in_list, passed, standing}
use Rattle.json_protocol.specs.declared.opening.Opening.{Opening}
use Rattle.json_protocol.specs.declared.opening.Opening.TheVariants as openings
use Rattle.json_protocol.specs.Writing.{quoted, number, flag, is_key}
use Rattle.json_protocol.specs.Grammar.{Tokens, mark, name_token, map_tokens, sequence_tokens, comma, IsDoubleToken, Spells, SpellsMembers, SpellsTrees, SpellsPairs}
use Rattle.binary_laws.proofs.Walking.{CallsFor, length-spent}
use Rattle.json_text.specs.Grammar.{SpellsInt}
use Rattle.json_laws.specs.Positions.{declared_of, field_of, element_of, key_of, value_of}
use Rattle.json_laws.proofs.Marks.{Lies, IsSolid, IsClear, front}
use Rattle.json_laws.proofs.Words.{int_solid, number_solid}
use Rattle.json_laws.proofs.Items.{flag_solid, bool_word, i8_word, i16_word, i32_word, i64_word, struct_word, list_found, set_found, map_found, none_found, double_word, double_solid, string_token, loose_token}
use Rattle.json_laws.proofs.Places.{IsOf, under_of, struct_steady, field_place, Holds, list_holds, set_holds, HoldsPairs, map_holds, at_type, at_level}
use Rattle.json_laws.specs.Fronts.{leading, field_leading, is_first}
use Rattle.json_laws.proofs.Walking.{IsShallow, Walks, walks_append, one, begins, ended, ended_pairs, stopped, field_walks}

pub tokens_append : (a b c : Tokens) → (a ++ b) ++ c ≡ a ++ (b ++ c)
tokens_append [] b c = refl
tokens_append (x ∷ a) b c = ap (λ t. x ∷ t) (tokens_append a b c)

int_token : (digits : List ℕ) (z : ℤ) (key : Bool) → SpellsInt z digits → IsSolid (number key digits)
int_token digits z key h = number_solid key digits (int_solid z digits h)

-- one token that spells a number
record DoubleToken (key : Bool) (bytes : List ℕ) (tokens : Tokens) : Type 0 where
  token : List ℕ
  is : tokens ≡ token ∷ []
  reads : IsDoubleToken key bytes (token ∷ [])

double_token : (key : Bool) (bytes : List ℕ) (tokens : Tokens) → IsDoubleToken key bytes tokens → DoubleToken key bytes tokens
double_token key bytes tokens (inl (h, is)) = record { token = number key bytes; is = is; reads = inl (h, refl) }
double_token key bytes tokens (inr (h, is)) = record { token = quoted bytes; is = is; reads = inr (h, refl) }

-- before a key or the end of a map with pairs
abbrev pub pair_leading : Opening → Tokens → Tokens
pair_leading openings.Old tokens = tokens
pair_leading opening tokens = mark 44 ∷ mark 123 ∷ tokens

pub pair_leads : (opening : Opening) (k v : Kind) (left : ℕ) (up : List Slot) (tokens : Tokens) → pair_leading opening (comma (is_first opening) ++ tokens) ≡ leading opening (slots.Keys k v left ∷ up) tokens
pair_leads openings.Body k v left up tokens = refl
pair_leads openings.New k v left up tokens = refl
pair_leads openings.Old k v left up tokens = refl

-- a map that has just begun has a pair
abbrev pub MayStand : Opening → Pairs → Type 0
MayStand openings.Old ps = Unit {0}
MayStand opening no_pairs = ⊥
MayStand opening (one_pair a b ps) = Unit {0}

pub some_pair : (ps : Pairs) → 1 ≤ count_of_pairs ps → MayStand openings.New ps
some_pair no_pairs h = absurd (omega arith)
some_pair (one_pair a b ps) h = tt

pub may_end : (ps : Pairs) → MayStand openings.Old ps
may_end no_pairs = tt
may_end (one_pair a b ps) = tt

module _ (tail : List ℕ) (level : ℕ → ℕ) (d : Declarations) where
  -- what stands before a value and it, and these tokens
  abbrev Stands : Opening → List Slot → Tokens → List ℕ → Type 0
  Stands opening nest tokens bytes = Lies tail (leading opening nest tokens) bytes

  stands_is : (opening : Opening) (nest : List Slot) (tokens others : Tokens) (bytes : List ℕ) → tokens ≡ others → Stands opening nest tokens bytes → Stands opening nest others bytes
  stands_is opening nest tokens others bytes e s = subst (λ t. Stands opening nest t bytes) e s

  with_more : (tokens others more : Tokens) → tokens ≡ others → tokens ++ more ≡ others ++ more
  with_more tokens others more e = ap (λ t. t ++ more) e

  -- a walk from a position and to levels that are the same
  turned : (p q : Position) (l m : List Level) (a b nest : List Slot) (opening : Opening) (bytes : List ℕ) (items : List Item) (more : Tokens) → p ≡ q → l ≡ m → a ≡ b
      → Walks tail level p nest opening bytes items (standing d l) a more → Walks tail level q nest opening bytes items (standing d m) b more
  turned p q l m a b nest opening bytes items more e f g w =
      subst (λ x. Walks tail level x nest opening bytes items (standing d m) b more) e
      (subst (λ x. Walks tail level p nest opening bytes items (standing d x) b more) f
      (subst (λ x. Walks tail level p nest opening bytes items (standing d l) x more) g w))

  elements_clear : (ts : Trees) (kind : Kind) (ty : Ty) (inner more : Tokens) → SpellsTrees (declared_of d) ty kind ts inner → IsClear (inner ++ (mark 93 ∷ more))
  elements_clear no_trees kind ty inner more h = subst (λ t. IsClear (t ++ (mark 93 ∷ more))) (sym h) refl
  elements_clear (one_tree t ts) kind ty inner more (value, rest, v, r, h) = subst (λ u. IsClear (u ++ (mark 93 ∷ more))) (sym h) refl

  pairs_clear : (ps : Pairs) (k v : Kind) (ty : Ty) (inner more : Tokens) → SpellsPairs (declared_of d) false ty k v ps inner → IsClear (inner ++ (mark 125 ∷ more))
  pairs_clear no_pairs k v ty inner more h = subst (λ t. IsClear (t ++ (mark 125 ∷ more))) (sym h) refl
  pairs_clear (one_pair a b ps) k v ty inner more (left, right, rest, l, r, m, h) = subst (λ u. IsClear (u ++ (mark 125 ∷ more))) (sym h) refl

  of_kind : (ty : Ty) (k l : Kind) → k ≡ l → IsOf (under ty k) k → IsOf (under ty k) l
  of_kind ty k l e h = subst (IsOf (under ty k)) e h

  mutual
    pub value_walks : (t : Tree) (outer : List Level) (ty : Ty) (nest : List Slot) (opening : Opening) (bytes : List ℕ) (tokens more : Tokens) → CallsFor nest (kind_of t) → IsOf ty (kind_of t) → IsValue t
        → Spells (declared_of d) (is_key (first_of nest)) ty t tokens → Stands opening nest (tokens ++ more) bytes → IsClear more → IsShallow level (depth_of t + length nest)
        → Walks tail level (at_type d outer ty) nest opening bytes (items_of t) (standing d (passed outer)) (spent nest) more
    value_walks (truth b) outer ty nest opening bytes tokens more c of value h s clear deep =
        let key = is_key (first_of nest) in
        one tail level d outer ty nest opening bytes kinds.Bool (bool_value b) (number key (flag b)) more c refl (flag_solid tail key b)
        (stands_is opening nest (tokens ++ more) (number key (flag b) ∷ more) bytes (with_more tokens (number key (flag b) ∷ []) more h) s)
        (bool_word tail key (hint_at ty) b more clear) refl refl refl
    value_walks (whole_8 n) outer ty nest opening bytes tokens more c of value (digits, spells, h) s clear deep =
        let key = is_key (first_of nest) in
        one tail level d outer ty nest opening bytes kinds.I8 (i8_value n) (number key digits) more c refl (int_token digits n key spells)
        (stands_is opening nest (tokens ++ more) (number key digits ∷ more) bytes (with_more tokens (number key digits ∷ []) more h) s)
        (i8_word tail key (hint_at ty) n digits more spells value clear) refl refl refl
    value_walks (whole_16 n) outer ty nest opening bytes tokens more c of value (digits, spells, h) s clear deep =
        let key = is_key (first_of nest) in
        one tail level d outer ty nest opening bytes kinds.I16 (i16_value n) (number key digits) more c refl (int_token digits n key spells)
        (stands_is opening nest (tokens ++ more) (number key digits ∷ more) bytes (with_more tokens (number key digits ∷ []) more h) s)
        (i16_word tail key (hint_at ty) n digits more spells value clear) refl refl refl
    value_walks (whole_32 n) outer ty nest opening bytes tokens more c of value (digits, spells, h) s clear deep =
        let key = is_key (first_of nest) in
        one tail level d outer ty nest opening bytes kinds.I32 (i32_value n) (number key digits) more c refl (int_token digits n key spells)
        (stands_is opening nest (tokens ++ more) (number key digits ∷ more) bytes (with_more tokens (number key digits ∷ []) more h) s)
        (i32_word tail key (hint_at ty) n digits more spells value clear) refl refl refl
    value_walks (whole_64 n) outer ty nest opening bytes tokens more c of value (digits, spells, h) s clear deep =
        let key = is_key (first_of nest) in
        one tail level d outer ty nest opening bytes kinds.I64 (i64_value n) (number key digits) more c refl (int_token digits n key spells)
        (stands_is opening nest (tokens ++ more) (number key digits ∷ more) bytes (with_more tokens (number key digits ∷ []) more h) s)
        (i64_word tail key (hint_at ty) n digits more spells value clear) refl refl refl
    value_walks (double eight) outer ty nest opening bytes tokens more c of value h s clear deep = absurd h
    value_walks (unique_id sixteen) outer ty nest opening bytes tokens more c of value h s clear deep = absurd h
    value_walks (characters b) outer ty nest opening bytes tokens more c of value h s clear deep =
        let t = string_token tail (hint_at ty) b tokens h in
        one tail level d outer ty nest opening bytes kinds.Str (text b) t.token more c refl t.solid (stands_is opening nest (tokens ++ more) (t.token ∷ more) bytes (with_more tokens (t.token ∷ []) more t.is) s)
        (t.word (is_key (first_of nest)) more) refl refl refl
    value_walks (loose_text b) outer ty nest opening bytes tokens more c of value h s clear deep =
        let t = loose_token tail (hint_at ty) b tokens h in
        one tail level d outer ty nest opening bytes kinds.Str (unknown_text b) t.token more c refl t.solid (stands_is opening nest (tokens ++ more) (t.token ∷ more) bytes (with_more tokens (t.token ∷ []) more t.is) s)
        (t.word (is_key (first_of nest)) more) refl refl refl
    value_walks (loose_number b) outer ty nest opening bytes tokens more c of value h s clear deep =
        let key = is_key (first_of nest) in
        let t = double_token key b tokens h in
        one tail level d outer ty nest opening bytes kinds.Double (number_text b) t.token more c refl (double_solid key b t.token t.reads) (stands_is opening nest (tokens ++ more) (t.token ∷ more) bytes (with_more tokens (t.token ∷ []) more t.is) s)
        (double_word tail key (hint_at ty) b t.token more t.reads clear) refl refl refl
    value_walks (structure ms) outer ty nest opening bytes tokens more c of value (inner, members, h) s clear deep =
        let key = is_key (first_of nest) in
        let others = inner ++ (mark 125 ∷ more) in
        let laid : tokens ++ more ≡ mark 123 ∷ others = with_more tokens (mark 123 ∷ (inner ++ mark 125 ∷ [])) more h ∙ ap (λ t. mark 123 ∷ t) (tokens_append inner (mark 125 ∷ []) more) in
        begins tail level d outer ty nest opening bytes kinds.Struct struct_begin (items_of_members ms) (mark 123) others others (standing d (passed outer)) (spent nest) more c (deep (length nest) (omega arith)) refl
        (stands_is opening nest (tokens ++ more) (mark 123 ∷ others) bytes laid s) (λ b ready. front tail _ (mark 123) others b struct_begin (struct_word tail key (hint_at ty) others) ready)
        (λ rest lies. members_walk ms ty (passed outer) (pos 0) (spent nest) openings.New rest inner more value members lies (λ k less. deep k (omega (arith, less, length-spent nest))))
    value_walks mapping_of_none outer ty nest opening bytes tokens more c of value (k, v, named, other, h) s clear deep =
        let key = is_key (first_of nest) in
        let others = name_token k ∷ mark 44 ∷ name_token v ∷ mark 44 ∷ decimal 0 ∷ mark 44 ∷ mark 123 ∷ mark 125 ∷ mark 93 ∷ more in
        begins tail level d outer ty nest opening bytes kinds.Map empty_map [] (mark 91) others more (standing d (passed outer)) (spent nest) more c (deep (length nest) (omega arith)) refl
        (stands_is opening nest (tokens ++ more) (mark 91 ∷ others) bytes (with_more tokens (map_tokens k v 0 ++ (mark 125 ∷ mark 93 ∷ [])) more h) s)
        (λ b ready. none_found tail key (hint_at ty) k v more b named other ready)
        (λ rest lies. (refl, refl, refl, lies))
    value_walks (mapping k v ps) outer ty nest opening bytes tokens more c of value (inner, named, other, pairs, h) s clear deep =
        let key = is_key (first_of nest) in
        let n = count_of_pairs ps in
        let later = mark 44 ∷ mark 123 ∷ (inner ++ (mark 125 ∷ mark 93 ∷ more)) in
        let others = name_token k ∷ mark 44 ∷ name_token v ∷ mark 44 ∷ decimal n ∷ later in
        let laid : tokens ++ more ≡ mark 91 ∷ others =
        with_more tokens (map_tokens k v n ++ (inner ++ (mark 125 ∷ mark 93 ∷ []))) more h ∙ ap (λ t. map_tokens k v n ++ t) (tokens_append inner (mark 125 ∷ mark 93 ∷ []) more) in
        let m = map_holds d ty k v in
        begins tail level d outer ty nest opening bytes kinds.Map (map_begin k v n) (items_of_pairs ps) (mark 91) others later (standing d (passed outer)) (spent nest) more c (deep (length nest) (omega arith)) refl
        (stands_is opening nest (tokens ++ more) (mark 91 ∷ others) bytes laid s) (λ b ready. map_found tail key (hint_at ty) k v n later b named other value.0 value.1 refl ready)
        (λ rest lies. pairs_walk ps k v ty (in_map d ty k v) m.0 (passed outer) (spent nest) openings.New rest inner more m.1 (some_pair ps value.0) value.2 pairs lies (λ k less. deep k (omega (arith, less, length-spent nest))))
    value_walks (collection kind ts) outer ty nest opening bytes tokens more c of value (inner, named, elements, h) s clear deep =
        let key = is_key (first_of nest) in
        let n = count_of_trees ts in
        let later = inner ++ (mark 93 ∷ more) in
        let others = name_token kind ∷ mark 44 ∷ decimal n ∷ later in
        let laid : tokens ++ more ≡ mark 91 ∷ others =
        with_more tokens (sequence_tokens kind n ++ (inner ++ mark 93 ∷ [])) more h ∙ ap (λ t. sequence_tokens kind n ++ t) (tokens_append inner (mark 93 ∷ []) more) in
        let held = set_holds d ty kind of in
        begins tail level d outer ty nest opening bytes kinds.Set (set_begin kind n) (items_of_trees ts) (mark 91) others later (standing d (passed outer)) (spent nest) more c (deep (length nest) (omega arith)) refl
        (stands_is opening nest (tokens ++ more) (mark 91 ∷ others) bytes laid s) (λ b ready. set_found tail key (hint_at ty) kind n later b named value.0 (elements_clear ts kind ty inner more elements) ready)
        (λ rest lies. trees_walk ts kind ty (in_set d ty kind) (passed outer) (spent nest) openings.New rest inner more held value.1 elements lies (λ k less. deep k (omega (arith, less, length-spent nest))))
    value_walks (sequence kind ts) outer ty nest opening bytes tokens more c of value (inner, named, elements, h) s clear deep =
        let key = is_key (first_of nest) in
        let n = count_of_trees ts in
        let later = inner ++ (mark 93 ∷ more) in
        let others = name_token kind ∷ mark 44 ∷ decimal n ∷ later in
        let laid : tokens ++ more ≡ mark 91 ∷ others =
        with_more tokens (sequence_tokens kind n ++ (inner ++ mark 93 ∷ [])) more h ∙ ap (λ t. sequence_tokens kind n ++ t) (tokens_append inner (mark 93 ∷ []) more) in
        let held = list_holds d ty kind of in
        begins tail level d outer ty nest opening bytes kinds.List (list_begin kind n) (items_of_trees ts) (mark 91) others later (standing d (passed outer)) (spent nest) more c (deep (length nest) (omega arith)) refl
        (stands_is opening nest (tokens ++ more) (mark 91 ∷ others) bytes laid s) (λ b ready. list_found tail key (hint_at ty) kind n later b named value.0 (elements_clear ts kind ty inner more elements) ready)
        (λ rest lies. trees_walk ts kind ty (in_list d ty kind) (passed outer) (spent nest) openings.New rest inner more held value.1 elements lies (λ k less. deep k (omega (arith, less, length-spent nest))))

    pub members_walk : (ms : Members) (ty : Ty) (outer : List Level) (last : ℤ) (up : List Slot) (opening : Opening) (bytes : List ℕ) (inner more : Tokens) → AreMembers ms
        → SpellsMembers (declared_of d) (is_first opening) ty ms inner → Lies tail (field_leading opening (inner ++ (mark 125 ∷ more))) bytes → IsShallow level (depth_of_members ms + suc (length up))
        → Walks tail level (standing d (in_struct ty ∷ outer)) (slots.Fields last ∷ up) opening bytes (items_of_members ms) (standing d outer) up more
    members_walk no_members ty outer last up opening bytes inner more are h lies deep =
        stopped tail level d (in_struct ty) outer last up opening bytes more (subst (λ t. Lies tail (field_leading opening (t ++ (mark 125 ∷ more))) bytes) h lies)
    members_walk (one_member id t ms) ty outer last up opening bytes inner more are (digits, value, rest, spells, named, v, r, h) lies deep =
        let kind = kind_of t in
        let fty = under (field_of d ty id) kind in
        let later = mark 125 ∷ (rest ++ (mark 125 ∷ more)) in
        let head = quoted digits ∷ mark 58 ∷ mark 123 ∷ name_token kind ∷ mark 58 ∷ [] in
        let laid : inner ++ (mark 125 ∷ more) ≡ comma (is_first opening) ++ (head ++ (value ++ later)) =
        with_more inner (comma (is_first opening) ++ (head ++ (value ++ (mark 125 ∷ rest)))) (mark 125 ∷ more) h
        ∙ tokens_append (comma (is_first opening)) (head ++ (value ++ (mark 125 ∷ rest))) (mark 125 ∷ more)
        ∙ ap (λ u. comma (is_first opening) ++ (head ++ u)) (tokens_append value (mark 125 ∷ rest) (mark 125 ∷ more)) in
        field_walks tail level d (in_struct ty) outer last up opening bytes digits (mark 58 ∷ (value ++ later)) id kind (items_of t ++ items_of_members ms) (standing d outer) up more spells are.0 named
        (subst (λ u. Lies tail (field_leading opening u) bytes) laid lies)
        (λ b behind.
        walks_append tail (items_of t) (items_of_members ms) level (at_type d (in_struct ty ∷ outer) (field_type d (Some (in_struct ty)) id kind)) (slots.Value kind id ∷ up) openings.Old b
        (standing d (in_struct ty ∷ outer)) (slots.Fields id ∷ up) later (standing d outer) up more
        (turned (at_type d (in_struct ty ∷ outer) fty) (at_type d (in_struct ty ∷ outer) (field_type d (Some (in_struct ty)) id kind)) (passed (in_struct ty ∷ outer)) (in_struct ty ∷ outer)
        (slots.Fields id ∷ up) (slots.Fields id ∷ up) (slots.Value kind id ∷ up) openings.Old b (items_of t) later (sym (ap (at_type d (in_struct ty ∷ outer)) (field_place d ty id kind))) (struct_steady ty outer) refl
        (value_walks t (in_struct ty ∷ outer) fty (slots.Value kind id ∷ up) openings.Old b value later refl (under_of (field_of d ty id) kind) are.1 v behind refl (λ k less. deep k (omega (arith, less)))))
        (λ c further. members_walk ms ty outer id up openings.Old c rest more are.2 r further (λ k less. deep k (omega (arith, less)))))

    pub trees_walk : (ts : Trees) (kind : Kind) (ty : Ty) (held : Level) (outer : List Level) (up : List Slot) (opening : Opening) (bytes : List ℕ) (inner more : Tokens) → Holds held (under (element_of d ty) kind) → AreAll kind ts
        → SpellsTrees (declared_of d) ty kind ts inner → Lies tail (inner ++ (mark 93 ∷ more)) bytes → IsShallow level (depth_of_trees ts + suc (length up))
        → Walks tail level (standing d (held ∷ outer)) (slots.Elements kind (count_of_trees ts) ∷ up) opening bytes (items_of_trees ts) (standing d outer) up more
    trees_walk no_trees kind ty held outer up opening bytes inner more holds are h lies deep =
        ended tail level d held outer kind up opening bytes more (subst (λ t. Lies tail (t ++ (mark 93 ∷ more)) bytes) h lies)
    trees_walk (one_tree t ts) kind ty held outer up opening bytes inner more holds are (value, rest, v, r, h) lies deep =
        let n = count_of_trees ts in
        let ety = under (element_of d ty) kind in
        let later = rest ++ (mark 93 ∷ more) in
        let laid : inner ++ (mark 93 ∷ more) ≡ mark 44 ∷ (value ++ later) = with_more inner (mark 44 ∷ (value ++ rest)) (mark 93 ∷ more) h ∙ ap (λ u. mark 44 ∷ u) (tokens_append value rest (mark 93 ∷ more)) in
        let same : slots.Elements kind (n + 1 - 1) ∷ up ≡ slots.Elements kind n ∷ up = ap (λ k. slots.Elements kind k ∷ up) (omega arith) in
        walks_append tail (items_of t) (items_of_trees ts) level (standing d (held ∷ outer)) (slots.Elements kind (n + 1) ∷ up) opening bytes (standing d (held ∷ outer)) (slots.Elements kind n ∷ up) later (standing d outer) up more
        (turned (at_type d (held ∷ outer) ety) (standing d (held ∷ outer)) (passed (held ∷ outer)) (held ∷ outer) (slots.Elements kind (n + 1 - 1) ∷ up) (slots.Elements kind n ∷ up) (slots.Elements kind (n + 1) ∷ up) opening bytes (items_of t) later
        (sym (at_level d held outer ety holds.calls)) (holds.steady outer) same
        (value_walks t (held ∷ outer) ety (slots.Elements kind (n + 1) ∷ up) opening bytes value later (sym are.0, omega arith) (of_kind (element_of d ty) kind (kind_of t) (sym are.0) (under_of (element_of d ty) kind)) are.1 v
        (subst (λ u. Lies tail u bytes) laid lies) (elements_clear ts kind ty rest more r) (λ k less. deep k (omega (arith, less)))))
        (λ c further. trees_walk ts kind ty held outer up openings.Old c rest more holds are.2 r further (λ k less. deep k (omega (arith, less))))

    pub pairs_walk : (ps : Pairs) (k v : Kind) (ty : Ty) (keys values : Level) (outer : List Level) (up : List Slot) (opening : Opening) (bytes : List ℕ) (inner more : Tokens) → HoldsPairs keys values (under (key_of d ty) k) (under (value_of d ty) v)
        → MayStand opening ps → ArePairs k v ps → SpellsPairs (declared_of d) (is_first opening) ty k v ps inner → Lies tail (pair_leading opening (inner ++ (mark 125 ∷ mark 93 ∷ more))) bytes → IsShallow level (depth_of_pairs ps + suc (length up))
        → Walks tail level (standing d (keys ∷ outer)) (slots.Keys k v (count_of_pairs ps) ∷ up) opening bytes (items_of_pairs ps) (standing d outer) up more
    pairs_walk no_pairs k v ty keys values outer up openings.Old bytes inner more holds may are h lies deep =
        ended_pairs tail level d keys outer k v up bytes more (subst (λ t. Lies tail (t ++ (mark 125 ∷ mark 93 ∷ more)) bytes) h lies)
    pairs_walk no_pairs k v ty keys values outer up openings.New bytes inner more holds may are h lies deep = absurd may
    pairs_walk no_pairs k v ty keys values outer up openings.Body bytes inner more holds may are h lies deep = absurd may
    pairs_walk (one_pair a b ps) k v ty keys values outer up opening bytes inner more holds may are (left, right, rest, l, r, m, h) lies deep =
        let n = count_of_pairs ps in
        let kty = under (key_of d ty) k in
        let vty = under (value_of d ty) v in
        let end_marks = mark 125 ∷ mark 93 ∷ more in
        let last = rest ++ end_marks in
        let later = mark 58 ∷ (right ++ last) in
        let laid : inner ++ end_marks ≡ comma (is_first opening) ++ (left ++ later) =
        with_more inner (comma (is_first opening) ++ (left ++ (mark 58 ∷ (right ++ rest)))) end_marks h
        ∙ tokens_append (comma (is_first opening)) (left ++ (mark 58 ∷ (right ++ rest))) end_marks
        ∙ ap (λ u. comma (is_first opening) ++ u) (tokens_append left (mark 58 ∷ (right ++ rest)) end_marks)
        ∙ ap (λ u. comma (is_first opening) ++ (left ++ (mark 58 ∷ u))) (tokens_append right rest end_marks) in
        let same : slots.Keys k v (n + 1 - 1) ∷ up ≡ slots.Keys k v n ∷ up = ap (λ j. slots.Keys k v j ∷ up) (omega arith) in
        let here = subst (λ u. Lies tail u bytes) (ap (pair_leading opening) laid ∙ pair_leads opening k v (n + 1) up (left ++ later)) lies in
        walks_append tail (items_of a) (items_of b ++ items_of_pairs ps) level (standing d (keys ∷ outer)) (slots.Keys k v (n + 1) ∷ up) opening bytes (standing d (values ∷ outer)) (slots.Values k v (n + 1) ∷ up) later (standing d outer) up more
        (turned (at_type d (keys ∷ outer) kty) (standing d (keys ∷ outer)) (passed (keys ∷ outer)) (values ∷ outer) (slots.Values k v (n + 1) ∷ up) (slots.Values k v (n + 1) ∷ up) (slots.Keys k v (n + 1) ∷ up) opening bytes (items_of a) later
        (sym (at_level d keys outer kty holds.key_calls)) (holds.key_passed outer) refl
        (value_walks a (keys ∷ outer) kty (slots.Keys k v (n + 1) ∷ up) opening bytes left later (sym are.0, omega arith) (of_kind (key_of d ty) k (kind_of a) (sym are.0) (under_of (key_of d ty) k)) are.2 l here refl (λ j less. deep j (omega (arith, less)))))
        (λ c behind.
        walks_append tail (items_of b) (items_of_pairs ps) level (standing d (values ∷ outer)) (slots.Values k v (n + 1) ∷ up) openings.Old c (standing d (keys ∷ outer)) (slots.Keys k v n ∷ up) last (standing d outer) up more
        (turned (at_type d (values ∷ outer) vty) (standing d (values ∷ outer)) (passed (values ∷ outer)) (keys ∷ outer) (slots.Keys k v (n + 1 - 1) ∷ up) (slots.Keys k v n ∷ up) (slots.Values k v (n + 1) ∷ up) openings.Old c (items_of b) last
        (sym (at_level d values outer vty holds.value_calls)) (holds.value_passed outer) same
        (value_walks b (values ∷ outer) vty (slots.Values k v (n + 1) ∷ up) openings.Old c right last (sym are.1) (of_kind (value_of d ty) v (kind_of b) (sym are.1) (under_of (value_of d ty) v)) are.3 r behind
        (pairs_clear ps k v ty rest (mark 93 ∷ more) m) (λ j less. deep j (omega (arith, less)))))
        (λ e further. pairs_walk ps k v ty keys values outer up openings.Old e rest more holds (may_end ps) are.4 m further (λ j less. deep j (omega (arith, less)))))
