-- A body is spelled item by item, each item where the open levels go on with it.
use Rattle.std.proofs.Common.{◌≡◌, ℕ, ℤ, pos, ◌+◌, ◌-◌, true, false, List, [], ◌∷◌, ◌++◌, refl, ap, ◌∙◌, sym, subst, arith, inl, inr, append_assoc}
use Rattle.std.proofs.lemmas.List.{append-nil}
use Rattle.thrift_value.specs.declared.kind.Kind.{Kind}
use Rattle.thrift_value.specs.declared.kind.Kind.TheVariants as kinds
use Rattle.thrift_value.specs.Items.{Item, bool_value, i8_value, i16_value, i32_value, i64_value, double_value, text, uuid_value, struct_begin, empty_map, map_begin, set_begin, list_begin}
use Rattle.thrift_value.specs.Trees.{Tree, truth, whole_8, whole_16, whole_32, whole_64, double, characters, loose_number, loose_text, structure, mapping_of_none, mapping, collection, sequence, unique_id, Members, no_members, one_member, Trees, no_trees, one_tree, Pairs, no_pairs, one_pair, kind_of, count_of_trees, count_of_pairs, items_of, items_of_members, items_of_trees, items_of_pairs, depth_of}
use Rattle.protocol_traits.specs.declared.nest.Slot.{Slot}
use Rattle.protocol_traits.specs.declared.nest.Slot.TheVariants as slots
use Rattle.protocol_traits.specs.Follow.{spent, after}
use Rattle.compact_protocol.specs.Grammar.{IsKind, field_code, is_told, SpellsValue, SpellsMembers, SpellsElements, SpellsPairs}
use Rattle.compact_laws.specs.Fronts.{Begins, Leads}
use Rattle.compact_laws.proofs.Stepping.{next_spells}
use Rattle.compact_laws.proofs.Walking.{CallsFor, untold, told_is}

leads_append : (xs ys : List Item) (first mid last : List Slot) (a b : List ℕ) → Leads first xs a mid → Leads mid ys b last → Leads first (xs ++ ys) (a ++ b) last
leads_append [] ys first mid last a b (none, same) more = subst (λ n. Leads n ys (a ++ b) last) (sym same) (subst (λ l. Leads mid ys (l ++ b) last) (sym none) more)
leads_append (x ∷ xs) ys first mid last a b (own, rest, spelled, leads, laid) more =
    (own, rest ++ b, spelled, leads_append xs ys (after x first) mid last rest b leads more, ap (λ l. l ++ b) laid ∙ append_assoc own rest b)

-- one item, and others behind it
one_leads : (nest last : List Slot) (k : Kind) (item : Item) (items : List Item) (own rest : List ℕ) → CallsFor nest k → Begins k item own → Leads (after item nest) items rest last → Leads nest (item ∷ items) (own ++ rest) last
one_leads nest last k item items own rest c b more = (own, rest, next_spells nest k item own c b, more, refl)

leaf_leads : (t : Tree) (nest : List Slot) (item : Item) (bytes : List ℕ) → CallsFor nest (kind_of t) → SpellsValue t bytes → depth_of t ≡ 0 → items_of t ≡ item ∷ [] → after item nest ≡ spent nest → Leads nest (item ∷ []) bytes (spent nest)
leaf_leads t nest item bytes c s flat is same = subst (λ l. Leads nest (item ∷ []) l (spent nest)) (append-nil bytes) (one_leads nest (spent nest) (kind_of t) item [] bytes [] c (inl (t, refl, flat, is, s)) (refl, same))

field_kind : (t : Tree) → IsKind (kind_of t) (field_code t)
field_kind (truth true) = inl refl
field_kind (truth false) = inr refl
field_kind (whole_8 n) = refl
field_kind (whole_16 n) = refl
field_kind (whole_32 n) = refl
field_kind (whole_64 n) = refl
field_kind (double bytes) = refl
field_kind (characters bytes) = refl
field_kind (loose_number bytes) = refl
field_kind (loose_text bytes) = refl
field_kind (structure ms) = refl
field_kind mapping_of_none = refl
field_kind (mapping key value ps) = refl
field_kind (collection kind ts) = refl
field_kind (sequence kind ts) = refl
field_kind (unique_id bytes) = refl

-- a bool field's value
told_leads : (t : Tree) (id : ℤ) (up : List Slot) (bytes : List ℕ) → is_told t ≡ true → bytes ≡ [] → Leads (slots.Value (kind_of t) id ∷ up) (items_of t) bytes (slots.Fields id ∷ up)
told_leads t id up bytes told none =
    let b = told_is t told in
    let one : Leads (slots.Value kinds.Bool id ∷ up) (bool_value b.0 ∷ []) [] (slots.Fields id ∷ up) = ([], [], inl (refl, b.0, refl, refl), (refl, refl), refl) in
    rw (none, b.1) one

mutual
  value_leads : (t : Tree) (nest : List Slot) (bytes : List ℕ) → CallsFor nest (kind_of t) → SpellsValue t bytes → Leads nest (items_of t) bytes (spent nest)
  value_leads (truth b) nest bytes c s = leaf_leads (truth b) nest (bool_value b) bytes c s refl refl refl
  value_leads (whole_8 n) nest bytes c s = leaf_leads (whole_8 n) nest (i8_value n) bytes c s refl refl refl
  value_leads (whole_16 n) nest bytes c s = leaf_leads (whole_16 n) nest (i16_value n) bytes c s refl refl refl
  value_leads (whole_32 n) nest bytes c s = leaf_leads (whole_32 n) nest (i32_value n) bytes c s refl refl refl
  value_leads (whole_64 n) nest bytes c s = leaf_leads (whole_64 n) nest (i64_value n) bytes c s refl refl refl
  value_leads (double eight) nest bytes c s = leaf_leads (double eight) nest (double_value eight) bytes c s refl refl refl
  value_leads (characters b) nest bytes c s = leaf_leads (characters b) nest (text b) bytes c s refl refl refl
  value_leads (unique_id sixteen) nest bytes c s = leaf_leads (unique_id sixteen) nest (uuid_value sixteen) bytes c s refl refl refl
  value_leads (loose_number b) nest bytes c s = absurd s
  value_leads (loose_text b) nest bytes c s = absurd s
  value_leads (structure ms) nest bytes c s = one_leads nest (spent nest) kinds.Struct struct_begin (items_of_members ms) [] bytes c (inr (refl, refl)) (members_lead ms (pos 0) (spent nest) bytes s)
  value_leads mapping_of_none nest bytes c s = subst (λ l. Leads nest (empty_map ∷ []) l (spent nest)) (append-nil bytes) (one_leads nest (spent nest) kinds.Map empty_map [] bytes [] c (inr (inl (refl, s))) (refl, refl))
  value_leads (mapping key value ps) nest bytes c (some, (header, pairs, head, spelled, laid)) =
      let n = count_of_pairs ps in
      rw laid (one_leads nest (spent nest) kinds.Map (map_begin key value n) (items_of_pairs ps) header pairs c (inr (inr (key, value, n, some, refl, head))) (pairs_lead ps key value (spent nest) pairs spelled))
  value_leads (collection kind ts) nest bytes c (few, (header, elements, head, spelled, laid)) =
      let n = count_of_trees ts in
      rw laid (one_leads nest (spent nest) kinds.Set (set_begin kind n) (items_of_trees ts) header elements c (inr (kind, n, refl, head)) (trees_lead ts kind (spent nest) elements spelled))
  value_leads (sequence kind ts) nest bytes c (few, (header, elements, head, spelled, laid)) =
      let n = count_of_trees ts in
      rw laid (one_leads nest (spent nest) kinds.List (list_begin kind n) (items_of_trees ts) header elements c (inr (kind, n, refl, head)) (trees_lead ts kind (spent nest) elements spelled))

  pub members_lead : (ms : Members) (last : ℤ) (up : List Slot) (bytes : List ℕ) → SpellsMembers last ms bytes → Leads (slots.Fields last ∷ up) (items_of_members ms) bytes up
  members_lead no_members last up bytes s = (bytes, [], inl (refl, s), (refl, refl), sym (append-nil bytes))
  members_lead (one_member id t ms) last up bytes (header, value, rest, head, inl (told, none), others, laid) =
      let inner = slots.Value (kind_of t) id ∷ up in
      (header, value ++ rest, inr (id, kind_of t, field_code t, refl, field_kind t, head), leads_append (items_of t) (items_of_members ms) inner (slots.Fields id ∷ up) up value rest (told_leads t id up value told none) (members_lead ms id up rest others), laid)
  members_lead (one_member id t ms) last up bytes (header, value, rest, head, inr (not, s), others, laid) =
      let inner = slots.Value (kind_of t) id ∷ up in
      (header, value ++ rest, inr (id, kind_of t, field_code t, refl, field_kind t, head), leads_append (items_of t) (items_of_members ms) inner (slots.Fields id ∷ up) up value rest (value_leads t inner value (refl, untold t not) s) (members_lead ms id up rest others), laid)

  trees_lead : (ts : Trees) (k : Kind) (up : List Slot) (bytes : List ℕ) → SpellsElements k ts bytes → Leads (slots.Elements k (count_of_trees ts) ∷ up) (items_of_trees ts) bytes up
  trees_lead no_trees k up bytes s = ([], [], inl (refl, refl, refl), (refl, refl), s)
  trees_lead (one_tree t ts) k up bytes (kind, (first, rest, one, others, laid)) =
      let n = count_of_trees ts in
      let less : n + 1 - 1 ≡ n = omega arith in
      let a = value_leads t (slots.Elements k (n + 1) ∷ up) first (sym kind, omega arith) one in
      rw laid (leads_append (items_of t) (items_of_trees ts) (slots.Elements k (n + 1) ∷ up) (slots.Elements k n ∷ up) up first rest (rw less at a) (trees_lead ts k up rest others))

  pairs_lead : (ps : Pairs) (key value : Kind) (up : List Slot) (bytes : List ℕ) → SpellsPairs key value ps bytes → Leads (slots.Keys key value (count_of_pairs ps) ∷ up) (items_of_pairs ps) bytes up
  pairs_lead no_pairs key value up bytes s = ([], [], inl (refl, refl, refl), (refl, refl), s)
  pairs_lead (one_pair k v ps) key value up bytes (is_key, is_value, (first, second, rest, one, two, others, laid)) =
      let n = count_of_pairs ps in
      let less : n + 1 - 1 ≡ n = omega arith in
      let a = value_leads k (slots.Keys key value (n + 1) ∷ up) first (sym is_key, omega arith) one in
      let b = value_leads v (slots.Values key value (n + 1) ∷ up) second (sym is_value) two in
      rw laid
      (leads_append (items_of k) (items_of v ++ items_of_pairs ps) (slots.Keys key value (n + 1) ∷ up) (slots.Values key value (n + 1) ∷ up) up first (second ++ rest) a
      (leads_append (items_of v) (items_of_pairs ps) (slots.Values key value (n + 1) ∷ up) (slots.Keys key value n ∷ up) up second rest (rw less at b) (pairs_lead ps key value up rest others)))

pub each_spelled : (ms : Members) (bytes : List ℕ) → SpellsMembers (pos 0) ms bytes → Leads (slots.Fields (pos 0) ∷ []) (items_of_members ms) bytes []
each_spelled ms bytes s = members_lead ms (pos 0) [] bytes s
