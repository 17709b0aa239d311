-- Where items are spelled one behind another, the reader arrives behind them, or is refused on the way for a value that lies too deep.
use Rattle.std.proofs.Common.{◌≡◌, ℕ, suc, ◌+◌, ◌<◌, ◌≤◌, Bool, true, false, List, [], ◌∷◌, ◌++◌, length, Ok, refl, ap, ◌∙◌, sym, subst, arith, ◌⊎◌, inl, inr, length-append, append_assoc}
use Rattle.std.specs.Prelude.{nat_lt}
use Rattle.std.proofs.lemmas.Bool.Decides.{nat_tests}
use Rattle.thrift_value.specs.declared.kind.Kind.{Kind}
use Rattle.thrift_value.specs.declared.kind.Kind.TheVariants as kinds
use Rattle.thrift_value.specs.Items.{Item, bool_value, stop, field, struct_begin, empty_map, map_begin, set_begin, list_begin, end}
use Rattle.thrift_value.specs.Trees.{Tree, kind_of, items_of, depth_of}
use Rattle.protocol_traits.specs.declared.fault.Fault.{Fault}
use Rattle.protocol_traits.specs.declared.fault.Reason.TheVariants as reasons
use Rattle.protocol_traits.specs.declared.nest.Slot.{Slot}
use Rattle.protocol_traits.specs.declared.nest.Slot.TheVariants as slots
use Rattle.protocol_traits.specs.Stack.{first_of}
use Rattle.protocol_traits.specs.Follow.{spent, after}
use Rattle.compact_protocol.specs.Scan.{fault, flag_of, is_bool, opens, value_at, item_in, field_value, next_of}
use Rattle.compact_protocol.specs.Reading.{State, scan_at, reads}
use Rattle.binary_laws.proofs.Walking.{length-spent}
use Rattle.compact_laws.specs.Fronts.{Opens, Begins, SpellsNext, Leads}
use Rattle.compact_laws.specs.Reads.{Reads}
use Rattle.compact_laws.specs.Refused.{Refuses}
use Rattle.compact_laws.proofs.Leaves.{kind_again, field_again, stop_again, list_again, set_again, map_again, no_map_again}
use Rattle.compact_laws.proofs.Walking.{Walks, CallsFor, calls, opened, value_walks}
use Rattle.compact_laws.proofs.Deep.{shut, field_scan}
use Rattle.compact_laws.proofs.Spelled.{At, onward, reads_is, at_onward}
use Rattle.compact_laws.proofs.Staying.{call_fault}
use Rattle.compact_laws.proofs.Reaching.{some_slot}

-- ---- one item

-- the item is read, but for what a bool field's byte has told, or its value lies too deep
abbrev Once : List Slot → Bool → List ℕ → List ℕ → Item → Type 0
Once nest flag own more item =
    ((x : Item) × (scan_at (first_of nest) (length nest) flag (own ++ more) ≡ Ok (x, length own)) × (after x nest ≡ after item nest) × (length (after item nest) ≤ 256))
    ⊎ (scan_at (first_of nest) (length nest) flag (own ++ more) ≡ fault 0 reasons.TooDeep)

module _ (nest : List Slot) (flag : Bool) (most : length nest ≤ 256) (k : Kind) (item : Item) (own more : List ℕ) (c : CallsFor nest k) where
  same_long : (front rest : List ℕ) → own ++ more ≡ front ++ rest → rest ≡ more → length front ≡ length own
  same_long front rest laid same =
      let a = ap length laid in
      let b = ap length same in
      omega (arith, a, b, length-append own more, length-append front rest)

  by_walk : Walks nest flag (own ++ more) (item ∷ []) (spent nest) more → Once nest flag own more item
  by_walk (front, rest, laid, scan, (levels, left)) = inl (item, scan ∙ ap (λ n. Ok (item, n)) (same_long front rest laid left), refl, omega (arith, ap length levels, length-spent nest, most))

  leaf_once : (t : Tree) → kind_of t ≡ k → depth_of t ≡ 0 → items_of t ≡ item ∷ [] → Walks nest flag (own ++ more) (items_of t) (spent nest) more → Once nest flag own more item
  leaf_once t kind flat is w = by_walk (subst (λ i. Walks nest flag (own ++ more) i (spent nest) more) is w)

  -- a level that is opened, or would lie too deep
  level_once : opens k ≡ true → value_at k (own ++ more) ≡ Ok (item, length own) → length (after item nest) ≤ suc (length nest) → Once nest flag own more item
  level_once o e one = by_test (nat_lt (length nest) 256) refl
    where
      by_test : (b : Bool) → nat_lt (length nest) 256 ≡ b → Once nest flag own more item
      by_test true t = let less : length nest < 256 = grind (arith, nat_tests) in inl (item, calls nest flag k (own ++ more) c ∙ opened (length nest) k (own ++ more) less ∙ e, refl, omega (arith, less, one))
      by_test false t = inr (calls nest flag k (own ++ more) c ∙ shut (length nest) k (own ++ more) o (grind (arith, nat_tests)))

opens_once : (nest : List Slot) (flag : Bool) (most : length nest ≤ 256) (k : Kind) (item : Item) (own more : List ℕ) → CallsFor nest k → Opens k item own → Once nest flag own more item
unfolding value_at
opens_once nest flag most kinds.Bool item own more c o = absurd o
opens_once nest flag most kinds.I8 item own more c o = absurd o
opens_once nest flag most kinds.I16 item own more c o = absurd o
opens_once nest flag most kinds.I32 item own more c o = absurd o
opens_once nest flag most kinds.I64 item own more c o = absurd o
opens_once nest flag most kinds.Double item own more c o = absurd o
opens_once nest flag most kinds.Str item own more c o = absurd o
opens_once nest flag most kinds.Uuid item own more c o = absurd o
opens_once nest flag most kinds.Struct item own more c (is, none) = rw (is, none) (level_once nest flag most kinds.Struct struct_begin [] more c refl refl (omega (arith, length-spent nest)))
opens_once nest flag most kinds.Map item own more c (inl (is, size)) = rw is (level_once nest flag most kinds.Map empty_map own more c refl (no_map_again own more size) (omega (arith, length-spent nest)))
opens_once nest flag most kinds.Map item own more c (inr (key, value, n, some, is, head)) = rw is (level_once nest flag most kinds.Map (map_begin key value n) own more c refl (map_again key value n own more some head) (omega (arith, length-spent nest)))
opens_once nest flag most kinds.Set item own more c (kind, n, is, head) = rw is (level_once nest flag most kinds.Set (set_begin kind n) own more c refl (set_again kind n own more head) (omega (arith, length-spent nest)))
opens_once nest flag most kinds.List item own more c (kind, n, is, head) = rw is (level_once nest flag most kinds.List (list_begin kind n) own more c refl (list_again kind n own more head) (omega (arith, length-spent nest)))

begins_once : (nest : List Slot) (flag : Bool) (most : length nest ≤ 256) (k : Kind) (item : Item) (own more : List ℕ) → CallsFor nest k → Begins k item own → Once nest flag own more item
begins_once nest flag most k item own more c (inl (t, kind, none, is, s)) = leaf_once nest flag most k item own more c t kind none is (value_walks t nest flag own more (subst (CallsFor nest) (sym kind) c) s (omega (arith, none, most)))
begins_once nest flag most k item own more c (inr o) = opens_once nest flag most k item own more c o

pub no_bool_kind : (k : Kind) → (k ≡ kinds.Bool → ⊥) → is_bool k ≡ false
no_bool_kind kinds.Bool not = absurd (not refl)
no_bool_kind kinds.I8 not = refl
no_bool_kind kinds.I16 not = refl
no_bool_kind kinds.I32 not = refl
no_bool_kind kinds.I64 not = refl
no_bool_kind kinds.Double not = refl
no_bool_kind kinds.Str not = refl
no_bool_kind kinds.Struct not = refl
no_bool_kind kinds.Map not = refl
no_bool_kind kinds.Set not = refl
no_bool_kind kinds.List not = refl
no_bool_kind kinds.Uuid not = refl

item_once : (nest : List Slot) (flag : Bool) (most : length nest ≤ 256) (item : Item) (own more : List ℕ) → SpellsNext nest item own → Once nest flag own more item
unfolding item_in field_value next_of
item_once [] flag most item own more s = absurd s
item_once (slots.Fields last ∷ up) flag most item own more (inl (is, laid)) = rw (is, laid) (inl (stop, field_scan last (length up) flag (0 ∷ more) ∙ stop_again last more, refl, omega (arith, most)))
item_once (slots.Fields last ∷ up) flag most item own more (inr (id, kind, code, is, c, head)) =
    rw is (inl (field id kind, field_scan last (length up) flag (own ++ more) ∙ field_again last id code kind own more (kind_again kind code c) head, refl, most))
item_once (slots.Value k id ∷ up) flag most item own more (inl (bool, b, is, none)) = rw (bool, is, none) (inl (bool_value flag, refl, refl, most))
item_once (slots.Value k id ∷ up) flag most item own more (inr (not, s)) = begins_once (slots.Value k id ∷ up) flag most k item own more (refl, no_bool_kind k not) s
item_once (slots.Elements k left ∷ up) flag most item own more (inl (empty, is, none)) = rw (empty, is, none) (inl (end, refl, refl, omega (arith, most)))
item_once (slots.Elements k left ∷ up) flag most item own more (inr (some, s)) = begins_once (slots.Elements k left ∷ up) flag most k item own more (refl, omega (arith, some)) s
item_once (slots.Keys key value left ∷ up) flag most item own more (inl (empty, is, none)) = rw (empty, is, none) (inl (end, refl, refl, omega (arith, most)))
item_once (slots.Keys key value left ∷ up) flag most item own more (inr (some, s)) = begins_once (slots.Keys key value left ∷ up) flag most key item own more (refl, omega (arith, some)) s
item_once (slots.Values key value left ∷ up) flag most item own more s = begins_once (slots.Values key value left ∷ up) flag most value item own more refl s

-- ---- item after item

pub record Arrived (s : State) (last : List Slot) (more : List ℕ) : Type 0 where
  pub items : List Item
  pub new : State
  pub flag : Bool
  pub read : Reads s items new
  pub at : At new last flag more
  pub most : length last ≤ 256

-- refused at such a place at the latest
pub record Drowned (s : State) (place : ℕ) : Type 0 where
  pub items : List Item
  pub new : State
  pub f : Fault
  pub read : Reads s items new
  pub refuses : Refuses new f
  pub deep : f.reason ≡ reasons.TooDeep
  pub before : f.place ≤ place

pub arrives : (items : List Item) (s : State) (nest : List Slot) (flag : Bool) (front more : List ℕ) (last : List Slot) → At s nest flag (front ++ more) → length nest ≤ 256 → Leads nest items front last → Arrived s last more ⊎ Drowned s (s.place + length front)
arrives [] s nest flag front more last a most (none, same) =
    inl (record { items = []; new = s; flag = flag; read = refl; at = subst (λ n. At s n flag more) same (subst (λ l. At s nest flag (l ++ more)) none a); most = subst (λ n. length n ≤ 256) same most })
arrives (item ∷ items) s [] flag front more last a most (own, rest, spelled, leads, laid) = absurd spelled
arrives (item ∷ items) s (slot ∷ up) flag front more last a most (own, rest, spelled, leads, laid) =
    by_once (item_once (slot ∷ up) flag most item own (rest ++ more) spelled) (λ next told b small. arrives items next (after item (slot ∷ up)) told rest more last b small leads)
  where
    nest : List Slot
    nest = slot ∷ up

    here : At s nest flag (own ++ (rest ++ more))
    here = subst (At s nest flag) (ap (λ l. l ++ more) laid ∙ append_assoc own rest more) a

    long : length front ≡ length own + length rest
    long = ap length laid ∙ length-append own rest

    by_rest : (x : Item) → reads s ≡ Ok (x, onward s x (length own)) → Arrived (onward s x (length own)) last more ⊎ Drowned (onward s x (length own)) (s.place + length own + length rest) → Arrived s last more ⊎ Drowned s (s.place + length front)
    by_rest x step (inl w) = inl (record { items = x ∷ w.items; new = w.new; flag = w.flag; read = (onward s x (length own), step, w.read); at = w.at; most = w.most })
    by_rest x step (inr w) = let before = w.before in inr (record { items = x ∷ w.items; new = w.new; f = w.f; read = (onward s x (length own), step, w.read); refuses = w.refuses; deep = w.deep; before = omega (arith, before, long) })

    by_once : Once nest flag own (rest ++ more) item
        → ((next : State) (told : Bool) → At next (after item nest) told (rest ++ more) → length (after item nest) ≤ 256 → Arrived next last more ⊎ Drowned next (next.place + length rest)) → Arrived s last more ⊎ Drowned s (s.place + length front)
    by_once (inl (x, scan, same, small)) go =
        let told = flag_of (own ++ (rest ++ more)) in
        let next = onward s x (length own) in
        let at = subst (λ n. At next n told (rest ++ more)) same (at_onward s nest flag x own (rest ++ more) here) in
        by_rest x (reads_is s nest flag (own ++ (rest ++ more)) x (length own) here scan) (go next told at small)
    by_once (inr scan) go = inr (record {
      items = [];
      new = s;
      f = record { place = s.place + 0; reason = reasons.TooDeep };
      read = refl;
      refuses = inl ((λ none. some_slot slot up (sym a.open_levels ∙ none)), call_fault s nest flag (own ++ (rest ++ more)) (record { place = 0; reason = reasons.TooDeep }) here scan);
      deep = refl;
      before = omega arith;
    })
