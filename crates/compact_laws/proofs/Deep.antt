-- A message that lies deeper than 256 levels is refused as too deep.
use Rattle.std.proofs.Common.{◌≡◌, ℕ, ℤ, pos, suc, ◌+◌, ◌-◌, ◌<◌, ◌≤◌, Bool, true, false, List, [], ◌∷◌, ◌++◌, length, drop, Some, Ok, Err, refl, ap, ◌∙◌, sym, subst, arith, inl, inr, append_assoc}
use Rattle.std.specs.Prelude.{nat_lt, nat_le}
use Rattle.std.proofs.lemmas.Bool.Decides.{nat_tests}
use Rattle.std.proofs.lemmas.List.{append-nil}
use Rattle.thrift_value.specs.declared.kind.Kind.{Kind}
use Rattle.thrift_value.specs.declared.kind.Kind.TheVariants as kinds
use Rattle.thrift_value.specs.Items.{Item, field, struct_begin, map_begin, set_begin, list_begin}
use Rattle.thrift_value.specs.Trees.{Tree, truth, whole_8, whole_16, whole_32, whole_64, double, characters, loose_number, loose_text, structure, mapping_of_none, mapping, collection, sequence, unique_id, Members, no_members, one_member, Trees, no_trees, one_tree, Pairs, no_pairs, one_pair, Message, kind_of, count_of_trees, count_of_pairs, items_of, depth_of, depth_of_members, depth_of_trees, depth_of_pairs}
use Rattle.protocol_traits.specs.declared.fault.Fault.{Fault}
use Rattle.protocol_traits.specs.declared.fault.Reason.{Reason}
use Rattle.protocol_traits.specs.declared.fault.Reason.TheVariants as reasons
use Rattle.protocol_traits.specs.declared.nest.Slot.{Slot}
use Rattle.protocol_traits.specs.declared.nest.Slot.TheVariants as slots
use Rattle.protocol_traits.specs.Stack.{first_of}
use Rattle.protocol_traits.specs.Follow.{spent, after}
use Rattle.compact_protocol.specs.Scan.{Scan, fault, value_at, value_in, opens, field_at, item_in, front_at, string_at}
use Rattle.compact_protocol.specs.Reading.{scan_at}
use Rattle.compact_protocol.specs.Grammar.{field_code, is_told, SpellsValue, SpellsMembers, SpellsElements, SpellsPairs, CompactSpells}
use Rattle.gate_base.specs.Bytes.{AreBytes}
use Rattle.binary_laws.specs.Reads.{header_of_message}
use Rattle.binary_laws.proofs.Walking.{length-spent}
use Rattle.compact_laws.specs.Refused.{IsViable, IsRefused}
use Rattle.compact_laws.proofs.Leaves.{list_again, set_again, map_again, field_again}
use Rattle.compact_laws.proofs.Heading.{head_again}
use Rattle.compact_laws.proofs.Walking.{Walks, CallsFor, walks_append, calls, opened, untold, told_is, field_code_again, bool_walks, value_walks}
use Rattle.compact_laws.proofs.Staying.{call_fault, refused_stays}
use Rattle.compact_laws.proofs.Either.{one_fault}
use Rattle.compact_laws.proofs.Spelled.{At, walk_reads, body_open, headed_state, head_is}

-- some items are walked, and behind them a level is called for that lies too deep, whatever the last byte told
record TooDeepIn (nest : List Slot) (bytes : List ℕ) : Type 0 where
  items : List Item
  last : List Slot
  left : List ℕ
  walks : (flag : Bool) → Walks nest flag bytes items last left
  halts : (flag : Bool) → scan_at (first_of last) (length last) flag left ≡ fault 0 reasons.TooDeep

behind : (xs : List Item) (nest : List Slot) (bytes : List ℕ) (mid : List Slot) (between : List ℕ) → ((flag : Bool) → Walks nest flag bytes xs mid between) → TooDeepIn mid between → TooDeepIn nest bytes
behind xs nest bytes mid between w d = record {
  items = xs ++ d.items;
  last = d.last;
  left = d.left;
  walks = (λ flag. walks_append xs d.items nest flag bytes mid between d.last d.left (w flag) d.walks);
  halts = d.halts;
}

pub shut : (depth : ℕ) (kind : Kind) (bytes : List ℕ) → opens kind ≡ true → 256 ≤ depth → value_in depth kind bytes ≡ fault 0 reasons.TooDeep
unfolding value_in
shut depth kind bytes n h = let t : nat_le 256 depth ≡ true = grind (arith, nat_tests) in rw (n, t) refl

-- a level that is called for is too deep, or it is opened
by_level : (nest : List Slot) (kind : Kind) (bytes : List ℕ) → CallsFor nest kind → opens kind ≡ true → (length nest < 256 → TooDeepIn nest bytes) → TooDeepIn nest bytes
by_level nest kind bytes c n inner = by_test (nat_lt (length nest) 256) refl
  where
    by_test : (b : Bool) → nat_lt (length nest) 256 ≡ b → TooDeepIn nest bytes
    by_test true e = inner (grind (arith, nat_tests))
    by_test false e = record { items = []; last = nest; left = bytes; walks = (λ flag. (refl, refl)); halts = (λ flag. calls nest flag kind bytes c ∙ shut (length nest) kind bytes n (grind (arith, nat_tests))) }

opens_deep : (nest : List Slot) (kind : Kind) (item : Item) (front rest : List ℕ) → CallsFor nest kind → length nest < 256 → value_at kind (front ++ rest) ≡ Ok (item, length front) → TooDeepIn (after item nest) rest → TooDeepIn nest (front ++ rest)
opens_deep nest kind item front rest c n e d =
    behind (item ∷ []) nest (front ++ rest) (after item nest) rest (λ flag. (front, rest, refl, calls nest flag kind (front ++ rest) c ∙ opened (length nest) kind (front ++ rest) n ∙ e, (refl, refl))) d

-- the first value lies too deep, or what is behind it does
first_or_rest : (t : Tree) (nest after_it : List Slot) (bytes more : List ℕ) → CallsFor nest (kind_of t) → spent nest ≡ after_it → SpellsValue t bytes
    → (256 < depth_of t + length nest → TooDeepIn nest (bytes ++ more)) → (depth_of t + length nest ≤ 256 → TooDeepIn after_it more) → TooDeepIn nest (bytes ++ more)
first_or_rest t nest after_it bytes more c e h first others = by_test (nat_lt 256 (depth_of t + length nest)) refl
  where
    by_test : (b : Bool) → nat_lt 256 (depth_of t + length nest) ≡ b → TooDeepIn nest (bytes ++ more)
    by_test true is = first (grind (arith, nat_tests))
    by_test false is =
        let shallow : depth_of t + length nest ≤ 256 = grind (arith, nat_tests) in
        behind (items_of t) nest (bytes ++ more) (spent nest) more (λ flag. value_walks t nest flag bytes more c h shallow) (subst (λ n. TooDeepIn n more) (sym e) (others shallow))

-- a value that is told is no level
flat_told : (t : Tree) → is_told t ≡ true → depth_of t ≡ 0
flat_told t told = ap depth_of (told_is t told).1

-- where fields may come
pub field_scan : (last : ℤ) (d : ℕ) (flag : Bool) (bytes : List ℕ) → scan_at (Some (slots.Fields last)) (suc d) flag bytes ≡ field_at last bytes
unfolding item_in
field_scan last d flag bytes = refl

mutual
  unfolding value_at

  value_deep : (t : Tree) (nest : List Slot) (bytes more : List ℕ) → CallsFor nest (kind_of t) → SpellsValue t bytes → length nest ≤ 256 → 256 < depth_of t + length nest → TooDeepIn nest (bytes ++ more)
  value_deep (truth b) nest bytes more c h most deep = absurd (omega arith)
  value_deep (whole_8 n) nest bytes more c h most deep = absurd (omega arith)
  value_deep (whole_16 n) nest bytes more c h most deep = absurd (omega arith)
  value_deep (whole_32 n) nest bytes more c h most deep = absurd (omega arith)
  value_deep (whole_64 n) nest bytes more c h most deep = absurd (omega arith)
  value_deep (double eight) nest bytes more c h most deep = absurd (omega arith)
  value_deep (characters b) nest bytes more c h most deep = absurd (omega arith)
  value_deep (loose_number b) nest bytes more c h most deep = absurd (omega arith)
  value_deep (loose_text b) nest bytes more c h most deep = absurd (omega arith)
  value_deep (unique_id sixteen) nest bytes more c h most deep = absurd (omega arith)
  value_deep (structure ms) nest bytes more c h most deep =
      by_level nest kinds.Struct (bytes ++ more) c refl (λ less. opens_deep nest kinds.Struct struct_begin [] (bytes ++ more) c less refl (members_deep ms (pos 0) (spent nest) bytes more h (omega (arith, length-spent nest)) (omega (arith, length-spent nest))))
  value_deep mapping_of_none nest bytes more c h most deep = by_level nest kinds.Map (bytes ++ more) c refl (λ less. absurd (omega arith))
  value_deep (mapping key value ps) nest bytes more c (some, (header, pairs, head, spells, laid)) most deep =
      rw (laid, append_assoc header pairs more)
      (by_level nest kinds.Map (header ++ (pairs ++ more)) c refl (λ less. opens_deep nest kinds.Map (map_begin key value (count_of_pairs ps)) header (pairs ++ more) c less (map_again key value (count_of_pairs ps) header (pairs ++ more) some head)
      (pairs_deep ps key value (spent nest) pairs more spells (omega (arith, length-spent nest)) (omega (arith, length-spent nest)))))
  value_deep (collection kind ts) nest bytes more c (few, (header, elements, head, spells, laid)) most deep =
      rw (laid, append_assoc header elements more)
      (by_level nest kinds.Set (header ++ (elements ++ more)) c refl (λ less. opens_deep nest kinds.Set (set_begin kind (count_of_trees ts)) header (elements ++ more) c less (set_again kind (count_of_trees ts) header (elements ++ more) head)
      (trees_deep ts kind (spent nest) elements more spells (omega (arith, length-spent nest)) (omega (arith, length-spent nest)))))
  value_deep (sequence kind ts) nest bytes more c (few, (header, elements, head, spells, laid)) most deep =
      rw (laid, append_assoc header elements more)
      (by_level nest kinds.List (header ++ (elements ++ more)) c refl (λ less. opens_deep nest kinds.List (list_begin kind (count_of_trees ts)) header (elements ++ more) c less (list_again kind (count_of_trees ts) header (elements ++ more) head)
      (trees_deep ts kind (spent nest) elements more spells (omega (arith, length-spent nest)) (omega (arith, length-spent nest)))))

  members_deep : (ms : Members) (last : ℤ) (up : List Slot) (bytes more : List ℕ) → SpellsMembers last ms bytes → suc (length up) ≤ 256 → 256 < depth_of_members ms + suc (length up) → TooDeepIn (slots.Fields last ∷ up) (bytes ++ more)
  members_deep no_members last up bytes more h most deep = absurd (omega arith)
  members_deep (one_member id t ms) last up bytes more (header, value, rest, head, inl (told, none), others, laid) most deep =
      let tail = value ++ (rest ++ more) in
      let flat = flat_told t told in
      let scan = field_again last id (field_code t) (kind_of t) header tail (field_code_again t) head in
      let walk = bool_walks t last id up header value (rest ++ more) head told none in
      rw (laid, append_assoc header (value ++ rest) more, append_assoc value rest more)
      (behind (field id (kind_of t) ∷ items_of t) (slots.Fields last ∷ up) (header ++ tail) (slots.Fields id ∷ up) (rest ++ more) (λ flag. (header, tail, refl, field_scan last (length up) flag (header ++ tail) ∙ scan, walk)) (members_deep ms id up rest more others most (omega (arith, flat, deep))))
  members_deep (one_member id t ms) last up bytes more (header, value, rest, head, inr (not, one), others, laid) most deep =
      let tail = value ++ (rest ++ more) in
      let inner = slots.Value (kind_of t) id ∷ up in
      let scan = field_again last id (field_code t) (kind_of t) header tail (field_code_again t) head in
      rw (laid, append_assoc header (value ++ rest) more, append_assoc value rest more)
      (behind (field id (kind_of t) ∷ []) (slots.Fields last ∷ up) (header ++ tail) inner tail (λ flag. (header, tail, refl, field_scan last (length up) flag (header ++ tail) ∙ scan, (refl, refl)))
      (first_or_rest t inner (slots.Fields id ∷ up) value (rest ++ more) (refl, untold t not) refl one (λ deeper. value_deep t inner value (rest ++ more) (refl, untold t not) one most deeper) (λ shallow. members_deep ms id up rest more others most (omega arith))))

  trees_deep : (ts : Trees) (k : Kind) (up : List Slot) (bytes more : List ℕ) → SpellsElements k ts bytes → suc (length up) ≤ 256 → 256 < depth_of_trees ts + suc (length up) → TooDeepIn (slots.Elements k (count_of_trees ts) ∷ up) (bytes ++ more)
  trees_deep no_trees k up bytes more h most deep = absurd (omega arith)
  trees_deep (one_tree t ts) k up bytes more (is, (first, rest, one, others, laid)) most deep =
      let n = count_of_trees ts in
      let less : n + 1 - 1 ≡ n = omega arith in
      rw (laid, append_assoc first rest more)
      (first_or_rest t (slots.Elements k (n + 1) ∷ up) (slots.Elements k n ∷ up) first (rest ++ more) (sym is, omega arith) (ap (λ m. slots.Elements k m ∷ up) less) one (λ deeper. value_deep t (slots.Elements k (n + 1) ∷ up) first (rest ++ more) (sym is, omega arith) one most deeper)
      (λ shallow. trees_deep ts k up rest more others most (omega arith)))

  pairs_deep : (ps : Pairs) (key value : Kind) (up : List Slot) (bytes more : List ℕ) → SpellsPairs key value ps bytes → suc (length up) ≤ 256 → 256 < depth_of_pairs ps + suc (length up) → TooDeepIn (slots.Keys key value (count_of_pairs ps) ∷ up) (bytes ++ more)
  pairs_deep no_pairs key value up bytes more h most deep = absurd (omega arith)
  pairs_deep (one_pair k v ps) key value up bytes more (is, was, (first, second, rest, one, two, others, laid)) most deep =
      let n = count_of_pairs ps in
      let less : n + 1 - 1 ≡ n = omega arith in
      rw (laid, append_assoc first (second ++ rest) more, append_assoc second rest more)
      (first_or_rest k (slots.Keys key value (n + 1) ∷ up) (slots.Values key value (n + 1) ∷ up) first (second ++ (rest ++ more)) (sym is, omega arith) refl one (λ deeper. value_deep k (slots.Keys key value (n + 1) ∷ up) first (second ++ (rest ++ more)) (sym is, omega arith) one most deeper)
      (λ shallow. first_or_rest v (slots.Values key value (n + 1) ∷ up) (slots.Keys key value n ∷ up) second (rest ++ more) (sym was) (ap (λ m. slots.Keys key value m ∷ up) less) two (λ deeper. value_deep v (slots.Values key value (n + 1) ∷ up) second (rest ++ more) (sym was) two most deeper)
      (λ flat. pairs_deep ps key value up rest more others most (omega arith))))

-- ---- a whole frame

abbrev reason_in : Scan Item → Reason
reason_in (Ok x) = reasons.Truncated
reason_in (Err f) = f.reason

not_deep : reasons.Trailing ≡ reasons.TooDeep → ⊥
not_deep e = absurd (cc)

some_level : (nest : List Slot) (flag : Bool) (bytes : List ℕ) → scan_at (first_of nest) (length nest) flag bytes ≡ fault 0 reasons.TooDeep → nest ≡ [] → ⊥
some_level [] flag bytes e none = not_deep (ap reason_in e)
some_level (slot ∷ up) flag bytes e none = absurd (cc)

pub deep_refused : (m : Message) (bytes : List ℕ) → CompactSpells m bytes → 256 ≤ depth_of_members m.body → (f : Fault) × IsRefused bytes f × (f.reason ≡ reasons.TooDeep)
deep_refused m bytes (header, body, head, members, laid) deep =
    let h = head_again m header body head in
    let whole = h.whole in
    let first = headed_state bytes h.at h.long in
    let at : At first body_open false (body ++ []) = record { front = header; open_levels = refl; told = refl; laid = laid ∙ ap (λ b. header ++ b) (sym (append-nil body)); place = omega arith } in
    let d = members_deep m.body (pos 0) [] body [] members (omega arith) (omega arith) in
    let w = walk_reads d.items first body_open false (body ++ []) d.last d.left at (d.walks false) in
    let here = w.2.1 in
    let is = call_fault w.0 d.last w.2.0 d.left (record { place = 0; reason = reasons.TooDeep }) here (d.halts w.2.0) in
    let read = head_is bytes m.name (m.mtype, m.seq) h.at h.long (ap front_at laid ∙ h.front) (ap (λ l. string_at (drop h.at l)) laid ∙ h.name) in
    (record { place = w.0.place + 0; reason = reasons.TooDeep }, inr (header_of_message m, d.items, first, w.0, read, w.1, inl ((λ none. some_level d.last w.2.0 d.left (d.halts w.2.0) (sym here.open_levels ∙ none)), is)), refl)

pub not_viable : (bytes : List ℕ) (f : Fault) → AreBytes bytes → IsRefused bytes f → (f.reason ≡ reasons.Truncated → ⊥) → (f.reason ≡ reasons.TooDeep → ⊥) → IsViable bytes → ⊥
not_viable bytes f are refused whole shallow (more, m, spells) = by_depth (nat_lt (depth_of_members m.body) 256) refl
  where
    by_depth : (b : Bool) → nat_lt (depth_of_members m.body) 256 ≡ b → ⊥
    by_depth true e = (refused_stays bytes more f are refused whole).1 m (grind (arith, nat_tests)) spells
    by_depth false e =
        let d = deep_refused m (bytes ++ more) spells (grind (arith, nat_tests)) in
        shallow (ap (λ (g : Fault). g.reason) (one_fault (bytes ++ more) f d.0 (refused_stays bytes more f are refused whole).0 d.1) ∙ d.2)
