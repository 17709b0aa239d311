-- A message that lies deeper than 256 levels is refused as too deep.
use Rattle.std.proofs.Common.{◌≡◌, ℕ, ℤ, pos, suc, ◌+◌, ◌-◌, ◌<◌, ◌≤◌, Bool, true, false, List, [], ◌∷◌, ◌++◌, length, Ok, Err, refl, ap, ◌∙◌, sym, subst, arith, inl, inr, append_assoc}
use Rattle.std.specs.Prelude.{nat_lt, nat_le}
use Rattle.std.specs.Int.{w16}
use Rattle.std.proofs.lemmas.Bool.Decides.{nat_tests}
use Rattle.std.proofs.lemmas.List.{append-nil}
use Rattle.thrift_value.specs.declared.kind.Kind.{Kind}
use Rattle.thrift_value.specs.declared.kind.Kind.TheVariants as kinds
use Rattle.thrift_value.specs.Items.{Item, field, struct_begin, map_begin, set_begin, list_begin}
use Rattle.thrift_value.specs.Trees.{Tree, truth, whole_8, whole_16, whole_32, whole_64, double, characters, loose_number, loose_text, structure, mapping_of_none, mapping, collection, sequence, unique_id, Members, no_members, one_member, Trees, no_trees, one_tree, Pairs, no_pairs, one_pair, Message, kind_of, count_of_trees, count_of_pairs, items_of, items_of_members, items_of_trees, items_of_pairs, depth_of, depth_of_members, depth_of_trees, depth_of_pairs}
use Rattle.protocol_traits.specs.declared.fault.Fault.{Fault}
use Rattle.protocol_traits.specs.declared.fault.Reason.{Reason}
use Rattle.protocol_traits.specs.declared.fault.Reason.TheVariants as reasons
use Rattle.protocol_traits.specs.declared.nest.Slot.{Slot}
use Rattle.protocol_traits.specs.declared.nest.Slot.TheVariants as slots
use Rattle.protocol_traits.specs.Stack.{first_of}
use Rattle.protocol_traits.specs.Follow.{spent, after}
use Rattle.binary_protocol.specs.Codes.{code_of_kind}
use Rattle.binary_protocol.specs.Scan.{Scan, fault, value_at, value_in, nests}
use Rattle.binary_protocol.specs.Heads.{head_at}
use Rattle.binary_protocol.specs.Reading.{State, rest, scan_at, moved, reads, body_open}
use Rattle.binary_protocol.specs.Grammar.{number, size, SpellsValue, SpellsMembers, SpellsElements, SpellsPairs, BinarySpells}
use Rattle.gate_base.specs.Bytes.{AreBytes}
use Rattle.binary_laws.specs.Refused.{IsViable, IsRefused}
use Rattle.binary_laws.specs.Reads.{header_of_message}
use Rattle.binary_laws.proofs.Leaves.{list_again, set_again, map_again, field_again}
use Rattle.binary_laws.proofs.Heading.{head_again}
use Rattle.binary_laws.proofs.Walking.{Walks, CallsFor, walks_append, calls, opened, length-spent, value_walks}
use Rattle.binary_laws.proofs.Staying.{refused_stays}
use Rattle.binary_laws.proofs.Either.{one_fault}
use Rattle.binary_laws.proofs.Spelled.{At, rest_is, walk_reads, headed_state, head_is}

-- some items are walked, and behind them a level is called for that lies too deep
pub record TooDeepIn (all : List Item) (nest : List Slot) (bytes : List ℕ) : Type 0 where
  pub items : List Item
  pub others : List Item
  pub last : List Slot
  pub left : List ℕ
  pub is : all ≡ items ++ others
  pub walks : Walks nest bytes items last left
  pub halts : scan_at (first_of last) (length last) left ≡ fault 0 reasons.TooDeep

behind : {ys : List Item} → (xs : List Item) (nest : List Slot) (bytes : List ℕ) (mid : List Slot) (between : List ℕ) → Walks nest bytes xs mid between → TooDeepIn ys mid between → TooDeepIn (xs ++ ys) nest bytes
behind {ys} xs nest bytes mid between w d = record {
  items = xs ++ d.items;
  others = d.others;
  is = ap (λ l. xs ++ l) d.is ∙ sym (append_assoc xs d.items d.others);
  last = d.last;
  left = d.left;
  walks = walks_append xs d.items nest bytes mid between d.last d.left w d.walks;
  halts = d.halts;
}

among : {xs : List Item} → (ys : List Item) (nest : List Slot) (bytes : List ℕ) → TooDeepIn xs nest bytes → TooDeepIn (xs ++ ys) nest bytes
among {xs} ys nest bytes d = record { items = d.items; others = d.others ++ ys; last = d.last; left = d.left; is = ap (λ l. l ++ ys) d.is ∙ append_assoc d.items d.others ys; walks = d.walks; halts = d.halts }

shut : (depth : ℕ) (kind : Kind) (bytes : List ℕ) → nests kind ≡ true → 256 ≤ depth → value_in depth kind bytes ≡ fault 0 reasons.TooDeep
unfolding value_in
shut depth kind bytes n h = let t : nat_le 256 depth ≡ true = grind (arith, nat_tests) in rw (n, t) refl

-- a level that is called for is too deep, or it is opened
by_level : {all : List Item} → (nest : List Slot) (kind : Kind) (bytes : List ℕ) → CallsFor nest kind → nests kind ≡ true → (length nest < 256 → TooDeepIn all nest bytes) → TooDeepIn all nest bytes
by_level {all} nest kind bytes c n inner = by_test (nat_lt (length nest) 256) refl
  where
    by_test : (b : Bool) → nat_lt (length nest) 256 ≡ b → TooDeepIn all nest bytes
    by_test true e = inner (grind (arith, nat_tests))
    by_test false e = record { items = []; others = all; last = nest; left = bytes; is = refl; walks = (refl, refl); halts = calls nest kind bytes c ∙ shut (length nest) kind bytes n (grind (arith, nat_tests)) }

opens_deep : {ys : List Item} → (nest : List Slot) (kind : Kind) (item : Item) (front rest : List ℕ) → CallsFor nest kind → length nest < 256 → value_at kind (front ++ rest) ≡ Ok (item, length front) → TooDeepIn ys (after item nest) rest → TooDeepIn (item ∷ ys) nest (front ++ rest)
opens_deep {ys} nest kind item front rest c n e d =
    behind (item ∷ []) nest (front ++ rest) (after item nest) rest (front, rest, refl, calls nest kind (front ++ rest) c ∙ opened (length nest) kind (front ++ rest) n ∙ e, (refl, refl)) d

-- the first value lies too deep, or what is behind it does
first_or_rest : {ys : List Item} → (t : Tree) (nest after_it : List Slot) (bytes more : List ℕ) → CallsFor nest (kind_of t) → spent nest ≡ after_it → SpellsValue t bytes
    → (256 < depth_of t + length nest → TooDeepIn (items_of t) nest (bytes ++ more)) → (depth_of t + length nest ≤ 256 → TooDeepIn ys after_it more) → TooDeepIn (items_of t ++ ys) nest (bytes ++ more)
first_or_rest {ys} t nest after_it bytes more c e h first others = by_test (nat_lt 256 (depth_of t + length nest)) refl
  where
    by_test : (b : Bool) → nat_lt 256 (depth_of t + length nest) ≡ b → TooDeepIn (items_of t ++ ys) nest (bytes ++ more)
    by_test true is = among ys nest (bytes ++ more) (first (grind (arith, nat_tests)))
    by_test false is =
        let shallow : depth_of t + length nest ≤ 256 = grind (arith, nat_tests) in
        behind (items_of t) nest (bytes ++ more) (spent nest) more (value_walks t nest bytes more c h shallow) (subst (λ n. TooDeepIn ys n more) (sym e) (others shallow))

mutual
  unfolding value_at

  value_deep : (t : Tree) (nest : List Slot) (bytes more : List ℕ) → CallsFor nest (kind_of t) → SpellsValue t bytes → length nest ≤ 256 → 256 < depth_of t + length nest → TooDeepIn (items_of t) nest (bytes ++ more)
  value_deep (truth b) nest bytes more c h most deep = absurd (omega arith)
  value_deep (whole_8 n) nest bytes more c h most deep = absurd (omega arith)
  value_deep (whole_16 n) nest bytes more c h most deep = absurd (omega arith)
  value_deep (whole_32 n) nest bytes more c h most deep = absurd (omega arith)
  value_deep (whole_64 n) nest bytes more c h most deep = absurd (omega arith)
  value_deep (double eight) nest bytes more c h most deep = absurd (omega arith)
  value_deep (characters b) nest bytes more c h most deep = absurd (omega arith)
  value_deep (loose_number b) nest bytes more c h most deep = absurd (omega arith)
  value_deep (loose_text b) nest bytes more c h most deep = absurd (omega arith)
  value_deep (unique_id sixteen) nest bytes more c h most deep = absurd (omega arith)
  value_deep (structure ms) nest bytes more c h most deep =
      by_level nest kinds.Struct (bytes ++ more) c refl (λ less. opens_deep nest kinds.Struct struct_begin [] (bytes ++ more) c less refl (members_deep ms (pos 0) (spent nest) bytes more h (omega (arith, length-spent nest)) (omega (arith, length-spent nest))))
  value_deep mapping_of_none nest bytes more c h most deep = by_level nest kinds.Map (bytes ++ more) c refl (λ less. absurd (omega arith))
  value_deep (mapping key value ps) nest bytes more c (some, few, (pairs, spells, laid)) most deep =
      let head = code_of_kind key ∷ code_of_kind value ∷ size (count_of_pairs ps) in
      rw (laid, append_assoc head pairs more)
      (by_level nest kinds.Map (head ++ (pairs ++ more)) c refl (λ less. opens_deep nest kinds.Map (map_begin key value (count_of_pairs ps)) head (pairs ++ more) c less (map_again key value (count_of_pairs ps) (pairs ++ more) some few)
      (pairs_deep ps key value (spent nest) pairs more spells (omega (arith, length-spent nest)) (omega (arith, length-spent nest)))))
  value_deep (collection kind ts) nest bytes more c (few, (elements, spells, laid)) most deep =
      let head = code_of_kind kind ∷ size (count_of_trees ts) in
      rw (laid, append_assoc head elements more)
      (by_level nest kinds.Set (head ++ (elements ++ more)) c refl (λ less. opens_deep nest kinds.Set (set_begin kind (count_of_trees ts)) head (elements ++ more) c less (set_again kind (count_of_trees ts) (elements ++ more) few)
      (trees_deep ts kind (spent nest) elements more spells (omega (arith, length-spent nest)) (omega (arith, length-spent nest)))))
  value_deep (sequence kind ts) nest bytes more c (few, (elements, spells, laid)) most deep =
      let head = code_of_kind kind ∷ size (count_of_trees ts) in
      rw (laid, append_assoc head elements more)
      (by_level nest kinds.List (head ++ (elements ++ more)) c refl (λ less. opens_deep nest kinds.List (list_begin kind (count_of_trees ts)) head (elements ++ more) c less (list_again kind (count_of_trees ts) (elements ++ more) few)
      (trees_deep ts kind (spent nest) elements more spells (omega (arith, length-spent nest)) (omega (arith, length-spent nest)))))

  pub members_deep : (ms : Members) (id : ℤ) (up : List Slot) (bytes more : List ℕ) → SpellsMembers ms bytes → suc (length up) ≤ 256 → 256 < depth_of_members ms + suc (length up) → TooDeepIn (items_of_members ms) (slots.Fields id ∷ up) (bytes ++ more)
  members_deep no_members id up bytes more h most deep = absurd (omega arith)
  members_deep (one_member new t ms) id up bytes more (fits, (value, rest, one, others, laid)) most deep =
      let head = code_of_kind (kind_of t) ∷ number w16 new in
      let tail = value ++ (rest ++ more) in
      let inner = slots.Value (kind_of t) new ∷ up in
      rw (laid, append_assoc head (value ++ rest) more, append_assoc value rest more)
      (behind (field new (kind_of t) ∷ []) (slots.Fields id ∷ up) (head ++ tail) inner tail (head, tail, refl, field_again (kind_of t) new tail fits, (refl, refl))
      (first_or_rest t inner (slots.Fields new ∷ up) value (rest ++ more) refl refl one (λ deeper. value_deep t inner value (rest ++ more) refl one most deeper) (λ shallow. members_deep ms new up rest more others most (omega arith))))

  trees_deep : (ts : Trees) (k : Kind) (up : List Slot) (bytes more : List ℕ) → SpellsElements k ts bytes → suc (length up) ≤ 256 → 256 < depth_of_trees ts + suc (length up) → TooDeepIn (items_of_trees ts) (slots.Elements k (count_of_trees ts) ∷ up) (bytes ++ more)
  trees_deep no_trees k up bytes more h most deep = absurd (omega arith)
  trees_deep (one_tree t ts) k up bytes more (is, (first, rest, one, others, laid)) most deep =
      let n = count_of_trees ts in
      let less : n + 1 - 1 ≡ n = omega arith in
      rw (laid, append_assoc first rest more)
      (first_or_rest t (slots.Elements k (n + 1) ∷ up) (slots.Elements k n ∷ up) first (rest ++ more) (sym is, omega arith) (ap (λ m. slots.Elements k m ∷ up) less) one (λ deeper. value_deep t (slots.Elements k (n + 1) ∷ up) first (rest ++ more) (sym is, omega arith) one most deeper)
      (λ shallow. trees_deep ts k up rest more others most (omega arith)))

  pairs_deep : (ps : Pairs) (key value : Kind) (up : List Slot) (bytes more : List ℕ) → SpellsPairs key value ps bytes → suc (length up) ≤ 256 → 256 < depth_of_pairs ps + suc (length up) → TooDeepIn (items_of_pairs ps) (slots.Keys key value (count_of_pairs ps) ∷ up) (bytes ++ more)
  pairs_deep no_pairs key value up bytes more h most deep = absurd (omega arith)
  pairs_deep (one_pair k v ps) key value up bytes more (is, was, (first, second, rest, one, two, others, laid)) most deep =
      let n = count_of_pairs ps in
      let less : n + 1 - 1 ≡ n = omega arith in
      rw (laid, append_assoc first (second ++ rest) more, append_assoc second rest more)
      (first_or_rest k (slots.Keys key value (n + 1) ∷ up) (slots.Values key value (n + 1) ∷ up) first (second ++ (rest ++ more)) (sym is, omega arith) refl one (λ deeper. value_deep k (slots.Keys key value (n + 1) ∷ up) first (second ++ (rest ++ more)) (sym is, omega arith) one most deeper)
      (λ shallow. first_or_rest v (slots.Values key value (n + 1) ∷ up) (slots.Keys key value n ∷ up) second (rest ++ more) (sym was) (ap (λ m. slots.Keys key value m ∷ up) less) two (λ deeper. value_deep v (slots.Values key value (n + 1) ∷ up) second (rest ++ more) (sym was) two most deeper)
      (λ flat. pairs_deep ps key value up rest more others most (omega arith))))

-- ---- a whole frame

pub halts_here : (s : State) (nest : List Slot) (bytes : List ℕ) → At s nest bytes → scan_at (first_of nest) (length nest) bytes ≡ fault 0 reasons.TooDeep → reads s ≡ Err (record { place = s.place + 0; reason = reasons.TooDeep })
unfolding reads
halts_here s nest bytes a e =
    ap (λ l. moved s (scan_at (first_of s.nest) (length s.nest) l)) (rest_is s nest bytes a) ∙ ap (λ n. moved s (scan_at (first_of n) (length n) bytes)) a.open_levels ∙ ap (moved s) e

abbrev reason_in : Scan Item → Reason
reason_in (Ok x) = reasons.Truncated
reason_in (Err f) = f.reason

not_deep : reasons.Trailing ≡ reasons.TooDeep → ⊥
not_deep e = absurd (cc)

pub some_level : (nest : List Slot) (bytes : List ℕ) → scan_at (first_of nest) (length nest) bytes ≡ fault 0 reasons.TooDeep → nest ≡ [] → ⊥
some_level [] bytes e none = not_deep (ap reason_in e)
some_level (slot ∷ up) bytes e none = absurd (cc)

pub deep_refused : (m : Message) (bytes : List ℕ) → BinarySpells m bytes → 256 ≤ depth_of_members m.body → (f : Fault) × IsRefused bytes f × (f.reason ≡ reasons.TooDeep)
deep_refused m bytes (small, fits, (header, body, head, members, laid)) deep =
    let first = headed_state bytes (length header) in
    let scan = ap head_at laid ∙ head_again m small fits body header head in
    let at : At first body_open (body ++ []) = record { front = header; open_levels = refl; laid = laid ∙ ap (λ b. header ++ b) (sym (append-nil body)); place = omega arith } in
    let d = members_deep m.body (pos 0) [] body [] members (omega arith) (omega arith) in
    let w = walk_reads d.items first body_open (body ++ []) d.last d.left at d.walks in
    let is = halts_here w.0 d.last d.left w.2 d.halts in (
      record { place = w.0.place + 0; reason = reasons.TooDeep },
      inr (header_of_message m, d.items, first, w.0, head_is bytes (header_of_message m) (length header) scan, w.1, inl ((λ none. some_level d.last d.left d.halts (sym w.2.open_levels ∙ none)), is)),
      refl,
    )

pub not_viable : (bytes : List ℕ) (f : Fault) → AreBytes bytes → IsRefused bytes f → (f.reason ≡ reasons.Truncated → ⊥) → (f.reason ≡ reasons.TooDeep → ⊥) → IsViable bytes → ⊥
not_viable bytes f are refused whole shallow (more, m, spells) = by_depth (nat_lt (depth_of_members m.body) 256) refl
  where
    by_depth : (b : Bool) → nat_lt (depth_of_members m.body) 256 ≡ b → ⊥
    by_depth true e = (refused_stays bytes more f are refused whole).1 m (grind (arith, nat_tests)) spells
    by_depth false e =
        let d = deep_refused m (bytes ++ more) spells (grind (arith, nat_tests)) in
        shallow (ap (λ (g : Fault). g.reason) (one_fault (bytes ++ more) f d.0 (refused_stays bytes more f are refused whole).0 d.1) ∙ d.2)
