-- Whole values, item by item, as steps of the open levels and the bytes that are left.
use Rattle.std.proofs.Common.{◌≡◌, ℕ, ℤ, pos, suc, ◌+◌, ◌-◌, ◌<◌, ◌≤◌, Bool, true, false, List, [], ◌∷◌, ◌++◌, length, Ok, refl, ap, ◌∙◌, sym, arith, append_assoc}
use Rattle.std.specs.Prelude.{nat_le, ◌==◌, ◌&&◌, if◌then◌else◌}
use Rattle.std.specs.Int.{w8, w16, w32, w64}
use Rattle.std.proofs.lemmas.Bool.Decides.{nat_tests}
use Rattle.thrift_value.specs.declared.kind.Kind.{Kind}
use Rattle.thrift_value.specs.declared.kind.Kind.TheVariants as kinds
use Rattle.thrift_value.specs.Items.{Item, bool_value, i8_value, i16_value, i32_value, i64_value, double_value, text, struct_begin, empty_map, map_begin, set_begin, list_begin, end, uuid_value}
use Rattle.thrift_value.specs.Trees.{Tree, truth, whole_8, whole_16, whole_32, whole_64, double, characters, loose_number, loose_text, structure, mapping_of_none, mapping, collection, sequence, unique_id, Members, no_members, one_member, Trees, no_trees, one_tree, Pairs, no_pairs, one_pair, kind_of, count_of_trees, count_of_pairs, items_of, items_of_members, items_of_trees, items_of_pairs, depth_of, depth_of_members, depth_of_trees, depth_of_pairs}
use Rattle.protocol_traits.specs.declared.fault.Reason.TheVariants as reasons
use Rattle.protocol_traits.specs.declared.nest.Slot.{Slot}
use Rattle.protocol_traits.specs.declared.nest.Slot.TheVariants as slots
use Rattle.protocol_traits.specs.Stack.{first_of}
use Rattle.protocol_traits.specs.Follow.{spent, after}
use Rattle.binary_protocol.specs.Codes.{code_of_kind}
use Rattle.binary_protocol.specs.Scan.{fault, value_at, value_in, nests}
use Rattle.binary_protocol.specs.Reading.{scan_at}
use Rattle.binary_protocol.specs.Grammar.{number, size, string, flag, SpellsValue, SpellsMembers, SpellsElements, SpellsPairs}
use Rattle.binary_laws.proofs.Leaves.{bool_again, i8_again, i16_again, i32_again, i64_again, eight_bytes, sixteen_bytes, text_again, list_again, set_again, map_again, no_map_again, field_again, stop_again}

abbrev pub Walks : List Slot → List ℕ → List Item → List Slot → List ℕ → Type 0
Walks nest bytes [] last left = (nest ≡ last) × (bytes ≡ left)
Walks nest bytes (item ∷ items) last left =
    (front : List ℕ) × (rest : List ℕ) × (bytes ≡ front ++ rest) × (scan_at (first_of nest) (length nest) bytes ≡ Ok (item, length front)) × Walks (after item nest) rest items last left

-- the innermost level calls for a value of this kind
abbrev pub CallsFor : List Slot → Kind → Type 0
CallsFor [] kind = ⊥
CallsFor (slots.Fields last ∷ up) kind = ⊥
CallsFor (slots.Value k id ∷ up) kind = k ≡ kind
CallsFor (slots.Elements k left ∷ up) kind = (k ≡ kind) × (0 < left)
CallsFor (slots.Keys key value left ∷ up) kind = (key ≡ kind) × (0 < left)
CallsFor (slots.Values key value left ∷ up) kind = value ≡ kind

-- one walk after another
pub walks_append : (xs ys : List Item) (nest : List Slot) (bytes : List ℕ) (mid : List Slot) (between : List ℕ) (last : List Slot) (left : List ℕ)
    → Walks nest bytes xs mid between → Walks mid between ys last left → Walks nest bytes (xs ++ ys) last left
walks_append [] ys nest bytes mid between last left w v = rw (w.0, w.1) v
walks_append (x ∷ xs) ys nest bytes mid between last left w v = (w.0, w.1, w.2, w.3, walks_append xs ys (after x nest) w.1 mid between last left w.4 v)

-- the innermost level reads a value
pub calls : (nest : List Slot) (kind : Kind) (bytes : List ℕ) → CallsFor nest kind → scan_at (first_of nest) (length nest) bytes ≡ value_in (length nest) kind bytes
calls [] kind bytes h = absurd h
calls (slots.Fields last ∷ up) kind bytes h = absurd h
calls (slots.Value k id ∷ up) kind bytes h = rw h refl
calls (slots.Elements k left ∷ up) kind bytes h = let some : (left == 0) ≡ false = grind (arith, nat_tests) in rw (h.0, some) refl
calls (slots.Keys key value left ∷ up) kind bytes h = let some : (left == 0) ≡ false = grind (arith, nat_tests) in rw (h.0, some) refl
calls (slots.Values key value left ∷ up) kind bytes h = rw h refl

-- a level may be opened
pub opened : (depth : ℕ) (kind : Kind) (bytes : List ℕ) → depth < 256 → value_in depth kind bytes ≡ value_at kind bytes
unfolding value_in
opened depth kind bytes h = let t : nat_le 256 depth ≡ false = grind (arith, nat_tests) in rw t (shut (nests kind))
  where
    shut : (b : Bool) → (if b && false then fault 0 reasons.TooDeep else value_at kind bytes) ≡ value_at kind bytes
    shut true = refl
    shut false = refl

-- and a value with no level is read at any depth
pub flat : (depth : ℕ) (kind : Kind) (bytes : List ℕ) → nests kind ≡ false → value_in depth kind bytes ≡ value_at kind bytes
unfolding value_in
flat depth kind bytes h = rw h refl

pub length-spent : (nest : List Slot) → length (spent nest) ≡ length nest
length-spent [] = refl
length-spent (slots.Fields last ∷ up) = refl
length-spent (slots.Value k id ∷ up) = refl
length-spent (slots.Elements k left ∷ up) = refl
length-spent (slots.Keys key value left ∷ up) = refl
length-spent (slots.Values key value left ∷ up) = refl

-- one item that is a whole value
one : (nest : List Slot) (kind : Kind) (item : Item) (front more : List ℕ) → CallsFor nest kind → nests kind ≡ false → value_at kind (front ++ more) ≡ Ok (item, length front) → after item nest ≡ spent nest
    → Walks nest (front ++ more) (item ∷ []) (spent nest) more
one nest kind item front more c n e a = (front, more, refl, calls nest kind (front ++ more) c ∙ flat (length nest) kind (front ++ more) n ∙ e, (a, refl))

-- an item that opens a level
opens : (nest : List Slot) (kind : Kind) (item : Item) (items : List Item) (front rest left : List ℕ) (last : List Slot) → CallsFor nest kind → length nest < 256 → value_at kind (front ++ rest) ≡ Ok (item, length front)
    → Walks (after item nest) rest items last left → Walks nest (front ++ rest) (item ∷ items) last left
opens nest kind item items front rest left last c n e w = (front, rest, refl, calls nest kind (front ++ rest) c ∙ opened (length nest) kind (front ++ rest) n ∙ e, w)

-- the end of a container takes no byte
ended : (k : Kind) (up : List Slot) (more : List ℕ) → Walks (slots.Elements k 0 ∷ up) more (end ∷ []) up more
ended k up more = ([], more, refl, refl, (refl, refl))

ended_pairs : (key value : Kind) (up : List Slot) (more : List ℕ) → Walks (slots.Keys key value 0 ∷ up) more (end ∷ []) up more
ended_pairs key value up more = ([], more, refl, refl, (refl, refl))

mutual
  unfolding value_at

  pub value_walks : (t : Tree) (nest : List Slot) (bytes more : List ℕ) → CallsFor nest (kind_of t) → SpellsValue t bytes → depth_of t + length nest ≤ 256
      → Walks nest (bytes ++ more) (items_of t) (spent nest) more
  value_walks (truth b) nest bytes more c h deep = rw h (one nest kinds.Bool (bool_value b) (flag b ∷ []) more c refl (bool_again b more) refl)
  value_walks (whole_8 n) nest bytes more c h deep = rw h.1 (one nest kinds.I8 (i8_value n) (number w8 n) more c refl (i8_again n more h.0) refl)
  value_walks (whole_16 n) nest bytes more c h deep = rw h.1 (one nest kinds.I16 (i16_value n) (number w16 n) more c refl (i16_again n more h.0) refl)
  value_walks (whole_32 n) nest bytes more c h deep = rw h.1 (one nest kinds.I32 (i32_value n) (number w32 n) more c refl (i32_again n more h.0) refl)
  value_walks (whole_64 n) nest bytes more c h deep = rw h.1 (one nest kinds.I64 (i64_value n) (number w64 n) more c refl (i64_again n more h.0) refl)
  value_walks (double eight) nest bytes more c h deep =
      rw h.1 (one nest kinds.Double (double_value eight) eight more c refl (eight_bytes eight more h.0 ∙ ap (λ k. Ok (double_value eight, k)) (sym h.0)) refl)
  value_walks (characters b) nest bytes more c h deep =
      let long : length b + 4 ≡ length (string b) = omega arith in
      rw h.1 (one nest kinds.Str (text b) (string b) more c refl (text_again b more h.0 ∙ ap (λ k. Ok (text b, k)) long) refl)
  value_walks (loose_number b) nest bytes more c h deep = absurd h
  value_walks (loose_text b) nest bytes more c h deep = absurd h
  value_walks (unique_id sixteen) nest bytes more c h deep =
      rw h.1 (one nest kinds.Uuid (uuid_value sixteen) sixteen more c refl (sixteen_bytes sixteen more h.0 ∙ ap (λ k. Ok (uuid_value sixteen, k)) (sym h.0)) refl)
  value_walks (structure ms) nest bytes more c h deep =
      opens nest kinds.Struct struct_begin (items_of_members ms) [] (bytes ++ more) more (spent nest) c (omega arith) refl (members_walk ms (pos 0) (spent nest) bytes more h (omega (arith, length-spent nest)))
  value_walks mapping_of_none nest bytes more c (key, value, a, b, e) deep =
      rw e (opens nest kinds.Map empty_map [] (key ∷ value ∷ size 0) more more (spent nest) c (omega arith) (no_map_again key value more a b) (refl, refl))
  value_walks (mapping key value ps) nest bytes more c h deep =
      let pairs = h.2.0 in
      let head = code_of_kind key ∷ code_of_kind value ∷ size (count_of_pairs ps) in
      rw (h.2.2, append_assoc head pairs more)
      (opens nest kinds.Map (map_begin key value (count_of_pairs ps)) (items_of_pairs ps) head (pairs ++ more) more (spent nest) c (omega arith) (map_again key value (count_of_pairs ps) (pairs ++ more) h.0 h.1)
      (pairs_walk ps key value (spent nest) pairs more h.2.1 (omega (arith, length-spent nest))))
  value_walks (collection kind ts) nest bytes more c h deep =
      let elements = h.1.0 in
      let head = code_of_kind kind ∷ size (count_of_trees ts) in
      rw (h.1.2, append_assoc head elements more)
      (opens nest kinds.Set (set_begin kind (count_of_trees ts)) (items_of_trees ts) head (elements ++ more) more (spent nest) c (omega arith) (set_again kind (count_of_trees ts) (elements ++ more) h.0)
      (trees_walk ts kind (spent nest) elements more h.1.1 (omega (arith, length-spent nest))))
  value_walks (sequence kind ts) nest bytes more c h deep =
      let elements = h.1.0 in
      let head = code_of_kind kind ∷ size (count_of_trees ts) in
      rw (h.1.2, append_assoc head elements more)
      (opens nest kinds.List (list_begin kind (count_of_trees ts)) (items_of_trees ts) head (elements ++ more) more (spent nest) c (omega arith) (list_again kind (count_of_trees ts) (elements ++ more) h.0)
      (trees_walk ts kind (spent nest) elements more h.1.1 (omega (arith, length-spent nest))))

  pub members_walk : (ms : Members) (id : ℤ) (up : List Slot) (bytes more : List ℕ) → SpellsMembers ms bytes → depth_of_members ms + suc (length up) ≤ 256
      → Walks (slots.Fields id ∷ up) (bytes ++ more) (items_of_members ms) up more
  members_walk no_members id up bytes more h deep = rw h (0 ∷ [], more, refl, stop_again more, (refl, refl))
  members_walk (one_member new t ms) id up bytes more h deep =
      let value = h.1.0 in
      let rest = h.1.1 in
      let head = code_of_kind (kind_of t) ∷ number w16 new in
      rw (h.1.4, append_assoc head (value ++ rest) more, append_assoc value rest more) (
        head,
        value ++ (rest ++ more),
        refl,
        field_again (kind_of t) new (value ++ (rest ++ more)) h.0,
        walks_append (items_of t) (items_of_members ms) (slots.Value (kind_of t) new ∷ up) (value ++ (rest ++ more)) (slots.Fields new ∷ up) (rest ++ more) up more
            (value_walks t (slots.Value (kind_of t) new ∷ up) value (rest ++ more) refl h.1.2 (omega arith))
            (members_walk ms new up rest more h.1.3 (omega arith)),
      )

  trees_walk : (ts : Trees) (k : Kind) (up : List Slot) (bytes more : List ℕ) → SpellsElements k ts bytes → depth_of_trees ts + suc (length up) ≤ 256
      → Walks (slots.Elements k (count_of_trees ts) ∷ up) (bytes ++ more) (items_of_trees ts) up more
  trees_walk no_trees k up bytes more h deep = rw h (ended k up more)
  trees_walk (one_tree t ts) k up bytes more h deep =
      let first = h.1.0 in
      let rest = h.1.1 in
      let n = count_of_trees ts in
      let less : n + 1 - 1 ≡ n = omega arith in
      let one = value_walks t (slots.Elements k (n + 1) ∷ up) first (rest ++ more) (sym h.0, omega arith) h.1.2 (omega arith) in
      rw (h.1.4, append_assoc first rest more)
      (walks_append (items_of t) (items_of_trees ts) (slots.Elements k (n + 1) ∷ up) (first ++ (rest ++ more)) (slots.Elements k n ∷ up) (rest ++ more) up more
      (rw less at one) (trees_walk ts k up rest more h.1.3 (omega arith)))

  pairs_walk : (ps : Pairs) (key value : Kind) (up : List Slot) (bytes more : List ℕ) → SpellsPairs key value ps bytes → depth_of_pairs ps + suc (length up) ≤ 256
      → Walks (slots.Keys key value (count_of_pairs ps) ∷ up) (bytes ++ more) (items_of_pairs ps) up more
  pairs_walk no_pairs key value up bytes more h deep = rw h (ended_pairs key value up more)
  pairs_walk (one_pair k v ps) key value up bytes more h deep =
      let first = h.2.0 in
      let second = h.2.1 in
      let rest = h.2.2 in
      let n = count_of_pairs ps in
      let less : n + 1 - 1 ≡ n = omega arith in
      let a = value_walks k (slots.Keys key value (n + 1) ∷ up) first (second ++ (rest ++ more)) (sym h.0, omega arith) h.2.3 (omega arith) in
      let b = value_walks v (slots.Values key value (n + 1) ∷ up) second (rest ++ more) (sym h.1) h.2.4 (omega arith) in
      rw (h.2.6, append_assoc first (second ++ rest) more, append_assoc second rest more)
      (walks_append (items_of k) (items_of v ++ items_of_pairs ps) (slots.Keys key value (n + 1) ∷ up) (first ++ (second ++ (rest ++ more))) (slots.Values key value (n + 1) ∷ up) (second ++ (rest ++ more)) up more
      a (walks_append (items_of v) (items_of_pairs ps) (slots.Values key value (n + 1) ∷ up) (second ++ (rest ++ more)) (slots.Keys key value n ∷ up) (rest ++ more) up more
      (rw less at b) (pairs_walk ps key value up rest more h.2.5 (omega arith))))
