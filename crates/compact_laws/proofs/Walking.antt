-- Whole values, item by item, as steps of the open levels, of what the last byte told and of the bytes that are left.
use Rattle.std.proofs.Common.{◌≡◌, ℕ, ℤ, pos, suc, ◌+◌, ◌-◌, ◌<◌, ◌≤◌, Bool, true, false, List, [], ◌∷◌, ◌++◌, length, Ok, refl, ap, ◌∙◌, sym, subst, arith, inl, inr, append_assoc}
use Rattle.std.specs.Prelude.{nat_le, ◌==◌, ◌&&◌, if◌then◌else◌, reverse}
use Rattle.std.specs.Int.{w8, cast_unsigned}
use Rattle.std.proofs.lemmas.Bool.Decides.{nat_tests}
use Rattle.std.proofs.lemmas.List.{length-reverse}
use Rattle.thrift_value.specs.declared.kind.Kind.{Kind}
use Rattle.thrift_value.specs.declared.kind.Kind.TheVariants as kinds
use Rattle.thrift_value.specs.Items.{Item, bool_value, i8_value, i16_value, i32_value, i64_value, double_value, text, struct_begin, empty_map, map_begin, set_begin, list_begin, end, uuid_value}
use Rattle.thrift_value.specs.Trees.{Tree, truth, whole_8, whole_16, whole_32, whole_64, double, characters, loose_number, loose_text, structure, mapping_of_none, mapping, collection, sequence, unique_id, Members, no_members, one_member, Trees, no_trees, one_tree, Pairs, no_pairs, one_pair, kind_of, count_of_trees, count_of_pairs, items_of, items_of_members, items_of_trees, items_of_pairs, depth_of, depth_of_members, depth_of_trees, depth_of_pairs}
use Rattle.protocol_traits.specs.declared.fault.Reason.TheVariants as reasons
use Rattle.protocol_traits.specs.declared.nest.Slot.{Slot}
use Rattle.protocol_traits.specs.declared.nest.Slot.TheVariants as slots
use Rattle.protocol_traits.specs.Stack.{first_of}
use Rattle.protocol_traits.specs.Follow.{spent, after}
use Rattle.compact_protocol.specs.Codes.{code_of}
use Rattle.compact_protocol.specs.Scan.{fault, flag_of, value_at, value_in, opens, is_bool, field_value, next_of, item_in}
use Rattle.compact_protocol.specs.Reading.{scan_at}
use Rattle.compact_protocol.specs.Grammar.{field_code, is_told, IsFieldHeader, SpellsValue, SpellsMembers, SpellsElements, SpellsPairs}
use Rattle.binary_laws.proofs.Walking.{length-spent}
use Rattle.compact_laws.proofs.Leaves.{IsCode, code_again, flag_again, bool_again, i8_again, i16_again, i32_again, i64_again, eight_again, sixteen_again, text_again, list_again, set_again, map_again, no_map_again, field_again, told_again, stop_again}

abbrev pub Walks : List Slot → Bool → List ℕ → List Item → List Slot → List ℕ → Type 0
Walks nest flag bytes [] last left = (nest ≡ last) × (bytes ≡ left)
Walks nest flag bytes (item ∷ items) last left =
    (front : List ℕ) × (rest : List ℕ) × (bytes ≡ front ++ rest) × (scan_at (first_of nest) (length nest) flag bytes ≡ Ok (item, length front)) × Walks (after item nest) (flag_of bytes) rest items last left

-- the innermost level calls for a value of this kind, whose bytes are still to come
abbrev pub CallsFor : List Slot → Kind → Type 0
CallsFor [] kind = ⊥
CallsFor (slots.Fields last ∷ up) kind = ⊥
CallsFor (slots.Value k id ∷ up) kind = (k ≡ kind) × (is_bool kind ≡ false)
CallsFor (slots.Elements k left ∷ up) kind = (k ≡ kind) × (0 < left)
CallsFor (slots.Keys key value left ∷ up) kind = (key ≡ kind) × (0 < left)
CallsFor (slots.Values key value left ∷ up) kind = value ≡ kind

-- one walk after another, whatever the byte before the second told
pub walks_append : (xs ys : List Item) (nest : List Slot) (flag : Bool) (bytes : List ℕ) (mid : List Slot) (between : List ℕ) (last : List Slot) (left : List ℕ)
    → Walks nest flag bytes xs mid between → ((told : Bool) → Walks mid told between ys last left) → Walks nest flag bytes (xs ++ ys) last left
walks_append [] ys nest flag bytes mid between last left w v = rw (w.0, w.1) (v flag)
walks_append (x ∷ xs) ys nest flag bytes mid between last left w v = (w.0, w.1, w.2, w.3, walks_append xs ys (after x nest) (flag_of bytes) w.1 mid between last left w.4 v)

-- the innermost level reads a value
pub calls : (nest : List Slot) (flag : Bool) (kind : Kind) (bytes : List ℕ) → CallsFor nest kind → scan_at (first_of nest) (length nest) flag bytes ≡ value_in (length nest) kind bytes
unfolding item_in field_value next_of
calls [] flag kind bytes h = absurd h
calls (slots.Fields last ∷ up) flag kind bytes h = absurd h
calls (slots.Value k id ∷ up) flag kind bytes h = rw (h.0, h.1) refl
calls (slots.Elements k left ∷ up) flag kind bytes h = let some : (left == 0) ≡ false = grind (arith, nat_tests) in rw (h.0, some) refl
calls (slots.Keys key value left ∷ up) flag kind bytes h = let some : (left == 0) ≡ false = grind (arith, nat_tests) in rw (h.0, some) refl
calls (slots.Values key value left ∷ up) flag kind bytes h = rw h refl

-- a level may be opened
pub opened : (depth : ℕ) (kind : Kind) (bytes : List ℕ) → depth < 256 → value_in depth kind bytes ≡ value_at kind bytes
unfolding value_in
opened depth kind bytes h = let t : nat_le 256 depth ≡ false = grind (arith, nat_tests) in rw t (shut (opens kind))
  where
    shut : (b : Bool) → (if b && false then fault 0 reasons.TooDeep else value_at kind bytes) ≡ value_at kind bytes
    shut true = refl
    shut false = refl

-- and a value with no level is read at any depth
pub flat : (depth : ℕ) (kind : Kind) (bytes : List ℕ) → opens kind ≡ false → value_in depth kind bytes ≡ value_at kind bytes
unfolding value_in
flat depth kind bytes h = rw h refl

-- one item that is a whole value
one : (nest : List Slot) (flag : Bool) (kind : Kind) (item : Item) (front more : List ℕ) → CallsFor nest kind → opens kind ≡ false → value_at kind (front ++ more) ≡ Ok (item, length front) → after item nest ≡ spent nest
    → Walks nest flag (front ++ more) (item ∷ []) (spent nest) more
one nest flag kind item front more c n e a = (front, more, refl, calls nest flag kind (front ++ more) c ∙ flat (length nest) kind (front ++ more) n ∙ e, (a, refl))

-- an item that opens a level
begins : (nest : List Slot) (flag : Bool) (kind : Kind) (item : Item) (items : List Item) (front rest left : List ℕ) (last : List Slot) → CallsFor nest kind → length nest < 256 → value_at kind (front ++ rest) ≡ Ok (item, length front)
    → ((told : Bool) → Walks (after item nest) told rest items last left) → Walks nest flag (front ++ rest) (item ∷ items) last left
begins nest flag kind item items front rest left last c n e w = (front, rest, refl, calls nest flag kind (front ++ rest) c ∙ opened (length nest) kind (front ++ rest) n ∙ e, w (flag_of (front ++ rest)))

-- the end of a container takes no byte
ended : (k : Kind) (up : List Slot) (flag : Bool) (more : List ℕ) → Walks (slots.Elements k 0 ∷ up) flag more (end ∷ []) up more
unfolding item_in next_of
ended k up flag more = ([], more, refl, refl, (refl, refl))

ended_pairs : (key value : Kind) (up : List Slot) (flag : Bool) (more : List ℕ) → Walks (slots.Keys key value 0 ∷ up) flag more (end ∷ []) up more
unfolding item_in next_of
ended_pairs key value up flag more = ([], more, refl, refl, (refl, refl))

-- ---- fields

no_bool : true ≡ false → ⊥
no_bool e = absurd (cc)

yes_bool : false ≡ true → ⊥
yes_bool e = absurd (cc)

-- what a field's byte tells of its kind
pub field_code_again : (t : Tree) → IsCode (field_code t) (kind_of t)
field_code_again (truth b) = flag_again b
field_code_again (whole_8 n) = code_again kinds.I8
field_code_again (whole_16 n) = code_again kinds.I16
field_code_again (whole_32 n) = code_again kinds.I32
field_code_again (whole_64 n) = code_again kinds.I64
field_code_again (double bytes) = code_again kinds.Double
field_code_again (characters bytes) = code_again kinds.Str
field_code_again (loose_number bytes) = code_again kinds.Double
field_code_again (loose_text bytes) = code_again kinds.Str
field_code_again (structure ms) = code_again kinds.Struct
field_code_again mapping_of_none = code_again kinds.Map
field_code_again (mapping key value ps) = code_again kinds.Map
field_code_again (collection kind ts) = code_again kinds.Set
field_code_again (sequence kind ts) = code_again kinds.List
field_code_again (unique_id bytes) = code_again kinds.Uuid

-- no bool is left to come
pub untold : (t : Tree) → is_told t ≡ false → is_bool (kind_of t) ≡ false
untold (truth b) e = absurd (no_bool e)
untold (whole_8 n) e = refl
untold (whole_16 n) e = refl
untold (whole_32 n) e = refl
untold (whole_64 n) e = refl
untold (double bytes) e = refl
untold (characters bytes) e = refl
untold (loose_number bytes) e = refl
untold (loose_text bytes) e = refl
untold (structure ms) e = refl
untold mapping_of_none e = refl
untold (mapping key value ps) e = refl
untold (collection kind ts) e = refl
untold (sequence kind ts) e = refl
untold (unique_id bytes) e = refl

-- what is told is a bool
pub told_is : (t : Tree) → is_told t ≡ true → (b : Bool) × (t ≡ truth b)
told_is (truth b) e = (b, refl)
told_is (whole_8 n) e = absurd (yes_bool e)
told_is (whole_16 n) e = absurd (yes_bool e)
told_is (whole_32 n) e = absurd (yes_bool e)
told_is (whole_64 n) e = absurd (yes_bool e)
told_is (double bytes) e = absurd (yes_bool e)
told_is (characters bytes) e = absurd (yes_bool e)
told_is (loose_number bytes) e = absurd (yes_bool e)
told_is (loose_text bytes) e = absurd (yes_bool e)
told_is (structure ms) e = absurd (yes_bool e)
told_is mapping_of_none e = absurd (yes_bool e)
told_is (mapping key value ps) e = absurd (yes_bool e)
told_is (collection kind ts) e = absurd (yes_bool e)
told_is (sequence kind ts) e = absurd (yes_bool e)
told_is (unique_id bytes) e = absurd (yes_bool e)

-- and the field's byte has the code of its kind
pub told_code : (t : Tree) → is_told t ≡ false → field_code t ≡ code_of (kind_of t)
told_code (truth b) e = absurd (no_bool e)
told_code (whole_8 n) e = refl
told_code (whole_16 n) e = refl
told_code (whole_32 n) e = refl
told_code (whole_64 n) e = refl
told_code (double bytes) e = refl
told_code (characters bytes) e = refl
told_code (loose_number bytes) e = refl
told_code (loose_text bytes) e = refl
told_code (structure ms) e = refl
told_code mapping_of_none e = refl
told_code (mapping key value ps) e = refl
told_code (collection kind ts) e = refl
told_code (sequence kind ts) e = refl
told_code (unique_id bytes) e = refl

-- a bool field's value is what its byte told, and takes none
told_walks : (b : Bool) (id : ℤ) (up : List Slot) (flag : Bool) (more : List ℕ) → flag ≡ b → Walks (slots.Value kinds.Bool id ∷ up) flag more (bool_value b ∷ []) (slots.Fields id ∷ up) more
unfolding item_in field_value
told_walks b id up flag more e = ([], more, refl, ap (λ f. Ok (bool_value f, 0)) e, (refl, refl))

-- a bool field
pub bool_walks : (t : Tree) (last id : ℤ) (up : List Slot) (header value more : List ℕ) → IsFieldHeader last id (field_code t) header → is_told t ≡ true → value ≡ []
    → Walks (slots.Value (kind_of t) id ∷ up) (flag_of (header ++ (value ++ more))) (value ++ more) (items_of t) (slots.Fields id ∷ up) more
bool_walks t last id up header value more h told none =
    let b = told_is t told in
    let head = subst (λ x. IsFieldHeader last id (field_code x) header) b.1 h in
    let walk = told_walks b.0 id up (flag_of (header ++ more)) more (told_again last id b.0 header more head) in
    rw (none, b.1) walk

mutual
  unfolding value_at item_in

  pub value_walks : (t : Tree) (nest : List Slot) (flag : Bool) (bytes more : List ℕ) → CallsFor nest (kind_of t) → SpellsValue t bytes → depth_of t + length nest ≤ 256
      → Walks nest flag (bytes ++ more) (items_of t) (spent nest) more
  value_walks (truth b) nest flag bytes more c (byte, is, laid) deep = rw laid (one nest flag kinds.Bool (bool_value b) (byte ∷ []) more c refl (bool_again b byte more is) refl)
  value_walks (whole_8 n) nest flag bytes more c h deep = rw h.1 (one nest flag kinds.I8 (i8_value n) (cast_unsigned w8 n ∷ []) more c refl (i8_again n more h.0) refl)
  value_walks (whole_16 n) nest flag bytes more c h deep = one nest flag kinds.I16 (i16_value n) bytes more c refl (i16_again n bytes more h) refl
  value_walks (whole_32 n) nest flag bytes more c h deep = one nest flag kinds.I32 (i32_value n) bytes more c refl (i32_again n bytes more h) refl
  value_walks (whole_64 n) nest flag bytes more c h deep = one nest flag kinds.I64 (i64_value n) bytes more c refl (i64_again n bytes more h) refl
  value_walks (double eight) nest flag bytes more c h deep =
      let long : 8 ≡ length (reverse eight) = sym (length-reverse eight ∙ h.0) in
      rw h.1 (one nest flag kinds.Double (double_value eight) (reverse eight) more c refl (eight_again eight more h.0 ∙ ap (λ k. Ok (double_value eight, k)) long) refl)
  value_walks (characters b) nest flag bytes more c h deep = one nest flag kinds.Str (text b) bytes more c refl (text_again b bytes more h) refl
  value_walks (loose_number b) nest flag bytes more c h deep = absurd h
  value_walks (loose_text b) nest flag bytes more c h deep = absurd h
  value_walks (unique_id sixteen) nest flag bytes more c h deep =
      rw h.1 (one nest flag kinds.Uuid (uuid_value sixteen) sixteen more c refl (sixteen_again sixteen more h.0 ∙ ap (λ k. Ok (uuid_value sixteen, k)) (sym h.0)) refl)
  value_walks (structure ms) nest flag bytes more c h deep =
      begins nest flag kinds.Struct struct_begin (items_of_members ms) [] (bytes ++ more) more (spent nest) c (omega arith) refl (λ told. members_walk ms (pos 0) (spent nest) told bytes more h (omega (arith, length-spent nest)))
  value_walks mapping_of_none nest flag bytes more c h deep =
      begins nest flag kinds.Map empty_map [] bytes more more (spent nest) c (omega arith) (no_map_again bytes more h) (λ told. (refl, refl))
  value_walks (mapping key value ps) nest flag bytes more c (some, (header, pairs, head, spelled, laid)) deep =
      rw (laid, append_assoc header pairs more)
      (begins nest flag kinds.Map (map_begin key value (count_of_pairs ps)) (items_of_pairs ps) header (pairs ++ more) more (spent nest) c (omega arith) (map_again key value (count_of_pairs ps) header (pairs ++ more) some head)
      (λ told. pairs_walk ps key value (spent nest) told pairs more spelled (omega (arith, length-spent nest))))
  value_walks (collection kind ts) nest flag bytes more c (small, (header, elements, head, spelled, laid)) deep =
      rw (laid, append_assoc header elements more)
      (begins nest flag kinds.Set (set_begin kind (count_of_trees ts)) (items_of_trees ts) header (elements ++ more) more (spent nest) c (omega arith) (set_again kind (count_of_trees ts) header (elements ++ more) head)
      (λ told. trees_walk ts kind (spent nest) told elements more spelled (omega (arith, length-spent nest))))
  value_walks (sequence kind ts) nest flag bytes more c (small, (header, elements, head, spelled, laid)) deep =
      rw (laid, append_assoc header elements more)
      (begins nest flag kinds.List (list_begin kind (count_of_trees ts)) (items_of_trees ts) header (elements ++ more) more (spent nest) c (omega arith) (list_again kind (count_of_trees ts) header (elements ++ more) head)
      (λ told. trees_walk ts kind (spent nest) told elements more spelled (omega (arith, length-spent nest))))

  pub members_walk : (ms : Members) (last : ℤ) (up : List Slot) (flag : Bool) (bytes more : List ℕ) → SpellsMembers last ms bytes → depth_of_members ms + suc (length up) ≤ 256
      → Walks (slots.Fields last ∷ up) flag (bytes ++ more) (items_of_members ms) up more
  members_walk no_members last up flag bytes more h deep = rw h (0 ∷ [], more, refl, stop_again last more, (refl, refl))
  members_walk (one_member id t ms) last up flag bytes more (header, value, rest, head, inl (told, none), others, laid) deep =
      rw (laid, append_assoc header (value ++ rest) more, append_assoc value rest more) (
        header,
        value ++ (rest ++ more),
        refl,
        field_again last id (field_code t) (kind_of t) header (value ++ (rest ++ more)) (field_code_again t) head,
        walks_append (items_of t) (items_of_members ms) (slots.Value (kind_of t) id ∷ up) (flag_of (header ++ (value ++ (rest ++ more)))) (value ++ (rest ++ more)) (slots.Fields id ∷ up) (rest ++ more) up more
            (bool_walks t last id up header value (rest ++ more) head told none)
            (λ flag. members_walk ms id up flag rest more others (omega arith)),
      )
  members_walk (one_member id t ms) last up flag bytes more (header, value, rest, head, inr (not, spelled), others, laid) deep =
      rw (laid, append_assoc header (value ++ rest) more, append_assoc value rest more) (
        header,
        value ++ (rest ++ more),
        refl,
        field_again last id (field_code t) (kind_of t) header (value ++ (rest ++ more)) (field_code_again t) head,
        walks_append (items_of t) (items_of_members ms) (slots.Value (kind_of t) id ∷ up) (flag_of (header ++ (value ++ (rest ++ more)))) (value ++ (rest ++ more)) (slots.Fields id ∷ up) (rest ++ more) up more
            (value_walks t (slots.Value (kind_of t) id ∷ up) (flag_of (header ++ (value ++ (rest ++ more)))) value (rest ++ more) (refl, untold t not) spelled (omega arith))
            (λ flag. members_walk ms id up flag rest more others (omega arith)),
      )

  trees_walk : (ts : Trees) (k : Kind) (up : List Slot) (flag : Bool) (bytes more : List ℕ) → SpellsElements k ts bytes → depth_of_trees ts + suc (length up) ≤ 256
      → Walks (slots.Elements k (count_of_trees ts) ∷ up) flag (bytes ++ more) (items_of_trees ts) up more
  trees_walk no_trees k up flag bytes more h deep = rw h (ended k up flag more)
  trees_walk (one_tree t ts) k up flag bytes more (kind, (first, rest, spelled, others, laid)) deep =
      let n = count_of_trees ts in
      let less : n + 1 - 1 ≡ n = omega arith in
      let one = value_walks t (slots.Elements k (n + 1) ∷ up) flag first (rest ++ more) (sym kind, omega arith) spelled (omega arith) in
      rw (laid, append_assoc first rest more)
      (walks_append (items_of t) (items_of_trees ts) (slots.Elements k (n + 1) ∷ up) flag (first ++ (rest ++ more)) (slots.Elements k n ∷ up) (rest ++ more) up more
      (rw less at one) (λ told. trees_walk ts k up told rest more others (omega arith)))

  pairs_walk : (ps : Pairs) (key value : Kind) (up : List Slot) (flag : Bool) (bytes more : List ℕ) → SpellsPairs key value ps bytes → depth_of_pairs ps + suc (length up) ≤ 256
      → Walks (slots.Keys key value (count_of_pairs ps) ∷ up) flag (bytes ++ more) (items_of_pairs ps) up more
  pairs_walk no_pairs key value up flag bytes more h deep = rw h (ended_pairs key value up flag more)
  pairs_walk (one_pair k v ps) key value up flag bytes more (is_key, is_value, (first, second, rest, spelled, valued, others, laid)) deep =
      let n = count_of_pairs ps in
      let less : n + 1 - 1 ≡ n = omega arith in
      let a = value_walks k (slots.Keys key value (n + 1) ∷ up) flag first (second ++ (rest ++ more)) (sym is_key, omega arith) spelled (omega arith) in
      let b = (λ (told : Bool). rw less at (value_walks v (slots.Values key value (n + 1) ∷ up) told second (rest ++ more) (sym is_value) valued (omega arith))) in
      rw (laid, append_assoc first (second ++ rest) more, append_assoc second rest more)
      (walks_append (items_of k) (items_of v ++ items_of_pairs ps) (slots.Keys key value (n + 1) ∷ up) flag (first ++ (second ++ (rest ++ more))) (slots.Values key value (n + 1) ∷ up) (second ++ (rest ++ more)) up more
      a (λ told. walks_append (items_of v) (items_of_pairs ps) (slots.Values key value (n + 1) ∷ up) told (second ++ (rest ++ more)) (slots.Keys key value n ∷ up) (rest ++ more) up more
      (b told) (λ again. pairs_walk ps key value up again rest more others (omega arith))))
