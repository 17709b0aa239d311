-- Where a message has a value that lies too deep, it is refused there or before.
use Rattle.std.proofs.Common.{◌≡◌, ℕ, pos, zero, suc, ◌+◌, ◌<◌, ◌≤◌, ◌^◌, Bool, true, false, cond, List, [], ◌∷◌, ◌++◌, length, take, drop, Option, Some, None, Ok, Err, refl, ap, ◌∙◌, sym, subst, arith, ◌⊎◌, inl, inr, length-append, length-take-le}
use Rattle.std.specs.Prelude.{nat_lt, nat_le, ◌==◌, ◌&&◌, slice_index, FitsSigned}
use Rattle.std.specs.Int.{w32}
use Rattle.std.proofs.lemmas.Bool.Decides.{nat_tests}
use Rattle.std.proofs.lemmas.List.{append-nil, take-append-drop}
use Rattle.thrift_value.specs.declared.kind.Kind.{Kind}
use Rattle.thrift_value.specs.declared.kind.Kind.TheVariants as kinds
use Rattle.thrift_value.specs.Items.{Item, field, stop, bool_value, i8_value, i16_value, i32_value, i64_value, double_value, text, number_text, unknown_text, struct_begin, empty_map, map_begin, set_begin, list_begin, end, uuid_value}
use Rattle.thrift_value.specs.Trees.{Message, items_of_members, depth_of_members}
use Rattle.protocol_traits.specs.declared.fault.Fault.{Fault}
use Rattle.protocol_traits.specs.declared.fault.Reason.{Reason}
use Rattle.protocol_traits.specs.declared.fault.Reason.TheVariants as reasons
use Rattle.protocol_traits.specs.declared.nest.Slot.{Slot}
use Rattle.protocol_traits.specs.declared.nest.Slot.TheVariants as slots
use Rattle.protocol_traits.specs.Stack.{first_of}
use Rattle.protocol_traits.specs.Follow.{after}
use Rattle.binary_protocol.specs.declared.scan.Called.TheVariants as calls
use Rattle.binary_protocol.specs.Codes.{kind_of_code}
use Rattle.binary_protocol.specs.Scan.{Scan, fault, ◌>>=◌, nests, bool_at, i8_at, i16_at, i32_at, i64_at, double_at, uuid_at, string_at, text_at, field_at, field_of, value_at, value_in, item_called, item_in}
use Rattle.binary_protocol.specs.Heads.{head_at}
use Rattle.binary_protocol.specs.Reading.{State, rest, scan_at, reads, body_open}
use Rattle.binary_protocol.specs.Grammar.{BinarySpells, SpellsMembers, SpellsStrictHeader, SpellsOldHeader}
use Rattle.gate_base.specs.Bytes.{AreBytes}
use Rattle.binary_laws.specs.Called.{width_of_all, depth_behind, HasPart, HasItem, HasAt, IsCalled}
use Rattle.binary_laws.specs.Reads.{Reads, header_of_message}
use Rattle.binary_laws.specs.Refused.{IsRefused}
use Rattle.binary_laws.proofs.Inverse.{no_fault, same_value, same_size, bytes_front}
use Rattle.binary_laws.proofs.Walking.{Walks, members_walk}
use Rattle.binary_laws.proofs.Heading.{head_again}
use Rattle.binary_laws.proofs.Spelled.{At, walk_reads, headed_state, head_is}
use Rattle.binary_laws.proofs.Sound.{moved_read}
use Rattle.binary_laws.proofs.Staying.{refused_stays}
use Rattle.binary_laws.proofs.Parts.{Tells, length_tells, either_tells, read_tells, row_tells, item_wide}
use Rattle.binary_laws.proofs.Calling.{depth_is}
use Rattle.binary_laws.proofs.Deep.{TooDeepIn, members_deep, halts_here, some_level}
use Rattle.binary_laws.proofs.Placed.{not_cut, deep_front}

-- ---- no value that lies too deep is read

abbrev Opens : Item → Type 0
Opens x = (d : ℕ) × (at : ℕ) × HasPart d x reasons.TooDeep at

abbrev pub Anything : Reason → ℕ → Type 0
Anything r at = Unit {0}

abbrev Flat : Item → ℕ → Type 0
Flat x n = Opens x → ⊥

bool_flat : (l : List ℕ) → Tells Anything Flat (bool_at l)
unfolding bool_at
bool_flat l = length_tells Anything Flat l 1 _ (λ h. either_tells Anything Flat (slice_index l 0 == 0) _ _ (read_tells Anything Flat (bool_value false) 1 (none false)) (either_tells Anything Flat (slice_index l 0 == 1) _ _ (read_tells Anything Flat (bool_value true) 1 (none true)) (row_tells Anything Flat 0 reasons.BadBool tt)))
  where
    none : (b : Bool) → Opens (bool_value b) → ⊥
    none b (d, at, p) = let e = p.0 in absurd (cc)

i8_flat : (l : List ℕ) → Tells Anything Flat (i8_at l)
unfolding i8_at
i8_flat l = length_tells Anything Flat l 1 _ (λ h. read_tells Anything Flat _ 1 (λ p. absurd p.2))

i16_flat : (l : List ℕ) → Tells Anything Flat (i16_at l)
unfolding i16_at
i16_flat l = length_tells Anything Flat l 2 _ (λ h. read_tells Anything Flat _ 2 (λ p. absurd p.2))

i32_flat : (l : List ℕ) → Tells Anything Flat (i32_at l)
unfolding i32_at
i32_flat l = length_tells Anything Flat l 4 _ (λ h. read_tells Anything Flat _ 4 (λ p. absurd p.2))

i64_flat : (l : List ℕ) → Tells Anything Flat (i64_at l)
unfolding i64_at
i64_flat l = length_tells Anything Flat l 8 _ (λ h. read_tells Anything Flat _ 8 (λ p. absurd p.2))

double_flat : (l : List ℕ) → Tells Anything Flat (double_at l)
unfolding double_at
double_flat l = length_tells Anything Flat l 8 _ (λ h. read_tells Anything Flat _ 8 (λ p. absurd p.2))

uuid_flat : (l : List ℕ) → Tells Anything Flat (uuid_at l)
unfolding uuid_at
uuid_flat l = length_tells Anything Flat l 16 _ (λ h. read_tells Anything Flat _ 16 (λ p. absurd p.2))

text_flat : (l : List ℕ) (x : Item) (n : ℕ) → text_at l ≡ Ok (x, n) → Opens x → ⊥
unfolding text_at
text_flat l x n e = by_string (string_at l) e
  where
    none : (name : List ℕ) → Opens (text name) → ⊥
    none name (d, at, p) = let e = p.0 in absurd (cc)

    by_string : (s : Scan (List ℕ)) → (s >>= λ y. Ok (text y.0, y.1)) ≡ Ok (x, n) → Opens x → ⊥
    by_string (Err g) h o = absurd (no_fault _ (x, n) h)
    by_string (Ok y) h o = none y.0 (subst Opens (sym (same_value (text y.0) x y.1 n h)) o)

value_flat : (k : Kind) (l : List ℕ) (x : Item) (n : ℕ) → nests k ≡ false → value_at k l ≡ Ok (x, n) → Opens x → ⊥
unfolding value_at
value_flat kinds.Bool l x n flat e = (bool_flat l).good x n e
value_flat kinds.I8 l x n flat e = (i8_flat l).good x n e
value_flat kinds.I16 l x n flat e = (i16_flat l).good x n e
value_flat kinds.I32 l x n flat e = (i32_flat l).good x n e
value_flat kinds.I64 l x n flat e = (i64_flat l).good x n e
value_flat kinds.Double l x n flat e = (double_flat l).good x n e
value_flat kinds.Uuid l x n flat e = (uuid_flat l).good x n e
value_flat kinds.Str l x n flat e = text_flat l x n e
value_flat kinds.Struct l x n flat e = absurd (cc)
value_flat kinds.Map l x n flat e = absurd (cc)
value_flat kinds.Set l x n flat e = absurd (cc)
value_flat kinds.List l x n flat e = absurd (cc)

-- a part that lies too deep is inside 256 levels
deep_part : (d : ℕ) (x : Item) (at : ℕ) → HasPart d x reasons.TooDeep at → d ≡ 256
deep_part d struct_begin at p = p.1
deep_part d empty_map at (inl p) = let e = p.0 in absurd (cc)
deep_part d empty_map at (inr (inl p)) = let e = p.0 in absurd (cc)
deep_part d empty_map at (inr (inr (inl p))) = let e = p.0 in absurd (cc)
deep_part d empty_map at (inr (inr (inr p))) = p.1
deep_part d (map_begin key value n) at (inl p) = let e = p.0 in absurd (cc)
deep_part d (map_begin key value n) at (inr (inl p)) = let e = p.0 in absurd (cc)
deep_part d (map_begin key value n) at (inr (inr (inl p))) = let e = p.0 in absurd (cc)
deep_part d (map_begin key value n) at (inr (inr (inr p))) = p.1
deep_part d (set_begin kind n) at (inl p) = let e = p.0 in absurd (cc)
deep_part d (set_begin kind n) at (inr (inl p)) = let e = p.0 in absurd (cc)
deep_part d (set_begin kind n) at (inr (inr p)) = p.1
deep_part d (list_begin kind n) at (inl p) = let e = p.0 in absurd (cc)
deep_part d (list_begin kind n) at (inr (inl p)) = let e = p.0 in absurd (cc)
deep_part d (list_begin kind n) at (inr (inr p)) = p.1
deep_part d (field id kind) at p = let e = p.0 in absurd (cc)
deep_part d stop at p = let e = p.0 in absurd (cc)
deep_part d (bool_value b) at p = let e = p.0 in absurd (cc)
deep_part d (text l) at p = let e = p.0 in absurd (cc)
deep_part d (i8_value n) at p = absurd p
deep_part d (i16_value n) at p = absurd p
deep_part d (i32_value n) at p = absurd p
deep_part d (i64_value n) at p = absurd p
deep_part d (double_value l) at p = absurd p
deep_part d (number_text l) at p = absurd p
deep_part d (unknown_text l) at p = absurd p
deep_part d end at p = absurd p
deep_part d (uuid_value l) at p = absurd p

abbrev NoOpening : ℕ → (List ℕ → Scan Item) → Type 0
NoOpening d scan = (l : List ℕ) (x : Item) (n at : ℕ) → scan l ≡ Ok (x, n) → HasPart d x reasons.TooDeep at → ⊥

and_true : (a b : Bool) → b ≡ true → (a && b) ≡ false → a ≡ false
and_true true true p q = absurd (cc)
and_true true false p q = absurd (cc)
and_true false b p q = refl

value_shut : (d : ℕ) (k : Kind) → NoOpening d (value_in d k)
unfolding value_in
value_shut d k l x n at e p = by_test (nests k && nat_le 256 d) refl e
  where
    deep : nat_le 256 d ≡ true
    deep = let is = deep_part d x at p in grind (arith, nat_tests)

    by_test : (b : Bool) → (nests k && nat_le 256 d) ≡ b → cond b (fault 0 reasons.TooDeep) (value_at k l) ≡ Ok (x, n) → ⊥
    by_test true t h = no_fault _ (x, n) h
    by_test false t h = value_flat k l x n (and_true (nests k) (nat_le 256 d) deep t) h (d, at, p)

no_field : reasons.TooDeep ≡ reasons.BadKind → ⊥
no_field e = absurd (cc)

field_of_flat : (found : Option Kind) (l : List ℕ) → Tells Anything Flat (field_of found l)
field_of_flat None l = row_tells Anything Flat 0 reasons.BadKind tt
field_of_flat (Some k) l = length_tells Anything Flat l 3 _ (λ h. read_tells Anything Flat _ 3 (λ o. no_field o.2.0))

field_flat : (l : List ℕ) → Tells Anything Flat (field_at l)
unfolding field_at
field_flat l = length_tells Anything Flat l 1 _ (λ h. either_tells Anything Flat (slice_index l 0 == 0) _ _ (read_tells Anything Flat stop 1 (λ o. no_field o.2.0)) (field_of_flat (kind_of_code (slice_index l 0)) l))

called_shut : (d : ℕ) (k : Kind) (b : Bool) → NoOpening d (item_called d (cond b calls.End (calls.Value k)))
called_shut d k true l x n at e p = absurd (subst (λ i. HasPart d i reasons.TooDeep at) (sym (same_value end x 0 n e)) p)
called_shut d k false l x n at e p = value_shut d k l x n at e p

item_shut : (d : ℕ) (slot : Slot) → NoOpening d (item_in d slot)
item_shut d (slots.Fields last) l x n at e p = (field_flat l).good x n e (d, at, p)
item_shut d (slots.Value k id) l x n at e p = value_shut d k l x n at e p
item_shut d (slots.Elements k left) l x n at e p = called_shut d k (left == 0) l x n at e p
item_shut d (slots.Keys key value left) l x n at e p = called_shut d key (left == 0) l x n at e p
item_shut d (slots.Values key value left) l x n at e p = value_shut d value l x n at e p

-- ---- items that are walked

walks_shut : (before : List Item) (x : Item) (ys : List Item) (nest : List Slot) (bytes : List ℕ) (last : List Slot) (left : List ℕ) (at : ℕ) → Walks nest bytes (before ++ x ∷ ys) last left → HasPart (depth_behind before (length nest)) x reasons.TooDeep at → ⊥
walks_shut [] x ys [] bytes last left at (front, rest, laid, scan, w) p = no_fault _ (x, length front) scan
walks_shut [] x ys (slot ∷ up) bytes last left at (front, rest, laid, scan, w) p = item_shut (suc (length up)) slot bytes x (length front) at scan p
walks_shut (b ∷ before) x ys [] bytes last left at (front, rest, laid, scan, w) p = no_fault _ (b, length front) scan
walks_shut (b ∷ before) x ys (slot ∷ up) bytes last left at (front, rest, laid, scan, w) p =
    walks_shut before x ys (after b (slot ∷ up)) rest last left at w (subst (λ d. HasPart (depth_behind before d) x reasons.TooDeep at) (depth_is b slot up) p)

pub walks_wide : (items : List Item) (nest : List Slot) (bytes : List ℕ) (last : List Slot) (left : List ℕ) → Walks nest bytes items last left → length bytes ≡ width_of_all items + length left
walks_wide [] nest bytes last left w = let same = ap length w.1 in omega (arith, same)
walks_wide (x ∷ xs) [] bytes last left (front, rest, laid, scan, w) = absurd (no_fault _ (x, length front) scan)
walks_wide (x ∷ xs) (slot ∷ up) bytes last left (front, rest, laid, scan, w) =
    let wide = item_wide (suc (length up)) slot bytes x (length front) scan in
    let more = walks_wide xs (after x (slot ∷ up)) rest last left w in
    omega (arith, wide, more, ap length laid, length-append front rest)

pub width_append : (xs ys : List Item) → width_of_all (xs ++ ys) ≡ width_of_all xs + width_of_all ys
width_append [] ys = omega arith
width_append (x ∷ xs) ys = let more = width_append xs ys in omega (arith, more)

pub item_first : (x y : Item) (xs ys : List Item) → x ∷ xs ≡ y ∷ ys → x ≡ y
item_first x y xs ys e = cc

pub item_rest : (x y : Item) (xs ys : List Item) → x ∷ xs ≡ y ∷ ys → xs ≡ ys
item_rest x y xs ys e = cc

-- what is walked goes past the item, or no further than to it
split_items : (before : List Item) (x : Item) (behind xs others : List Item) → before ++ x ∷ behind ≡ xs ++ others → ((ys : List Item) × (xs ≡ before ++ x ∷ ys)) ⊎ ((ys : List Item) × (before ≡ xs ++ ys))
split_items before x behind [] others e = inr (before, refl)
split_items [] x behind (y ∷ ys) others e = inl (ys, ap (λ z. z ∷ ys) (sym (item_first _ _ _ _ e)))
split_items (b ∷ before) x behind (y ∷ ys) others e = by_rest (split_items before x behind ys others (item_rest _ _ _ _ e))
  where
    same : b ≡ y
    same = item_first _ _ _ _ e

    by_rest : ((zs : List Item) × (ys ≡ before ++ x ∷ zs)) ⊎ ((zs : List Item) × (before ≡ ys ++ zs)) → ((zs : List Item) × (y ∷ ys ≡ (b ∷ before) ++ x ∷ zs)) ⊎ ((zs : List Item) × (b ∷ before ≡ (y ∷ ys) ++ zs))
    by_rest (inl (zs, h)) = inl (zs, ap (λ l. y ∷ l) h ∙ ap (λ z. z ∷ (before ++ x ∷ zs)) (sym same))
    by_rest (inr (zs, h)) = inr (zs, ap (λ l. b ∷ l) h ∙ ap (λ z. z ∷ (ys ++ zs)) same)

-- ---- a whole frame

step_frame : (s next : State) (item : Item) → reads s ≡ Ok (item, next) → next.frame ≡ s.frame
unfolding reads
step_frame s next item e = ap (λ (x : State). x.frame) (moved_read s (scan_at (first_of s.nest) (length s.nest) (rest s)) item next e).2

pub reads_frame : (items : List Item) (s last : State) → Reads s items last → last.frame ≡ s.frame
reads_frame [] s last r = ap (λ (x : State). x.frame) (sym r)
reads_frame (item ∷ items) s last (next, step, more) = reads_frame items next last more ∙ step_frame s next item step

-- a fault of depth, at this place or before
abbrev pub DeepBy : List ℕ → ℕ → Type 0
DeepBy bytes place = (g : Fault) × IsRefused bytes g × (g.reason ≡ reasons.TooDeep) × (g.place ≤ place)

-- the walk up to a value that lies too deep goes no further than to this item
by_split : (all before : List Item) (x : Item) (behind : List Item) (at : ℕ) (nest : List Slot) (bytes : List ℕ) → all ≡ before ++ x ∷ behind → HasPart (depth_behind before (length nest)) x reasons.TooDeep at → (d : TooDeepIn all nest bytes)
    → width_of_all d.items ≤ width_of_all before
by_split all before x behind at nest bytes is part d = by_side (split_items before x behind d.items d.others (sym is ∙ d.is))
  where
    by_side : ((ys : List Item) × (d.items ≡ before ++ x ∷ ys)) ⊎ ((ys : List Item) × (before ≡ d.items ++ ys)) → width_of_all d.items ≤ width_of_all before
    by_side (inl (ys, h)) = absurd (walks_shut before x ys nest bytes d.last d.left at (subst (λ l. Walks nest bytes l d.last d.left) h d.walks) part)
    by_side (inr (ys, h)) = let wide = ap width_of_all h ∙ width_append d.items ys in omega (arith, wide)

deep_by : (m : Message) (bytes header body : List ℕ) → length m.name < 2 ^ 31 → FitsSigned w32 m.seq → SpellsStrictHeader m header ⊎ SpellsOldHeader m header → SpellsMembers m.body body → bytes ≡ header ++ body → 256 ≤ depth_of_members m.body
    → (before : List Item) (x : Item) (behind : List Item) (at : ℕ) → items_of_members m.body ≡ before ++ x ∷ behind → HasPart (depth_behind before 1) x reasons.TooDeep at → DeepBy bytes (length header + width_of_all before)
deep_by m bytes header body small fits head members laid deep before x behind at items part =
    let first = headed_state bytes (length header) in
    let scan = ap head_at laid ∙ head_again m small fits body header head in
    let at_first : At first body_open (body ++ []) = record { front = header; open_levels = refl; laid = laid ∙ ap (λ b. header ++ b) (sym (append-nil body)); place = omega arith } in
    let d = members_deep m.body (pos 0) [] body [] members (omega arith) (omega arith) in
    let w = walk_reads d.items first body_open (body ++ []) d.last d.left at_first d.walks in
    let is = halts_here w.0 d.last d.left w.2 d.halts in
    let s = w.0 in
    let wide = walks_wide d.items body_open (body ++ []) d.last d.left d.walks in
    let frame = ap length (reads_frame d.items first s w.1) in
    let size = ap length laid ∙ length-append header body in
    let none = ap length (append-nil body) in
    let place = w.2.place in
    let split = ap length w.2.laid ∙ length-append w.2.front d.left in
    let less = by_split (items_of_members m.body) before x behind at body_open (body ++ []) items part d in (
      record { place = s.place + 0; reason = reasons.TooDeep },
      inr (header_of_message m, d.items, first, s, head_is bytes (header_of_message m) (length header) scan, w.1, inl ((λ none. some_level d.last d.left d.halts (sym w.2.open_levels ∙ none)), is)),
      refl,
      omega (arith, wide, frame, size, none, place, split, less),
    )

shallow_shut : (m : Message) (header body : List ℕ) → SpellsMembers m.body body → depth_of_members m.body < 256
    → (before : List Item) (x : Item) (behind : List Item) (at : ℕ) → items_of_members m.body ≡ before ++ x ∷ behind → HasPart (depth_behind before 1) x reasons.TooDeep at → ⊥
shallow_shut m header body members deep before x behind at items part =
    walks_shut before x behind body_open (body ++ []) [] [] at (subst (λ l. Walks body_open (body ++ []) l [] []) items (members_walk m.body (pos 0) [] body [] members (omega arith))) part

-- the header of a message is of one length
pub one_header : (m : Message) (bytes header body other rest : List ℕ) → length m.name < 2 ^ 31 → FitsSigned w32 m.seq → SpellsStrictHeader m header ⊎ SpellsOldHeader m header → SpellsStrictHeader m other ⊎ SpellsOldHeader m other
    → bytes ≡ header ++ body → bytes ≡ other ++ rest → length header ≡ length other
one_header m bytes header body other rest small fits p q e h =
    same_size (header_of_message m) (header_of_message m) (length header) (length other) (sym (ap head_at e ∙ head_again m small fits body header p) ∙ (ap head_at h ∙ head_again m small fits rest other q))

item_deep_by : (m : Message) (bytes : List ℕ) (place : ℕ) → BinarySpells m bytes → HasItem m bytes reasons.TooDeep place → DeepBy bytes place
item_deep_by m bytes place (small, fits, (header, body, head, members, laid)) i = by_depth (nat_lt (depth_of_members m.body) 256) refl
  where
    by_depth : (b : Bool) → nat_lt (depth_of_members m.body) 256 ≡ b → DeepBy bytes place
    by_depth true e = absurd (shallow_shut m header body members (grind (arith, nat_tests)) i.before i.item i.behind i.at i.items i.part)
    by_depth false e =
        let d = deep_by m bytes header body small fits head members laid (grind (arith, nat_tests)) i.before i.item i.behind i.at i.items i.part in
        let less = d.3 in
        let is = i.is in
        let same = one_header m bytes header body i.header i.body small fits head i.head laid i.laid in
        (d.0, d.1, d.2, omega (arith, less, is, same))

called_deep_by : (m : Message) (bytes : List ℕ) (place : ℕ) → BinarySpells m bytes → HasAt m bytes reasons.TooDeep place → DeepBy bytes place
called_deep_by m bytes place spells (inl (header, body, laid, head, inl p)) = let e = p.0 in absurd (cc)
called_deep_by m bytes place spells (inl (header, body, laid, head, inr (inl p))) = let e = p.0 in absurd (cc)
called_deep_by m bytes place spells (inl (header, body, laid, head, inr (inr p))) = let e = p.0 in absurd (cc)
called_deep_by m bytes place spells (inr (inl (header, body, laid, head, p))) = let e = p.0 in absurd (cc)
called_deep_by m bytes place spells (inr (inr i)) = item_deep_by m bytes place spells i

pub take_kept : (n : ℕ) (l more : List ℕ) → n ≤ length l → take n (l ++ more) ≡ take n l
take_kept zero l more h = refl
take_kept (suc n) [] more h = absurd (omega arith)
take_kept (suc n) (x ∷ l) more h = ap (λ r. x ∷ r) (take_kept n l more (omega arith))

pub take_take : (n m : ℕ) (l : List ℕ) → n ≤ m → take n (take m l) ≡ take n l
take_take zero m l h = refl
take_take (suc n) zero l h = absurd (omega arith)
take_take (suc n) (suc m) [] h = refl
take_take (suc n) (suc m) (x ∷ l) h = ap (λ r. x ∷ r) (take_take n m l (omega arith))

-- a value that lies too deep in what begins so lies so in the frame
pub deep_over : (bytes more : List ℕ) (place : ℕ) (g : Fault) → AreBytes bytes → place ≤ length bytes → IsRefused (take place bytes ++ more) g → g.reason ≡ reasons.TooDeep → g.place ≤ place → IsRefused bytes g
deep_over bytes more place g are less refused deep within =
    let w = take place bytes ++ more in
    let n = g.place in
    let size = length-take-le place bytes less in
    let same : take n w ≡ take n bytes = take_kept n (take place bytes) more (omega (arith, within, size)) ∙ take_take n place bytes within in
    let front_are = (bytes_front (take n bytes) (drop n bytes) (subst AreBytes (sym (take-append-drop n bytes)) are)).0 in
    let stops : IsRefused (take n bytes) g = subst (λ l. IsRefused l g) same (deep_front w g refused deep (subst AreBytes (sym same) front_are)) in
    subst (λ l. IsRefused l g) (take-append-drop n bytes) (refused_stays (take n bytes) (drop n bytes) g front_are stops (λ t. not_cut (sym deep ∙ t))).0

-- where a value is called for that lies too deep, the frame is refused there or before
pub called_deep : (bytes : List ℕ) (place : ℕ) → AreBytes bytes → place ≤ length bytes → IsCalled reasons.TooDeep bytes place → DeepBy bytes place
called_deep bytes place are less (more, m, spells, has) =
    let d = called_deep_by m (take place bytes ++ more) place spells has in
    (d.0, deep_over bytes more place d.0 are less d.1 d.2 d.3, d.2, d.3)
