-- A message that lies deeper than 256 levels is refused as too deep.
use Rattle.std.proofs.Common.{◌≡◌, ℕ, suc, pos, ◌+◌, ◌<◌, ◌≤◌, ◌^◌, Bool, true, false, cond, List, [], ◌∷◌, ◌++◌, length, drop, Option, Some, Ok, Err, refl, ap, ◌∙◌, sym, subst, arith, ◌⊎◌, inl, inr}
use Rattle.std.specs.Prelude.{nat_le, ◌==◌, ◌&&◌}
use Rattle.std.proofs.lemmas.List.{append-nil}
use Rattle.thrift_value.specs.declared.kind.Kind.{Kind}
use Rattle.thrift_value.specs.Items.{Item}
use Rattle.thrift_value.specs.Trees.{Message, items_of_members, depth_of_members}
use Rattle.protocol_traits.specs.declared.fault.Fault.{Fault}
use Rattle.protocol_traits.specs.declared.fault.Reason.TheVariants as reasons
use Rattle.protocol_traits.specs.declared.nest.Slot.{Slot}
use Rattle.protocol_traits.specs.declared.nest.Slot.TheVariants as slots
use Rattle.protocol_traits.specs.declared.proto.Hint.{Hint}
use Rattle.protocol_traits.specs.Stack.{first_of}
use Rattle.protocol_traits.specs.Follow.{after}
use Rattle.type_tables.specs.declared.declared.StructId.{StructId}
use Rattle.type_tables.specs.Declarations.{Declarations}
use Rattle.type_walk.specs.Positions.{Position, hint_of, standing, start}
use Rattle.type_walk.specs.Positions.{after as position_after}
use Rattle.json_text.specs.Grammar.{AreWhite}
use Rattle.json_text_laws.proofs.Choices.{cond_true, cond_false}
use Rattle.json_protocol.specs.declared.opening.Opening.{Opening}
use Rattle.json_protocol.specs.declared.opening.Opening.TheVariants as openings
use Rattle.json_protocol.specs.Scan.{Scan, fault, shifted}
use Rattle.json_protocol.specs.Values.{end_at, opens, value_at, value_in}
use Rattle.json_protocol.specs.Reading.{State, begun, lead_at, item_in, begun_at, led, scan_at, opening_after, moved, reads}
use Rattle.json_protocol.specs.Head.{reads_head, reads_end}
use Rattle.json_protocol.specs.Grammar.{mark, SpellsMessage}
use Rattle.binary_laws.specs.Reads.{header_of_message}
use Rattle.json_laws.specs.Positions.{declared_of, body_of}
use Rattle.json_laws.specs.Reads.{Reads, IsRead}
use Rattle.json_laws.specs.Refused.{behind, Refuses, IsRefused}
use Rattle.json_laws.proofs.Marks.{Lies}
use Rattle.json_laws.proofs.Places.{start_is}
use Rattle.json_laws.proofs.Walking.{Walks, opened}
use Rattle.json_laws.proofs.Spelled.{At, onward, reads_is, at_onward, ends, headed_state, head_is}
use Rattle.json_laws.proofs.Unique.{Read, read_of, one_message}
use Rattle.json_laws.proofs.Sound.{read_spelled}

-- ---- one item, inside all levels and at the top

abbrev too_deep : {X : Type 0} → Scan X
too_deep = fault 0 reasons.TooDeep

value_either : (depth : ℕ) (key : Bool) (hint : Hint) (k : Kind) (bytes : List ℕ) → (value_in depth key hint k bytes ≡ value_in 0 key hint k bytes) ⊎ (value_in depth key hint k bytes ≡ too_deep)
unfolding value_in
value_either depth key hint k bytes = by_test (opens k && nat_le 256 depth) refl
  where
    by_test : (b : Bool) → (opens k && nat_le 256 depth) ≡ b → (value_in depth key hint k bytes ≡ value_in 0 key hint k bytes) ⊎ (value_in depth key hint k bytes ≡ too_deep)
    by_test true e = inr (cond_true (opens k && nat_le 256 depth) too_deep (value_at key hint k bytes) e)
    by_test false e = inl (cond_false (opens k && nat_le 256 depth) too_deep (value_at key hint k bytes) e ∙ sym (opened [] 0 key hint k bytes (omega arith)))

or_end : (b : Bool) (done one two : Scan Item) → (one ≡ two) ⊎ (one ≡ too_deep) → (cond b done one ≡ cond b done two) ⊎ (cond b done one ≡ too_deep)
or_end true done one two h = inl refl
or_end false done one two h = h

item_either : (depth : ℕ) (opening : Opening) (hint : Hint) (slot : Slot) (bytes : List ℕ) → (item_in depth opening hint slot bytes ≡ item_in 0 opening hint slot bytes) ⊎ (item_in depth opening hint slot bytes ≡ too_deep)
unfolding item_in
item_either depth opening hint (slots.Fields last) bytes = inl refl
item_either depth opening hint (slots.Value k id) bytes = value_either depth false hint k bytes
item_either depth opening hint (slots.Elements k left) bytes = or_end (left == 0) (end_at bytes) (value_in depth false hint k bytes) (value_in 0 false hint k bytes) (value_either depth false hint k bytes)
item_either depth opening hint (slots.Keys k v left) bytes = or_end (left == 0) (end_at bytes) (value_in depth true hint k bytes) (value_in 0 true hint k bytes) (value_either depth true hint k bytes)
item_either depth opening hint (slots.Values k v left) bytes = value_either depth false hint v bytes

-- the same, or a fault for depth
abbrev Either : Scan (Item × ℕ) → Scan (Item × ℕ) → Type 0
Either one two = (one ≡ two) ⊎ ((f : Fault) × (one ≡ Err f) × (f.reason ≡ reasons.TooDeep))

led_either : (depth : ℕ) (opening : Opening) (hint : Hint) (slot : Slot) (bytes : List ℕ) (lead : Scan (Unit {0})) → Either (led depth opening hint slot bytes lead) (led 0 opening hint slot bytes lead)
led_either depth opening hint slot bytes (Err f) = inl refl
led_either depth opening hint slot bytes (Ok x) = by_item (item_either depth opening hint slot (drop x.1 bytes))
  where
    by_item : (item_in depth opening hint slot (drop x.1 bytes) ≡ item_in 0 opening hint slot (drop x.1 bytes)) ⊎ (item_in depth opening hint slot (drop x.1 bytes) ≡ too_deep)
        → Either (led depth opening hint slot bytes (Ok x)) (led 0 opening hint slot bytes (Ok x))
    by_item (inl e) = inl (ap (λ i. begun_at x.1 (shifted x.1 i)) e)
    by_item (inr e) = inr (_, ap (λ i. begun_at x.1 (shifted x.1 i)) e, refl)

-- ---- item after item

-- all items are read, and the end, or a fault for depth stands before
abbrev Outcome : Position → State → List Item → Type 0
Outcome p s items =
    ((last : State) × Reads p s items last × (last.nest ≡ []) × (reads_end last ≡ Ok (tt, last)))
    ⊎ ((xs : List Item) × (halt : State) × (f : Fault) × Reads p s xs halt × Refuses (behind p xs) halt f × (f.reason ≡ reasons.TooDeep))

longer : (p : Position) (s next : State) (item : Item) (items : List Item) → reads s (hint_of p) ≡ Ok (item, next) → Outcome (position_after p item) next items → Outcome p s (item ∷ items)
longer p s next item items e (inl (last, more, none, good)) = inl (last, (next, e, more), none, good)
longer p s next item items e (inr (xs, halt, f, more, refuses, deep)) = inr (item ∷ xs, halt, f, (next, e, more), refuses, deep)

some_level : (s : State) (slot : Slot) (up : List Slot) → s.nest ≡ slot ∷ up → s.nest ≡ [] → ⊥
some_level s slot up e none = let wrong = sym e ∙ none in absurd (cc)

reads_bad : (s : State) (p : Position) (nest : List Slot) (opening : Opening) (bytes : List ℕ) (f : Fault) → At s nest opening bytes → scan_at (length nest) opening (hint_of p) (first_of nest) bytes ≡ Err f
    → reads s (hint_of p) ≡ Err (record { place = s.place + f.place; reason = f.reason })
unfolding reads
reads_bad s p nest opening bytes f a e =
    ap (λ b. moved s (scan_at (length s.nest) s.opening (hint_of p) (first_of s.nest) b)) a.left
    ∙ ap (λ o. moved s (scan_at (length s.nest) o (hint_of p) (first_of s.nest) bytes)) a.begins
    ∙ ap (λ n. moved s (scan_at (length n) opening (hint_of p) (first_of n) bytes)) a.open_levels ∙ ap (moved s) e

goes : (white : List ℕ) (items : List Item) (s : State) (p : Position) (nest : List Slot) (opening : Opening) (bytes : List ℕ) (end : Position) → AreWhite white → At s nest opening bytes
    → Walks white (λ n. 0) p nest opening bytes items end [] (mark 93 ∷ []) → Outcome p s items
goes white [] s p nest opening bytes end are a w = inl (s, refl, a.open_levels ∙ w.1, ends white s are (subst (Lies white (mark 93 ∷ [])) (sym a.left) w.3))
goes white (item ∷ items) s p [] opening bytes end are a (place, taken, scan, w) = absurd (cc)
goes white (item ∷ items) s p (slot ∷ up) opening bytes end are a (place, taken, scan, w) =
    by_depth (led_either (suc (length up)) opening (hint_of p) slot bytes (lead_at opening slot bytes)) (goes white items (onward s item place taken) (position_after p item) (after item (slot ∷ up)) (opening_after item) (drop taken bytes) end are (at_onward s (slot ∷ up) opening bytes item place taken a) w)
  where
    by_depth : Either (scan_at (suc (length up)) opening (hint_of p) (Some slot) bytes) (scan_at 0 opening (hint_of p) (Some slot) bytes) → Outcome (position_after p item) (onward s item place taken) items → Outcome p s (item ∷ items)
    by_depth (inl e) later = longer p s (onward s item place taken) item items (reads_is s p (slot ∷ up) opening bytes item place taken a (e ∙ scan)) later
    by_depth (inr (f, e, deep)) later = inr ([], s, _, refl, inl (some_level s slot up a.open_levels, reads_bad s p (slot ∷ up) opening bytes f a e), deep)

-- ---- a whole frame

-- A message of any depth is read, or its bytes are refused for a value that lies too deep.
pub spelled_goes : (d : Declarations) (body : Option StructId) (m : Message) (bytes : List ℕ) → SpellsMessage (declared_of d) (body_of body) m bytes
    → IsRead (start d body) bytes (header_of_message m) (items_of_members m.body) ⊎ ((f : Fault) × IsRefused (start d body) bytes f × (f.reason ≡ reasons.TooDeep))
spelled_goes d body m bytes spelled =
    let r = read_of d body m bytes [] spelled in
    let white = subst AreWhite (sym (append-nil r.0)) r.1 in
    let read = subst (Read d body m (r.0 ++ [])) (append-nil bytes) r.2 in
    let first = headed_state bytes read.place read.past in
    let same : 0 + read.past ≡ read.past = omega arith in
    let at : At first (slots.Fields (pos 0) ∷ []) openings.Body (drop read.past bytes) = record { open_levels = refl; begins = refl; left = ap (λ n. drop n bytes) same } in
    let walk = subst (λ p. Walks (r.0 ++ []) (λ n. 0) p (slots.Fields (pos 0) ∷ []) openings.Body (drop read.past bytes) (items_of_members m.body) (standing d []) [] (mark 93 ∷ [])) (sym (start_is d body)) read.walk in
    let head = head_is bytes m read.place read.past read.head in
    by_outcome first head (goes (r.0 ++ []) (items_of_members m.body) first (start d body) (slots.Fields (pos 0) ∷ []) openings.Body (drop read.past bytes) (standing d []) white at walk)
  where
    by_outcome : (first : State) → reads_head (begun bytes) ≡ Ok (header_of_message m, first) → Outcome (start d body) first (items_of_members m.body)
        → IsRead (start d body) bytes (header_of_message m) (items_of_members m.body) ⊎ ((f : Fault) × IsRefused (start d body) bytes f × (f.reason ≡ reasons.TooDeep))
    by_outcome first head (inl (last, body_read, none, good)) = inl (first, last, head, body_read, none, good)
    by_outcome first head (inr (xs, halt, f, body_read, refuses, reason)) = inr (f, inr (header_of_message m, xs, first, halt, head, body_read, refuses), reason)

pub deeper_refused : (d : Declarations) (body : Option StructId) (m : Message) (bytes : List ℕ) → SpellsMessage (declared_of d) (body_of body) m bytes → length bytes < 2 ^ 31 → 256 ≤ depth_of_members m.body
    → (f : Fault) × IsRefused (start d body) bytes f × (f.reason ≡ reasons.TooDeep)
deeper_refused d body m bytes spelled small deep = by_outcome (spelled_goes d body m bytes spelled)
  where
    by_outcome : IsRead (start d body) bytes (header_of_message m) (items_of_members m.body) ⊎ ((f : Fault) × IsRefused (start d body) bytes f × (f.reason ≡ reasons.TooDeep)) → (f : Fault) × IsRefused (start d body) bytes f × (f.reason ≡ reasons.TooDeep)
    by_outcome (inl read) =
        let s = read_spelled d body bytes (header_of_message m) (items_of_members m.body) small read in
        let one = one_message d body m s.0 bytes [] spelled (subst (SpellsMessage (declared_of d) (body_of body) s.0) (sym (append-nil bytes)) s.4) in
        let less = s.3 in
        absurd (omega (arith, deep, less, ap (λ (n : Message). depth_of_members n.body) one.0))
    by_outcome (inr refused) = refused
