-- The first part that is called for and doesn't stand is the fault that is told, and no other.
use Rattle.std.proofs.Common.{◌≡◌, ℕ, suc, ◌+◌, ◌<◌, ◌^◌, List, [], ◌∷◌, length, drop, Some, Ok, Err, refl, ap, ◌∙◌, sym, subst, arith, ◌⊎◌, inl, inr}
use Rattle.thrift_value.specs.Items.{Item, end}
use Rattle.thrift_value.specs.Trees.{Message, depth_of_members, items_of_members}
use Rattle.protocol_traits.specs.declared.fault.Fault.{Fault}
use Rattle.protocol_traits.specs.declared.nest.Slot.{Slot}
use Rattle.protocol_traits.specs.Heads.{Header}
use Rattle.protocol_traits.specs.Stack.{first_of}
use Rattle.protocol_traits.specs.Follow.{after}
use Rattle.type_walk.specs.Positions.{Position, hint_of, start}
use Rattle.type_walk.specs.Positions.{after as position_after}
use Rattle.json_protocol.specs.declared.opening.Opening.{Opening}
use Rattle.json_protocol.specs.declared.opening.Opening.TheVariants as openings
use Rattle.json_protocol.specs.Scan.{Scan, ◌>>=◌}
use Rattle.json_protocol.specs.Reading.{State, begun, rest, opening_after, scan_at, moved, reads}
use Rattle.json_protocol.specs.Head.{head_at, headed, reads_head, end_scan, ended, reads_end}
use Rattle.binary_laws.specs.Reads.{header_of_message}
use Rattle.json_laws.specs.Fronts.{body_nest}
use Rattle.json_laws.specs.Reads.{Reads}
use Rattle.json_laws.specs.Refused.{behind, Refuses}
use Rattle.json_laws.specs.Stated.{Known, JsonSpells, IsRead, IsRefused, IsSpelled}
use Rattle.json_laws.specs.Faults.{FaultStands}
use Rattle.json_laws.specs.Plans.{header_plan, item_plan, last_plan, called_plan}
use Rattle.json_laws.specs.Firsts.{fault_at, Passes, Meets, IsBehind, BodyMeets, FirstFault, IsWhole, BodyPasses, FramePasses}
use Rattle.json_laws.proofs.Inverse.{is_read, is_fault, no_fault}
use Rattle.json_laws.proofs.Spelled.{At, onward, reads_is, at_onward, headed_state, spelled_read}
use Rattle.json_laws.proofs.Sound.{is_step, reads_back, end_back, begun_back, read_spelled}
use Rattle.json_laws.proofs.Either.{one_fault, read_or_refused, refused_spells_none}
use Rattle.json_laws.proofs.Standing.{fault_stands}
use Rattle.json_laws.proofs.Completing.{no_read}
use Rattle.json_laws.proofs.Viable.{reads_fault, ended_fault, begun_fault_of}
use Rattle.json_laws.proofs.PlanRuns.{passes_read, read_passes, meets_fault, fault_meets}
use Rattle.json_laws.proofs.PlanReads.{plain, plain_fault, plain_read, scan_run, item_proper, header_proper, head_run, last_run, last_proper}

-- ---- an item

item_fault : (p : Position) (slot : Slot) (up : List Slot) (opening : Opening) (bytes : List ℕ) (f : Fault) → Meets (called_plan p (slot ∷ up) opening) 0 bytes f → scan_at (suc (length up)) opening (hint_of p) (Some slot) bytes ≡ is_fault f
item_fault p slot up opening bytes f m =
    let depth = suc (length up) in
    plain_fault (scan_at depth opening (hint_of p) (Some slot) bytes) f (scan_run depth opening (hint_of p) slot bytes ∙ meets_fault (item_plan depth opening (hint_of p) slot) 0 bytes f (item_proper depth opening (hint_of p) slot) (omega arith) m)

item_meets : (p : Position) (slot : Slot) (up : List Slot) (opening : Opening) (bytes : List ℕ) (f : Fault) → scan_at (suc (length up)) opening (hint_of p) (Some slot) bytes ≡ is_fault f → Meets (called_plan p (slot ∷ up) opening) 0 bytes f
item_meets p slot up opening bytes f e =
    let depth = suc (length up) in
    fault_meets (item_plan depth opening (hint_of p) slot) 0 bytes f (item_proper depth opening (hint_of p) slot) (omega arith) (sym (scan_run depth opening (hint_of p) slot bytes) ∙ ap (λ s. plain s) e)

item_read : (p : Position) (slot : Slot) (up : List Slot) (opening : Opening) (bytes : List ℕ) (item : Item) (past : ℕ) → Passes (called_plan p (slot ∷ up) opening) 0 bytes item past
    → (place : ℕ) × (scan_at (suc (length up)) opening (hint_of p) (Some slot) bytes ≡ is_read ((item, place), past))
item_read p slot up opening bytes item past s =
    let depth = suc (length up) in
    plain_read (scan_at depth opening (hint_of p) (Some slot) bytes) item past (scan_run depth opening (hint_of p) slot bytes ∙ passes_read (item_plan depth opening (hint_of p) slot) 0 bytes item past (item_proper depth opening (hint_of p) slot) s)

item_passes : (p : Position) (slot : Slot) (up : List Slot) (opening : Opening) (bytes : List ℕ) (item : Item) (place past : ℕ) → scan_at (suc (length up)) opening (hint_of p) (Some slot) bytes ≡ is_read ((item, place), past)
    → Passes (called_plan p (slot ∷ up) opening) 0 bytes item past
item_passes p slot up opening bytes item place past e =
    let depth = suc (length up) in
    read_passes (item_plan depth opening (hint_of p) slot) 0 bytes item past (sym (scan_run depth opening (hint_of p) slot bytes) ∙ ap (λ s. plain s) e)

-- ---- the end

end_refuses : (scan : Scan (Unit {0})) (f : Fault) → (scan >>= λ x. is_read (end, x.1)) ≡ is_fault f → scan ≡ is_fault f
end_refuses (Ok x) f e = absurd (no_read _ f e)
end_refuses (Err g) f e = ap (λ h. is_fault h) (blame e)
  where
    told : Scan Item → Fault
    told (Ok x) = g
    told (Err h) = h

    blame : is_fault {X = Item} g ≡ is_fault f → g ≡ f
    blame same = ap told same

end_fault : (bytes : List ℕ) (f : Fault) → Meets last_plan 0 bytes f → end_scan bytes ≡ is_fault f
end_fault bytes f m = end_refuses (end_scan bytes) f (last_run bytes ∙ meets_fault last_plan 0 bytes f last_proper (omega arith) m)

end_meets : (bytes : List ℕ) (f : Fault) → end_scan bytes ≡ is_fault f → Meets last_plan 0 bytes f
end_meets bytes f e = fault_meets last_plan 0 bytes f last_proper (omega arith) (sym (last_run bytes) ∙ ap (λ s. s >>= λ x. is_read (end, x.1)) e)

-- ---- calls that are refused

abbrev shown : ℕ → Fault → Fault
shown n g = fault_at (n + g.place) g.reason

reads_refuses : (s : State) (p : Position) (nest : List Slot) (opening : Opening) (bytes : List ℕ) (g : Fault) → At s nest opening bytes → scan_at (length nest) opening (hint_of p) (first_of nest) bytes ≡ is_fault g
    → reads s (hint_of p) ≡ Err (shown s.place g)
unfolding reads
reads_refuses s p nest opening bytes g a e =
    ap (λ b. moved s (scan_at (length s.nest) s.opening (hint_of p) (first_of s.nest) b)) a.left
    ∙ ap (λ o. moved s (scan_at (length s.nest) o (hint_of p) (first_of s.nest) bytes)) a.begins
    ∙ ap (λ n. moved s (scan_at (length n) opening (hint_of p) (first_of n) bytes)) a.open_levels ∙ ap (moved s) e

ends_refuses : (s : State) (bytes : List ℕ) (g : Fault) → rest s ≡ bytes → end_scan bytes ≡ is_fault g → reads_end s ≡ Err (shown s.place g)
unfolding reads_end
ends_refuses s bytes g left e = ap (λ b. ended s (end_scan b)) left ∙ ap (ended s) e

ends_told : (s : State) (bytes : List ℕ) (f : Fault) → rest s ≡ bytes → reads_end s ≡ Err f → (g : Fault) × (end_scan bytes ≡ is_fault g) × IsBehind s.place g f
unfolding reads_end
ends_told s bytes f left e = let g = ended_fault s (end_scan (rest s)) f e in (g.0, ap end_scan (sym left) ∙ g.1, g.2)

-- ---- from what is at fault to what is told

abbrev Halts : Position → State → List Item → Fault → Type 0
Halts p s items f = (last : State) × Reads p s items last × Refuses (behind p items) last f

body_halts : (items : List Item) (s : State) (p : Position) (nest : List Slot) (opening : Opening) (bytes : List ℕ) (g : Fault) → At s nest opening bytes → BodyMeets p nest opening items bytes g → Halts p s items (shown s.place g)
body_halts [] s p [] opening bytes g a m = (s, refl, inr (a.open_levels, ends_refuses s bytes g a.left (end_fault bytes g m)))
body_halts [] s p (slot ∷ up) opening bytes g a m =
    (s, refl, inl (λ none. (let wrong = sym a.open_levels ∙ none in absurd (cc)), reads_refuses s p (slot ∷ up) opening bytes g a (item_fault p slot up opening bytes g m)))
body_halts (item ∷ items) s p [] opening bytes g a (some, m) = absurd (some refl)
body_halts (item ∷ items) s p (slot ∷ up) opening bytes g a (some, (past, passes, (h, m, is))) =
    let r = item_read p slot up opening bytes item past passes in
    let next = onward s item r.0 past in
    let read = reads_is s p (slot ∷ up) opening bytes item r.0 past a r.1 in
    let b = body_halts items next (position_after p item) (after item (slot ∷ up)) (opening_after item) (drop past bytes) h (at_onward s (slot ∷ up) opening bytes item r.0 past a) m in
    let place : s.place + past + h.place ≡ s.place + g.place = omega (arith, ap (λ (x : Fault). x.place) is) in
    let reason : h.reason ≡ g.reason = sym (ap (λ (x : Fault). x.reason) is) in
    let same : shown (s.place + past) h ≡ shown s.place g = ap (λ n. fault_at n h.reason) place ∙ ap (fault_at (s.place + g.place)) reason in
    (b.0, (next, read, b.1), subst (Refuses (behind (position_after p item) items) b.0) same b.2)

head_refuses : (bytes : List ℕ) (f : Fault) → head_at bytes ≡ is_fault f → reads_head (begun bytes) ≡ Err (shown 0 f)
unfolding reads_head
head_refuses bytes f e = ap (headed (begun bytes)) e

head_reads : (bytes : List ℕ) (h : Header) (place past : ℕ) → head_at bytes ≡ is_read ((h, place), past) → reads_head (begun bytes) ≡ is_step (h, headed_state bytes place past)
unfolding reads_head
head_reads bytes h place past e = ap (headed (begun bytes)) e

none_before : (f : Fault) → shown 0 f ≡ f
none_before f = ap (λ n. fault_at n f.reason) (omega arith)

pub first_refused : (k : Known) (bytes : List ℕ) (f : Fault) → FirstFault k bytes f → IsRefused k bytes f
first_refused k bytes f (inl m) =
    let e = plain_fault (head_at bytes) f (head_run bytes ∙ meets_fault header_plan 0 bytes f header_proper (omega arith) m) in
    inl (head_refuses bytes f e ∙ ap (λ g. Err g) (none_before f))
first_refused k bytes f (inr (h, past, passes, (items, g, m, is))) =
    let r = plain_read (head_at bytes) h past (head_run bytes ∙ passes_read header_plan 0 bytes h past header_proper passes) in
    let first = headed_state bytes r.0 past in
    let same : 0 + past ≡ past = omega arith in
    let at : At first body_nest openings.Body (drop past bytes) = record { open_levels = refl; begins = refl; left = ap (λ n. drop n bytes) same } in
    let b = body_halts items first (start k.declared k.body) body_nest openings.Body (drop past bytes) g at m in
    let told : shown (0 + past) g ≡ f = ap (λ n. shown n g) same ∙ sym is in
    inr (h, items, first, b.0, head_reads bytes h r.0 past r.1, b.1, subst (Refuses (behind (start k.declared k.body) items) b.0) told b.2)

-- ---- and back

abbrev FirstOf : Position → List Slot → Opening → List Item → List ℕ → ℕ → Fault → Type 0
FirstOf p nest opening items bytes place f = (g : Fault) × BodyMeets p nest opening items bytes g × IsBehind place g f

refuses_meets : (nest : List Slot) (s : State) (p : Position) (opening : Opening) (bytes : List ℕ) (f : Fault) → At s nest opening bytes → Refuses p s f → FirstOf p nest opening [] bytes s.place f
refuses_meets [] s p opening bytes f a (inl (some, e)) = absurd (some a.open_levels)
refuses_meets [] s p opening bytes f a (inr (none, e)) = let g = ends_told s bytes f a.left e in (g.0, end_meets bytes g.0 g.1, g.2)
refuses_meets (slot ∷ up) s p opening bytes f a (inl (some, e)) = let g = reads_fault s p (slot ∷ up) opening bytes f a e in (g.0, item_meets p slot up opening bytes g.0 g.1, g.2)
refuses_meets (slot ∷ up) s p opening bytes f a (inr (none, e)) = let wrong = sym a.open_levels ∙ none in absurd (cc)

body_meets : (items : List Item) (s last : State) (p : Position) (nest : List Slot) (opening : Opening) (bytes : List ℕ) (f : Fault) → At s nest opening bytes → Reads p s items last → Refuses (behind p items) last f → FirstOf p nest opening items bytes s.place f
body_meets [] s last p nest opening bytes f a same refuses = refuses_meets nest s p opening bytes f a (subst (λ t. Refuses p t f) (sym same) refuses)
body_meets (item ∷ items) s last p [] opening bytes f a (next, step, more) refuses = let x = reads_back s p [] opening bytes item next a step in absurd (cc)
body_meets (item ∷ items) s last p (slot ∷ up) opening bytes f a (next, step, more) refuses =
    let x = reads_back s p (slot ∷ up) opening bytes item next a step in
    let there = onward s item x.0 x.1 in
    let b = body_meets items there last (position_after p item) (after item (slot ∷ up)) (opening_after item) (drop x.1 bytes) f (at_onward s (slot ∷ up) opening bytes item x.0 x.1 a) (subst (λ t. Reads (position_after p item) t items last) x.3 more) refuses in
    let passes = item_passes p slot up opening bytes item x.0 x.1 x.2 in
    let place : s.place + x.1 + b.0.place ≡ s.place + (x.1 + b.0.place) = omega arith in
    (shown x.1 b.0, (λ none. (let wrong = none in absurd (cc)), (x.1, passes, (b.0, b.1, refl))), b.2 ∙ ap (λ n. fault_at n b.0.reason) place)

pub refused_first : (k : Known) (bytes : List ℕ) (f : Fault) → IsRefused k bytes f → FirstFault k bytes f
refused_first k bytes f (inl e) =
    let g = begun_fault_of bytes f e in
    let m = fault_meets header_plan 0 bytes g.0 header_proper (omega arith) (sym (head_run bytes) ∙ ap (λ s. plain s) g.1) in
    inl (subst (Meets header_plan 0 bytes) (sym (g.2 ∙ none_before g.0)) m)
refused_first k bytes f (inr (h, items, first, last, head, body, refuses)) =
    let b = begun_back bytes h first head in
    let passes = read_passes header_plan 0 bytes h b.1 (sym (head_run bytes) ∙ ap (λ s. plain s) b.2) in
    let same : 0 + b.1 ≡ b.1 = omega arith in
    let from = headed_state bytes b.0 b.1 in
    let at : At from body_nest openings.Body (drop b.1 bytes) = record { open_levels = refl; begins = refl; left = ap (λ n. drop n bytes) same } in
    let m = body_meets items from last (start k.declared k.body) body_nest openings.Body (drop b.1 bytes) f at (subst (λ t. Reads (start k.declared k.body) t items last) b.3 body) refuses in
    inr (h, b.1, passes, (items, m.0, m.1, m.2 ∙ ap (λ n. fault_at (n + m.0.place) m.0.reason) same))

pub one_first : (k : Known) (bytes : List ℕ) (f g : Fault) → FirstFault k bytes f → FirstFault k bytes g → f ≡ g
one_first k bytes f g a b = one_fault (start k.declared k.body) bytes f g (first_refused k bytes f a) (first_refused k bytes g b)

-- ---- each frame

pub whole_or_fault : (k : Known) (bytes : List ℕ) → length bytes < 2 ^ 31 → IsWhole k bytes ⊎ ((f : Fault) × FirstFault k bytes f)
whole_or_fault k bytes small = by_reading (read_or_refused (start k.declared k.body) bytes)
  where
    by_reading : ((h : Header) × (items : List Item) × IsRead k bytes h items) ⊎ ((f : Fault) × IsRefused k bytes f) → IsWhole k bytes ⊎ ((f : Fault) × FirstFault k bytes f)
    by_reading (inl (h, items, read)) = let s = read_spelled k.declared k.body bytes h items small read in inl (s.0, s.3, s.4)
    by_reading (inr (f, refused)) = inr (f, refused_first k bytes f refused)

pub fault_no_whole : (k : Known) (bytes : List ℕ) (f : Fault) → FirstFault k bytes f → IsWhole k bytes → ⊥
fault_no_whole k bytes f first (m, shallow, spelled) = refused_spells_none k.declared k.body m bytes f (first_refused k bytes f first) spelled shallow

pub first_stands : (k : Known) (bytes : List ℕ) (f : Fault) → length bytes < 2 ^ 31 → FirstFault k bytes f → FaultStands k bytes f
first_stands k bytes f small first = fault_stands k bytes f small (first_refused k bytes f first)

-- ---- what passes is a message

end_passes : (bytes : List ℕ) (past : ℕ) → end_scan bytes ≡ is_read (tt, past) → Passes last_plan 0 bytes end past
end_passes bytes past e = read_passes last_plan 0 bytes end past (sym (last_run bytes) ∙ ap (λ s. s >>= λ x. is_read (end, x.1)) e)

end_reads : (scan : Scan (Unit {0})) (past : ℕ) → (scan >>= λ x. is_read (end, x.1)) ≡ is_read (end, past) → (n : ℕ) × (scan ≡ is_read (tt, n))
end_reads (Ok x) past e = (x.1, refl)
end_reads (Err g) past e = absurd (no_fault g (end, past) e)

end_read : (bytes : List ℕ) (past : ℕ) → Passes last_plan 0 bytes end past → (n : ℕ) × (end_scan bytes ≡ is_read (tt, n))
end_read bytes past s = end_reads (end_scan bytes) past (last_run bytes ∙ passes_read last_plan 0 bytes end past last_proper s)

ends_reads : (s : State) (bytes : List ℕ) (n : ℕ) → rest s ≡ bytes → end_scan bytes ≡ is_read (tt, n) → reads_end s ≡ is_step (tt, s)
unfolding reads_end
ends_reads s bytes n left e = ap (λ b. ended s (end_scan b)) left ∙ ap (ended s) e

abbrev Ends : Position → State → List Item → Type 0
Ends p s items = (last : State) × Reads p s items last × (last.nest ≡ []) × (reads_end last ≡ is_step (tt, last))

body_ends : (items : List Item) (s : State) (p : Position) (nest : List Slot) (opening : Opening) (bytes : List ℕ) → At s nest opening bytes → BodyPasses p nest opening items bytes → Ends p s items
body_ends [] s p nest opening bytes a (none, (past, passes)) = let e = end_read bytes past passes in (s, refl, a.open_levels ∙ none, ends_reads s bytes e.0 a.left e.1)
body_ends (item ∷ items) s p [] opening bytes a (some, m) = absurd (some refl)
body_ends (item ∷ items) s p (slot ∷ up) opening bytes a (some, (past, passes, m)) =
    let r = item_read p slot up opening bytes item past passes in
    let next = onward s item r.0 past in
    let b = body_ends items next (position_after p item) (after item (slot ∷ up)) (opening_after item) (drop past bytes) (at_onward s (slot ∷ up) opening bytes item r.0 past a) m in
    (b.0, (next, reads_is s p (slot ∷ up) opening bytes item r.0 past a r.1, b.1), b.2, b.3)

body_passes : (items : List Item) (s last : State) (p : Position) (nest : List Slot) (opening : Opening) (bytes : List ℕ) → At s nest opening bytes → Reads p s items last → last.nest ≡ [] → reads_end last ≡ is_step (tt, last) → BodyPasses p nest opening items bytes
body_passes [] s last p nest opening bytes a same none e =
    let own = subst (λ t. reads_end t ≡ is_step (tt, t)) (sym same) e in
    let r = end_back s s bytes a.left own in
    (sym a.open_levels ∙ ap (λ (t : State). t.nest) same ∙ none, (r.0, end_passes bytes r.0 r.1))
body_passes (item ∷ items) s last p [] opening bytes a (next, step, more) none e = let x = reads_back s p [] opening bytes item next a step in absurd (cc)
body_passes (item ∷ items) s last p (slot ∷ up) opening bytes a (next, step, more) none e =
    let x = reads_back s p (slot ∷ up) opening bytes item next a step in
    let there = onward s item x.0 x.1 in
    let b = body_passes items there last (position_after p item) (after item (slot ∷ up)) (opening_after item) (drop x.1 bytes) (at_onward s (slot ∷ up) opening bytes item x.0 x.1 a) (subst (λ t. Reads (position_after p item) t items last) x.3 more) none e in
    ((λ empty. (let wrong = empty in absurd (cc))), (x.1, item_passes p slot up opening bytes item x.0 x.1 x.2, b))

frame_read : (k : Known) (bytes : List ℕ) (h : Header) (items : List Item) → FramePasses k bytes h items → IsRead k bytes h items
frame_read k bytes h items (past, passes, m) =
    let r = plain_read (head_at bytes) h past (head_run bytes ∙ passes_read header_plan 0 bytes h past header_proper passes) in
    let first = headed_state bytes r.0 past in
    let same : 0 + past ≡ past = omega arith in
    let at : At first body_nest openings.Body (drop past bytes) = record { open_levels = refl; begins = refl; left = ap (λ n. drop n bytes) same } in
    let b = body_ends items first (start k.declared k.body) body_nest openings.Body (drop past bytes) at m in
    (first, b.0, head_reads bytes h r.0 past r.1, b.1, b.2, b.3)

frame_passes : (k : Known) (bytes : List ℕ) (h : Header) (items : List Item) → IsRead k bytes h items → FramePasses k bytes h items
frame_passes k bytes h items (first, last, head, body, none, e) =
    let b = begun_back bytes h first head in
    let passes = read_passes header_plan 0 bytes h b.1 (sym (head_run bytes) ∙ ap (λ s. plain s) b.2) in
    let same : 0 + b.1 ≡ b.1 = omega arith in
    let from = headed_state bytes b.0 b.1 in
    let at : At from body_nest openings.Body (drop b.1 bytes) = record { open_levels = refl; begins = refl; left = ap (λ n. drop n bytes) same } in
    (b.1, passes, body_passes items from last (start k.declared k.body) body_nest openings.Body (drop b.1 bytes) at (subst (λ t. Reads (start k.declared k.body) t items last) b.3 body) none e)

pub passes_spelled : (k : Known) (bytes : List ℕ) (h : Header) (items : List Item) → length bytes < 2 ^ 31 → FramePasses k bytes h items → IsSpelled k bytes h items
passes_spelled k bytes h items small passes =
    let r = read_spelled k.declared k.body bytes h items small (frame_read k bytes h items passes) in
    record { message = r.0; header_is = r.1; items_are = r.2; shallow = r.3; spelled = r.4 }

pub spelled_passes : (k : Known) (m : Message) (bytes : List ℕ) → JsonSpells k m bytes → depth_of_members m.body < 256 → FramePasses k bytes (header_of_message m) (items_of_members m.body)
spelled_passes k m bytes spelled shallow = frame_passes k bytes (header_of_message m) (items_of_members m.body) (spelled_read k.declared k.body m bytes spelled shallow)
