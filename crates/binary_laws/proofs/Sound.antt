-- A frame that is read is spelled as a message.
use Rattle.std.proofs.Common.{◌≡◌, ℕ, ◌<◌, ◌≤◌, Bool, true, false, cond, List, [], ◌∷◌, ◌++◌, length, Ok, Err, refl, ap, ◌∙◌, sym, subst, arith, length-append}
use Rattle.std.specs.Prelude.{◌==◌}
use Rattle.std.proofs.lemmas.Bool.Decides.{nat_tests}
use Rattle.std.proofs.lemmas.List.{append-nil}
use Rattle.thrift_value.specs.Items.{Item}
use Rattle.thrift_value.specs.Trees.{Message, Members, items_of_members, depth_of_members}
use Rattle.protocol_traits.specs.declared.fault.Fault.{Fault}
use Rattle.protocol_traits.specs.declared.nest.Slot.{Slot}
use Rattle.protocol_traits.specs.Stack.{first_of}
use Rattle.protocol_traits.specs.Steps.{Step}
use Rattle.protocol_traits.specs.Follow.{after}
use Rattle.protocol_traits.specs.Heads.{Header}
use Rattle.binary_protocol.specs.Scan.{Scan}
use Rattle.binary_protocol.specs.Heads.{head_at}
use Rattle.binary_protocol.specs.Reading.{State, rest, scan_at, moved, reads, headed, begun, body_open, reads_head, reads_end}
use Rattle.binary_protocol.specs.Grammar.{SpellsMembers, BinarySpells}
use Rattle.gate_base.specs.Bytes.{AreBytes}
use Rattle.binary_laws.specs.Reads.{Reads, IsRead, header_of_message}
use Rattle.binary_laws.proofs.Inverse.{bytes_front, no_fault}
use Rattle.binary_laws.proofs.Levels.{Ends}
use Rattle.binary_laws.proofs.Stepping.{stepped}
use Rattle.binary_laws.proofs.Headed.{head_read, message_of}
use Rattle.binary_laws.proofs.Spelled.{At, rest_is, onward, headed_state, at_onward}

-- ---- answers

abbrev pub is_step : {X : Type 0} → X × State → Step State X
is_step p = Ok p

abbrev pub got : {X : Type 0} → X × State → Step State X → X × State
got d (Ok p) = p
got d (Err f) = d

pub same_answer : {X : Type 0} → (x y : X) (s t : State) → is_step (x, s) ≡ is_step (y, t) → (x ≡ y) × (s ≡ t)
same_answer {X} x y s t e = (ap (λ (r : Step State X). (got (x, s) r).0) e, ap (λ (r : Step State X). (got (x, s) r).1) e)

pub no_step : {X : Type 0} → (f : Fault) (x : X × State) → Err f ≡ is_step x → ⊥
no_step f x e = absurd (cc)

pub moved_read : (s : State) (scan : Scan Item) (item : Item) (next : State) → moved s scan ≡ Ok (item, next) → (taken : ℕ) × (scan ≡ Ok (item, taken)) × (next ≡ onward s item taken)
moved_read s (Ok x) item next e =
    let same = same_answer x.0 item (onward s x.0 x.1) next e in
    (x.1, ap (λ i. Ok (i, x.1)) same.0, sym same.1 ∙ ap (λ i. onward s i x.1) same.0)
moved_read s (Err f) item next e = absurd (no_step _ (item, next) e)

pub reads_read : (s : State) (nest : List Slot) (bytes : List ℕ) (item : Item) (next : State) → At s nest bytes → reads s ≡ Ok (item, next) → (taken : ℕ) × (scan_at (first_of nest) (length nest) bytes ≡ Ok (item, taken)) × (next ≡ onward s item taken)
unfolding reads
reads_read s nest bytes item next a e =
    let m = moved_read s (scan_at (first_of s.nest) (length s.nest) (rest s)) item next e in
    (m.0, ap (λ n. scan_at (first_of n) (length n) bytes) (sym a.open_levels) ∙ ap (λ l. scan_at (first_of s.nest) (length s.nest) l) (sym (rest_is s nest bytes a)) ∙ m.1, m.2)

-- ---- the end

pub no_levels : (nest : List Slot) → (length nest == 0) ≡ true → nest ≡ []
no_levels [] e = refl
no_levels (slot ∷ up) e = absurd (grind (arith, nat_tests))

pub no_bytes : (bytes : List ℕ) → length bytes ≡ 0 → bytes ≡ []
no_bytes [] e = refl
no_bytes (x ∷ bytes) e = absurd (omega arith)

step_past : {X : Type 0} → (b : Bool) (step : Step State X) (f : Fault) (x : X × State) → cond b step (Err f) ≡ Ok x → (b ≡ true) × (step ≡ Ok x)
step_past {X} true step f x e = (refl, e)
step_past {X} false step f x e = absurd (no_step f x e)

end_read : (s last : State) (nest : List Slot) (bytes : List ℕ) → At s nest bytes → reads_end s ≡ Ok (tt, last) → Ends 256 nest [] bytes
unfolding reads_end
end_read s last nest bytes a e =
    let p = step_past (length s.nest == 0) (cond (s.place == length s.frame) (Ok (tt, s)) (Err _)) _ (tt, last) e in
    let q = step_past (s.place == length s.frame) (Ok (tt, s)) _ (tt, last) p.1 in
    let none : nest ≡ [] = sym a.open_levels ∙ no_levels s.nest p.0 in
    let q0 = q.0 in
    let all : s.place ≡ length s.frame = grind (arith, nat_tests) in
    let empty : bytes ≡ [] = no_bytes bytes (omega (arith, all, a.place, ap length a.laid, length-append a.front bytes)) in
    subst (λ n. Ends 256 n [] bytes) (sym none) (refl, empty)

-- ---- item after item

pub at_front : (s : State) (nest : List Slot) (item : Item) (taken : ℕ) (front more : List ℕ) → At s nest (front ++ more) → taken ≡ length front → At (onward s item taken) (after item nest) more
at_front s nest item taken front more a e = subst (λ n. At (onward s item n) (after item nest) more) (sym e) (at_onward s nest item front more a)

-- what the items behind hold, and one more
one_more : (item : Item) (items : List Item) (s next : State) (nest : List Slot) (bytes : List ℕ) → At s nest bytes → AreBytes bytes → length nest ≤ 256
    → (taken : ℕ) × (scan_at (first_of nest) (length nest) bytes ≡ Ok (item, taken)) × (next ≡ onward s item taken)
    → ((inner : List Slot) (rest : List ℕ) → At next inner rest → AreBytes rest → length inner ≤ 256 → Ends 256 inner items rest) → Ends 256 nest (item ∷ items) bytes
one_more item items s next [] bytes a are most (taken, scan, is) go = absurd (no_fault _ (item, taken) scan)
one_more item items s next (slot ∷ up) bytes a are most (taken, scan, is) go =
    let st = stepped slot up bytes item taken most are scan in
    let at = at_front s (slot ∷ up) item taken st.front st.rest (subst (At s (slot ∷ up)) st.laid a) st.size in
    let rest_are = (bytes_front st.front st.rest (subst AreBytes st.laid are)).1 in
    let ends = go (after item (slot ∷ up)) st.rest (subst (λ x. At x (after item (slot ∷ up)) st.rest) (sym is) at) rest_are st.within in
    subst (λ b. Ends 256 (slot ∷ up) (item ∷ items) b) (sym st.laid) (st.onward 256 (omega arith) items st.rest ends)

pub sound : (items : List Item) (s last : State) (nest : List Slot) (bytes : List ℕ) → At s nest bytes → AreBytes bytes → length nest ≤ 256 → Reads s items last → reads_end last ≡ Ok (tt, last) → Ends 256 nest items bytes
sound [] s last nest bytes a are most r e = end_read s last nest bytes a (subst (λ x. reads_end x ≡ Ok (tt, last)) (sym r) e)
sound (item ∷ items) s last nest bytes a are most (next, step, more) e =
    one_more item items s next nest bytes a are most (reads_read s nest bytes item next a step) (λ inner rest b some less. sound items next last inner rest b some less more e)

-- ---- a whole frame

-- of the body alone
record Body (items : List Item) (bytes : List ℕ) : Type 0 where
  ms : Members
  spells : SpellsMembers ms bytes
  is : items ≡ items_of_members ms
  deep : depth_of_members ms < 256

body_spelled : (items : List Item) (bytes : List ℕ) → Ends 256 body_open items bytes → Body items bytes
body_spelled items bytes e =
    let f = e.one in
    let all : bytes ≡ e.front = e.laid ∙ ap (λ l. e.front ++ l) e.two.1 ∙ append-nil e.front in
    record {
      ms = f.ms;
      spells = subst (SpellsMembers f.ms) (sym all) f.spells;
      is = e.is ∙ ap (λ l. e.first ++ l) e.two.0 ∙ append-nil e.first ∙ f.is;
      deep = omega (arith, f.deep);
    }

pub headed_read : (bytes : List ℕ) (scan : Scan Header) (h : Header) (first : State) → headed (begun bytes) scan ≡ Ok (h, first) → (taken : ℕ) × (scan ≡ Ok (h, taken)) × (first ≡ headed_state bytes taken)
headed_read bytes (Ok x) h first e =
    let same = same_answer x.0 h (headed_state bytes x.1) first e in
    (x.1, ap (λ i. Ok (i, x.1)) same.0, sym same.1)
headed_read bytes (Err f) h first e = absurd (no_step _ (h, first) e)

pub begun_read : (bytes : List ℕ) (h : Header) (first : State) → reads_head (begun bytes) ≡ Ok (h, first) → (taken : ℕ) × (head_at bytes ≡ Ok (h, taken)) × (first ≡ headed_state bytes taken)
unfolding reads_head
begun_read bytes h first e = headed_read bytes (head_at bytes) h first e

pub read_spelled : (bytes : List ℕ) (h : Header) (items : List Item) → AreBytes bytes → IsRead bytes h items
    → (m : Message) × (h ≡ header_of_message m) × (items ≡ items_of_members m.body) × (depth_of_members m.body < 256) × BinarySpells m bytes
read_spelled bytes h items are (first, last, head, body, end) =
    let r = begun_read bytes h first head in
    let x = head_read bytes are h r.0 r.1 in
    let at : At first body_open x.body = subst (λ s. At s body_open x.body) (sym r.2) (record { front = x.header; open_levels = refl; laid = x.laid; place = omega (arith, x.long) }) in
    let body_are = (bytes_front x.header x.body (subst AreBytes x.laid are)).1 in
    let b = body_spelled items x.body (sound items first last body_open x.body at body_are (omega arith) body end) in
    (message_of h b.ms, refl, b.is, b.deep, (x.small, x.fits, (x.header, x.body, x.spells b.ms, b.spells, x.laid)))
