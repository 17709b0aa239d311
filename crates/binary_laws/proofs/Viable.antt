-- A frame that is cut short can be completed to a message.
use Rattle.std.proofs.Common.{◌≡◌, ℕ, suc, ◌+◌, ◌≤◌, Bool, true, false, cond, List, [], ◌∷◌, ◌++◌, length, Ok, Err, refl, ap, ◌∙◌, sym, subst, arith, inl, inr, length-append, append_assoc}
use Rattle.std.specs.Prelude.{◌==◌}
use Rattle.std.proofs.lemmas.List.{append-nil}
use Rattle.thrift_value.specs.Items.{Item}
use Rattle.thrift_value.specs.Trees.{Members, items_of_members}
use Rattle.protocol_traits.specs.declared.fault.Fault.{Fault}
use Rattle.protocol_traits.specs.declared.fault.Reason.TheVariants as reasons
use Rattle.protocol_traits.specs.declared.nest.Slot.{Slot}
use Rattle.protocol_traits.specs.Stack.{first_of}
use Rattle.protocol_traits.specs.Steps.{Step}
use Rattle.protocol_traits.specs.Follow.{after}
use Rattle.protocol_traits.specs.Heads.{Header}
use Rattle.binary_protocol.specs.Scan.{Scan, item_in}
use Rattle.binary_protocol.specs.Heads.{head_at}
use Rattle.binary_protocol.specs.Reading.{State, rest, scan_at, moved, reads, headed, begun, body_open, reads_head, reads_end}
use Rattle.binary_protocol.specs.Grammar.{SpellsMembers}
use Rattle.gate_base.specs.Bytes.{AreBytes}
use Rattle.binary_laws.specs.Reads.{Reads}
use Rattle.binary_laws.specs.Refused.{IsViable, Refuses, IsRefused}
use Rattle.binary_laws.proofs.Inverse.{bytes_front, no_fault}
use Rattle.binary_laws.proofs.Levels.{Ends}
use Rattle.binary_laws.proofs.Closing.{bytes_join, nest_closed}
use Rattle.binary_laws.proofs.Cutting.{Completed, item_cut}
use Rattle.binary_laws.proofs.HeadCut.{head_cut}
use Rattle.binary_laws.proofs.Stepping.{stepped}
use Rattle.binary_laws.proofs.Headed.{head_read, message_of}
use Rattle.binary_laws.proofs.Spelled.{At, rest_is, onward}
use Rattle.binary_laws.proofs.Sound.{is_step, reads_read, at_front, begun_read}
use Rattle.binary_laws.proofs.Unique.{split_same}

-- some bytes behind these end what is open
pub record Goes (nest : List Slot) (bytes : List ℕ) : Type 0 where
  pub more : List ℕ
  pub items : List Item
  pub ends : Ends 257 nest items (bytes ++ more)

-- ---- the item that is cut

completed_goes : (slot : Slot) (up : List Slot) (bytes : List ℕ) → suc (length up) ≤ 256 → AreBytes bytes → Completed (item_in (suc (length up)) slot) bytes → Goes (slot ∷ up) bytes
completed_goes slot up bytes most are c =
    let front = bytes ++ c.more in
    let front_are = bytes_join bytes c.more are c.are in
    let w = c.whole [] in
    let one = stepped slot up (front ++ []) w.0 (length front) most (bytes_join front [] front_are tt) w.1 in
    let deep : length (c.next (slot ∷ up)) ≤ 256 = subst (λ n. length n ≤ 256) (w.2 (slot ∷ up)) one.within in
    let cl = nest_closed (c.next (slot ∷ up)) deep in
    let v = c.whole cl.bytes in
    let st = stepped slot up (front ++ cl.bytes) v.0 (length front) most (bytes_join front cl.bytes front_are cl.are) v.1 in
    let same = split_same front st.front cl.bytes st.rest st.size st.laid in
    let all = st.onward 257 (omega arith) cl.items cl.bytes (subst (λ n. Ends 257 n cl.items cl.bytes) (sym (v.2 (slot ∷ up))) cl.closes) in
    record {
      more = c.more ++ cl.bytes;
      items = v.0 ∷ cl.items;
      ends = subst (Ends 257 (slot ∷ up) (v.0 ∷ cl.items)) (ap (λ l. l ++ cl.bytes) (sym same.0) ∙ append_assoc bytes c.more cl.bytes) all;
    }

-- ---- the call that is refused

abbrev blame : {X : Type 0} → Fault → Step State X → Fault
blame d (Ok p) = d
blame d (Err f) = f

abbrev pub is_bad : {X : Type 0} → Fault → Step State X
is_bad f = Err f

pub same_blame : {X : Type 0} → (f g : Fault) → is_bad {X = X} f ≡ Err g → f ≡ g
same_blame {X} f g e = ap (λ (r : Step State X). blame f r) e

pub no_blame : {X : Type 0} → (x : X × State) (f : Fault) → is_step x ≡ Err f → ⊥
no_blame x f e = absurd (cc)

pub moved_fault : (s : State) (scan : Scan Item) (f : Fault) → moved s scan ≡ Err f → (g : Fault) × (scan ≡ Err g) × (s.place + g.place ≡ f.place) × (g.reason ≡ f.reason)
moved_fault s (Ok x) f e = absurd (no_blame _ f e)
moved_fault s (Err g) f e = let same = same_blame {X = Item} (record { place = s.place + g.place; reason = g.reason }) f e in (g, refl, ap (λ (b : Fault). b.place) same, ap (λ (b : Fault). b.reason) same)

pub reads_fault : (s : State) (nest : List Slot) (bytes : List ℕ) (f : Fault) → At s nest bytes → reads s ≡ Err f → (g : Fault) × (scan_at (first_of nest) (length nest) bytes ≡ Err g) × (s.place + g.place ≡ f.place) × (g.reason ≡ f.reason)
unfolding reads
reads_fault s nest bytes f a e =
    let m = moved_fault s (scan_at (first_of s.nest) (length s.nest) (rest s)) f e in
    (m.0, ap (λ n. scan_at (first_of n) (length n) bytes) (sym a.open_levels) ∙ ap (λ l. scan_at (first_of s.nest) (length s.nest) l) (sym (rest_is s nest bytes a)) ∙ m.1, m.2, m.3)

pub not_trailing : reasons.Trailing ≡ reasons.Truncated → ⊥
not_trailing e = absurd (cc)

pub end_fault : (s : State) (f : Fault) → s.nest ≡ [] → reads_end s ≡ Err f → (s.place ≡ f.place) × (reasons.Trailing ≡ f.reason)
unfolding reads_end
end_fault s f none e = by_tests (length s.nest == 0) (s.place == length s.frame) (ap (λ n. length n == 0) none) e
  where
    by_tests : (a b : Bool) → a ≡ true → cond a (cond b (is_step (tt, s)) (is_bad {X = Unit {0}} (record { place = s.place; reason = reasons.Trailing }))) (is_bad (record { place = length s.frame; reason = reasons.Truncated })) ≡ Err f → (s.place ≡ f.place) × (reasons.Trailing ≡ f.reason)
    by_tests false b p h = absurd (cc)
    by_tests true true p h = absurd (no_blame (tt, s) f h)
    by_tests true false p h = let same = same_blame {X = Unit {0}} (record { place = s.place; reason = reasons.Trailing }) f h in (ap (λ (b : Fault). b.place) same, ap (λ (b : Fault). b.reason) same)

abbrev pub Cut : State → List Slot → List ℕ → Fault → Type 0
Cut s nest bytes f = (f.place ≡ length s.frame) × Goes nest bytes

cut_here : (s : State) (nest : List Slot) (bytes : List ℕ) (f : Fault) → At s nest bytes → AreBytes bytes → length nest ≤ 256 → f.reason ≡ reasons.Truncated → Refuses s f → Cut s nest bytes f
cut_here s [] bytes f a are most t (inl (some, e)) = absurd (some a.open_levels)
cut_here s (slot ∷ up) bytes f a are most t (inl (some, e)) =
    let g = reads_fault s (slot ∷ up) bytes f a e in
    let c = item_cut (suc (length up)) slot bytes are g.0 g.1 (g.3 ∙ t) in
    let place = g.2 in
    (omega (arith, place, c.0, a.place, ap length a.laid, length-append a.front bytes), completed_goes slot up bytes most are c.1)
cut_here s nest bytes f a are most t (inr (none, e)) = let h = end_fault s f none e in absurd (not_trailing (h.1 ∙ t))

-- ---- item after item

pub one_back : (item : Item) (s next : State) (nest : List Slot) (bytes : List ℕ) (f : Fault) → At s nest bytes → AreBytes bytes → length nest ≤ 256
    → (taken : ℕ) × (scan_at (first_of nest) (length nest) bytes ≡ Ok (item, taken)) × (next ≡ onward s item taken)
    → ((inner : List Slot) (rest : List ℕ) → At next inner rest → AreBytes rest → length inner ≤ 256 → Cut next inner rest f) → Cut s nest bytes f
one_back item s next [] bytes f a are most (taken, scan, is) go = absurd (no_fault _ (item, taken) scan)
one_back item s next (slot ∷ up) bytes f a are most (taken, scan, is) go =
    let st = stepped slot up bytes item taken most are scan in
    let at = at_front s (slot ∷ up) item taken st.front st.rest (subst (At s (slot ∷ up)) st.laid a) st.size in
    let rest_are = (bytes_front st.front st.rest (subst AreBytes st.laid are)).1 in
    let c = go (after item (slot ∷ up)) st.rest (subst (λ x. At x (after item (slot ∷ up)) st.rest) (sym is) at) rest_are st.within in
    let g = c.1 in (
      c.0 ∙ ap (λ (x : State). length x.frame) is,
      record {
        more = g.more;
        items = item ∷ g.items;
        ends = subst (Ends 257 (slot ∷ up) (item ∷ g.items)) (sym (append_assoc st.front st.rest g.more) ∙ ap (λ l. l ++ g.more) (sym st.laid)) (st.onward 257 (omega arith) g.items (st.rest ++ g.more) g.ends);
      },
    )

cut_from : (items : List Item) (s last : State) (nest : List Slot) (bytes : List ℕ) (f : Fault) → At s nest bytes → AreBytes bytes → length nest ≤ 256 → f.reason ≡ reasons.Truncated → Reads s items last → Refuses last f → Cut s nest bytes f
cut_from [] s last nest bytes f a are most t r e = cut_here s nest bytes f a are most t (subst (λ x. Refuses x f) (sym r) e)
cut_from (item ∷ items) s last nest bytes f a are most t (next, step, more) e =
    one_back item s next nest bytes f a are most (reads_read s nest bytes item next a step) (λ inner rest b some less. cut_from items next last inner rest f b some less t more e)

-- ---- a whole frame

pub record Body (items : List Item) (bytes : List ℕ) : Type 0 where
  pub ms : Members
  pub is : items ≡ items_of_members ms
  pub spells : SpellsMembers ms bytes

pub body_of : (items : List Item) (bytes : List ℕ) → Ends 257 body_open items bytes → Body items bytes
body_of items bytes e =
    let all : bytes ≡ e.front = e.laid ∙ ap (λ l. e.front ++ l) e.two.1 ∙ append-nil e.front in
    record { ms = e.one.ms; is = e.is ∙ ap (λ l. e.first ++ l) e.two.0 ∙ append-nil e.first ∙ e.one.is; spells = subst (SpellsMembers e.one.ms) (sym all) e.one.spells }

head_fault : (bytes : List ℕ) (scan : Scan Header) (f : Fault) → headed (begun bytes) scan ≡ Err f → (g : Fault) × (scan ≡ Err g) × (0 + g.place ≡ f.place) × (g.reason ≡ f.reason)
head_fault bytes (Ok x) f e = absurd (no_blame _ f e)
head_fault bytes (Err g) f e = let same = same_blame {X = Header} (record { place = 0 + g.place; reason = g.reason }) f e in (g, refl, ap (λ (b : Fault). b.place) same, ap (λ (b : Fault). b.reason) same)

pub begun_fault : (bytes : List ℕ) (f : Fault) → reads_head (begun bytes) ≡ Err f → (g : Fault) × (head_at bytes ≡ Err g) × (0 + g.place ≡ f.place) × (g.reason ≡ f.reason)
unfolding reads_head
begun_fault bytes f e = head_fault bytes (head_at bytes) f e

pub cut_viable : (bytes : List ℕ) (f : Fault) → AreBytes bytes → IsRefused bytes f → f.reason ≡ reasons.Truncated → (f.place ≡ length bytes) × IsViable bytes
cut_viable bytes f are (inl e) t =
    let g = begun_fault bytes f e in
    let c = head_cut bytes are g.0 g.1 (g.3 ∙ t) in
    let place = g.2 in
    (omega (arith, place, c.0), c.1)
cut_viable bytes f are (inr (h, items, first, last, head, body, refuses)) t =
    let r = begun_read bytes h first head in
    let x = head_read bytes are h r.0 r.1 in
    let at : At first body_open x.body = subst (λ s. At s body_open x.body) (sym r.2) (record { front = x.header; open_levels = refl; laid = x.laid; place = omega (arith, x.long) }) in
    let body_are = (bytes_front x.header x.body (subst AreBytes x.laid are)).1 in
    let c = cut_from items first last body_open x.body f at body_are (omega arith) t body refuses in
    let g = c.1 in
    let b = body_of g.items (x.body ++ g.more) g.ends in
    (c.0 ∙ ap (λ (s : State). length s.frame) r.2, (g.more, message_of h b.ms, (x.small, x.fits, (x.header, x.body ++ g.more, x.spells b.ms, b.spells, ap (λ l. l ++ g.more) x.laid ∙ append_assoc x.header x.body g.more))))
