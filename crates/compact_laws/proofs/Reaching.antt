-- A frame that is cut short ends inside the item at fault, or before it: whatever stands behind.
use Rattle.std.proofs.Common.{◌≡◌, ℕ, ℤ, suc, ◌+◌, ◌<◌, ◌≤◌, Bool, true, false, cond, List, [], ◌∷◌, ◌++◌, length, drop, Ok, Err, refl, ap, ◌∙◌, sym, subst, arith, inl, inr, length-append}
use Rattle.std.specs.Prelude.{◌==◌}
use Rattle.thrift_value.specs.declared.kind.MessageType.{MessageType}
use Rattle.thrift_value.specs.Items.{Item}
use Rattle.protocol_traits.specs.declared.fault.Fault.{Fault}
use Rattle.protocol_traits.specs.declared.fault.Reason.TheVariants as reasons
use Rattle.protocol_traits.specs.declared.nest.Slot.{Slot}
use Rattle.protocol_traits.specs.Stack.{first_of}
use Rattle.protocol_traits.specs.Heads.{Header}
use Rattle.compact_protocol.specs.Scan.{Scan, shifted, ◌>>=◌, string_at, item_in}
use Rattle.compact_protocol.specs.Reading.{State, rest, scan_at, reads, begun, reads_head, reads_end}
use Rattle.gate_base.specs.Bytes.{AreBytes}
use Rattle.binary_laws.proofs.Heading.{drop_front}
use Rattle.binary_laws.proofs.Inverse.{bytes_front}
use Rattle.compact_laws.specs.Extent.{extent}
use Rattle.compact_laws.specs.Reads.{Reads}
use Rattle.compact_laws.specs.Refused.{Refuses, IsRefused}
use Rattle.compact_laws.proofs.Growing.{Beyond, drop_on, item_grows, header_at, header_grows, needs}
use Rattle.compact_laws.proofs.Headed.{head_read, at_body}
use Rattle.compact_laws.proofs.Steps.{is_step, is_bad, same_answer, same_blame, no_blame}
use Rattle.compact_laws.proofs.Spelled.{At, body_open, headed_state}
use Rattle.compact_laws.proofs.Sound.{Stands, moved_read, reads_read}
use Rattle.compact_laws.proofs.Either.{Stops, both, refuses_stops}
use Rattle.compact_laws.proofs.Staying.{moved_fault, reads_fault, Longer, at_longer, ReadsTo, one_longer, HeadParts, head_parts, head_longer, HeadFault, head_fault}

-- ---- places only rise

step_place : (s next : State) (item : Item) → reads s ≡ Ok (item, next) → s.place ≤ next.place
unfolding reads
step_place s next item e =
    let m = moved_read s (scan_at (first_of s.nest) (length s.nest) s.flag (rest s)) item next e in
    let p = ap (λ (x : State). x.place) m.2 in
    omega (arith, p)

pub step_frame : (s next : State) (item : Item) → reads s ≡ Ok (item, next) → next.frame ≡ s.frame
unfolding reads
step_frame s next item e = ap (λ (x : State). x.frame) (moved_read s (scan_at (first_of s.nest) (length s.nest) s.flag (rest s)) item next e).2

pub read_frame : (items : List Item) (s last : State) → Reads s items last → last.frame ≡ s.frame
read_frame [] s last r = ap (λ (x : State). x.frame) (sym r)
read_frame (item ∷ items) s last (next, step, more) = read_frame items next last more ∙ step_frame s next item step

-- where no level is open, the end is refused at once, since bytes follow
pub record EndFault (s : State) (f : Fault) : Type 0 where
  pub place : f.place ≡ s.place
  pub reason : f.reason ≡ reasons.Trailing
  pub apart : (s.place == length s.frame) ≡ false

pub end_fault : (s : State) (f : Fault) → s.nest ≡ [] → reads_end s ≡ Err f → EndFault s f
unfolding reads_end
end_fault s f none e = by_tests (length s.nest == 0) (s.place == length s.frame) (ap (λ n. length n == 0) none) refl e
  where
    by_tests : (a b : Bool) → a ≡ true → (s.place == length s.frame) ≡ b
        → cond a (cond b (is_step (tt {0}, s)) (is_bad {X = Unit {0}} (record { place = s.place; reason = reasons.Trailing }))) (is_bad (record { place = length s.frame; reason = reasons.Truncated })) ≡ Err f → EndFault s f
    by_tests false b p q h = absurd (cc)
    by_tests true true p q h = absurd (no_blame (tt {0}, s) f h)
    by_tests true false p q h =
        let same = same_blame {X = Unit {0}} (record { place = s.place; reason = reasons.Trailing }) f h in record { place = sym (ap (λ (b : Fault). b.place) same); reason = sym (ap (λ (b : Fault). b.reason) same); apart = q }

refusal_place : (s : State) (f : Fault) → Refuses s f → s.place ≤ f.place
unfolding reads
refusal_place s f (inl (some, e)) = let m = moved_fault s (scan_at (first_of s.nest) (length s.nest) s.flag (rest s)) f e in let p = ap (λ (b : Fault). b.place) m.2 in omega (arith, p)
refusal_place s f (inr (none, e)) = let m = end_fault s f none e in let p = m.place in omega (arith, p)

last_place : (items : List Item) (s last : State) (f : Fault) → Reads s items last → Refuses last f → s.place ≤ f.place
last_place [] s last f r e = refusal_place s f (subst (λ x. Refuses x f) (sym r) e)
last_place (item ∷ items) s last f (next, step, more) e =
    let p = step_place s next item step in
    let q = last_place items next last f more e in
    omega (arith, p, q)

-- one reading that goes no further than where another stops
extends : (zs xs : List Item) (s mid new : State) → Reads s zs mid → Reads s xs new → Stops new → (rest : List Item) × (xs ≡ zs ++ rest) × Reads mid rest new
extends [] xs s mid new p q stops = (xs, refl, subst (λ x. Reads x xs new) p q)
extends (z ∷ zs) [] s mid new (next, step, more) q stops = absurd (both s next z stops.0 step (ap reads q ∙ stops.1))
extends (z ∷ zs) (x ∷ xs) s mid new (next, step, more) (n, first, others) stops =
    let same = same_answer x z n next (sym first ∙ step) in
    let e = extends zs xs next mid new more (subst (λ t. Reads t xs new) same.1 others) stops in
    (e.0, ap (λ i. i ∷ xs) same.0 ∙ ap (λ l. z ∷ l) e.1, e.2)

-- ---- where it is cut

-- the fault's item goes on behind this front of the bytes
abbrev pub Takes : List ℕ → List ℕ → Fault → Type 0
Takes front bytes f = length front < f.place + extent f.reason (drop f.place bytes)

-- the bytes from a place of what is left on are those from that place of the frame on
left_at : (s : State) (nest : List Slot) (flag : Bool) (left : List ℕ) (p : ℕ) → At s nest flag left → drop (s.place + p) s.frame ≡ drop p left
left_at s nest flag left p a = ap (λ l. drop (s.place + p) l) a.laid ∙ ap (λ n. drop (n + p) (a.front ++ left)) a.place ∙ drop_on (length a.front) p (a.front ++ left) ∙ ap (drop p) (drop_front a.front left)

pub not_trailing : reasons.Trailing ≡ reasons.Truncated → ⊥
not_trailing e = absurd (cc)

pub some_slot : (slot : Slot) (up : List Slot) → slot ∷ up ≡ [] → ⊥
some_slot slot up e = absurd (cc)

module _ (more : List ℕ) where
  -- a state of a frame, and the same state of a longer one
  pub record Twin (s u : State) : Type 0 where
    pub nest : List Slot
    pub flag : Bool
    pub left : List ℕ
    pub stands : Stands s nest flag left
    pub long : Longer more s u

  -- the items that are read of a frame are read of a longer one
  pub all_on : (items : List Item) (s t last : State) (nest : List Slot) (flag : Bool) (bytes : List ℕ) → Stands s nest flag bytes → Longer more s t → Reads s items last → ReadsTo more (Twin last) t items
  all_on [] s t last nest flag bytes a l r = (t, refl, subst (λ x. Twin x t) r (record { nest = nest; flag = flag; left = bytes; stands = a; long = l }))
  all_on (item ∷ items) s t last nest flag bytes a l (next, step, behind) =
      one_longer more (Twin last) item items s t next nest flag bytes a l (reads_read s nest flag bytes item next a.at step) (λ inner told left u b k. all_on items next u last inner told left b k behind)

module _ (more : List ℕ) (f : Fault) (other : f.reason ≡ reasons.Truncated → ⊥) where
  -- the call at which the longer frame takes in more bytes, and what is read behind
  module _ (s u : State) (slot : Slot) (up : List Slot) (flag : Bool) (left : List ℕ) (a : At s (slot ∷ up) flag left) (l : Longer more s u) (scan : Beyond (length left) (left ++ more) (item_in (suc (length up)) slot u.flag (left ++ more))) where
    far : At u (slot ∷ up) u.flag (left ++ more)
    far = at_longer more s u (slot ∷ up) flag left a l

    size : length s.frame ≡ s.place + length left
    size = ap length a.laid ∙ length-append a.front left ∙ ap (λ n. n + length left) (sym a.place)

    refused_needs : Refuses u f → Takes s.frame (s.frame ++ more) f
    refused_needs (inr (none, e)) = absurd (some_slot slot up (sym far.open_levels ∙ none))
    refused_needs (inl (open_one, e)) =
        let r = reads_fault u (slot ∷ up) u.flag (left ++ more) f far e in
        let place : f.place ≡ u.place + r.0.place = ap (λ (b : Fault). b.place) r.2 in
        let reason : f.reason ≡ r.0.reason = ap (λ (b : Fault). b.reason) r.2 in
        let b = subst (Beyond (length left) (left ++ more)) r.1 scan (λ t. other (reason ∙ t)) in
        let bytes : drop f.place (s.frame ++ more) ≡ drop r.0.place (left ++ more) =
        ap (drop f.place) (sym l.frame) ∙ ap (λ n. drop n u.frame) place ∙ left_at u (slot ∷ up) u.flag (left ++ more) r.0.place far in
        let same : extent f.reason (drop f.place (s.frame ++ more)) ≡ extent r.0.reason (drop r.0.place (left ++ more)) = ap (λ r. extent r (drop f.place (s.frame ++ more))) reason ∙ ap (extent r.0.reason) bytes in
        let here = l.place in
        omega (arith, b, same, place, here, size)

    pub goes_needs : (ys : List Item) (halt : State) → Reads u ys halt → Refuses halt f → Takes s.frame (s.frame ++ more) f
    goes_needs [] halt q e = refused_needs (subst (λ x. Refuses x f) (sym q) e)
    goes_needs (y ∷ ys) halt (next, step, rest) e =
        let r = reads_read u (slot ∷ up) u.flag (left ++ more) y next far step in
        let b : length left < r.0 = subst (Beyond (length left) (left ++ more)) r.1 scan in
        let place = ap (λ (x : State). x.place) r.2 in
        let last = last_place ys next halt f rest e in
        let here = l.place in
        omega (arith, b, place, last, here, size)

  here_needs : (s u : State) (nest : List Slot) (flag : Bool) (left : List ℕ) (g : Fault) → At s nest flag left → Longer more s u → g.reason ≡ reasons.Truncated → Refuses s g → (ys : List Item) (halt : State) → Reads u ys halt → Refuses halt f
      → Takes s.frame (s.frame ++ more) f
  here_needs s u nest flag left g a l t (inr (none, e)) ys halt q h = absurd (not_trailing (sym (end_fault s g none e).reason ∙ t))
  here_needs s u [] flag left g a l t (inl (some, e)) ys halt q h = absurd (some a.open_levels)
  here_needs s u (slot ∷ up) flag left g a l t (inl (some, e)) ys halt q h =
      let r = reads_fault s (slot ∷ up) flag left g a e in
      let reason : g.reason ≡ r.0.reason = ap (λ (b : Fault). b.reason) r.2 in
      let b = needs (length left) (left ++ more) _ _ r.0 (item_grows (suc (length up)) slot flag left more) r.1 (sym reason ∙ t) in
      let same = l.alike in
      let told : item_in (suc (length up)) slot flag (left ++ more) ≡ item_in (suc (length up)) slot u.flag (left ++ more) =
      ap (λ k. scan_at (first_of (slot ∷ up)) (length (slot ∷ up)) k (left ++ more)) (sym a.told) ∙ ap (λ n. scan_at (first_of n) (length n) s.flag (left ++ more)) (sym a.open_levels) ∙ same (left ++ more)
      ∙ ap (λ n. scan_at (first_of n) (length n) u.flag (left ++ more)) a.open_levels in
      goes_needs s u slot up flag left a l (subst (Beyond (length left) (left ++ more)) told b) ys halt q h

-- ---- a whole frame

header_read : (bytes : List ℕ) (h : Header) (first : State) (p : HeadParts bytes h first) → header_at bytes ≡ Ok (h.name, p.at + p.long)
header_read bytes h first p = ap (λ (z : Scan (MessageType × ℤ)). z >>= λ t. shifted t.1 (string_at (drop t.1 bytes))) p.fronted ∙ ap (shifted p.at) p.named

pub record HeaderFault (bytes : List ℕ) (f : Fault) : Type 0 where
  pub g : Fault
  pub scan : header_at bytes ≡ Err g
  pub place : f.place ≡ g.place
  pub reason : f.reason ≡ g.reason

pub header_fault : (bytes : List ℕ) (f : Fault) → HeadFault bytes f → HeaderFault bytes f
header_fault bytes f (inl (g, e, is)) = let place = ap (λ (b : Fault). b.place) is in record { g = g; scan = ap (λ (z : Scan (MessageType × ℤ)). z >>= λ t. shifted t.1 (string_at (drop t.1 bytes))) e; place = omega (arith, place); reason = ap (λ (b : Fault). b.reason) is }
header_fault bytes f (inr (front, at, g, e, s, is)) =
    let place = ap (λ (b : Fault). b.place) is in
    record { g = record { place = at + g.place; reason = g.reason }; scan = ap (λ (z : Scan (MessageType × ℤ)). z >>= λ t. shifted t.1 (string_at (drop t.1 bytes))) e ∙ ap (shifted at) s; place = omega (arith, place); reason = ap (λ (b : Fault). b.reason) is }

no_both : (x : Header × State) (f : Fault) → is_step x ≡ Err f → ⊥
no_both x f e = absurd (cc)

module _ (a b : List ℕ) (g f : Fault) (t : g.reason ≡ reasons.Truncated) (other : f.reason ≡ reasons.Truncated → ⊥) where
  head_cut_needs : reads_head (begun a) ≡ Err g → IsRefused (a ++ b) f → Takes a (a ++ b) f
  head_cut_needs e (inl h) =
      let r = header_fault a g (head_fault a g e) in
      let q = header_fault (a ++ b) f (head_fault (a ++ b) f h) in
      let n = subst (Beyond (length a) (a ++ b)) q.scan (needs (length a) (a ++ b) (header_at a) (header_at (a ++ b)) r.g (header_grows a b) r.scan (sym r.reason ∙ t)) (λ u. other (q.reason ∙ u)) in
      let place = q.place in
      let same : extent f.reason (drop f.place (a ++ b)) ≡ extent q.g.reason (drop q.g.place (a ++ b)) = ap (λ r. extent r (drop f.place (a ++ b))) q.reason ∙ ap (λ n. extent q.g.reason (drop n (a ++ b))) place in
      omega (arith, n, same, place)
  head_cut_needs e (inr (header, ys, first, halt, h, body, refuses)) =
      let r = header_fault a g (head_fault a g e) in
      let p = head_parts (a ++ b) header first h in
      let n : length a < p.at + p.long = subst (Beyond (length a) (a ++ b)) (header_read (a ++ b) header first p) (needs (length a) (a ++ b) (header_at a) (header_at (a ++ b)) r.g (header_grows a b) r.scan (sym r.reason ∙ t)) in
      let place = ap (λ (x : State). x.place) p.start in
      let last = last_place ys first halt f body refuses in
      omega (arith, n, place, last)

  pub cut_needs : AreBytes a → IsRefused a g → IsRefused (a ++ b) f → Takes a (a ++ b) f
  cut_needs are (inl e) h = head_cut_needs e h
  cut_needs are (inr (header, items, first, last, head, body, refuses)) (inl h) =
      let p = head_parts a header first head in
      absurd (no_both (header, headed_state (a ++ b) p.at p.long) f (sym (head_longer a b header first p) ∙ h))
  cut_needs are (inr (header, items, first, last, head, body, refuses)) (inr (k, ys, start, halt, again, rest, stops)) =
      let p = head_parts a header first head in
      let x = head_read a are header first head in
      let body_are = (bytes_front x.header x.body (subst AreBytes x.laid are)).1 in
      let st : Stands first body_open false x.body = record { at = at_body a header first x; are = body_are; most = omega arith; ids = (omega arith, tt) } in
      let long : Longer b (headed_state a p.at p.long) (headed_state (a ++ b) p.at p.long) = record { frame = refl; place = refl; open_levels = refl; alike = (λ z. refl) } in
      let same = same_answer k header start (headed_state (a ++ b) p.at p.long) (sym again ∙ head_longer a b header first p) in
      let c = all_on b items first start last body_open false x.body st (subst (λ s. Longer b s start) (sym p.start) (subst (λ s. Longer b (headed_state a p.at p.long) s) (sym same.1) long)) body in
      let w = c.2 in
      let e = extends items ys start c.0 halt c.1 rest (refuses_stops halt f stops) in
      let frame : last.frame ≡ a = read_frame items first last body ∙ ap (λ (s : State). s.frame) p.start in
      subst (λ z. Takes z (z ++ b) f) frame (here_needs b f other last c.0 w.nest w.flag w.left g w.stands.at w.long t refuses e.0 halt e.2 stops)
