-- Where the fault that refuses a frame lies.
use Rattle.std.proofs.Common.{◌≡◌, ℕ, suc, ◌+◌, ◌<◌, ◌≤◌, Bool, false, List, [], ◌∷◌, length, take, drop, Err, refl, ap, ◌∙◌, sym, subst, arith, ◌⊎◌, inl, inr, length-append}
use Rattle.std.proofs.lemmas.Bool.Decides.{nat_tests}
use Rattle.std.proofs.lemmas.List.{append-nil}
use Rattle.protocol_traits.specs.declared.fault.Fault.{Fault}
use Rattle.protocol_traits.specs.declared.fault.Reason.TheVariants as reasons
use Rattle.protocol_traits.specs.declared.nest.Slot.{Slot}
use Rattle.compact_protocol.specs.Scan.{item_in}
use Rattle.compact_protocol.specs.Reading.{State, reads, begun, reads_head}
use Rattle.gate_base.specs.Bytes.{AreBytes}
use Rattle.binary_laws.proofs.Inverse.{bytes_front}
use Rattle.compact_laws.specs.Called.{Part, HeaderCalls, ItemCalls}
use Rattle.compact_laws.specs.Faulty.{IsFaulty}
use Rattle.compact_laws.specs.Refused.{Refuses, IsRefused}
use Rattle.compact_laws.proofs.Headed.{head_read, at_body}
use Rattle.compact_laws.proofs.Spelled.{body_open}
use Rattle.compact_laws.proofs.Sound.{Stands}
use Rattle.compact_laws.proofs.Staying.{reads_fault, Longer, head_fault}
use Rattle.compact_laws.proofs.Reaching.{end_fault, read_frame, header_fault, all_on}
use Rattle.compact_laws.proofs.Standing.{Inside, Lodges, Lodged, item_lodged, header_inside}

-- where a fault stands
abbrev pub Lies : List ℕ → Fault → Type 0
Lies frame f = ((f.reason ≡ reasons.TooDeep) × (f.place ≤ length frame)) ⊎ (f.place < length frame)

module _ (f : Fault) (other : f.reason ≡ reasons.Truncated → ⊥) where
  -- the item that is at fault
  pub record FaultIn (s : State) (slot : Slot) (up : List Slot) (flag : Bool) (left : List ℕ) : Type 0 where
    pub g : Fault
    pub scan : item_in (suc (length up)) slot flag left ≡ Err g
    pub place : f.place ≡ s.place + g.place
    pub reason : f.reason ≡ g.reason
    pub size : length s.frame ≡ s.place + length left
    pub by : Lodges (ItemCalls (suc (length up)) slot) left g

  pub item_here : (s : State) (slot : Slot) (up : List Slot) (flag : Bool) (left : List ℕ) → Stands s (slot ∷ up) flag left → reads s ≡ Err f → FaultIn s slot up flag left
  item_here s slot up flag left st e =
      let a = st.at in
      let r = reads_fault s (slot ∷ up) flag left f a e in
      let reason : f.reason ≡ r.0.reason = ap (λ (b : Fault). b.reason) r.2 in
      record {
        g = r.0;
        scan = r.1;
        place = ap (λ (b : Fault). b.place) r.2;
        reason = reason;
        size = ap length a.laid ∙ length-append a.front left ∙ ap (λ n. n + length left) (sym a.place);
        by = subst (Lodged (ItemCalls (suc (length up)) slot) left) r.1 (item_lodged (suc (length up)) slot flag left st.most st.are) (λ t. other (reason ∙ t));
      }

  item_lies : (s : State) (slot : Slot) (up : List Slot) (flag : Bool) (left : List ℕ) → FaultIn s slot up flag left → Lies s.frame f
  item_lies s slot up flag left i = by_lodges i.by
    where
      place : f.place ≡ s.place + i.g.place
      place = i.place

      size : length s.frame ≡ s.place + length left
      size = i.size

      by_lodges : Lodges (ItemCalls (suc (length up)) slot) left i.g → Lies s.frame f
      by_lodges (inl (deep, here, c)) = inl (i.reason ∙ deep, omega (arith, place, here, size))
      by_lodges (inr (less, bad)) = inr (omega (arith, place, less, size))

  here_lies : (s : State) (nest : List Slot) (flag : Bool) (left : List ℕ) → Stands s nest flag left → Refuses s f → Lies s.frame f
  here_lies s [] flag left st (inl (some, e)) = absurd (some st.at.open_levels)
  here_lies s (slot ∷ up) flag left st (inl (some, e)) = item_lies s slot up flag left (item_here s slot up flag left st e)
  here_lies s nest flag left st (inr (none, e)) =
      let a = st.at in
      let m = end_fault s f none e in
      let apart = m.apart in
      let place = m.place in
      let size = ap length a.laid ∙ length-append a.front left in
      let at = a.place in
      inr (grind (arith, nat_tests))

  nothing : (l : List ℕ) → length l ≡ 0 → l ≡ []
  nothing [] h = refl
  nothing (x ∷ l) h = absurd (omega arith)

  item_ends : (s : State) (slot : Slot) (up : List Slot) (flag : Bool) (left : List ℕ) → FaultIn s slot up flag left → f.place ≡ length s.frame → left ≡ []
  item_ends s slot up flag left i ends = by_lodges i.by
    where
      place : f.place ≡ s.place + i.g.place
      place = i.place

      size : length s.frame ≡ s.place + length left
      size = i.size

      by_lodges : Lodges (ItemCalls (suc (length up)) slot) left i.g → left ≡ []
      by_lodges (inl (deep, here, c)) = nothing left (omega (arith, place, here, size, ends))
      by_lodges (inr (less, bad)) = absurd (omega (arith, place, less, size, ends))

  -- where it stands at the end of the frame, nothing is left there
  pub here_ends : (s : State) (nest : List Slot) (flag : Bool) (left : List ℕ) → Stands s nest flag left → Refuses s f → f.place ≡ length s.frame → left ≡ []
  here_ends s [] flag left st (inl (some, e)) ends = absurd (some st.at.open_levels)
  here_ends s (slot ∷ up) flag left st (inl (some, e)) ends = item_ends s slot up flag left (item_here s slot up flag left st e) ends
  here_ends s nest flag left st (inr (none, e)) ends =
      let m = end_fault s f none e in
      let apart = m.apart in
      let place = m.place in
      absurd (grind (arith, nat_tests))

  -- in the header
  pub head_called : (bytes : List ℕ) → AreBytes bytes → reads_head (begun bytes) ≡ Err f → (f.place < length bytes) × ((part : Part) × HeaderCalls (take f.place bytes) part × IsFaulty part f.reason (drop f.place bytes))
  head_called bytes are e =
      let r = header_fault bytes f (head_fault bytes f e) in
      let q = subst (Inside HeaderCalls bytes) r.scan (header_inside bytes are) (λ t. other (r.reason ∙ t)) in
      let less = q.0 in
      let place = r.place in
      let part = q.1.0 in (
        omega (arith, less, place),
        (part, subst (λ n. HeaderCalls (take n bytes) part) (sym r.place) q.1.1, subst (λ x. IsFaulty part x (drop f.place bytes)) (sym r.reason) (subst (λ n. IsFaulty part r.g.reason (drop n bytes)) (sym r.place) q.1.2)),
      )

  pub fault_lies : (bytes : List ℕ) → AreBytes bytes → IsRefused bytes f → Lies bytes f
  fault_lies bytes are (inl e) = inr (head_called bytes are e).0
  fault_lies bytes are (inr (header, items, first, last, head, body, refuses)) =
      let x = head_read bytes are header first head in
      let body_are = (bytes_front x.header x.body (subst AreBytes x.laid are)).1 in
      let st : Stands first body_open false x.body = record { at = at_body bytes header first x; are = body_are; most = omega arith; ids = (omega arith, tt) } in
      let same : Longer [] first first = record { frame = sym (append-nil first.frame); place = refl; open_levels = refl; alike = (λ b. refl) } in
      let c = all_on [] items first first last body_open false x.body st same body in
      let w = c.2 in
      let frame : last.frame ≡ bytes = read_frame items first last body ∙ ap (λ (s : State). s.frame) x.start in
      subst (λ l. Lies l f) frame (here_lies last w.nest w.flag w.left w.stands refuses)
