-- What stands before a fault begins a message.
use Rattle.std.proofs.Common.{◌≡◌, ℕ, ◌<◌, ◌≤◌, Bool, false, List, [], ◌∷◌, ◌++◌, length, take, drop, ap, ◌∙◌, sym, subst, arith, inl, inr, length-take-le, append_assoc}
use Rattle.std.proofs.lemmas.List.{append-nil}
use Rattle.thrift_value.specs.Items.{Item}
use Rattle.protocol_traits.specs.declared.fault.Fault.{Fault}
use Rattle.protocol_traits.specs.declared.fault.Reason.TheVariants as reasons
use Rattle.protocol_traits.specs.declared.nest.Slot.{Slot}
use Rattle.compact_protocol.specs.Grammar.{CompactSpells}
use Rattle.compact_protocol.specs.Reading.{State}
use Rattle.gate_base.specs.Bytes.{AreBytes}
use Rattle.binary_laws.proofs.Inverse.{bytes_front}
use Rattle.binary_laws.proofs.Headed.{message_of}
use Rattle.compact_laws.specs.Extent.{extent}
use Rattle.compact_laws.specs.Faults.{IsWhole}
use Rattle.compact_laws.specs.Reads.{Reads}
use Rattle.compact_laws.specs.Refused.{IsViable, Refuses, IsRefused}
use Rattle.compact_laws.proofs.Levels.{Ends}
use Rattle.compact_laws.proofs.Closing.{nest_closed}
use Rattle.compact_laws.proofs.Headed.{head_read, at_body}
use Rattle.compact_laws.proofs.Spelled.{body_open}
use Rattle.compact_laws.proofs.Sound.{Stands, reads_read}
use Rattle.compact_laws.proofs.Viable.{Goes, Cut, one_back, body_of, cut_viable}
use Rattle.compact_laws.proofs.Reaching.{step_frame}
use Rattle.compact_laws.proofs.Lying.{here_ends, head_called, fault_lies, Lies}
use Rattle.compact_laws.proofs.Placed.{Not, Outcome, front_are, outcome, cut_before}

-- ---- a frame that is refused at its end

closes_here : (nest : List Slot) (flag : Bool) (left : List ℕ) → length nest ≤ 256 → left ≡ [] → Goes nest flag left
closes_here nest flag left most none =
    let c = nest_closed nest flag most in
    record { more = c.bytes; items = c.items; ends = subst (λ l. Ends 257 flag nest c.items (l ++ c.bytes)) (sym none) c.closes }

module _ (f : Fault) (other : Not f reasons.Truncated) where
  end_from : (items : List Item) (s last : State) (nest : List Slot) (flag : Bool) (left : List ℕ) → Stands s nest flag left → f.place ≡ length s.frame → Reads s items last → Refuses last f → Cut s nest flag left f
  end_from [] s last nest flag left a place r e = (place, closes_here nest flag left a.most (here_ends f other s nest flag left a (subst (λ x. Refuses x f) (sym r) e) place))
  end_from (item ∷ items) s last nest flag left a place (next, step, more) e =
      one_back item s next nest flag left f a (reads_read s nest flag left item next a.at step) (λ inner told rest b. end_from items next last inner told rest b (place ∙ ap length (sym (step_frame s next item step))) more e)

  -- the frame begins a message, where it is refused at its end
  end_viable : (bytes : List ℕ) → AreBytes bytes → IsRefused bytes f → f.place ≡ length bytes → IsViable bytes
  end_viable bytes are (inl e) place = let less = (head_called f other bytes are e).0 in absurd (omega (arith, less, place))
  end_viable bytes are (inr (h, items, first, last, head, body, refuses)) place =
      let x = head_read bytes are h first head in
      let body_are = (bytes_front x.header x.body (subst AreBytes x.laid are)).1 in
      let a : Stands first body_open false x.body = record { at = at_body bytes h first x; are = body_are; most = omega arith; ids = (omega arith, tt) } in
      let c = end_from items first last body_open false x.body a (place ∙ sym (ap (λ (s : State). length s.frame) x.start)) body refuses in
      let g = c.1 in
      let b = body_of g.items (x.body ++ g.more) g.ends in
      (g.more, message_of h b.ms, (x.header, x.body ++ g.more, x.spells b.ms, b.spells, ap (λ l. l ++ g.more) x.laid ∙ append_assoc x.header x.body g.more))

-- ---- what stands before the fault

whole_viable : (bytes : List ℕ) → IsWhole bytes → IsViable bytes
whole_viable bytes (m, spells, deep) = ([], m, subst (CompactSpells m) (sym (append-nil bytes)) spells)

module _ (bytes : List ℕ) (are : AreBytes bytes) (f : Fault) (refused : IsRefused bytes f) (other : Not f reasons.Truncated) where
  lies_at : Lies bytes f → f.place ≤ length bytes
  lies_at (inl (deep, less)) = less
  lies_at (inr less) = omega (arith, less)

  pub within : Not f reasons.TooDeep → Lies bytes f → f.place < length bytes
  within flat (inl (deep, less)) = absurd (flat deep)
  within flat (inr less) = less

  size : length (take f.place bytes) ≡ f.place
  size = length-take-le f.place bytes (lies_at (fault_lies f other bytes are refused))

  pub before_viable : IsViable (take f.place bytes)
  before_viable = by_outcome (outcome bytes are f refused other f.place)
    where
      by_outcome : Outcome (take f.place bytes) f → IsViable (take f.place bytes)
      by_outcome (inl whole) = whole_viable (take f.place bytes) whole
      by_outcome (inr (inl (g, stops, t))) = (cut_viable (take f.place bytes) g (front_are bytes are f refused other f.place) stops t).1
      by_outcome (inr (inr same)) = end_viable f other (take f.place bytes) (front_are bytes are f refused other f.place) same (sym size)

  -- what stands before a fault that isn't one of depth is not refused for it
  not_before : Not f reasons.TooDeep → IsRefused (take f.place bytes) f → ⊥
  not_before flat same = let less = within_front flat (fault_lies f other (take f.place bytes) (front_are bytes are f refused other f.place) same) in let long = size in omega (arith, less, long)
    where
      within_front : Not f reasons.TooDeep → Lies (take f.place bytes) f → f.place < length (take f.place bytes)
      within_front flat (inl (deep, less)) = absurd (flat deep)
      within_front flat (inr less) = less

  no_cut : extent f.reason (drop f.place bytes) ≡ 0 → (g : Fault) → IsRefused (take f.place bytes) g → g.reason ≡ reasons.Truncated → ⊥
  no_cut none g stops t = let short = cut_before bytes f refused other f.place (front_are bytes are f refused other f.place) g stops t in omega (arith, short, none)

  pub whole_before : Not f reasons.TooDeep → extent f.reason (drop f.place bytes) ≡ 0 → IsWhole (take f.place bytes)
  whole_before flat none = by_outcome (outcome bytes are f refused other f.place)
    where
      by_outcome : Outcome (take f.place bytes) f → IsWhole (take f.place bytes)
      by_outcome (inl whole) = whole
      by_outcome (inr (inl (g, stops, t))) = absurd (no_cut none g stops t)
      by_outcome (inr (inr same)) = absurd (not_before flat same)
