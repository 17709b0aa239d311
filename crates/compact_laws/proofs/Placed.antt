-- What stands before a fault, and with its item.
use Rattle.std.proofs.Common.{◌≡◌, ℕ, pos, ◌+◌, ◌<◌, ◌≤◌, Bool, true, false, List, [], ◌∷◌, ◌++◌, length, take, drop, Err, refl, ap, ◌∙◌, sym, subst, arith, ◌⊎◌, inl, inr, length-take-le, length-append, append_assoc}
use Rattle.std.specs.Prelude.{nat_lt, ◌==◌}
use Rattle.std.proofs.lemmas.Bool.Decides.{nat_tests}
use Rattle.std.proofs.lemmas.List.{append-nil, take-append-drop}
use Rattle.thrift_value.specs.Items.{Item}
use Rattle.thrift_value.specs.Trees.{Message, items_of_members, depth_of_members}
use Rattle.protocol_traits.specs.declared.fault.Fault.{Fault}
use Rattle.protocol_traits.specs.declared.fault.Reason.{Reason}
use Rattle.protocol_traits.specs.declared.fault.Reason.TheVariants as reasons
use Rattle.protocol_traits.specs.Heads.{Header}
use Rattle.compact_protocol.specs.Scan.{front_at, string_at}
use Rattle.compact_protocol.specs.Reading.{State, reads_end}
use Rattle.compact_protocol.specs.Grammar.{CompactSpells}
use Rattle.gate_base.specs.Bytes.{AreBytes}
use Rattle.binary_laws.specs.Reads.{header_of_message}
use Rattle.binary_laws.proofs.Inverse.{bytes_front}
use Rattle.binary_laws.proofs.Placed.{short_take, fault_reason}
use Rattle.compact_laws.specs.Extent.{extent}
use Rattle.compact_laws.specs.Faults.{IsWhole}
use Rattle.compact_laws.specs.Reads.{IsRead}
use Rattle.compact_laws.specs.Refused.{IsRefused}
use Rattle.compact_laws.proofs.Walking.{members_walk}
use Rattle.compact_laws.proofs.Heading.{head_again}
use Rattle.compact_laws.proofs.Spelled.{At, walk_reads, headed_state, head_is, body_open, spelled_read}
use Rattle.compact_laws.proofs.Sound.{read_spelled}
use Rattle.compact_laws.proofs.Either.{never_both, one_fault, read_or_refused}
use Rattle.compact_laws.proofs.Staying.{refused_stays}
use Rattle.compact_laws.proofs.Reaching.{read_frame, cut_needs}

-- ---- reasons

abbrev pub Decided : Reason → Type 0
Decided r = (r ≡ reasons.Truncated) ⊎ (r ≡ reasons.Truncated → ⊥)

pub is_truncated : (r : Reason) → Decided r
is_truncated reasons.Truncated = inl refl
is_truncated r = inr (λ e. absurd (cc))

abbrev pub Not : Fault → Reason → Type 0
Not f r = f.reason ≡ r → ⊥

-- ---- behind a message

abbrev Trails : List ℕ → ℕ → Type 0
Trails bytes place = (f : Fault) × IsRefused bytes f × (f.reason ≡ reasons.Trailing) × (f.place ≡ place)

bytes_left : (s : State) (flag : Bool) (x : ℕ) (rest : List ℕ) → At s [] flag (x ∷ rest) → reads_end s ≡ Err (record { place = s.place; reason = reasons.Trailing })
unfolding reads_end
bytes_left s flag x rest a =
    let none : (length s.nest == 0) ≡ true = ap (λ n. length n == 0) a.open_levels in
    let size = ap length a.laid ∙ length-append a.front (x ∷ rest) in
    let at = a.place in
    let apart : (s.place == length s.frame) ≡ false = grind (arith, nat_tests) in
    rw (none, apart) refl

-- a byte behind a whole message is refused
pub trails : (m : Message) (front : List ℕ) (x : ℕ) (rest : List ℕ) → CompactSpells m front → depth_of_members m.body < 256 → Trails (front ++ x ∷ rest) (length front)
trails m front x rest (header, body, head, members, laid) deep =
    let bytes = front ++ x ∷ rest in
    let parts : bytes ≡ header ++ (body ++ x ∷ rest) = ap (λ l. l ++ x ∷ rest) laid ∙ append_assoc header body (x ∷ rest) in
    let h = head_again m header (body ++ x ∷ rest) head in
    let whole = h.whole in
    let first = headed_state bytes h.at h.long in
    let at : At first body_open false (body ++ x ∷ rest) = record { front = header; open_levels = refl; told = refl; laid = parts; place = omega arith } in
    let w = walk_reads (items_of_members m.body) first body_open false (body ++ x ∷ rest) [] (x ∷ rest) at (members_walk m.body (pos 0) [] false body (x ∷ rest) members (omega arith)) in
    let s = w.0 in
    let read = head_is bytes m.name (m.mtype, m.seq) h.at h.long (ap front_at parts ∙ h.front) (ap (λ l. string_at (drop h.at l)) parts ∙ h.name) in
    let frame : s.frame ≡ bytes = read_frame (items_of_members m.body) first s w.1 in
    let long = ap length frame ∙ length-append front (x ∷ rest) in
    let short = ap length w.2.1.laid ∙ length-append w.2.1.front (x ∷ rest) in
    let behind = w.2.1.place in
    (record { place = s.place; reason = reasons.Trailing }, inr (header_of_message m, items_of_members m.body, first, s, read, w.1, inr (w.2.1.open_levels, bytes_left s w.2.0 x rest w.2.1)), refl, omega (arith, long, short, behind))

-- ---- the front of a frame that is refused

-- what comes of a front of a frame that is refused with f
abbrev pub Outcome : List ℕ → Fault → Type 0
Outcome front f =
    IsWhole front ⊎ ((g : Fault) × IsRefused front g × (g.reason ≡ reasons.Truncated)) ⊎ IsRefused front f

front_of : (front rest : List ℕ) (f : Fault) → AreBytes front → IsRefused (front ++ rest) f → Outcome front f
front_of front rest f are refused = by_reading (read_or_refused front)
  where
    by_reason : (g : Fault) → IsRefused front g → Decided g.reason → Outcome front f
    by_reason g stops (inl t) = inr (inl (g, stops, t))
    by_reason g stops (inr other) = inr (inr (subst (IsRefused front) (one_fault (front ++ rest) g f (refused_stays front rest g are stops other).0 refused) stops))

    by_reading : ((header : Header) × (items : List Item) × IsRead front header items) ⊎ ((f : Fault) × IsRefused front f) → Outcome front f
    by_reading (inl (header, items, read)) = let s = read_spelled front header items are read in inl (s.0, s.4, s.3)
    by_reading (inr (g, stops)) = by_reason g stops (is_truncated g.reason)

-- a whole message in front is refused for what follows, or nothing follows
pub whole_front : (front rest : List ℕ) (f : Fault) → AreBytes front → IsWhole front → IsRefused (front ++ rest) f → f.reason ≡ reasons.Trailing
whole_front front [] f are (m, spells, deep) refused = absurd (never_both front _ _ f (spelled_read m front spells deep) (subst (λ l. IsRefused l f) (append-nil front) refused))
whole_front front (x ∷ rest) f are (m, spells, deep) refused =
    let t = trails m front x rest spells deep in fault_reason f t.0 reasons.Trailing (one_fault (front ++ x ∷ rest) f t.0 refused t.1) t.2

-- ---- a frame that is refused, and its fronts

-- how far the item at fault goes
abbrev pub fault_end : Fault → List ℕ → ℕ
fault_end f bytes = f.place + extent f.reason (drop f.place bytes)

-- a frame that is cut short ends before the item at fault does
pub cut_before : (bytes : List ℕ) (f : Fault) → IsRefused bytes f → Not f reasons.Truncated → (n : ℕ) → AreBytes (take n bytes) → (g : Fault) → IsRefused (take n bytes) g → g.reason ≡ reasons.Truncated → n < fault_end f bytes
cut_before bytes f refused other n are g stops t = by_length (nat_lt (length bytes) n) refl
  where
    by_length : (b : Bool) → nat_lt (length bytes) n ≡ b → n < fault_end f bytes
    by_length true e = let less : length bytes ≤ n = grind (arith, nat_tests) in absurd (other (fault_reason f g reasons.Truncated (one_fault bytes f g refused (subst (λ l. IsRefused l g) (short_take n bytes less) stops)) t))
    by_length false e =
        let less : n ≤ length bytes = grind (arith, nat_tests) in
        let size = length-take-le n bytes less in
        let again : IsRefused (take n bytes ++ drop n bytes) f = subst (λ l. IsRefused l f) (sym (take-append-drop n bytes)) refused in
        subst (λ k. k < fault_end f bytes) size (subst (λ l. length (take n bytes) < fault_end f l) (take-append-drop n bytes) (cut_needs (take n bytes) (drop n bytes) g f t other are stops again))

module _ (bytes : List ℕ) (are : AreBytes bytes) (f : Fault) (refused : IsRefused bytes f) (other : Not f reasons.Truncated) where
  parts : (n : ℕ) → take n bytes ++ drop n bytes ≡ bytes
  parts n = take-append-drop n bytes

  pub front_are : (n : ℕ) → AreBytes (take n bytes)
  front_are n = (bytes_front (take n bytes) (drop n bytes) (subst AreBytes (sym (parts n)) are)).0

  pub again : (n : ℕ) → IsRefused (take n bytes ++ drop n bytes) f
  again n = subst (λ l. IsRefused l f) (sym (parts n)) refused

  pub outcome : (n : ℕ) → Outcome (take n bytes) f
  outcome n = front_of (take n bytes) (drop n bytes) f (front_are n) (again n)

  -- with the item at fault, as far as it stands there, the frame is refused alike
  pub with_item : Not f reasons.Trailing → IsRefused (take (fault_end f bytes) bytes) f
  with_item untrailed = by_outcome (outcome (fault_end f bytes))
    where
      by_outcome : Outcome (take (fault_end f bytes) bytes) f → IsRefused (take (fault_end f bytes) bytes) f
      by_outcome (inl whole) = absurd (untrailed (whole_front _ _ f (front_are (fault_end f bytes)) whole (again (fault_end f bytes))))
      by_outcome (inr (inl (g, stops, t))) = let less = cut_before bytes f refused other (fault_end f bytes) (front_are (fault_end f bytes)) g stops t in absurd (omega (arith, less))
      by_outcome (inr (inr same)) = same
