-- What stands before a fault, and with its item.
use Rattle.std.proofs.Common.{◌≡◌, ℕ, pos, zero, suc, ◌+◌, ◌<◌, ◌≤◌, Bool, true, false, List, [], ◌∷◌, ◌++◌, length, take, drop, Err, refl, ap, ◌∙◌, sym, subst, arith, ◌⊎◌, inl, inr, length-take-le, length-append, append_assoc}
use Rattle.std.specs.Prelude.{nat_lt, ◌==◌}
use Rattle.std.proofs.lemmas.Bool.Decides.{nat_tests}
use Rattle.std.proofs.lemmas.List.{append-nil, take-append-drop}
use Rattle.thrift_value.specs.Items.{Item}
use Rattle.thrift_value.specs.Trees.{Message, items_of_members, depth_of_members}
use Rattle.protocol_traits.specs.declared.fault.Fault.{Fault}
use Rattle.protocol_traits.specs.declared.fault.Reason.{Reason}
use Rattle.protocol_traits.specs.declared.fault.Reason.TheVariants as reasons
use Rattle.protocol_traits.specs.Heads.{Header}
use Rattle.binary_protocol.specs.Heads.{head_at}
use Rattle.binary_protocol.specs.Reading.{State, body_open, reads_end}
use Rattle.binary_protocol.specs.Grammar.{BinarySpells}
use Rattle.gate_base.specs.Bytes.{AreBytes}
use Rattle.binary_laws.specs.Faults.{extent, IsWhole}
use Rattle.binary_laws.specs.Reads.{IsRead, header_of_message}
use Rattle.binary_laws.specs.Refused.{IsRefused}
use Rattle.binary_laws.proofs.Inverse.{bytes_front}
use Rattle.binary_laws.proofs.Walking.{members_walk}
use Rattle.binary_laws.proofs.Heading.{head_again}
use Rattle.binary_laws.proofs.Spelled.{At, walk_reads, headed_state, head_is, spelled_read}
use Rattle.binary_laws.proofs.Sound.{read_spelled}
use Rattle.binary_laws.proofs.Either.{never_both, one_fault, read_or_refused}
use Rattle.binary_laws.proofs.Staying.{refused_stays}
use Rattle.binary_laws.proofs.Standing.{Standing}
use Rattle.binary_laws.proofs.Reaching.{Lies, cut_needs, fault_lies}

-- ---- reasons

abbrev Decided : Reason → Type 0
Decided r = (r ≡ reasons.Truncated) ⊎ (r ≡ reasons.Truncated → ⊥)

is_truncated : (r : Reason) → Decided r
is_truncated reasons.Truncated = inl refl
is_truncated r = inr (λ e. absurd (cc))

-- ---- behind a message

abbrev pub Trails : List ℕ → Type 0
Trails bytes = (f : Fault) × IsRefused bytes f × (f.reason ≡ reasons.Trailing)

bytes_left : (s : State) (x : ℕ) (rest : List ℕ) → At s [] (x ∷ rest) → reads_end s ≡ Err (record { place = s.place; reason = reasons.Trailing })
unfolding reads_end
bytes_left s x rest a =
    let none : (length s.nest == 0) ≡ true = ap (λ n. length n == 0) a.open_levels in
    let size = ap length a.laid ∙ length-append a.front (x ∷ rest) in
    let at = a.place in
    let apart : (s.place == length s.frame) ≡ false = grind (arith, nat_tests) in
    rw (none, apart) refl

-- a byte behind a whole message is refused
pub trails : (m : Message) (front : List ℕ) (x : ℕ) (rest : List ℕ) → BinarySpells m front → depth_of_members m.body < 256 → Trails (front ++ x ∷ rest)
trails m front x rest (small, fits, (header, body, head, members, laid)) deep =
    let bytes = front ++ x ∷ rest in
    let parts : bytes ≡ header ++ (body ++ x ∷ rest) = ap (λ l. l ++ x ∷ rest) laid ∙ append_assoc header body (x ∷ rest) in
    let first = headed_state bytes (length header) in
    let scan = ap head_at parts ∙ head_again m small fits (body ++ x ∷ rest) header head in
    let at : At first body_open (body ++ x ∷ rest) = record { front = header; open_levels = refl; laid = parts; place = omega arith } in
    let w = walk_reads (items_of_members m.body) first body_open (body ++ x ∷ rest) [] (x ∷ rest) at (members_walk m.body (pos 0) [] body (x ∷ rest) members (omega arith)) in
    let s = w.0 in (
      record { place = s.place; reason = reasons.Trailing },
      inr (header_of_message m, items_of_members m.body, first, s, head_is bytes (header_of_message m) (length header) scan, w.1, inr (w.2.open_levels, bytes_left s x rest w.2)),
      refl,
    )

-- ---- the front of a frame that is refused

-- what comes of a front of a frame that is refused with f
abbrev pub Outcome : List ℕ → Fault → Type 0
Outcome front f =
    IsWhole front ⊎ ((g : Fault) × IsRefused front g × (g.reason ≡ reasons.Truncated)) ⊎ IsRefused front f

front_of : (front rest : List ℕ) (f : Fault) → AreBytes front → IsRefused (front ++ rest) f → Outcome front f
front_of front rest f are refused = by_reading (read_or_refused front)
  where
    by_reason : (g : Fault) → IsRefused front g → Decided g.reason → Outcome front f
    by_reason g stops (inl t) = inr (inl (g, stops, t))
    by_reason g stops (inr other) = inr (inr (subst (IsRefused front) (one_fault (front ++ rest) g f (refused_stays front rest g are stops other).0 refused) stops))

    by_reading : ((header : Header) × (items : List Item) × IsRead front header items) ⊎ ((f : Fault) × IsRefused front f) → Outcome front f
    by_reading (inl (header, items, read)) = let s = read_spelled front header items are read in inl (s.0, s.4, s.3)
    by_reading (inr (g, stops)) = by_reason g stops (is_truncated g.reason)

pub fault_reason : (f g : Fault) (r : Reason) → f ≡ g → g.reason ≡ r → f.reason ≡ r
fault_reason f g r e h = ap (λ (b : Fault). b.reason) e ∙ h

-- a whole message in front is refused for what follows, or nothing follows
pub whole_front : (front rest : List ℕ) (f : Fault) → AreBytes front → IsWhole front → IsRefused (front ++ rest) f → f.reason ≡ reasons.Trailing
whole_front front [] f are (m, spells, deep) refused = absurd (never_both front _ _ f (spelled_read m front spells deep) (subst (λ l. IsRefused l f) (append-nil front) refused))
whole_front front (x ∷ rest) f are (m, spells, deep) refused =
    let t = trails m front x rest spells deep in fault_reason f t.0 reasons.Trailing (one_fault (front ++ x ∷ rest) f t.0 refused t.1) t.2

-- so many bytes of a frame, or all of them
pub short_take : (n : ℕ) (bytes : List ℕ) → length bytes ≤ n → take n bytes ≡ bytes
short_take zero [] h = refl
short_take (suc n) [] h = refl
short_take zero (x ∷ bytes) h = absurd (omega arith)
short_take (suc n) (x ∷ bytes) h = ap (λ l. x ∷ l) (short_take n bytes (omega arith))

abbrev pub Not : Fault → Reason → Type 0
Not f r = f.reason ≡ r → ⊥

pub lies_within : (frame : List ℕ) (f : Fault) → Not f reasons.Truncated → Not f reasons.TooDeep → Lies frame f → f.place < length frame
lies_within frame f other shallow (inl t) = absurd (other t)
lies_within frame f other shallow (inr (inl (t, less))) = less
lies_within frame f other shallow (inr (inr (inl (t, less)))) = absurd (shallow t)
lies_within frame f other shallow (inr (inr (inr (row, less)))) = less

-- ---- levels that lie too deep

pub not_shallow : reasons.Trailing ≡ reasons.TooDeep → ⊥
not_shallow e = absurd (cc)

pub not_cut : reasons.TooDeep ≡ reasons.Truncated → ⊥
not_cut e = absurd (cc)

pub no_extent : (r : Reason) → r ≡ reasons.TooDeep → 1 ≤ extent r → ⊥
no_extent r e h = let none : extent r ≡ 0 = ap extent e in omega (arith, h, none)

pub head_shallow : (bytes : List ℕ) (f g : Fault) → f.reason ≡ reasons.TooDeep → g.reason ≡ f.reason → Standing (length bytes) g → ⊥
head_shallow bytes f g deep same (inl t) = not_cut (sym deep ∙ sym same ∙ t)
head_shallow bytes f g deep same (inr (row, less)) = no_extent g.reason (same ∙ deep) row

-- ---- a frame that is refused, and its fronts

-- a frame that is cut short ends before the item at fault does
pub cut_before : (bytes : List ℕ) (f : Fault) → IsRefused bytes f → Not f reasons.Truncated → (n : ℕ) → AreBytes (take n bytes) → (g : Fault) → IsRefused (take n bytes) g → g.reason ≡ reasons.Truncated → n < f.place + extent f.reason
cut_before bytes f refused other n are g stops t = by_length (nat_lt (length bytes) n) refl
  where
    by_length : (b : Bool) → nat_lt (length bytes) n ≡ b → n < f.place + extent f.reason
    by_length true e = let less : length bytes ≤ n = grind (arith, nat_tests) in absurd (other (fault_reason f g reasons.Truncated (one_fault bytes f g refused (subst (λ l. IsRefused l g) (short_take n bytes less) stops)) t))
    by_length false e =
        let less : n ≤ length bytes = grind (arith, nat_tests) in
        let size = length-take-le n bytes less in
        let needs = cut_needs (take n bytes) (drop n bytes) g f are stops t (subst (λ l. IsRefused l f) (sym (take-append-drop n bytes)) refused) other in
        omega (arith, size, needs)

-- at a value that lies too deep the frame is refused, whether or not a byte stands there
pub deep_front : (bytes : List ℕ) (f : Fault) → IsRefused bytes f → f.reason ≡ reasons.TooDeep → AreBytes (take f.place bytes) → IsRefused (take f.place bytes) f
deep_front bytes f refused deep are = by_outcome (front_of (take f.place bytes) (drop f.place bytes) f are again)
  where
    again : IsRefused (take f.place bytes ++ drop f.place bytes) f
    again = subst (λ l. IsRefused l f) (sym (take-append-drop f.place bytes)) refused

    by_outcome : Outcome (take f.place bytes) f → IsRefused (take f.place bytes) f
    by_outcome (inl whole) = absurd (not_shallow (sym (whole_front (take f.place bytes) (drop f.place bytes) f are whole again) ∙ deep))
    by_outcome (inr (inl (g, stops, t))) =
        let short = cut_before bytes f refused (λ t. not_cut (sym deep ∙ t)) f.place are g stops t in
        let none : extent f.reason ≡ 0 = ap extent deep in
        absurd (omega (arith, short, none))
    by_outcome (inr (inr same)) = same

module _ (bytes : List ℕ) (are : AreBytes bytes) (f : Fault) (refused : IsRefused bytes f) (other : Not f reasons.Truncated) where
  parts : (n : ℕ) → take n bytes ++ drop n bytes ≡ bytes
  parts n = take-append-drop n bytes

  pub front_are : (n : ℕ) → AreBytes (take n bytes)
  front_are n = (bytes_front (take n bytes) (drop n bytes) (subst AreBytes (sym (parts n)) are)).0

  pub again : (n : ℕ) → IsRefused (take n bytes ++ drop n bytes) f
  again n = subst (λ l. IsRefused l f) (sym (parts n)) refused

  pub outcome : (n : ℕ) → Outcome (take n bytes) f
  outcome n = front_of (take n bytes) (drop n bytes) f (front_are n) (again n)

  -- with the item at fault, as far as it stands there, the frame is refused alike
  pub with_item : Not f reasons.Trailing → IsRefused (take (f.place + extent f.reason) bytes) f
  with_item untrailed = by_outcome (outcome (f.place + extent f.reason))
    where
      by_outcome : Outcome (take (f.place + extent f.reason) bytes) f → IsRefused (take (f.place + extent f.reason) bytes) f
      by_outcome (inl whole) = absurd (untrailed (whole_front _ _ f (front_are (f.place + extent f.reason)) whole (again (f.place + extent f.reason))))
      by_outcome (inr (inl (g, stops, t))) = let less = cut_before bytes f refused other (f.place + extent f.reason) (front_are (f.place + extent f.reason)) g stops t in absurd (omega (arith, less))
      by_outcome (inr (inr same)) = same

  -- what stands before a fault that isn't one of depth is not refused for it
  pub not_before : Not f reasons.TooDeep → f.place < length bytes → IsRefused (take f.place bytes) f → ⊥
  not_before shallow less same =
      let size = length-take-le f.place bytes (omega (arith, less)) in
      let within = lies_within (take f.place bytes) f other shallow (fault_lies (take f.place bytes) f (front_are f.place) same) in
      omega (arith, size, within)

  pub whole_before : f.reason ≡ reasons.Trailing → f.place < length bytes → IsWhole (take f.place bytes)
  whole_before trailing less = by_outcome (outcome f.place)
    where
      by_outcome : Outcome (take f.place bytes) f → IsWhole (take f.place bytes)
      by_outcome (inl whole) = whole
      by_outcome (inr (inl (g, stops, t))) = let short = cut_before bytes f refused other f.place (front_are f.place) g stops t in let none : extent f.reason ≡ 0 = ap extent trailing in absurd (omega (arith, short, none))
      by_outcome (inr (inr same)) = absurd (not_before (λ deep. not_shallow (sym trailing ∙ deep)) less same)

  pub deep_before : f.reason ≡ reasons.TooDeep → IsRefused (take f.place bytes) f
  deep_before deep = deep_front bytes f refused deep (front_are f.place)
