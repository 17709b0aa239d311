-- The fault that refuses a frame is the one fault that stands there.
use Rattle.std.proofs.Common.{◌≡◌, ℕ, ◌+◌, ◌<◌, ◌≤◌, Bool, true, false, List, [], ◌∷◌, ◌++◌, length, take, drop, refl, ap, ◌∙◌, sym, subst, arith, ◌⊎◌, inl, inr, length-drop, length-take-le, append_assoc}
use Rattle.std.specs.Prelude.{nat_lt}
use Rattle.std.proofs.lemmas.Bool.Decides.{nat_tests}
use Rattle.std.proofs.lemmas.List.{take-append-drop}
use Rattle.thrift_value.specs.Items.{Item}
use Rattle.protocol_traits.specs.declared.fault.Fault.{Fault}
use Rattle.protocol_traits.specs.declared.fault.Reason.{Reason}
use Rattle.protocol_traits.specs.declared.fault.Reason.TheVariants as reasons
use Rattle.protocol_traits.specs.Heads.{Header}
use Rattle.compact_protocol.specs.Grammar.{CompactSpells}
use Rattle.gate_base.specs.Bytes.{AreBytes}
use Rattle.binary_laws.proofs.OneFault.{same_fault}
use Rattle.compact_laws.specs.Called.{Part, protocol_byte, version_byte, field_byte, bool_byte, elements_byte, kinds_byte, varint_part, size_part, level_part, IsCalled}
use Rattle.compact_laws.specs.Extent.{extent}
use Rattle.compact_laws.specs.Faulty.{IsFaulty}
use Rattle.compact_laws.specs.Faults.{IsWhole, with_item, IsShallow, StandsAt, FaultAt}
use Rattle.compact_laws.specs.Reads.{IsRead}
use Rattle.compact_laws.specs.Refused.{IsViable, IsRefused}
use Rattle.compact_laws.proofs.Spelled.{spelled_read}
use Rattle.compact_laws.proofs.Sound.{read_spelled}
use Rattle.compact_laws.proofs.Viable.{cut_viable}
use Rattle.compact_laws.proofs.Either.{never_both, one_fault, read_or_refused}
use Rattle.compact_laws.proofs.Deep.{not_viable}
use Rattle.compact_laws.proofs.Placed.{Not, Decided, is_truncated, trails, front_are, with_item as refused_with_item}
use Rattle.compact_laws.proofs.Lying.{fault_lies}
use Rattle.compact_laws.proofs.Leading.{CalledAt, fault_called}
use Rattle.compact_laws.proofs.Refusing.{DeepBy, wrong_there, deep_there}
use Rattle.compact_laws.proofs.Before.{within, before_viable, whole_before}

-- ---- reasons

not_trailing : reasons.Trailing ≡ reasons.Truncated → ⊥
not_trailing e = absurd (cc)

not_shallow : reasons.Trailing ≡ reasons.TooDeep → ⊥
not_shallow e = absurd (cc)

not_cut : reasons.TooDeep ≡ reasons.Truncated → ⊥
not_cut e = absurd (cc)

pub no_faulty_depth : (part : Part) (l : List ℕ) → IsFaulty part reasons.TooDeep l → ⊥
no_faulty_depth protocol_byte l bad = bad
no_faulty_depth version_byte l bad = bad
no_faulty_depth (field_byte last) l bad = bad
no_faulty_depth bool_byte l bad = bad
no_faulty_depth elements_byte l bad = bad
no_faulty_depth kinds_byte l bad = bad
no_faulty_depth (varint_part most width) l bad = bad
no_faulty_depth size_part l bad = bad
no_faulty_depth level_part l bad = bad

unread : (bytes : List ℕ) (f : Fault) → IsRefused bytes f → IsWhole bytes → ⊥
unread bytes f refused (m, spells, deep) = never_both bytes _ _ f (spelled_read m bytes spells deep) refused

pub item_tells : (bytes : List ℕ) (f : Fault) → AreBytes bytes → IsRefused bytes f → (f.reason ≡ reasons.Truncated → ⊥) → (f.reason ≡ reasons.Trailing → ⊥) → IsRefused (with_item f.reason bytes f.place) f
item_tells bytes f are refused other untrailed = refused_with_item bytes are f refused other untrailed

-- ---- what refuses the frame

module _ (bytes : List ℕ) (are : AreBytes bytes) (f : Fault) (refused : IsRefused bytes f) where
  -- for its depth
  deep_called : f.reason ≡ reasons.TooDeep → (f.place ≤ length bytes) × IsCalled level_part bytes f.place
  deep_called deep = by_called (fault_called bytes f (λ t. not_cut (sym deep ∙ t)) (λ t. not_shallow (sym t ∙ deep)) are refused)
    where
      by_called : CalledAt bytes f → (f.place ≤ length bytes) × IsCalled level_part bytes f.place
      by_called (inl (is, less, called)) = (less, called)
      by_called (inr (less, (part, called, bad))) = absurd (no_faulty_depth part (drop f.place bytes) (subst (λ r. IsFaulty part r (drop f.place bytes)) deep bad))

  -- where a value is called for that lies too deep, the frame is refused for one, there or before
  pub deep_first : (place : ℕ) → place ≤ length bytes → IsCalled level_part bytes place → (f.reason ≡ reasons.TooDeep) × (f.place ≤ place)
  deep_first place less called =
      let d = deep_there bytes are place less called in
      let same = one_fault bytes d.0 f d.1 refused in
      let early = d.3 in
      let at = ap (λ (b : Fault). b.place) same in
      (ap (λ (b : Fault). b.reason) (sym same) ∙ d.2, omega (arith, early, at))

  shallow : Not f reasons.TooDeep → f.place ≤ length bytes → IsShallow bytes f.place
  shallow flat less before early called = flat (deep_first before (omega (arith, less, early)) called).0

-- ---- the fault stands there

abbrev pub ItemAt : Reason → List ℕ → ℕ → Type 0
ItemAt reason bytes place = (place < length bytes) × IsShallow bytes place × ((part : Part) × IsCalled part bytes place × IsFaulty part reason (drop place bytes))

by_item : (r : Reason) → (r ≡ reasons.Truncated → ⊥) → (r ≡ reasons.Trailing → ⊥) → (r ≡ reasons.TooDeep → ⊥) → (bytes : List ℕ) (f : Fault) → r ≡ f.reason → AreBytes bytes → IsRefused bytes f → ItemAt r bytes f.place
by_item r p q d bytes f e are refused = subst (λ x. ItemAt x bytes f.place) (sym e) (by_called (fault_called bytes f (λ t. p (e ∙ t)) (λ t. q (e ∙ t)) are refused))
  where
    by_called : CalledAt bytes f → ItemAt f.reason bytes f.place
    by_called (inl (deep, less, called)) = absurd (d (e ∙ deep))
    by_called (inr (less, called)) = (less, shallow bytes are f refused (λ t. d (e ∙ t)) (omega (arith, less)), called)

no_extent : (f : Fault) (r : Reason) (bytes : List ℕ) → r ≡ f.reason → extent r bytes ≡ 0 → extent f.reason bytes ≡ 0
no_extent f r bytes e none = ap (λ x. extent x bytes) (sym e) ∙ none

by_reason : (r : Reason) (bytes : List ℕ) (f : Fault) → r ≡ f.reason → AreBytes bytes → IsRefused bytes f → StandsAt r bytes f.place
by_reason reasons.Truncated bytes f e are refused =
    let c = cut_viable bytes f are refused (sym e) in
    let flat : Not f reasons.TooDeep = (λ t. not_cut (sym t ∙ sym e)) in
    let end = c.0 in
    (end, shallow bytes are f refused flat (omega (arith, end)), c.1, unread bytes f refused)
by_reason reasons.Trailing bytes f e are refused =
    let other : Not f reasons.Truncated = (λ t. not_trailing (e ∙ t)) in
    let flat : Not f reasons.TooDeep = (λ t. not_shallow (e ∙ t)) in
    let less = within bytes are f refused other flat (fault_lies f other bytes are refused) in
    (less, shallow bytes are f refused flat (omega (arith, less)), whole_before bytes are f refused other flat (no_extent f reasons.Trailing (drop f.place bytes) e refl))
by_reason reasons.TooDeep bytes f e are refused =
    let c = deep_called bytes are f refused (sym e) in
    let within = c.0 in
    (within, c.1, (λ before less called. let d = deep_first bytes are f refused before (omega (arith, less, within)) called in let early = d.1 in absurd (omega (arith, early, less))))
by_reason r bytes f e are refused = by_item r (λ t. absurd (cc)) (λ t. absurd (cc)) (λ t. absurd (cc)) bytes f e are refused

pub stands_there : (bytes : List ℕ) (f : Fault) → AreBytes bytes → IsRefused bytes f → FaultAt bytes f
stands_there bytes f are refused = by_reason f.reason bytes f refl are refused

-- ---- a message or a fault

pub judged : (bytes : List ℕ) → AreBytes bytes → IsWhole bytes ⊎ ((f : Fault) × IsRefused bytes f × FaultAt bytes f)
judged bytes are = by_reading (read_or_refused bytes)
  where
    by_reading : ((header : Header) × (items : List Item) × IsRead bytes header items) ⊎ ((f : Fault) × IsRefused bytes f) → IsWhole bytes ⊎ ((f : Fault) × IsRefused bytes f × FaultAt bytes f)
    by_reading (inl (header, items, read)) = let s = read_spelled bytes header items are read in inl (s.0, s.4, s.3)
    by_reading (inr (f, stops)) = inr (f, stops, stands_there bytes f are stops)

-- ---- what stands there refuses the frame

module _ (bytes : List ℕ) (f : Fault) (are : AreBytes bytes) where
  deep_refuses : reasons.TooDeep ≡ f.reason → StandsAt reasons.TooDeep bytes f.place → IsRefused bytes f
  deep_refuses e (less, called, first) = by_deep (deep_there bytes are f.place less called)
    where
      by_place : (g : Fault) → IsRefused bytes g → g.reason ≡ reasons.TooDeep → g.place ≤ f.place → (b : Bool) → nat_lt g.place f.place ≡ b → IsRefused bytes f
      by_place g stops deep early true t = absurd (first g.place (grind (arith, nat_tests)) (deep_called bytes are g stops deep).1)
      by_place g stops deep early false t = subst (IsRefused bytes) (same_fault g f (let far : f.place ≤ g.place = grind (arith, nat_tests) in omega (arith, far, early)) (deep ∙ e)) stops

      by_deep : DeepBy bytes f.place → IsRefused bytes f
      by_deep (g, stops, deep, early) = by_place g stops deep early (nat_lt g.place f.place) refl

  -- a frame that begins a message and is none is refused at its end, or for its depth
  cut_refuses : reasons.Truncated ≡ f.reason → StandsAt reasons.Truncated bytes f.place → IsRefused bytes f
  cut_refuses e (end, shallow, viable, part) = by_reading (judged bytes are)
    where
      by_depth : (g : Fault) → IsRefused bytes g → Decided g.reason → IsRefused bytes f
      by_depth g stops (inl t) = subst (IsRefused bytes) (same_fault g f ((cut_viable bytes g are stops t).0 ∙ sym end) (t ∙ e)) stops
      by_depth g stops (inr other) = absurd (not_viable bytes g are stops other (λ deep. let c = deep_called bytes are g stops deep in let less = c.0 in shallow g.place (omega (arith, less, end)) c.1) viable)

      by_reading : IsWhole bytes ⊎ ((g : Fault) × IsRefused bytes g × FaultAt bytes g) → IsRefused bytes f
      by_reading (inl whole) = absurd (part whole)
      by_reading (inr (g, stops, stands)) = by_depth g stops (is_truncated g.reason)

  trail_refuses : reasons.Trailing ≡ f.reason → StandsAt reasons.Trailing bytes f.place → IsRefused bytes f
  trail_refuses e (less, shallow, (m, spells, deep)) = by_rest (drop f.place bytes) refl
    where
      size : length (take f.place bytes) ≡ f.place
      size = length-take-le f.place bytes (omega (arith, less))

      by_rest : (rest : List ℕ) → drop f.place bytes ≡ rest → IsRefused bytes f
      by_rest [] h = let left = length-drop f.place bytes in let none = ap length h in absurd (omega (arith, less, left, none))
      by_rest (x ∷ rest) h =
          let t = trails m (take f.place bytes) x rest spells deep in
          let all : take f.place bytes ++ x ∷ rest ≡ bytes = ap (λ l. take f.place bytes ++ l) (sym h) ∙ take-append-drop f.place bytes in
          subst (IsRefused bytes) (same_fault t.0 f (t.3 ∙ size) (t.2 ∙ e)) (subst (λ l. IsRefused l t.0) all t.1)

  pub item_refuses : (r : Reason) → r ≡ f.reason → ItemAt r bytes f.place → IsRefused bytes f
  item_refuses r e (less, shallow, (part, called, bad)) = by_way (wrong_there bytes are f.place (omega (arith, less)) part r less called bad)
    where
      by_way : IsRefused bytes (record { place = f.place; reason = r }) ⊎ DeepBy bytes f.place → IsRefused bytes f
      by_way (inl stops) = subst (IsRefused bytes) (same_fault (record { place = f.place; reason = r }) f refl e) stops
      by_way (inr (g, stops, deep, early)) = absurd (shallow g.place early (deep_called bytes are g stops deep).1)

  refused_by : (r : Reason) → r ≡ f.reason → StandsAt r bytes f.place → IsRefused bytes f
  refused_by reasons.Truncated e s = cut_refuses e s
  refused_by reasons.Trailing e s = trail_refuses e s
  refused_by reasons.TooDeep e s = deep_refuses e s
  refused_by r e s = item_refuses r e s

pub refuses : (bytes : List ℕ) (f : Fault) → AreBytes bytes → FaultAt bytes f → IsRefused bytes f
refuses bytes f are stands = refused_by bytes f are f.reason refl stands

pub apart : (bytes : List ℕ) (f : Fault) → AreBytes bytes → FaultAt bytes f → IsWhole bytes → ⊥
apart bytes f are stands whole = unread bytes f (refuses bytes f are stands) whole

pub one : (bytes : List ℕ) (f g : Fault) → AreBytes bytes → FaultAt bytes f → FaultAt bytes g → f ≡ g
one bytes f g are stands other = one_fault bytes f g (refuses bytes f are stands) (refuses bytes g are other)

-- ---- what stands before it, and with it

-- a front of what begins a message begins one
pub viable_front : (n : ℕ) (bytes : List ℕ) → IsViable bytes → IsViable (take n bytes)
viable_front n bytes (more, m, spells) =
    (drop n bytes ++ more, m, subst (CompactSpells m) (ap (λ l. l ++ more) (sym (take-append-drop n bytes)) ∙ append_assoc (take n bytes) (drop n bytes) more) spells)

pub before : (bytes : List ℕ) (f : Fault) → AreBytes bytes → FaultAt bytes f → IsViable (take f.place bytes)
before bytes f are stands = by_cut (is_truncated f.reason)
  where
    refused : IsRefused bytes f
    refused = refuses bytes f are stands

    by_cut : Decided f.reason → IsViable (take f.place bytes)
    by_cut (inl t) = viable_front f.place bytes (cut_viable bytes f are refused t).1
    by_cut (inr other) = before_viable bytes are f refused other

pub behind : (bytes : List ℕ) (f : Fault) → AreBytes bytes → FaultAt bytes f → (f.reason ≡ reasons.Truncated → ⊥) → (f.reason ≡ reasons.Trailing → ⊥) → (f.reason ≡ reasons.TooDeep → ⊥) → IsViable (with_item f.reason bytes f.place) → ⊥
behind bytes f are stands other untrailed flat viable =
    let refused = refuses bytes f are stands in
    not_viable (with_item f.reason bytes f.place) f (front_are bytes are f refused other (f.place + extent f.reason (drop f.place bytes))) (item_tells bytes f are refused other untrailed) other flat viable
