-- The fault that refuses a frame is the one that stands there.
use Rattle.std.proofs.Common.{◌≡◌, ℕ, ◌+◌, ◌<◌, ◌≤◌, List, length, take, drop, refl, ap, ◌∙◌, sym, subst, arith, ◌⊎◌, inl, inr, length-drop}
use Rattle.std.proofs.lemmas.List.{take-append-drop}
use Rattle.thrift_value.specs.Items.{Item}
use Rattle.protocol_traits.specs.declared.fault.Fault.{Fault}
use Rattle.protocol_traits.specs.declared.fault.Reason.{Reason}
use Rattle.protocol_traits.specs.declared.fault.Reason.TheVariants as reasons
use Rattle.protocol_traits.specs.Heads.{Header}
use Rattle.binary_protocol.specs.Grammar.{BinarySpells}
use Rattle.gate_base.specs.Bytes.{AreBytes}
use Rattle.binary_laws.specs.Called.{IsCalled}
use Rattle.binary_laws.specs.Faults.{extent, IsWhole, IsShallow, StandsAt, FaultAt}
use Rattle.binary_laws.specs.Reads.{IsRead}
use Rattle.binary_laws.specs.Refused.{IsViable, IsRefused}
use Rattle.binary_laws.proofs.Spelled.{spelled_read}
use Rattle.binary_laws.proofs.Sound.{read_spelled}
use Rattle.binary_laws.proofs.Viable.{not_trailing, cut_viable}
use Rattle.binary_laws.proofs.Unique.{one_message}
use Rattle.binary_laws.proofs.Either.{never_both, one_fault, read_or_refused}
use Rattle.binary_laws.proofs.Reaching.{Lies, fault_lies}
use Rattle.binary_laws.proofs.Deep.{not_viable}
use Rattle.binary_laws.proofs.Placed.{Not, not_shallow, not_cut, lies_within, front_are, with_item, whole_before, fault_reason}
use Rattle.binary_laws.proofs.Fronts.{row_called, deep_called}
use Rattle.binary_laws.proofs.Depth.{called_deep}

pub unread : (bytes : List ℕ) (f : Fault) → IsRefused bytes f → IsWhole bytes → ⊥
unread bytes f refused (m, spells, deep) = never_both bytes _ _ f (spelled_read m bytes spells deep) refused

-- where a value is called for that lies too deep, the fault is that, there or before
pub deep_is : (bytes : List ℕ) (f : Fault) (place : ℕ) → AreBytes bytes → IsRefused bytes f → place ≤ length bytes → IsCalled reasons.TooDeep bytes place → (f.reason ≡ reasons.TooDeep) × (f.place ≤ place)
deep_is bytes f place are refused less called =
    let d = called_deep bytes place are less called in
    let same = one_fault bytes f d.0 refused d.1 in
    (fault_reason f d.0 reasons.TooDeep same d.2, subst (λ (g : Fault). g.place ≤ place) (sym same) d.3)

shallow : (bytes : List ℕ) (f : Fault) → AreBytes bytes → IsRefused bytes f → Not f reasons.TooDeep → f.place ≤ length bytes → IsShallow bytes f.place
shallow bytes f are refused flat less before within called = flat (deep_is bytes f before are refused (omega (arith, less, within)) called).0

first_deep : (bytes : List ℕ) (f : Fault) → AreBytes bytes → IsRefused bytes f → f.place ≤ length bytes → (before : ℕ) → before < f.place → IsCalled reasons.TooDeep bytes before → ⊥
first_deep bytes f are refused less before within called = let d = deep_is bytes f before are refused (omega (arith, less, within)) called in let least = d.1 in omega (arith, within, least)

pub lies_at : (frame : List ℕ) (f : Fault) → f.reason ≡ reasons.TooDeep → Lies frame f → f.place ≤ length frame
lies_at frame f deep (inl t) = absurd (not_cut (sym deep ∙ t))
lies_at frame f deep (inr (inl (t, less))) = omega (arith, less)
lies_at frame f deep (inr (inr (inl (t, less)))) = less
lies_at frame f deep (inr (inr (inr (row, less)))) = omega (arith, less)

abbrev ItemAt : Reason → List ℕ → ℕ → Type 0
ItemAt reason bytes place = (1 ≤ extent reason) × (place < length bytes) × IsShallow bytes place × IsCalled reason bytes place × (IsViable (take (place + extent reason) bytes) → ⊥)

by_lies : (r : Reason) → (r ≡ reasons.Truncated → ⊥) → (r ≡ reasons.Trailing → ⊥) → (r ≡ reasons.TooDeep → ⊥) → (bytes : List ℕ) (f : Fault) → r ≡ f.reason → AreBytes bytes → IsRefused bytes f → Lies bytes f → ItemAt r bytes f.place
by_lies r p q d bytes f e are refused (inl t) = absurd (p (e ∙ t))
by_lies r p q d bytes f e are refused (inr (inl (t, less))) = absurd (q (e ∙ t))
by_lies r p q d bytes f e are refused (inr (inr (inl (t, less)))) = absurd (d (e ∙ t))
by_lies r p q d bytes f e are refused (inr (inr (inr (row, less)))) =
    let other : Not f reasons.Truncated = (λ t. p (e ∙ t)) in
    let flat : Not f reasons.TooDeep = (λ t. d (e ∙ t)) in
    let untrailed : Not f reasons.Trailing = (λ t. q (e ∙ t)) in
    let n = f.place + extent f.reason in
    let same = with_item bytes are f refused other untrailed in
    subst (λ x. ItemAt x bytes f.place) (sym e)
    (row, less, shallow bytes f are refused flat (omega (arith, less)), row_called bytes f are refused other untrailed flat row less, not_viable (take n bytes) f (front_are bytes are f refused other n) same other flat)

by_reason : (r : Reason) (bytes : List ℕ) (f : Fault) → r ≡ f.reason → AreBytes bytes → IsRefused bytes f → Lies bytes f → StandsAt r bytes f.place
by_reason reasons.Truncated bytes f e are refused lies =
    let c = cut_viable bytes f are refused (sym e) in
    let place = c.0 in
    (c.0, shallow bytes f are refused (λ t. not_cut (sym t ∙ sym e)) (omega (arith, place)), c.1, unread bytes f refused)
by_reason reasons.Trailing bytes f e are refused lies =
    let other : Not f reasons.Truncated = (λ t. not_trailing (e ∙ t)) in
    let flat : Not f reasons.TooDeep = (λ t. not_shallow (e ∙ t)) in
    let less = lies_within bytes f other flat lies in
    (less, shallow bytes f are refused flat (omega (arith, less)), whole_before bytes are f refused other (sym e) less)
by_reason reasons.TooDeep bytes f e are refused lies =
    let less = lies_at bytes f (sym e) lies in
    (less, deep_called bytes f are refused (sym e) less, first_deep bytes f are refused less)
by_reason r bytes f e are refused lies = by_lies r (λ t. absurd (cc)) (λ t. absurd (cc)) (λ t. absurd (cc)) bytes f e are refused lies

pub stands_there : (bytes : List ℕ) (f : Fault) → AreBytes bytes → IsRefused bytes f → FaultAt bytes f
stands_there bytes f are refused = by_reason f.reason bytes f refl are refused (fault_lies bytes f are refused)

-- ---- a message or a fault

pub judged : (bytes : List ℕ) → AreBytes bytes → IsWhole bytes ⊎ ((f : Fault) × IsRefused bytes f × FaultAt bytes f)
judged bytes are = by_reading (read_or_refused bytes)
  where
    by_reading : ((header : Header) × (items : List Item) × IsRead bytes header items) ⊎ ((f : Fault) × IsRefused bytes f) → IsWhole bytes ⊎ ((f : Fault) × IsRefused bytes f × FaultAt bytes f)
    by_reading (inl (header, items, read)) = let s = read_spelled bytes header items are read in inl (s.0, s.4, s.3)
    by_reading (inr (f, stops)) = inr (f, stops, stands_there bytes f are stops)

begun_by : (n : ℕ) (bytes : List ℕ) → IsWhole bytes → IsViable (take n bytes)
begun_by n bytes (m, spells, deep) = (drop n bytes, m, subst (BinarySpells m) (sym (take-append-drop n bytes)) spells)

pub not_trailed : (place : ℕ) (bytes : List ℕ) → place < length bytes → IsWhole (take place bytes) → IsWhole bytes → ⊥
not_trailed place bytes less (m, spells, flat) (n, whole, deep) =
    let one = one_message m n (take place bytes) (drop place bytes) spells (subst (BinarySpells n) (sym (take-append-drop place bytes)) whole) in
    let size = length-drop place bytes in
    let none = ap length one.1 in
    omega (arith, less, size, none)

stands_apart : (r : Reason) (bytes : List ℕ) (place : ℕ) → AreBytes bytes → StandsAt r bytes place → IsWhole bytes → ⊥
stands_apart reasons.Truncated bytes place are s whole = s.3 whole
stands_apart reasons.Trailing bytes place are s whole = not_trailed place bytes s.0 s.2 whole
stands_apart reasons.TooDeep bytes place are s whole = unread bytes (called_deep bytes place are s.0 s.1).0 (called_deep bytes place are s.0 s.1).1 whole
stands_apart r bytes place are s whole = s.4 (begun_by (place + extent r) bytes whole)

pub apart : (bytes : List ℕ) (f : Fault) → AreBytes bytes → FaultAt bytes f → IsWhole bytes → ⊥
apart bytes f are stands whole = stands_apart f.reason bytes f.place are stands whole

pub item_tells : (bytes : List ℕ) (f : Fault) → AreBytes bytes → IsRefused bytes f → (f.reason ≡ reasons.Truncated → ⊥) → (f.reason ≡ reasons.Trailing → ⊥) → IsRefused (take (f.place + extent f.reason) bytes) f
item_tells bytes f are refused other untrailed = with_item bytes are f refused other untrailed
