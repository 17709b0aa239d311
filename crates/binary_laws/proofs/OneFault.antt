-- A fault that stands in a frame is the one that refuses it, where no item is at fault; and how far off it may be, where one is.
use Rattle.std.proofs.Common.{◌≡◌, ℕ, ◌+◌, ◌<◌, ◌≤◌, Bool, true, false, List, [], ◌∷◌, ◌++◌, length, take, drop, refl, ap, ◌∙◌, sym, subst, arith, inl, inr, length-take-le, length-drop, append_assoc}
use Rattle.std.specs.Prelude.{nat_lt}
use Rattle.std.proofs.lemmas.Bool.Decides.{nat_tests}
use Rattle.std.proofs.lemmas.List.{append-nil, take-append-drop}
use Rattle.protocol_traits.specs.declared.fault.Fault.{Fault}
use Rattle.protocol_traits.specs.declared.fault.Reason.{Reason}
use Rattle.protocol_traits.specs.declared.fault.Reason.TheVariants as reasons
use Rattle.binary_protocol.specs.Grammar.{BinarySpells}
use Rattle.gate_base.specs.Bytes.{AreBytes}
use Rattle.binary_laws.specs.Faults.{extent, IsWhole, IsShallow, StandsAt}
use Rattle.binary_laws.specs.Refused.{IsViable, IsRefused}
use Rattle.binary_laws.proofs.Either.{one_fault}
use Rattle.binary_laws.proofs.Viable.{cut_viable}
use Rattle.binary_laws.proofs.Deep.{not_viable}
use Rattle.binary_laws.proofs.Reaching.{Lies, fault_lies}
use Rattle.binary_laws.proofs.Placed.{Not, Trails, trails, not_shallow, fault_reason, Outcome, outcome, again, cut_before, whole_front, front_are, whole_before, lies_within}
use Rattle.binary_laws.proofs.Fronts.{deep_called}
use Rattle.binary_laws.proofs.Depth.{take_take}
use Rattle.binary_laws.proofs.Faults.{deep_is, not_trailed, stands_there}

pub same_fault : (f g : Fault) → f.place ≡ g.place → f.reason ≡ g.reason → f ≡ g
same_fault f g p r = ap (λ n. record { place = n; reason = f.reason }) p ∙ ap (λ q. record { place = g.place; reason = q }) r

-- a front of what begins a message begins one
pub viable_front : (n : ℕ) (bytes : List ℕ) → IsViable bytes → IsViable (take n bytes)
viable_front n bytes (more, m, spells) =
    (drop n bytes ++ more, m, subst (BinarySpells m) (ap (λ l. l ++ more) (sym (take-append-drop n bytes)) ∙ append_assoc (take n bytes) (drop n bytes) more) spells)

-- a frame that begins a message is refused as truncated or for its depth
pub not_begun : (bytes : List ℕ) (h : Fault) → AreBytes bytes → IsRefused bytes h → IsViable bytes → Not h reasons.Truncated → Not h reasons.TooDeep → ⊥
not_begun bytes h are refused viable other flat = not_viable bytes h are refused other flat viable

pub no_row : (r : Reason) → r ≡ reasons.Truncated → 1 ≤ extent r → ⊥
no_row r e row = let none : extent r ≡ 0 = ap extent e in omega (arith, row, none)

pub no_deep : (r : Reason) → r ≡ reasons.TooDeep → 1 ≤ extent r → ⊥
no_deep r e row = let none : extent r ≡ 0 = ap extent e in omega (arith, row, none)

pub trailing_cut : reasons.Trailing ≡ reasons.Truncated → ⊥
trailing_cut e = absurd (cc)

module _ (bytes : List ℕ) (are : AreBytes bytes) (f h : Fault) (refused : IsRefused bytes h) where
  pub deep_one : f.reason ≡ reasons.TooDeep → StandsAt reasons.TooDeep bytes f.place → f ≡ h
  deep_one deep (within, called, first) =
      let d = deep_is bytes h f.place are refused within called in
      let least = d.1 in
      by_place (nat_lt h.place f.place) refl d.0 least
    where
      by_place : (b : Bool) → nat_lt h.place f.place ≡ b → h.reason ≡ reasons.TooDeep → h.place ≤ f.place → f ≡ h
      by_place true e same least = absurd (first h.place (grind (arith, nat_tests)) (deep_called bytes h are refused same (omega (arith, within, least))))
      by_place false e same least = same_fault f h (let far : f.place ≤ h.place = grind (arith, nat_tests) in omega (arith, far, least)) (deep ∙ sym same)

  pub cut_one : f.reason ≡ reasons.Truncated → StandsAt reasons.Truncated bytes f.place → f ≡ h
  cut_one cut_short (end, shallow, viable, part) = by_lies (fault_lies bytes h are refused)
    where
      by_lies : Lies bytes h → f ≡ h
      by_lies (inl t) = same_fault f h (end ∙ sym (cut_viable bytes h are refused t).0) (cut_short ∙ sym t)
      by_lies (inr (inl (t, less))) = absurd (not_begun bytes h are refused viable (λ c. trailing_cut (sym t ∙ c)) (λ d. not_shallow (sym t ∙ d)))
      by_lies (inr (inr (inl (t, less)))) = absurd (shallow h.place (omega (arith, less, end)) (deep_called bytes h are refused t less))
      by_lies (inr (inr (inr (row, less)))) = absurd (not_begun bytes h are refused viable (λ c. no_row h.reason c row) (λ d. no_deep h.reason d row))

  -- two fronts that are whole messages are one
  one_whole : (p q : ℕ) → p < q → q ≤ length bytes → IsWhole (take p bytes) → IsWhole (take q bytes) → ⊥
  one_whole p q less within whole other =
      let size = length-take-le q bytes within in
      not_trailed p (take q bytes) (omega (arith, less, size)) (subst IsWhole (sym (take_take p q bytes (omega (arith, less)))) whole) other

  pub trailing_one : f.reason ≡ reasons.Trailing → StandsAt reasons.Trailing bytes f.place → f ≡ h
  trailing_one trailing (less, shallow, whole) = by_rest (drop f.place bytes) refl
    where
      by_places : h.reason ≡ reasons.Trailing → h.place < length bytes → IsWhole (take h.place bytes) → f ≡ h
      by_places same within other = by_order (nat_lt f.place h.place) (nat_lt h.place f.place) refl refl
        where
          by_order : (a b : Bool) → nat_lt f.place h.place ≡ a → nat_lt h.place f.place ≡ b → f ≡ h
          by_order true b p q = absurd (one_whole f.place h.place (grind (arith, nat_tests)) (omega (arith, within)) whole other)
          by_order false true p q = absurd (one_whole h.place f.place (grind (arith, nat_tests)) (omega (arith, less)) other whole)
          by_order false false p q = same_fault f h (let x : h.place ≤ f.place = grind (arith, nat_tests) in let y : f.place ≤ h.place = grind (arith, nat_tests) in omega (arith, x, y)) (trailing ∙ sym same)

      found : h.reason ≡ reasons.Trailing → f ≡ h
      found same =
          let other : Not h reasons.Truncated = (λ c. trailing_cut (sym same ∙ c)) in
          let within = lies_within bytes h other (λ d. not_shallow (sym same ∙ d)) (fault_lies bytes h are refused) in
          by_places same within (whole_before bytes are h refused other same within)

      by_rest : (l : List ℕ) → drop f.place bytes ≡ l → f ≡ h
      by_rest [] e = let none = ap length e in let size = length-drop f.place bytes in absurd (omega (arith, none, size, less))
      by_rest (x ∷ rest) e =
          let t : Trails (take f.place bytes ++ x ∷ rest) = trails whole.0 (take f.place bytes) x rest whole.1 whole.2 in
          let laid = ap (λ l. take f.place bytes ++ l) (sym e) ∙ take-append-drop f.place bytes in
          found (fault_reason h t.0 reasons.Trailing (one_fault bytes h t.0 refused (subst (λ l. IsRefused l t.0) laid t.1)) t.2)

-- what stands before a fault begins a message
stands_viable : (r : Reason) (bytes : List ℕ) (place : ℕ) → (r ≡ reasons.Truncated → ⊥) → StandsAt r bytes place → IsViable (take place bytes)
stands_viable reasons.Truncated bytes place other s = absurd (other refl)
stands_viable reasons.Trailing bytes place other s = whole_viable (take place bytes) s.2
  where
    whole_viable : (front : List ℕ) → IsWhole front → IsViable front
    whole_viable front (m, spells, deep) = ([], m, subst (BinarySpells m) (sym (append-nil front)) spells)
stands_viable reasons.TooDeep bytes place other s = (s.1.0, s.1.1, s.1.2)
stands_viable r bytes place other s = (s.3.0, s.3.1, s.3.2)

shorter_viable : (p q : ℕ) (bytes : List ℕ) → p ≤ q → IsViable (take q bytes) → IsViable (take p bytes)
shorter_viable p q bytes less viable = subst IsViable (take_take p q bytes less) (viable_front p (take q bytes) viable)

module _ (bytes : List ℕ) (are : AreBytes bytes) (f h : Fault) (refused : IsRefused bytes h) (within : f.place < length bytes) (shallow : IsShallow bytes f.place) (viable : IsViable (take f.place bytes))
    (bad : IsViable (take (f.place + extent f.reason) bytes) → ⊥) where
  pub not_short : Not h reasons.Truncated
  not_short t = bad (viable_front (f.place + extent f.reason) bytes (cut_viable bytes h are refused t).1)

  pub not_beyond : h.place < f.place + extent f.reason
  not_beyond = by_place (nat_lt h.place (f.place + extent f.reason)) refl
    where
      by_place : (b : Bool) → nat_lt h.place (f.place + extent f.reason) ≡ b → h.place < f.place + extent f.reason
      by_place true e = grind (arith, nat_tests)
      by_place false e = absurd (bad (shorter_viable (f.place + extent f.reason) h.place bytes (grind (arith, nat_tests)) (stands_viable h.reason bytes h.place not_short (stands_there bytes h are refused))))

  pub not_behind : f.place ≤ h.place + extent h.reason
  not_behind = by_outcome (outcome bytes are h refused not_short f.place)
    where
      size : length (take f.place bytes) ≡ f.place
      size = length-take-le f.place bytes (omega (arith, within))

      by_lies : IsRefused (take f.place bytes) h → Lies (take f.place bytes) h → f.place ≤ h.place + extent h.reason
      by_lies same (inl t) = absurd (not_short t)
      by_lies same (inr (inl (t, less))) = absurd (not_begun (take f.place bytes) h (front_are bytes are h refused not_short f.place) same viable not_short (λ d. not_shallow (sym t ∙ d)))
      by_lies same (inr (inr (inl (t, less)))) = absurd (shallow h.place (omega (arith, less, size)) (deep_called bytes h are refused t (omega (arith, less, size, within))))
      by_lies same (inr (inr (inr (row, less)))) = absurd (not_begun (take f.place bytes) h (front_are bytes are h refused not_short f.place) same viable not_short (λ d. no_deep h.reason d row))

      by_order : (b : Bool) → nat_lt h.place f.place ≡ b → IsWhole (take f.place bytes) → h.reason ≡ reasons.Trailing → f.place ≤ h.place + extent h.reason
      by_order true e whole t = absurd (one_whole bytes are f h refused h.place f.place (grind (arith, nat_tests)) (omega (arith, within)) (whole_before bytes are h refused not_short t (omega (arith, within, not_beyond_place e))) whole)
        where
          not_beyond_place : nat_lt h.place f.place ≡ true → h.place < f.place
          not_beyond_place e = grind (arith, nat_tests)
      by_order false e whole t = let least : f.place ≤ h.place = grind (arith, nat_tests) in omega (arith, least)

      by_outcome : Outcome (take f.place bytes) h → f.place ≤ h.place + extent h.reason
      by_outcome (inl whole) = by_order (nat_lt h.place f.place) refl whole (whole_front (take f.place bytes) (drop f.place bytes) h (front_are bytes are h refused not_short f.place) whole (again bytes are h refused not_short f.place))
      by_outcome (inr (inl (g, stops, t))) = let less = cut_before bytes h refused not_short f.place (front_are bytes are h refused not_short f.place) g stops t in omega (arith, less)
      by_outcome (inr (inr same)) = by_lies same (fault_lies (take f.place bytes) h (front_are bytes are h refused not_short f.place) same)
