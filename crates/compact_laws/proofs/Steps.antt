-- What one call of the reader answers.
use Rattle.std.proofs.Common.{◌≡◌, Bool, true, false, cond, List, [], ◌∷◌, length, Ok, Err, refl, ap, arith}
use Rattle.std.specs.Prelude.{◌==◌}
use Rattle.std.proofs.lemmas.Bool.Decides.{nat_tests}
use Rattle.protocol_traits.specs.declared.fault.Fault.{Fault}
use Rattle.protocol_traits.specs.declared.nest.Slot.{Slot}
use Rattle.protocol_traits.specs.Steps.{Step}
use Rattle.compact_protocol.specs.Reading.{State}

abbrev pub is_step : {X : Type 0} → X × State → Step State X
is_step p = Ok p

abbrev pub is_bad : {X : Type 0} → Fault → Step State X
is_bad f = Err f

abbrev got : {X : Type 0} → X × State → Step State X → X × State
got d (Ok p) = p
got d (Err f) = d

abbrev blame : {X : Type 0} → Fault → Step State X → Fault
blame d (Ok p) = d
blame d (Err f) = f

pub same_answer : {X : Type 0} → (x y : X) (s t : State) → is_step (x, s) ≡ is_step (y, t) → (x ≡ y) × (s ≡ t)
same_answer {X} x y s t e = (ap (λ (r : Step State X). (got (x, s) r).0) e, ap (λ (r : Step State X). (got (x, s) r).1) e)

pub same_blame : {X : Type 0} → (f g : Fault) → is_bad {X = X} f ≡ is_bad g → f ≡ g
same_blame {X} f g e = ap (λ (r : Step State X). blame f r) e

pub no_step : {X : Type 0} → (f : Fault) (x : X × State) → is_bad {X = X} f ≡ is_step x → ⊥
no_step f x e = absurd (cc)

pub no_blame : {X : Type 0} → (x : X × State) (f : Fault) → is_step x ≡ is_bad f → ⊥
no_blame x f e = absurd (cc)

pub no_levels : (nest : List Slot) → (length nest == 0) ≡ true → nest ≡ []
no_levels [] e = refl
no_levels (slot ∷ up) e = absurd (grind (arith, nat_tests))

-- a step that is no fault
pub step_past : {X : Type 0} → (b : Bool) (step : Step State X) (f : Fault) (x : X × State) → cond b step (is_bad f) ≡ is_step x → (b ≡ true) × (step ≡ is_step x)
step_past {X} true step f x e = (refl, e)
step_past {X} false step f x e = absurd (no_step f x e)
