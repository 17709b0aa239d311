-- What one call of a reader answers.
use Rattle.std.specs.Prelude.{◌≡◌, ⊤, Option, Some, None, Result, Ok, Err, refl}
use Rattle.protocol_traits.specs.declared.fault.Fault.{Fault}
use Rattle.protocol_traits.specs.declared.fault.Bar.{Bar}

-- what was read and the state after it, or a fault
abbrev pub Step : Type 0 → Type 0 → Type 0
Step S X = Result (X × S) Fault

-- the answer alone
abbrev pub told : {S X : Type 0} → Step S X → Result X Fault
told (Ok x) = Ok x.0
told (Err f) = Err f

-- what the code gave, without where its text lies in memory
abbrev pub seen : {A X : Type 0} → (A → X) → Result A Fault → Result X Fault
seen view (Ok x) = Ok (view x)
seen view (Err f) = Err f

-- the state after the step; after a fault nothing is said
abbrev pub Leaves : {S X : Type 0} → Step S X → S → Type 0
Leaves (Ok x) new = new ≡ x.1
Leaves (Err f) new = ⊤

-- the code gave this step, and is in the state after it
abbrev pub Answers : {S A X : Type 0} → (A → X) → Result A Fault → S → Step S X → Type 0
Answers view (Ok a) new step = step ≡ Ok (view a, new)
Answers view (Err f) new step = step ≡ Err f

-- Ok where there is no bar, else that bar
abbrev pub IsFree : Result (Unit {0}) Bar → Option Bar → Type 0
IsFree (Ok u) found = found ≡ None
IsFree (Err b) found = found ≡ Some b

-- the answer and the state after it are the step
pub step_ok : {S X : Type 0} → (step : Step S X) (x : X) (new : S) → Ok x ≡ told step → Leaves step new → step ≡ Ok (x, new)
step_ok (Ok y) x new e left = let same : x ≡ y.0 = cc in rw (same, left) refl
step_ok (Err f) x new e left = absurd (cc)

pub step_err : {S X : Type 0} → (step : Step S X) (f : Fault) → Err f ≡ told step → step ≡ Err f
step_err (Ok y) f e = absurd (cc)
step_err (Err g) f e = let same : f ≡ g = cc in rw same refl
