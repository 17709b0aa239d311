-- What is found of a frame, from its parts.
use Rattle.std.proofs.Common.{◌≡◌, ℕ, List, [], Option, Ok, Err, refl, ap, sym, subst, ◌∙◌}
use Rattle.type_tables.specs.declared.declared.ServiceId.{ServiceId}
use Rattle.type_tables.specs.Declarations.{Declarations}
use Rattle.type_walk.specs.Positions.{Position}
use Rattle.protocol_traits.specs.declared.fault.Fault.{Fault}
use Rattle.protocol_traits.specs.Heads.{Header}
use Rattle.protocol_traits.specs.Steps.{Step as ReadStep, told}
use Rattle.translate_verdicts.specs.Body.{Source, Ended}
use Rattle.conform_check.specs.declared.step.Step.{Step}
use Rattle.conform_check.specs.declared.breach.Breach.{Breach}
use Rattle.conform_check.specs.declared.breach.Checked.{Checked}
use Rattle.conform_check.specs.declared.breach.Checked.TheVariants as checked
use Rattle.conform_check.specs.Checking.{Checking, Finding, Broken, IsChecked, IsFoundOf, IsLooked, Meets, Breaks, Refused, Unread, after_body, after_head, at_end, checked_by, found, kept_broken}

module _ {S : Type 0} (source : Source S) (d : Declarations) (service : Option ServiceId) (frame : List ℕ) where
  pub checked_err : (f : Fault) → source.reads_head (source.begun frame) ≡ Err f → checked_by source d service frame ≡ after_head source d service (Err f)
  unfolding checked_by
  checked_err f e = rw e refl

  pub checked_ok : (header : Header) (new : S) → source.reads_head (source.begun frame) ≡ Ok (header, new) → checked_by source d service frame ≡ after_head source d service (Ok (header, new))
  unfolding checked_by
  checked_ok header new e = rw e refl

end_found : {S : Type 0} (first : Option Broken) (step : ReadStep S (Unit {0})) (u : Unit {0}) → Ok u ≡ told step → at_end first step ≡ found first
end_found first (Ok x) u e = refl
end_found first (Err f) u e = absurd (cc)

end_fault : {S : Type 0} (first : Option Broken) (step : ReadStep S (Unit {0})) (f : Fault) → Err f ≡ told step → at_end first step ≡ Refused f
end_fault first (Ok x) f e = absurd (cc)
end_fault first (Err g) f e = let same : f ≡ g = cc in rw same refl

-- a body that was read to its end, and the frame ends behind it
pub closed_found : {S : Type 0} (source : Source S) (ended : Ended S Position Checking) (first : Option Breach) (reader : S) (path : List Step) (answer : Checked)
    → IsLooked (Ok first) reader path ended → Ok tt ≡ told (source.reads_end reader) → IsFoundOf answer path (found (kept_broken first path)) → IsFoundOf answer path (after_body source ended)
closed_found source (Ok g) first reader path answer looked ends is =
    let here : after_body source (Ok g) ≡ found (kept_broken first path) =
    ap (λ s. at_end g.writer.first (source.reads_end s)) looked.0 ∙ ap (λ x. at_end x (source.reads_end reader)) looked.1 ∙ end_found (kept_broken first path) (source.reads_end reader) tt ends in
    subst (IsFoundOf answer path) (sym here) is
closed_found source (Err f) first reader path answer looked ends is = absurd looked

-- a body that was read to its end, and a fault stands behind it
pub closed_fault : {S : Type 0} (source : Source S) (ended : Ended S Position Checking) (first : Option Breach) (reader : S) (path : List Step) (f : Fault)
    → IsLooked (Ok first) reader path ended → Err f ≡ told (source.reads_end reader) → IsFoundOf (checked.Refused f) path (after_body source ended)
closed_fault source (Ok g) first reader path f looked ends =
    let here : after_body source (Ok g) ≡ Refused f = ap (λ s. at_end g.writer.first (source.reads_end s)) looked.0 ∙ end_fault g.writer.first (source.reads_end reader) f ends in
    subst (IsFoundOf (checked.Refused f) path) (sym here) refl
closed_fault source (Err g) first reader path f looked ends = absurd looked

-- the path is kept where a breach was found, and is empty where a fault was
pub told_refused : (f : Fault) (before : List Step) (finding : Finding) → IsFoundOf (checked.Refused f) before finding → IsChecked (checked.Refused f) [] finding
told_refused f before (Refused g) is = (is, refl)
told_refused f before Meets is = absurd is
told_refused f before (Breaks b) is = absurd is
told_refused f before (Unread g) is = absurd is

pub told_unread : (f : Fault) (before : List Step) (finding : Finding) → IsFoundOf (checked.Unread f) before finding → IsChecked (checked.Unread f) [] finding
told_unread f before Meets is = absurd is
told_unread f before (Breaks b) is = absurd is
told_unread f before (Refused g) is = absurd is
told_unread f before (Unread g) is = absurd is

pub told_meets : (before : List Step) (finding : Finding) → IsFoundOf checked.Meets before finding → IsChecked checked.Meets [] finding
told_meets before Meets is = refl
told_meets before (Breaks b) is = absurd is
told_meets before (Refused g) is = absurd is
told_meets before (Unread g) is = absurd is

pub told_broken : (b : Breach) (path : List Step) (finding : Finding) → IsFoundOf (checked.Broken b) path finding → IsChecked (checked.Broken b) path finding
told_broken b path (Breaks first) is = is
told_broken b path Meets is = absurd is
told_broken b path (Refused g) is = absurd is
told_broken b path (Unread g) is = absurd is
