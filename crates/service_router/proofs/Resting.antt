-- While some of what is due to a port is left, no more can be taken than before any of it was sent.
use Rattle.std.proofs.Common.{◌≡◌, ℕ, zero, suc, ◌==◌, ◌<◌, List, [], ◌∷◌, length, drop, arith, refl, sym, ◌∙◌, ap, subst, Bool, true, false, Option, None, Some, if◌then◌else◌}
use Rattle.std.proofs.lemmas.Bool.Decides.{nat_tests}
use Rattle.session_core.specs.Steps as session_steps
use Rattle.session_core.specs.Steps.{is_none}
use Rattle.session_core.specs.declared.outcome.Outcome.{Outcome}
use Rattle.session_core.specs.declared.outcome.Outcome.TheVariants as ended
use Rattle.session_core.proofs.Resting.{rests_owing_client, rests_owing_upstream, was_some}
use Rattle.service_router.specs.declared.outcome.RouteOutcome.{RouteOutcome}
use Rattle.service_router.specs.declared.state.State.{State}
use Rattle.service_router.specs.Rules.{RouteRules}
use Rattle.service_router.specs.Standing.{Standing, due_to}
use Rattle.service_router.specs.Steps.{as_session, with_port}
use Rattle.service_router.specs.Ends.{IsAtRest}
use Rattle.service_router.specs.Working.{standing, let_go_in}
use Rattle.service_router.proofs.Feeding.{let_go}
use Rattle.service_router.proofs.Keeping.{stands_left}

some_left : (xs : List ℕ) (n : ℕ) → is_none (drop n xs) ≡ false → is_none xs ≡ false
some_left xs n e = by xs (was_some xs (drop n xs) n (long (drop n xs) e) refl)
  where
    long : (ys : List ℕ) → is_none ys ≡ false → 0 < length ys
    long [] f = absurd (cc)
    long (y ∷ ys) f = omega arith

    by : (ys : List ℕ) → 0 < length ys → is_none ys ≡ false
    by [] h = absurd (omega (arith, h))
    by (y ∷ ys) h = refl

-- what is told of an outcome does not depend on what is due
told_client : (s : Standing) (due : List ℕ) (o : Option Outcome) → with_port s o ≡ with_port (record s { to_client = due }) o
told_client s due None = refl
told_client s due (Some ended.Clean) = refl
told_client s due (Some (ended.ClientFault n h)) = refl
told_client s due (Some (ended.UpstreamFault n h)) = refl
told_client s due (Some (ended.UpstreamEnded n)) = refl
told_client s due (Some (ended.Unsolicited n calls)) = refl
told_client s due (Some (ended.LinkFault side)) = refl
told_client s due (Some ended.Full) = refl
told_client s due (Some ended.NoMemory) = refl

told_upstream : (s : Standing) (due : List ℕ) (o : Option Outcome) → with_port s o ≡ with_port (record s { to_upstream = due }) o
told_upstream s due None = refl
told_upstream s due (Some ended.Clean) = refl
told_upstream s due (Some (ended.ClientFault n h)) = refl
told_upstream s due (Some (ended.UpstreamFault n h)) = refl
told_upstream s due (Some (ended.UpstreamEnded n)) = refl
told_upstream s due (Some (ended.Unsolicited n calls)) = refl
told_upstream s due (Some (ended.LinkFault side)) = refl
told_upstream s due (Some ended.Full) = refl
told_upstream s due (Some ended.NoMemory) = refl

rests_client : (rules : RouteRules) (limit max_calls : ℕ) (s : Standing) (n : ℕ) (o : Option RouteOutcome) → is_none (drop n s.to_client) ≡ false → IsAtRest rules limit max_calls s o → IsAtRest rules limit max_calls (record s { to_client = drop n s.to_client }) o
rests_client rules limit max_calls s n o left rest =
    let inner = session_steps.outcome_of rules.judging limit max_calls (as_session s) in
    let after = rests_owing_client rules.judging limit max_calls (as_session s) (drop n s.to_client) inner (some_left s.to_client n left) left (record { still = rest.still; outcome_is = refl }) in
    record {
      still = after.still;
      outcome_is = rest.outcome_is ∙ (told_client s (drop n s.to_client) inner ∙ ap (with_port (record s { to_client = drop n s.to_client })) after.outcome_is);
    }

rests_upstream : (rules : RouteRules) (limit max_calls : ℕ) (s : Standing) (n : ℕ) (o : Option RouteOutcome) → is_none (drop n s.to_upstream) ≡ false → IsAtRest rules limit max_calls s o → IsAtRest rules limit max_calls (record s { to_upstream = drop n s.to_upstream }) o
rests_upstream rules limit max_calls s n o left rest =
    let inner = session_steps.outcome_of rules.judging limit max_calls (as_session s) in
    let after = rests_owing_upstream rules.judging limit max_calls (as_session s) (drop n s.to_upstream) inner (some_left s.to_upstream n left) left (record { still = rest.still; outcome_is = refl }) in
    record {
      still = after.still;
      outcome_is = rest.outcome_is ∙ (told_upstream s (drop n s.to_upstream) inner ∙ ap (with_port (record s { to_upstream = drop n s.to_upstream })) after.outcome_is);
    }

rests_left : (port n : ℕ) (rules : RouteRules) (limit max_calls : ℕ) (s : Standing) (o : Option RouteOutcome) → is_none (due_to port (let_go port n s)) ≡ false → IsAtRest rules limit max_calls s o → IsAtRest rules limit max_calls (let_go port n s) o
rests_left zero n rules limit max_calls s o left rest = rests_client rules limit max_calls s n o left rest
rests_left (suc u) n rules limit max_calls s o left rest = by (s.toward == u) refl left
  where
    by : (b : Bool) → (s.toward == u) ≡ b → is_none (due_to (suc u) (if b then record s { to_upstream = drop n s.to_upstream } else s)) ≡ false → IsAtRest rules limit max_calls (if b then record s { to_upstream = drop n s.to_upstream } else s) o
    by true e some = rests_upstream rules limit max_calls s n o (sym (ap (λ (t : Bool). is_none (if t then drop n s.to_upstream else [])) e) ∙ some) rest
    by false e some = rest

same_outcome : (port n : ℕ) (s : State) → (let_go_in port n s).outcome ≡ s.outcome
same_outcome zero n s = refl
same_outcome (suc u) n s = by (s.toward == u)
  where
    by : (b : Bool) → (if b then record s { to_upstream = record (s.to_upstream) { bytes = drop n s.to_upstream.bytes } } else s).outcome ≡ s.outcome
    by true = refl
    by false = refl

-- some of what was due to a port was sent, and some is left
pub rests_owing : (port n : ℕ) (rules : RouteRules) (limit max_calls : ℕ) (s t : State) (due : List ℕ) → t ≡ let_go_in port n s → due ≡ due_to port (standing t) → is_none due ≡ false → IsAtRest rules limit max_calls (standing s) s.outcome → IsAtRest rules limit max_calls (standing t) t.outcome
rests_owing port n rules limit max_calls s t due e is left rest =
    let stands : standing t ≡ let_go port n (standing s) = ap standing e ∙ stands_left port n s in
    let same : t.outcome ≡ s.outcome = ap (λ (x : State). x.outcome) e ∙ same_outcome port n s in
    subst (λ (x : Standing). IsAtRest rules limit max_calls x t.outcome) (sym stands)
    (subst (λ (o : Option RouteOutcome). IsAtRest rules limit max_calls (let_go port n (standing s)) o) (sym same)
    (rests_left port n rules limit max_calls (standing s) s.outcome (ap (λ (x : Standing). is_none (due_to port x)) (sym stands) ∙ (ap is_none (sym is) ∙ left)) rest))

pub not_none : (r : Bool) (xs : List ℕ) → r ≡ false → r ≡ (length xs == 0) → is_none xs ≡ false
not_none r [] off is = absurd (grind (arith, nat_tests))
not_none r (x ∷ xs) off is = refl
