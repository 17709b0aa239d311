-- A router that was opened, before anything came.
use Rattle.std.proofs.Common.{◌≡◌, ℕ, zero, suc, ◌<◌, ◌≤◌, List, [], ◌∷◌, ◌++◌, length, length-append, arith, refl, sym, ◌∙◌, ap, subst, Option, None, Bool, true, false, ◌==◌, if◌then◌else◌}
use Rattle.std.specs.Prelude.{replicate, get_or}
use Rattle.std.proofs.lemmas.List.Elements.{All-nil}
use Rattle.session_core.specs.Stands.{IsTaken}
use Rattle.session_core.proofs.Opening.{opened_rests}
use Rattle.service_router.specs.declared.outcome.RouteOutcome.{RouteOutcome}
use Rattle.service_router.specs.Rules.{RouteRules}
use Rattle.service_router.specs.Standing.{Standing, begun, nothing, silent, inbox_of, due_to}
use Rattle.session_core.specs.Fits.{told}
use Rattle.service_router.specs.Fits.{frames_of, written_to}
use Rattle.service_router.specs.Telling.{FitsTold}
use Rattle.service_router.specs.Steps.{as_session, with_port}
use Rattle.service_router.specs.Ends.{IsAtRest}

none_before : {X : Type 0} (early late : List X) (x : X) → [] ≡ early ++ x ∷ late → ⊥
none_before early late x e = omega (arith, ap length e, length-append early (x ∷ late))

taken_none : (limit : ℕ) → IsTaken limit [] [] []
taken_none limit = record { each = All-nil (λ frame. length frame ≤ limit); whole = refl }

-- nothing came of a target, also of one that is none
held_none : (targets u limit : ℕ) → (get_or (replicate targets (silent limit)) u (silent 0)).held ≡ []
held_none zero zero limit = refl
held_none zero (suc u) limit = refl
held_none (suc n) zero limit = refl
held_none (suc n) (suc u) limit = held_none n u limit

taken_zero : (targets u limit : ℕ) → (get_or (replicate targets (silent limit)) u (silent 0)).taken ≡ 0
taken_zero zero zero limit = refl
taken_zero zero (suc u) limit = refl
taken_zero (suc n) zero limit = refl
taken_zero (suc n) (suc u) limit = taken_zero n u limit

not_ended : (targets u limit : ℕ) → (get_or (replicate targets (silent limit)) u (silent 0)).ended ≡ false
not_ended zero zero limit = refl
not_ended zero (suc u) limit = refl
not_ended (suc n) zero limit = refl
not_ended (suc n) (suc u) limit = not_ended n u limit

none_due : (b : Bool) (xs : List ℕ) → xs ≡ [] → (if b then xs else []) ≡ []
none_due true xs none = none
none_due false xs none = refl

begun_fits : (rules : RouteRules) (limit max_calls targets : ℕ) → FitsTold rules limit max_calls nothing [] (begun limit targets)
begun_fits rules limit max_calls targets = record {
  fits = record {
    xs = [];
    ys = [];
    lawful = record {
      passes = λ early late x h e j. none_before early late x e;
      few = λ early late x e. absurd (none_before early late x e);
      in_turn = λ early late x k e j. absurd (none_before early late x e);
      paired = omega arith;
      replies = λ early late y k h e at j. none_before early late y e;
    };
    came = came_by;
    went = went_by;
    calls = refl;
    counted = counted_by;
    ended = ended_by;
  };
  course = [];
  asked = refl;
  answered = refl;
  calls = refl;
  notes_are = refl;
}
  where
    came_by : (port : ℕ) → IsTaken limit [] (frames_of rules [] [] port) (inbox_of port (begun limit targets)).held
    came_by zero = taken_none limit
    came_by (suc u) = subst (λ (b : List ℕ). IsTaken limit [] [] b) (sym (held_none targets u limit)) (taken_none limit)

    went_by : (port : ℕ) → due_to port (begun limit targets) ≡ written_to rules [] [] port
    went_by zero = refl
    went_by (suc u) = none_due (0 == u) [] refl

    counted_by : (port : ℕ) → (inbox_of port (begun limit targets)).taken ≡ told (length (frames_of rules [] [] port))
    counted_by zero = refl
    counted_by (suc u) = taken_zero targets u limit

    ended_by : (port : ℕ) → (inbox_of port (begun limit targets)).ended ≡ false
    ended_by zero = refl
    ended_by (suc u) = not_ended targets u limit

pub opened_fits : (rules : RouteRules) (limit max_calls targets : ℕ) (s : Standing) → s ≡ begun limit targets → FitsTold rules limit max_calls nothing [] s
opened_fits rules limit max_calls targets s e = subst (λ (x : Standing). FitsTold rules limit max_calls nothing [] x) (sym e) (begun_fits rules limit max_calls targets)

pub opened_rest : (rules : RouteRules) (limit max_calls targets : ℕ) (s : Standing) (o : Option RouteOutcome) → 0 < max_calls → s ≡ begun limit targets → o ≡ None → IsAtRest rules limit max_calls s o
opened_rest rules limit max_calls targets s o some e none =
    let before = opened_rests rules.judging limit max_calls (as_session (begun limit targets)) None some refl refl in
    subst (λ (x : Standing). IsAtRest rules limit max_calls x o) (sym e)
    (record { still = before.still; outcome_is = none ∙ ap (with_port (begun limit targets)) before.outcome_is })
