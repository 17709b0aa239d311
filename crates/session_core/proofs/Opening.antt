-- A session that was opened, before anything came.
use Rattle.std.proofs.Common.{◌≡◌, ℕ, ◌<◌, ◌≤◌, List, [], ◌∷◌, ◌++◌, length, length-append, arith, refl, sym, ◌∙◌, ap, subst, Option, None}
use Rattle.std.proofs.lemmas.List.Elements.{All-nil}
use Rattle.framed_transport.specs.Front.{front, Part}
use Rattle.session_core.specs.Rules.{Rules}
use Rattle.session_core.specs.Standing.{Standing, begun, nothing}
use Rattle.session_core.specs.Stands.{IsTaken}
use Rattle.session_core.specs.Fits.{Fits}
use Rattle.session_core.specs.Telling.{FitsTold}
use Rattle.session_core.specs.Steps.{Waits, of_upstream, ByUpstream, ByClient, IsStill, outcome_of}
use Rattle.session_core.specs.Ends.{IsAtRest}
use Rattle.session_core.specs.declared.outcome.Outcome.{Outcome}
use Rattle.session_core.proofs.Moves.{looks}

none_before : {X : Type 0} (early late : List X) (x : X) → [] ≡ early ++ x ∷ late → ⊥
none_before early late x e = omega (arith, ap length e, length-append early (x ∷ late))

taken_none : (limit : ℕ) → IsTaken limit [] [] []
taken_none limit = record { each = All-nil (λ frame. length frame ≤ limit); whole = refl }

abbrev begun_fits : (rules : Rules) (limit max_calls : ℕ) → Fits rules limit max_calls nothing begun
begun_fits rules limit max_calls = record {
  xs = [];
  ys = [];
  lawful = record {
    passes = λ early late x h e j. none_before early late x e;
    few = λ early late x e. absurd (none_before early late x e);
    in_turn = λ early late x k e j. absurd (none_before early late x e);
    paired = omega arith;
    replies = λ early late y k h e at j. none_before early late y e;
  };
  client = taken_none limit;
  upstream = taken_none limit;
  to_client = refl;
  to_upstream = refl;
  calls = refl;
  taken = refl;
  answered = refl;
  client_ended = refl;
  upstream_ended = refl;
}

nothing_stands : (limit : ℕ) → front limit [] ≡ Part
unfolding front
nothing_stands limit = refl

upstream_waits : (rules : Rules) (limit : ℕ) → of_upstream rules limit begun ≡ Waits
unfolding of_upstream
upstream_waits rules limit = refl

still_begun : (rules : Rules) (limit max_calls : ℕ) → 0 < max_calls → IsStill rules limit max_calls begun
still_begun rules limit max_calls some t (ByUpstream e) = let w = upstream_waits rules limit in cc
still_begun rules limit max_calls some t (ByClient n e) = let w = looks rules limit max_calls begun Part refl some (nothing_stands limit) in cc

open_begun : (rules : Rules) (limit max_calls : ℕ) → 0 < max_calls → None ≡ outcome_of rules limit max_calls begun
unfolding outcome_of
open_begun rules limit max_calls some = rw (upstream_waits rules limit, looks rules limit max_calls begun Part refl some (nothing_stands limit)) refl

begun_told : (rules : Rules) (limit max_calls : ℕ) → FitsTold rules limit max_calls nothing [] begun
begun_told rules limit max_calls = record { fits = begun_fits rules limit max_calls; course = []; asked = refl; answered = refl; open_calls = refl; notes_are = refl }

pub opened_fits : (rules : Rules) (limit max_calls : ℕ) (s : Standing) → s ≡ begun → FitsTold rules limit max_calls nothing [] s
opened_fits rules limit max_calls s e = subst (λ (x : Standing). FitsTold rules limit max_calls nothing [] x) (sym e) (begun_told rules limit max_calls)

pub opened_rests : (rules : Rules) (limit max_calls : ℕ) (s : Standing) (outcome : Option Outcome) → 0 < max_calls → s ≡ begun → outcome ≡ None → IsAtRest rules limit max_calls s outcome
opened_rests rules limit max_calls s outcome some e o =
    subst (λ (x : Standing). IsAtRest rules limit max_calls x outcome) (sym e)
    (record { still = still_begun rules limit max_calls some; outcome_is = o ∙ open_begun rules limit max_calls some })
