-- Why nothing more can be taken, and what comes of it.
use Rattle.std.proofs.Common.{◌≡◌, ℕ, ◌+◌, ◌==◌, ◌<◌, List, [], ◌∷◌, length, length-append, arith, refl, sym, ◌∙◌, ap, subst, Option, Some, None, is_some, true, ◌&&◌, if◌then◌else◌}
use Rattle.std.proofs.lemmas.Bool.Decides.{nat_tests}
use Rattle.framed_transport.specs.Frames.{framed, IsCut}
use Rattle.session_core.specs.Rules.{Rules}
use Rattle.session_core.specs.Standing.{Standing}
use Rattle.session_core.specs.Fits.{told}
use Rattle.session_core.specs.Notes.{Note}
use Rattle.session_core.specs.Steps.{Waits, is_none, of_client, of_upstream, ByUpstream, ByClient, IsStill, outcome_of, by_both}
use Rattle.session_core.specs.Working.{standing, limit_of, of_upstream_in, of_client_in, Keeps, StandsStill, Goes, Took, ending_of, ending_by}
use Rattle.session_core.specs.Working.{ByUpstream as took_upstream, ByClient as took_client}
use Rattle.session_core.specs.Ends.{IsAtRest}
use Rattle.session_core.specs.Session.{due_to}
use Rattle.gate_hub.specs.declared.hub.Side.{Side}
use Rattle.gate_hub.specs.declared.hub.Side.TheVariants as side
use Rattle.session_core.specs.declared.state.State.{State}
use Rattle.session_core.specs.declared.state.Standstill.{Standstill}
use Rattle.session_core.specs.declared.state.Standstill.TheVariants as standstill
use Rattle.session_core.specs.declared.outcome.Outcome.{Outcome}
use Rattle.session_core.proofs.Fitting.{client_took_rests, upstream_took_rests}

pub is_none_tests : {X : Type 0} (xs : List X) → is_none xs ≡ (length xs == 0)
is_none_tests [] = refl
is_none_tests (x ∷ xs) = grind (arith, nat_tests)

pub still : (rules : Rules) (limit max_calls : ℕ) (s : Standing) (why : Standstill) → StandsStill rules limit max_calls s why → IsStill rules limit max_calls s
still rules limit max_calls s (standstill.Upstream h) e t (ByUpstream m) = cc
still rules limit max_calls s (standstill.Upstream h) e t (ByClient none m) = none h e
still rules limit max_calls s (standstill.Client h) e t (ByUpstream m) = cc
still rules limit max_calls s (standstill.Client h) e t (ByClient none m) = cc
still rules limit max_calls s standstill.Waits e t (ByUpstream m) = cc
still rules limit max_calls s standstill.Waits e t (ByClient none m) = cc

by_stop : (rules : Rules) (limit max_calls : ℕ) (s : Standing) (why : Standstill) → StandsStill rules limit max_calls s why → by_both limit s (of_upstream rules limit s) (of_client rules limit max_calls s) ≡ ending_by limit s why
by_stop rules limit max_calls s (standstill.Upstream h) e = ap (λ m. by_both limit s m (of_client rules limit max_calls s)) e
by_stop rules limit max_calls s (standstill.Client h) e = ap (λ m. by_both limit s m (of_client rules limit max_calls s)) e.0 ∙ ap (λ m. by_both limit s Waits m) e.1
by_stop rules limit max_calls s standstill.Waits e = ap (λ m. by_both limit s m (of_client rules limit max_calls s)) e.0 ∙ ap (λ m. by_both limit s Waits m) e.1

pub ended_by : (rules : Rules) (limit max_calls : ℕ) (s : Standing) (why : Standstill) → StandsStill rules limit max_calls s why → ending_of limit s why ≡ outcome_of rules limit max_calls s
unfolding outcome_of
ended_by rules limit max_calls s why e = ap (λ (o : Option Outcome). if is_none s.to_client && is_none s.to_upstream then o else None) (sym (by_stop rules limit max_calls s why e))

framed_longer : (limit : ℕ) (held frame rest : List ℕ) → IsCut limit held frame rest → length rest < length held
unfolding framed
framed_longer limit held frame rest cut = rw (cut.whole) (omega (arith, length-append frame rest))

pub falls : (rules : Rules) (limit max_calls : ℕ) (s t : Standing) (notes : List Note) → Took rules limit max_calls s t notes → length t.client + length t.upstream < length s.client + length s.upstream
falls rules limit max_calls s t notes (took_upstream e cuts told_are) =
    let r = upstream_took_rests rules limit s t e in
    omega (arith, framed_longer limit s.upstream r.0 r.1 (cuts r.0 r.1 r.2), ap length r.3, ap length r.4)
falls rules limit max_calls s t notes (took_client w e cuts told_are) =
    let r = client_took_rests rules limit max_calls s t e in
    omega (arith, framed_longer limit s.client r.0 r.1 (cuts r.0 r.1 r.2), ap length r.3, ap length r.4)

-- ---- at the limits of the call

pub goes_at : (rules others : Rules) (limit k max_calls m : ℕ) (s t : Standing) (notes : List Note) (why : Option Standstill) → others ≡ rules → k ≡ limit → m ≡ max_calls → Goes others k m s t notes why → Goes rules limit max_calls s t notes why
goes_at rules others limit k max_calls m s t notes why a b d h =
    subst (λ (r : Rules). Goes r limit max_calls s t notes why) a
    (subst (λ (n : ℕ). Goes others n max_calls s t notes why) b
    (subst (λ (n : ℕ). Goes others k n s t notes why) d h))

-- where the state shows by itself that no frame can be taken
pub rests_at : (rules : Rules) (old new : State) → Keeps rules old new → of_upstream_in rules new ≡ Waits → of_client_in rules new ≡ Waits → StandsStill rules (limit_of old) old.calls.capacity (standing new) standstill.Waits
rests_at rules old new keeps upstream client = (
  subst (λ (n : ℕ). of_upstream rules n (standing new) ≡ Waits) keeps.ready.client.limit_is upstream,
  subst (λ (n : ℕ). of_client rules n old.calls.capacity (standing new) ≡ Waits) keeps.ready.client.limit_is
      (subst (λ (n : ℕ). of_client rules (limit_of new) n (standing new) ≡ Waits) keeps.ready.capacity client),
)

pub ending_at : (rules : Rules) (limit max_calls : ℕ) (s t : Standing) (notes : List Note) (why : Standstill) → Goes rules limit max_calls s t notes (Some why) → ending_of limit t why ≡ outcome_of rules limit max_calls t
ending_at rules limit max_calls s t notes why goes = ended_by rules limit max_calls t why (subst (λ (x : Standing). StandsStill rules limit max_calls x why) (sym goes.0) goes.1)

pub still_at : (rules : Rules) (limit max_calls : ℕ) (s t : Standing) (notes : List Note) (why : Standstill) → Goes rules limit max_calls s t notes (Some why) → IsStill rules limit max_calls t
still_at rules limit max_calls s t notes why goes = still rules limit max_calls t why (subst (λ (x : Standing). StandsStill rules limit max_calls x why) (sym goes.0) goes.1)

-- ---- once there is an outcome nothing is due

not_some : (outcome : Option Outcome) → outcome ≡ None → is_some outcome ≡ true → ⊥
not_some None e some = cc
not_some (Some o) e some = cc

none_due : (a b : List ℕ) (found outcome : Option Outcome) → outcome ≡ (if is_none a && is_none b then found else None) → is_some outcome ≡ true → (a ≡ []) × (b ≡ [])
none_due [] [] found outcome e some = (refl, refl)
none_due [] (x ∷ b) found outcome e some = absurd (not_some outcome e some)
none_due (x ∷ a) b found outcome e some = absurd (not_some outcome e some)

pub over_owes_nothing : (rules : Rules) (limit max_calls : ℕ) (s : Standing) (outcome : Option Outcome) → IsAtRest rules limit max_calls s outcome → is_some outcome ≡ true → (s.to_client ≡ []) × (s.to_upstream ≡ [])
unfolding outcome_of
over_owes_nothing rules limit max_calls s outcome rest some = none_due s.to_client s.to_upstream _ outcome rest.outcome_is some

by_side : (side : Side) (s : Standing) → (s.to_client ≡ []) × (s.to_upstream ≡ []) → due_to side s ≡ []
by_side side.Client s none = none.0
by_side side.Upstream s none = none.1

pub over_due : (rules : Rules) (limit max_calls : ℕ) (s t : Standing) (outcome told : Option Outcome) (side : Side) → IsAtRest rules limit max_calls s outcome → s ≡ t → outcome ≡ told → is_some told ≡ true → due_to side t ≡ []
over_due rules limit max_calls s t outcome told side rest a b some =
    by_side side t (subst (λ (x : Standing). (x.to_client ≡ []) × (x.to_upstream ≡ [])) a (over_owes_nothing rules limit max_calls s outcome rest (ap is_some b ∙ some)))
