-- A session that has an outcome can take no frame.
use Rattle.std.proofs.Common.{◌≡◌, ℕ, List, [], ◌∷◌, Option, Some, None, Bool, true, false, ◌&&◌, if◌then◌else◌, ap, ◌∙◌, refl}
use Rattle.session_core.specs.Rules.{Rules}
use Rattle.session_core.specs.Standing.{Standing}
use Rattle.session_core.specs.Steps.{Move, Waits, Halts, Takes, is_none, upstream_by, of_upstream, of_client, ByUpstream, ByClient, IsStill, by_client, by_both, outcome_of}
use Rattle.session_core.specs.declared.judge.Call.{Call}
use Rattle.session_core.specs.declared.outcome.Halt.{Halt}
use Rattle.session_core.specs.declared.outcome.Outcome.{Outcome}

none_if : (b : Bool) (x : Option Outcome) → x ≡ None → (if b then x else None) ≡ None
none_if true x e = e
none_if false x e = refl

not_both : (x : Option Outcome) (o : Outcome) → x ≡ None → x ≡ Some o → ⊥
not_both None o p q = cc
not_both (Some y) o p q = cc

-- an answer is taken only of an open call
calls_open : (rules : Rules) (limit : ℕ) (s t : Standing) → of_upstream rules limit s ≡ Takes t → is_none s.calls ≡ false
unfolding of_upstream
calls_open rules limit s t e = by s.calls e
  where
    by : (calls : List Call) → upstream_by rules limit s calls ≡ Takes t → is_none calls ≡ false
    by [] p = absurd (cc)
    by (c ∷ calls) p = refl

answers_on : (limit : ℕ) (s t : Standing) (up move : Move) → up ≡ Takes t → is_none s.calls ≡ false → by_both limit s up move ≡ None
answers_on limit s t up move is some = ap (λ (m : Move). by_both limit s m move) is ∙ ap (λ (b : Bool). if b then by_client limit s move else None) some

calls_on : (limit : ℕ) (s t : Standing) (up move : Move) → ((h : Halt) → up ≡ Halts h → ⊥) → move ≡ Takes t → by_both limit s up move ≡ None
calls_on limit s t up move goes is = ap (λ (m : Move). by_both limit s up m) is ∙ by up goes
  where
    by : (m : Move) → ((h : Halt) → m ≡ Halts h → ⊥) → by_both limit s m (Takes t) ≡ None
    by (Halts h) never = absurd (never h refl)
    by Waits never = none_if (is_none s.calls) (by_client limit s (Takes t)) refl
    by (Takes u) never = none_if (is_none s.calls) (by_client limit s (Takes t)) refl

pub still_by : (rules : Rules) (limit max_calls : ℕ) (s : Standing) (o : Outcome) → outcome_of rules limit max_calls s ≡ Some o → IsStill rules limit max_calls s
unfolding outcome_of
still_by rules limit max_calls s o is t (ByUpstream e) =
    not_both (if is_none s.to_client && is_none s.to_upstream then by_both limit s (of_upstream rules limit s) (of_client rules limit max_calls s) else None) o
    (none_if (is_none s.to_client && is_none s.to_upstream) (by_both limit s (of_upstream rules limit s) (of_client rules limit max_calls s)) (answers_on limit s t (of_upstream rules limit s) (of_client rules limit max_calls s) e (calls_open rules limit s t e))) is
still_by rules limit max_calls s o is t (ByClient goes e) =
    not_both (if is_none s.to_client && is_none s.to_upstream then by_both limit s (of_upstream rules limit s) (of_client rules limit max_calls s) else None) o
    (none_if (is_none s.to_client && is_none s.to_upstream) (by_both limit s (of_upstream rules limit s) (of_client rules limit max_calls s)) (calls_on limit s t (of_upstream rules limit s) (of_client rules limit max_calls s) goes e)) is
