-- The outcomes that a session comes to by itself.
use Rattle.std.proofs.Common.{◌≡◌, ℕ, Option, None, Some, IfSome, Bool, true, false, if◌then◌else◌, ◌&&◌, sym, subst, refl}
use Rattle.framed_transport.specs.Front.{front, is_part}
use Rattle.session_core.specs.Rules.{Rules}
use Rattle.session_core.specs.Standing.{Standing}
use Rattle.session_core.specs.Steps.{Move, Waits, Halts, Takes, is_none, of_upstream, of_client, by_upstream, by_client, by_both, outcome_of}
use Rattle.session_core.specs.Ends.{IsAtRest, is_own}
use Rattle.session_core.specs.declared.outcome.Halt.{Halt}
use Rattle.session_core.specs.declared.outcome.Outcome.{Outcome}

abbrev pub AreOwn : Option Outcome → Type 0
AreOwn o = IfSome o (λ x. is_own x ≡ true)

choice : (b : Bool) (x y : Outcome) → is_own x ≡ true → is_own y ≡ true → is_own (if b then x else y) ≡ true
choice true x y p q = p
choice false x y p q = q

maybe : (b : Bool) (x : Option Outcome) → AreOwn x → AreOwn (if b then x else None)
maybe true x p = p
maybe false x p = tt

by_upstream_own : (h : Halt) (s : Standing) → is_own (by_upstream h s) ≡ true
by_upstream_own h s = choice (s.upstream_ended && is_none s.upstream) _ _ refl refl

some_own : (b : Bool) (x : Outcome) → is_own x ≡ true → AreOwn (if b then Some x else None)
some_own true x p = p
some_own false x p = tt

by_client_own : (limit : ℕ) (s : Standing) (move : Move) → AreOwn (by_client limit s move)
by_client_own limit s (Halts h) = refl
by_client_own limit s (Takes t) = tt
by_client_own limit s Waits = some_own s.client_ended _ (choice (is_none s.client) _ _ (choice (is_part (front limit s.upstream)) _ _ refl refl) refl)

by_both_own : (limit : ℕ) (s : Standing) (a b : Move) → AreOwn (by_both limit s a b)
by_both_own limit s (Halts h) b = by_upstream_own h s
by_both_own limit s Waits b = maybe (is_none s.calls) _ (by_client_own limit s b)
by_both_own limit s (Takes t) b = maybe (is_none s.calls) _ (by_client_own limit s b)

own : (rules : Rules) (limit max_calls : ℕ) (s : Standing) → AreOwn (outcome_of rules limit max_calls s)
unfolding outcome_of
own rules limit max_calls s = maybe (is_none s.to_client && is_none s.to_upstream) _ (by_both_own limit s (of_upstream rules limit s) (of_client rules limit max_calls s))

pub own_outcome : (rules : Rules) (limit max_calls : ℕ) (s : Standing) (outcome : Option Outcome) → IsAtRest rules limit max_calls s outcome → AreOwn outcome
own_outcome rules limit max_calls s outcome rest = subst AreOwn (sym rest.outcome_is) (own rules limit max_calls s)
