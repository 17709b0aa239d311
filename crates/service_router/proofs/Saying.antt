-- An outcome says what is so of the router that came to it.
use Rattle.std.proofs.Common.{◌≡◌, ℕ, suc, ◌+◌, ◌<◌, List, [], ◌∷◌, length, arith, refl, sym, ◌∙◌, ap, subst, Option, Some, None, IfSome, Bool, true, false, ◌&&◌, if◌then◌else◌}
use Rattle.std.specs.Prelude.{get_or}
use Rattle.std.specs.List.{position}
use Rattle.framed_transport.specs.Front.{front, is_part}
use Rattle.session_core.specs.Fits.{told}
use Rattle.session_core.specs.Steps.{Move, Waits, Halts, Takes, is_none, of_upstream, of_client, by_upstream, by_client, by_both, outcome_of}
use Rattle.session_core.specs.declared.outcome.Halt.{Halt}
use Rattle.session_core.specs.declared.outcome.Halt.TheVariants as halt
use Rattle.session_core.specs.declared.outcome.Outcome.{Outcome}
use Rattle.session_core.specs.declared.outcome.Outcome.TheVariants as ended
use Rattle.service_router.specs.declared.call.OpenCall.{OpenCall}
use Rattle.service_router.specs.declared.outcome.RouteOutcome.{RouteOutcome}
use Rattle.service_router.specs.Rules.{RouteRules}
use Rattle.service_router.specs.Standing.{Standing, History, Inbox, inbox_of, silent}
use Rattle.service_router.specs.Fits.{Fits, frames_of}
use Rattle.service_router.specs.Steps.{as_session, asked, first_target, holds_frame, by_port, with_port, unasked_at}
use Rattle.service_router.specs.Ends.{IsAtRest}
use Rattle.service_router.specs.Told.{OldestGoesTo, HasEnded, AtFrame, AtEnd, Says}
use Rattle.service_router.proofs.Endings.{none_mapped, halts_open}

both_true : (a b : Bool) → (a && b) ≡ true → (a ≡ true) × (b ≡ true)
both_true true true e = (refl, refl)
both_true true false e = absurd (cc)
both_true false b e = absurd (cc)

none_held : {X : Type 0} (xs : List X) → is_none xs ≡ true → xs ≡ []
none_held [] e = refl
none_held (x ∷ xs) e = absurd (cc)

next_told : (n m : ℕ) → n ≡ told m → told (n + 1) ≡ told (m + 1)
next_told n m e = omega (arith, e)

asked_is : (calls : List OpenCall) (us : List Inbox) → 0 < length calls → asked calls us ≡ get_or us (first_target calls) (silent 0)
asked_is [] us h = absurd (omega (arith, h))
asked_is (c ∷ cs) us h = refl

oldest : (s : Standing) (calls : List OpenCall) → s.calls ≡ calls → 0 < length calls → OldestGoesTo (suc (first_target s.calls)) s
oldest s [] e h = absurd (omega (arith, h))
oldest s (c ∷ cs) e h = (c, cs, e, ap (λ k. suc (first_target k)) e)

-- what is said where an outcome is told
abbrev Say : RouteRules → ℕ → ℕ → List (List ℕ) → List (List ℕ) → Standing → Option Outcome → Type 0
Say rules limit max_calls xs ys s o = IfSome (with_port s o) (λ x. Says rules limit max_calls xs ys s x)

upstream_says : (rules : RouteRules) (limit max_calls : ℕ) (h : History) (s : Standing) (f : Fits rules limit max_calls h s) (why : Halt) → of_upstream rules.judging limit (as_session s) ≡ Halts why → Says rules limit max_calls f.xs f.ys s (by_port s (by_upstream why (as_session s)))
upstream_says rules limit max_calls h s f why e = by ((as_session s).upstream_ended && is_none (as_session s).upstream) refl
  where
    some : 0 < length s.calls
    some = halts_open rules.judging limit s why e

    there : asked s.calls s.upstreams ≡ inbox_of (suc (first_target s.calls)) s
    there = asked_is s.calls s.upstreams some

    by : (b : Bool) → ((as_session s).upstream_ended && is_none (as_session s).upstream) ≡ b → Says rules limit max_calls f.xs f.ys s (by_port s (if b then ended.UpstreamEnded (length (as_session s).calls) else ended.UpstreamFault (told ((as_session s).answered + 1)) why))
    by true both =
        let t = both_true (as_session s).upstream_ended (is_none (as_session s).upstream) both in
        (oldest s s.calls refl some, ap (λ (i : Inbox). i.ended) (sym there) ∙ t.0, ap (λ (i : Inbox). i.held) (sym there) ∙ none_held (asked s.calls s.upstreams).held t.1, refl)
    by false both =
        (oldest s s.calls refl some, next_told (asked s.calls s.upstreams).taken (length (frames_of rules f.xs f.ys (suc (first_target s.calls)))) (ap (λ (i : Inbox). i.taken) there ∙ f.counted (suc (first_target s.calls))), e)

unasked_says : (rules : RouteRules) (limit max_calls : ℕ) (h : History) (s : Standing) (f : Fits rules limit max_calls h s) (at : Option ℕ) → HasEnded s → position holds_frame s.upstreams ≡ at → Says rules limit max_calls f.xs f.ys s (unasked_at s.upstreams at)
unasked_says rules limit max_calls h s f None over e = (over, e)
unasked_says rules limit max_calls h s f (Some u) over e =
    (over, (u, e, refl), next_told (inbox_of (suc u) s).taken (length (frames_of rules f.xs f.ys (suc u))) (f.counted (suc u)), f.counted (suc u))

end_says : (rules : RouteRules) (limit max_calls : ℕ) (h : History) (s : Standing) (f : Fits rules limit max_calls h s) (part : Bool) → HasEnded s → Says rules limit max_calls f.xs f.ys s (by_port s (if part then ended.Clean else ended.Unsolicited (told ((as_session s).answered + 1)) (as_session s).answered))
end_says rules limit max_calls h s f true over = unasked_says rules limit max_calls h s f (position holds_frame s.upstreams) over refl
end_says rules limit max_calls h s f false over = unasked_says rules limit max_calls h s f (position holds_frame s.upstreams) over refl

client_says : (rules : RouteRules) (limit max_calls : ℕ) (h : History) (s : Standing) (f : Fits rules limit max_calls h s) (m : Move) → s.calls ≡ [] → of_client rules.judging limit max_calls (as_session s) ≡ m → Say rules limit max_calls f.xs f.ys s (by_client limit (as_session s) m)
client_says rules limit max_calls h s f (Halts why) none e = (none, next_told s.client.taken (length f.xs) (f.counted 0), AtFrame e)
client_says rules limit max_calls h s f (Takes t) none e = tt
client_says rules limit max_calls h s f Waits none e = by s.client.ended (is_none s.client.held) refl refl
  where
    by : (over empty : Bool) → s.client.ended ≡ over → is_none s.client.held ≡ empty → Say rules limit max_calls f.xs f.ys s (if over then Some (if empty then (if is_part (front limit (as_session s).upstream) then ended.Clean else ended.Unsolicited (told ((as_session s).answered + 1)) (as_session s).answered) else ended.ClientFault (told (s.client.taken + 1)) halt.Inside) else None)
    by false empty a b = tt
    by true true a b = end_says rules limit max_calls h s f (is_part (front limit (as_session s).upstream)) (record { closed = none; ended = a; nothing = none_held s.client.held b })
    by true false a b = (none, next_told s.client.taken (length f.xs) (f.counted 0), AtEnd a b refl)

closed_says : (rules : RouteRules) (limit max_calls : ℕ) (h : History) (s : Standing) (f : Fits rules limit max_calls h s) (b : Bool) → is_none (as_session s).calls ≡ b → Say rules limit max_calls f.xs f.ys s (if b then by_client limit (as_session s) (of_client rules.judging limit max_calls (as_session s)) else None)
closed_says rules limit max_calls h s f true e = client_says rules limit max_calls h s f (of_client rules.judging limit max_calls (as_session s)) (none_held s.calls (sym (none_mapped s.calls) ∙ e)) refl
closed_says rules limit max_calls h s f false e = tt

both_say : (rules : RouteRules) (limit max_calls : ℕ) (h : History) (s : Standing) (f : Fits rules limit max_calls h s) (m : Move) → of_upstream rules.judging limit (as_session s) ≡ m → Say rules limit max_calls f.xs f.ys s (by_both limit (as_session s) m (of_client rules.judging limit max_calls (as_session s)))
both_say rules limit max_calls h s f (Halts why) e = upstream_says rules limit max_calls h s f why e
both_say rules limit max_calls h s f Waits e = closed_says rules limit max_calls h s f (is_none (as_session s).calls) refl
both_say rules limit max_calls h s f (Takes t) e = closed_says rules limit max_calls h s f (is_none (as_session s).calls) refl

all_say : (rules : RouteRules) (limit max_calls : ℕ) (h : History) (s : Standing) (f : Fits rules limit max_calls h s) → Say rules limit max_calls f.xs f.ys s (outcome_of rules.judging limit max_calls (as_session s))
unfolding outcome_of
all_say rules limit max_calls h s f = by (is_none s.to_client && is_none s.to_upstream)
  where
    by : (b : Bool) → Say rules limit max_calls f.xs f.ys s (if b then by_both limit (as_session s) (of_upstream rules.judging limit (as_session s)) (of_client rules.judging limit max_calls (as_session s)) else None)
    by true = both_say rules limit max_calls h s f (of_upstream rules.judging limit (as_session s)) refl
    by false = tt

pub outcome_says : (rules : RouteRules) (limit max_calls : ℕ) (h : History) (s : Standing) (o : RouteOutcome) (f : Fits rules limit max_calls h s) → IsAtRest rules limit max_calls s (Some o) → Says rules limit max_calls f.xs f.ys s o
outcome_says rules limit max_calls h s o f rest =
    subst (λ (x : Option RouteOutcome). IfSome x (λ y. Says rules limit max_calls f.xs f.ys s y)) (sym rest.outcome_is) (all_say rules limit max_calls h s f)
