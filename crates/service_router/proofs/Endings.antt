-- Why nothing more can be taken, and what comes of it.
use Rattle.std.proofs.Common.{◌≡◌, ◌⊎◌, inl, inr, ℕ, zero, suc, ◌+◌, ◌==◌, ◌<◌, List, [], ◌∷◌, length, length-append, map, arith, refl, sym, ◌∙◌, ap, subst, Option, Some, None, is_some, IfSome, Bool, true, false, ◌&&◌, if◌then◌else◌}
use Rattle.std.specs.Prelude.{slice_set, get_or}
use Rattle.std.specs.List.{position}
use Rattle.framed_transport.specs.Frames.{framed, IsCut}
use Rattle.session_core.specs.Notes.{Note}
use Rattle.session_core.specs.Rules.{Rules}
use Rattle.session_core.specs.Standing as session
use Rattle.session_core.specs.Fits.{told}
use Rattle.session_core.specs.Steps as session_steps
use Rattle.session_core.specs.Steps.{Move, Waits, Halts, of_upstream, upstream_by, is_none, by_upstream, by_client, at_end}
use Rattle.session_core.specs.Working.{StandsStill, ending_of, ending_by}
use Rattle.session_core.specs.Ends as session_ends
use Rattle.session_core.specs.declared.state.Standstill.{Standstill}
use Rattle.session_core.specs.declared.state.Standstill.TheVariants as standstill
use Rattle.session_core.specs.declared.judge.ClientJudged.{ClientJudged}
use Rattle.session_core.specs.declared.judge.ClientJudged.TheVariants as client
use Rattle.session_core.specs.declared.outcome.Halt.{Halt}
use Rattle.session_core.specs.declared.outcome.Outcome.{Outcome}
use Rattle.session_core.specs.declared.outcome.Outcome.TheVariants as ended
use Rattle.session_core.proofs.Endings.{still, ended_by, over_owes_nothing}
use Rattle.session_core.proofs.Own.{own_outcome}
use Rattle.service_router.specs.declared.call.OpenCall.{OpenCall}
use Rattle.service_router.specs.declared.outcome.RouteOutcome.{RouteOutcome}
use Rattle.service_router.specs.declared.outcome.RouteOutcome.TheVariants as outcome
use Rattle.service_router.specs.Rules.{RouteRules}
use Rattle.service_router.specs.Standing.{Standing, Inbox, inbox_of, due_to, silent}
use Rattle.service_router.specs.Steps.{as_session, call_of, holds_frame, by_port, with_port, unasked, unasked_at, IsStill, outcome_of}
use Rattle.service_router.specs.Ends.{IsAtRest, is_own, held_of_all}
use Rattle.service_router.specs.Working.{Answers, Asks, TakesBy, Goes}

-- ---- nothing more can be taken

pub none_mapped : (calls : List OpenCall) → is_none (map call_of calls) ≡ is_none calls
none_mapped [] = refl
none_mapped (c ∷ cs) = refl

pub still_at : (rules : RouteRules) (limit max_calls : ℕ) (s t : Standing) (added : List Note) (why : Standstill) → Goes rules limit max_calls s t added (Some why) → IsStill rules.judging limit max_calls t
still_at rules limit max_calls s t added why goes = still rules.judging limit max_calls (as_session t) why (subst (λ (x : Standing). StandsStill rules.judging limit max_calls (as_session x) why) (sym goes.0) goes.1)

pub outcome_at : (rules : RouteRules) (limit k max_calls : ℕ) (s t : Standing) (added : List Note) (why : Standstill) (result : Option RouteOutcome) → Goes rules limit max_calls s t added (Some why) → k ≡ limit → result ≡ with_port t (ending_of k (as_session t) why) → result ≡ outcome_of rules.judging limit max_calls t
outcome_at rules limit k max_calls s t added why result goes e is =
    is ∙ (ap (λ n. with_port t (ending_of n (as_session t) why)) e
    ∙ ap (with_port t) (ended_by rules.judging limit max_calls (as_session t) why (subst (λ (x : Standing). StandsStill rules.judging limit max_calls (as_session x) why) (sym goes.0) goes.1)))

-- a target halts only while a call is open
open_by : (rules : Rules) (limit : ℕ) (s : session.Standing) (calls : List OpenCall) (h : Halt) → upstream_by rules limit s (map call_of calls) ≡ Halts h → 0 < length calls
open_by rules limit s [] h e = absurd (cc)
open_by rules limit s (c ∷ cs) h e = omega arith

pub halts_open : (rules : Rules) (limit : ℕ) (s : Standing) (h : Halt) → of_upstream rules limit (as_session s) ≡ Halts h → 0 < length s.calls
unfolding of_upstream
halts_open rules limit s h e = open_by rules limit (as_session s) s.calls h e

pub asked_one : (rules : RouteRules) (limit max_calls : ℕ) (s t : Standing) (added : List Note) (why : Standstill) (h : Halt) → Goes rules limit max_calls s t added (Some why) → why ≡ standstill.Upstream h → 0 < length t.calls
asked_one rules limit max_calls s t added why h goes is =
    halts_open rules.judging limit t h
    (subst (λ (x : Standing). of_upstream rules.judging limit (as_session x) ≡ Halts h) (sym goes.0)
    (subst (λ (w : Standstill). StandsStill rules.judging limit max_calls (as_session s) w) is goes.1))

-- ---- a step takes bytes

framed_longer : (limit : ℕ) (held frame rest : List ℕ) → IsCut limit held frame rest → length rest < length held
unfolding framed
framed_longer limit held frame rest cut = rw (cut.whole) (omega (arith, length-append frame rest))

set_held : (xs : List Inbox) (at : ℕ) (new d : Inbox) → at < length xs → held_of_all (slice_set xs at new) + length (get_or xs at d).held ≡ held_of_all xs + length new.held
set_held [] at new d h = absurd (omega (arith, h))
set_held (x ∷ xs) zero new d h = omega arith
set_held (x ∷ xs) (suc at) new d h = omega (arith, set_held xs at new d (omega (arith, h)))

-- how much is held of all ports
abbrev pub all_held : Standing → ℕ
all_held s = length s.client.held + held_of_all s.upstreams

takes_less : (v : ClientJudged) (target : ℕ) (output answer rest : List ℕ) (s t : Standing) → TakesBy v target output answer rest s t → length rest < length s.client.held → all_held t < all_held s
takes_less (client.Halts h) target output answer rest s t m less = absurd m
takes_less (client.Opens call) target output answer rest s t m less = subst (λ (x : Standing). all_held x < all_held s) (sym m) (omega (arith, less))
takes_less client.Goes target output answer rest s t m less = subst (λ (x : Standing). all_held x < all_held s) (sym m) (omega (arith, less))
takes_less (client.Refused cause) target output answer rest s t m less = subst (λ (x : Standing). all_held x < all_held s) (sym m.2) (omega (arith, less))
takes_less (client.Dropped cause) target output answer rest s t m less = subst (λ (x : Standing). all_held x < all_held s) (sym m) (omega (arith, less))

pub falls : (rules : RouteRules) (limit max_calls : ℕ) (s t : Standing) (added : List Note) → (Answers rules.judging limit s t added ⊎ Asks rules limit max_calls s t added) → all_held t < all_held s
falls rules limit max_calls s t added (inl a) =
    let inbox = inbox_of (suc a.call.target) s in
    subst (λ (x : Standing). all_held x < all_held s) (sym a.after)
    (omega (arith, framed_longer limit inbox.held a.frame a.rest a.cut, set_held s.upstreams a.call.target (record inbox { held = a.rest; taken = told (inbox.taken + 1) }) (silent 0) a.known))
falls rules limit max_calls s t added (inr a) = takes_less (rules.judging.judged a.frame) (rules.target a.frame) (rules.judging.output a.frame) (rules.judging.answer a.frame) a.rest s t a.takes (framed_longer limit s.client.held a.frame a.rest a.cut)

-- ---- at the limits of the call

pub goes_at : (rules others : RouteRules) (limit k max_calls m : ℕ) (s t : Standing) (added : List Note) (why : Option Standstill) → others ≡ rules → k ≡ limit → m ≡ max_calls → Goes others k m s t added why → Goes rules limit max_calls s t added why
goes_at rules others limit k max_calls m s t added why a b d h =
    subst (λ (r : RouteRules). Goes r limit max_calls s t added why) a
    (subst (λ (n : ℕ). Goes others n max_calls s t added why) b
    (subst (λ (n : ℕ). Goes others k n s t added why) d h))

-- ---- once there is an outcome nothing is due

some_told : (s : Standing) (o : Option Outcome) → is_some (with_port s o) ≡ true → is_some o ≡ true
some_told s None e = absurd (cc)
some_told s (Some o) e = refl

nothing_due : (rules : RouteRules) (limit max_calls : ℕ) (s : Standing) (o : Option RouteOutcome) → IsAtRest rules limit max_calls s o → is_some o ≡ true → (s.to_client ≡ []) × (s.to_upstream ≡ [])
nothing_due rules limit max_calls s o rest some =
    let inner = session_steps.outcome_of rules.judging limit max_calls (as_session s) in
    over_owes_nothing rules.judging limit max_calls (as_session s) inner
    (record { still = rest.still; outcome_is = refl })
    (some_told s inner (ap is_some (sym rest.outcome_is) ∙ some))

by_due : (port : ℕ) (s : Standing) → s.to_client ≡ [] → s.to_upstream ≡ [] → due_to port s ≡ []
by_due zero s a b = a
by_due (suc u) s a b = by (s.toward == u)
  where
    by : (t : Bool) → (if t then s.to_upstream else []) ≡ []
    by true = b
    by false = refl

pub over_due : (rules : RouteRules) (limit max_calls port : ℕ) (s t : Standing) (o told : Option RouteOutcome) → IsAtRest rules limit max_calls s o → s ≡ t → o ≡ told → is_some told ≡ true → due_to port t ≡ []
over_due rules limit max_calls port s t o told rest a b some =
    let none = nothing_due rules limit max_calls s o rest (ap is_some b ∙ some) in
    ap (due_to port) (sym a) ∙ by_due port s none.0 none.1

-- ---- the outcomes that a router comes to by itself

unasked_own : (us : List Inbox) (at : Option ℕ) → is_own (unasked_at us at) ≡ true
unasked_own us None = refl
unasked_own us (Some at) = refl

port_own : (s : Standing) (o : Outcome) → session_ends.is_own o ≡ true → is_own (by_port s o) ≡ true
port_own s ended.Clean own = unasked_own s.upstreams (position holds_frame s.upstreams)
port_own s (ended.ClientFault n h) own = refl
port_own s (ended.UpstreamFault n h) own = refl
port_own s (ended.UpstreamEnded n) own = refl
port_own s (ended.Unsolicited n calls) own = unasked_own s.upstreams (position holds_frame s.upstreams)
port_own s (ended.LinkFault side) own = absurd (cc)
port_own s ended.Full own = absurd (cc)
port_own s ended.NoMemory own = absurd (cc)

told_own : (s : Standing) (o : Option Outcome) → IfSome o (λ x. session_ends.is_own x ≡ true) → IfSome (with_port s o) (λ x. is_own x ≡ true)
told_own s None own = tt
told_own s (Some o) own = port_own s o own

pub own_outcome_of : (rules : RouteRules) (limit max_calls : ℕ) (s : Standing) (o : Option RouteOutcome) → IsAtRest rules limit max_calls s o → IfSome o (λ x. is_own x ≡ true)
own_outcome_of rules limit max_calls s o rest =
    let inner = session_steps.outcome_of rules.judging limit max_calls (as_session s) in
    subst (λ (x : Option RouteOutcome). IfSome x (λ y. is_own y ≡ true)) (sym rest.outcome_is)
    (told_own s inner (own_outcome rules.judging limit max_calls (as_session s) inner (record { still = rest.still; outcome_is = refl })))

-- ---- the outcome in the program's words

-- while something is due there is none
pub owing_none : (limit : ℕ) (s : Standing) (why : Standstill) (a b : Bool) → is_none s.to_client ≡ a → is_none s.to_upstream ≡ b → (a && b) ≡ false → None ≡ with_port s (ending_of limit (as_session s) why)
owing_none limit s why a b e f some =
    ap (with_port s) (by (a && b) some) ∙ ap (λ (t : Bool). with_port s (if t then ending_by limit (as_session s) why else None)) (ap (λ (t : Bool). t && b) (sym e) ∙ ap (λ (t : Bool). is_none s.to_client && t) (sym f))
  where
    by : (t : Bool) → t ≡ false → None ≡ (if t then ending_by limit (as_session s) why else None)
    by true paid = absurd (cc)
    by false paid = refl

-- once nothing is due
pub paid_ending : (limit : ℕ) (s : Standing) (why : Standstill) → s.to_client ≡ [] → s.to_upstream ≡ [] → with_port s (ending_by limit (as_session s) why) ≡ with_port s (ending_of limit (as_session s) why)
paid_ending limit s why a b =
    sym (ap (λ (t : Bool). with_port s (if t && is_none s.to_upstream then ending_by limit (as_session s) why else None)) (ap is_none a) ∙ ap (λ (t : Bool). with_port s (if t then ending_by limit (as_session s) why else None)) (ap is_none b))

-- with no call open
pub no_call_open : (s : Standing) (o : Option Outcome) → s.calls ≡ [] → with_port s o ≡ with_port s (if is_none (as_session s).calls then o else None)
no_call_open s o none = sym (ap (λ (t : Bool). with_port s (if t then o else None)) (none_mapped s.calls ∙ ap is_none none))

-- a target of which a frame is held has said too much
pub told_unasked : (us : List Inbox) (at port answer calls : ℕ) → Some at ≡ position holds_frame us → port ≡ suc at → answer ≡ told (calls + 1) → calls ≡ (get_or us at (silent 0)).taken → outcome.Unsolicited port answer calls ≡ unasked us
told_unasked us at port answer calls e p a n =
    ap (λ x. outcome.Unsolicited x answer calls) p
    ∙ (ap (λ x. outcome.Unsolicited (suc at) x calls) (a ∙ ap (λ x. told (x + 1)) n)
    ∙ (ap (λ x. outcome.Unsolicited (suc at) (told ((get_or us at (silent 0)).taken + 1)) x) n
    ∙ ap (unasked_at us) e))
