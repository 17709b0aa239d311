-- What a look at a port comes to.
use Rattle.std.proofs.Common.{◌≡◌, ℕ, suc, ◌<◌, ◌≤◌, List, [], ◌∷◌, ◌++◌, length, map, arith, refl, sym, ◌∙◌, ap, subst, Bool, true, false, ◌&&◌, if◌then◌else◌, Option, Some, None, IfSome}
use Rattle.std.proofs.lemmas.List.{append-nil}
use Rattle.framed_transport.specs.Front.{Front, Part, Whole, front, is_part}
use Rattle.session_core.specs.Notes.{Note}
use Rattle.session_core.specs.Rules.{Rules}
use Rattle.session_core.specs.Steps.{Move, Waits, Halts, of_upstream, of_client, upstream_front, client_front, by_judged, is_none}
use Rattle.session_core.specs.Working.{Comes, ends_step, IsFound, judged_as}
use Rattle.translate_verdicts.specs.declared.verdict.Cause.{Cause}
use Rattle.session_core.specs.declared.state.SessionStep.{SessionStep}
use Rattle.session_core.specs.declared.state.Waiting.{Waiting}
use Rattle.session_core.specs.declared.state.Waiting.TheVariants as waiting
use Rattle.session_core.specs.declared.outcome.Halt.{Halt}
use Rattle.session_core.specs.declared.judge.ClientJudged.{ClientJudged}
use Rattle.session_core.specs.declared.judge.ClientJudged.TheVariants as client
use Rattle.session_core.specs.declared.judge.UpstreamJudged.TheVariants as upstream
use Rattle.session_core.proofs.Moves.{looks, judges, asks, answers, due_first, no_reply, waits_for_upstream, waits_for_call, waits_halted, no_call}
use Rattle.service_router.specs.declared.call.OpenCall.{OpenCall}
use Rattle.service_router.specs.declared.state.State.{State}
use Rattle.service_router.specs.Rules.{RouteRules}
use Rattle.service_router.specs.Routing.{Routing}
use Rattle.service_router.specs.Judging.{rules_of}
use Rattle.service_router.specs.Standing.{Standing, Inbox, inbox_of}
use Rattle.service_router.specs.Steps.{as_session, asked, call_of}
use Rattle.service_router.specs.Working.{LooksUp, Asks, Knows}
use Rattle.service_router.proofs.Walks.{map_length}

-- ---- the target of the oldest call

open_session : (s : Standing) (first : OpenCall) (calls : List OpenCall) → s.calls ≡ first ∷ calls → (as_session s).calls ≡ first.call ∷ map call_of calls
open_session s first calls e = ap (map call_of) e

asked_is : (s : Standing) (first : OpenCall) (calls : List OpenCall) → s.calls ≡ first ∷ calls → asked s.calls s.upstreams ≡ inbox_of (suc first.target) s
asked_is s first calls e = ap (λ cs. asked cs s.upstreams) e

-- what stands at its front
at_front : (limit : ℕ) (s : Standing) (first : OpenCall) (calls : List OpenCall) (inbox : Inbox) (f : Front) → s.calls ≡ first ∷ calls → inbox ≡ inbox_of (suc first.target) s → inbox.limit ≡ limit → front inbox.limit inbox.held ≡ f → front limit (as_session s).upstream ≡ f
at_front limit s first calls inbox f e is same g =
    ap (λ (i : Inbox). front limit i.held) (asked_is s first calls e ∙ sym is) ∙ (ap (λ n. front n inbox.held) (sym same) ∙ g)

pub none_open : (rules : Rules) (limit : ℕ) (s : Standing) → s.calls ≡ [] → of_upstream rules limit (as_session s) ≡ Waits
none_open rules limit s e = no_call rules limit (as_session s) (ap (map call_of) e)

by_ends : (rules : Rules) (limit : ℕ) (s : Standing) (part ended : Bool) → Comes (ends_step part ended) (of_upstream rules limit (as_session s)) (as_session s) (as_session s) → LooksUp rules limit (ends_step part ended) s s []
by_ends rules limit s true true h = (h.0, refl, refl)
by_ends rules limit s true false h = (h.0, refl, refl)
by_ends rules limit s false ended h = (h.0, refl, refl)

ends_as : (rules : Rules) (limit : ℕ) (s : Standing) (first : OpenCall) (calls : List OpenCall) (inbox : Inbox) (came : SessionStep) → s.calls ≡ first ∷ calls → inbox ≡ inbox_of (suc first.target) s → inbox.limit ≡ limit → came ≡ ends_step (is_part (front inbox.limit inbox.held)) inbox.ended → Comes (ends_step (is_part (front limit (as_session s).upstream)) (as_session s).upstream_ended) (of_upstream rules limit (as_session s)) (as_session s) (as_session s) → LooksUp rules limit came s s []
ends_as rules limit s first calls inbox came e is same came_is h =
    let there : inbox ≡ asked s.calls s.upstreams = is ∙ sym (asked_is s first calls e) in
    let all : came ≡ ends_step (is_part (front limit (as_session s).upstream)) (as_session s).upstream_ended =
    came_is ∙ (ap (λ n. ends_step (is_part (front n inbox.held)) inbox.ended) same ∙ ap (λ (i : Inbox). ends_step (is_part (front limit i.held)) i.ended) there) in
    subst (λ (u : SessionStep). LooksUp rules limit u s s []) (sym all) (by_ends rules limit s (is_part (front limit (as_session s).upstream)) (as_session s).upstream_ended h)

-- while something is due to the client its end alone halts
pub ends_first : (rules : Rules) (limit : ℕ) (s : Standing) (first : OpenCall) (calls : List OpenCall) (inbox : Inbox) (came : SessionStep) → s.calls ≡ first ∷ calls → inbox ≡ inbox_of (suc first.target) s → inbox.limit ≡ limit → came ≡ ends_step (is_part (front inbox.limit inbox.held)) inbox.ended → 0 < length s.to_client → LooksUp rules limit came s s []
ends_first rules limit s first calls inbox came e is same came_is some =
    ends_as rules limit s first calls inbox came e is same came_is (due_first rules limit (as_session s) first.call (map call_of calls) (open_session s first calls e) some)

pub ends_part : (rules : Rules) (limit : ℕ) (s : Standing) (first : OpenCall) (calls : List OpenCall) (inbox : Inbox) (came : SessionStep) → s.calls ≡ first ∷ calls → inbox ≡ inbox_of (suc first.target) s → inbox.limit ≡ limit → came ≡ ends_step (is_part (front inbox.limit inbox.held)) inbox.ended → s.to_client ≡ [] → front inbox.limit inbox.held ≡ Part → LooksUp rules limit came s s []
ends_part rules limit s first calls inbox came e is same came_is none part =
    ends_as rules limit s first calls inbox came e is same came_is (no_reply rules limit (as_session s) first.call (map call_of calls) (open_session s first calls e) none (at_front limit s first calls inbox Part e is same part))

pub asks_front : (rules : Rules) (limit : ℕ) (s : Standing) (first : OpenCall) (calls : List OpenCall) (inbox : Inbox) (f : Front) → s.calls ≡ first ∷ calls → inbox ≡ inbox_of (suc first.target) s → inbox.limit ≡ limit → s.to_client ≡ [] → front inbox.limit inbox.held ≡ f → of_upstream rules limit (as_session s) ≡ upstream_front rules (as_session s) first.call (map call_of calls) f
asks_front rules limit s first calls inbox f e is same none g =
    asks rules limit (as_session s) first.call (map call_of calls) f (open_session s first calls e) none (at_front limit s first calls inbox f e is same g)

pub reply_halts : (rules : Rules) (limit : ℕ) (s : Standing) (first : OpenCall) (calls : List OpenCall) (inbox : Inbox) (frame rest : List ℕ) (h : Halt) → s.calls ≡ first ∷ calls → inbox ≡ inbox_of (suc first.target) s → inbox.limit ≡ limit → s.to_client ≡ [] → front inbox.limit inbox.held ≡ Whole frame rest → rules.replied first.call frame ≡ upstream.Halts h → of_upstream rules limit (as_session s) ≡ Halts h
reply_halts rules limit s first calls inbox frame rest h e is same none g j =
    answers rules limit (as_session s) first.call (map call_of calls) frame rest (upstream.Halts h) (open_session s first calls e) none (at_front limit s first calls inbox (Whole frame rest) e is same g) j

-- ---- the client

few_session : (s : Standing) (max_calls : ℕ) → length s.calls < max_calls → length (as_session s).calls < max_calls
few_session s max_calls few = omega (arith, few, map_length call_of s.calls)

pub client_front_is : (rules : Rules) (limit max_calls : ℕ) (s : Standing) (f : Front) → s.to_upstream ≡ [] → length s.calls < max_calls → front limit s.client.held ≡ f → of_client rules limit max_calls (as_session s) ≡ client_front rules (as_session s) f
client_front_is rules limit max_calls s f none few e = looks rules limit max_calls (as_session s) f none (few_session s max_calls few) e

pub client_judged_is : (rules : Rules) (limit max_calls : ℕ) (s : Standing) (frame rest : List ℕ) (v : ClientJudged) → s.to_upstream ≡ [] → length s.calls < max_calls → front limit s.client.held ≡ Whole frame rest → rules.judged frame ≡ v → of_client rules limit max_calls (as_session s) ≡ by_judged v (as_session s) (rules.output frame) (rules.answer frame) rest
client_judged_is rules limit max_calls s frame rest v none few e j = judges rules limit max_calls (as_session s) frame rest v none (few_session s max_calls few) e j

pub client_waits_due : (rules : Rules) (limit max_calls : ℕ) (s : Standing) → 0 < length s.to_upstream → of_client rules limit max_calls (as_session s) ≡ Waits
client_waits_due rules limit max_calls s some = waits_for_upstream rules limit max_calls (as_session s) some

pub client_waits_calls : (rules : Rules) (limit max_calls : ℕ) (s : Standing) → max_calls ≤ length s.calls → of_client rules limit max_calls (as_session s) ≡ Waits
client_waits_calls rules limit max_calls s many = waits_for_call rules limit max_calls (as_session s) (omega (arith, many, map_length call_of s.calls))

pub client_halts : (rules : Rules) (limit max_calls : ℕ) (s : Standing) (w : Waiting) (h : Halt) → s.to_upstream ≡ [] → length s.calls < max_calls → IsFound rules limit s.client.held w → w ≡ waiting.Halts h → of_client rules limit max_calls (as_session s) ≡ Halts h
client_halts rules limit max_calls s w h none few f is = waits_halted rules limit max_calls (as_session s) w h none (few_session s max_calls few) f is

-- a refused call waits for its turn
pub client_waits_turn : (rules : Rules) (limit max_calls : ℕ) (s : Standing) (w : Waiting) (cause : Cause) → s.to_upstream ≡ [] → length s.calls < max_calls → (f : IsFound rules limit s.client.held w) → w ≡ waiting.Refused cause → (is_none (as_session s).calls && is_none s.to_client) ≡ false → of_client rules limit max_calls (as_session s) ≡ Waits
client_waits_turn rules limit max_calls s w cause none few f is turn =
    client_judged_is rules limit max_calls s f.frame f.rest (client.Refused cause) none few f.stands (f.judged ∙ ap judged_as is)
    ∙ turn_by (is_none (as_session s).calls && is_none s.to_client) _ turn
  where
    turn_by : (b : Bool) (m : Move) → b ≡ false → (if b then m else Waits) ≡ Waits
    turn_by true m e = absurd (cc)
    turn_by false m e = refl

-- ---- what is known of a frame that waits

pub knows_nothing : (rules : RouteRules) (s : State) → s.known ≡ None → Knows rules s
knows_nothing rules s none = subst (λ (o : Option Waiting). IfSome o (λ found. IsFound rules.judging s.client.limit s.client.held found)) (sym none) tt

pub found_of : (rules : RouteRules) (s : State) (w : Waiting) → s.known ≡ Some w → Knows rules s → IsFound rules.judging s.client.limit s.client.held w
found_of rules s w known k = subst (λ (o : Option Waiting). IfSome o (λ found. IsFound rules.judging s.client.limit s.client.held found)) known k

-- ---- after a look at a target that changed nothing

pub asks_after : (rules others : RouteRules) (limit k max_calls m : ℕ) (s mid t : Standing) (added : List Note) → others ≡ rules → k ≡ limit → m ≡ max_calls → mid ≡ s → Asks others k m mid t added → Asks rules limit max_calls s t added
asks_after rules others limit k max_calls m s mid t added a b d e h =
    subst (λ (r : RouteRules). Asks r limit max_calls s t added) a
    (subst (λ (n : ℕ). Asks others n max_calls s t added) b
    (subst (λ (n : ℕ). Asks others k n s t added) d
    (subst (λ (x : Standing). Asks others k m x t added) e h)))

-- nothing was told before, and then this
pub after_none : {X : Type 0} {tells : X → X → List Note → Type 0} {a b c : X} → ((p q r : X) (xs ys : List Note) → tells p q xs → tells q r ys → tells p r (xs ++ ys)) → (xs ys : List Note) → xs ≡ [] → tells a b xs → tells b c ys → tells a c ys
after_none {tells = tells} {a = a} {b = b} {c = c} follows xs ys none first second = subst (λ (n : List Note). tells a c n) (ap (λ (n : List Note). n ++ ys) none) (follows a b c xs ys first second)

-- this was told, and then nothing
pub then_none : {X : Type 0} {tells : X → X → List Note → Type 0} {a b c : X} → ((p q r : X) (xs ys : List Note) → tells p q xs → tells q r ys → tells p r (xs ++ ys)) → (xs ys : List Note) → ys ≡ [] → tells a b xs → tells b c ys → tells a c xs
then_none {tells = tells} {a = a} {b = b} {c = c} follows xs ys none first second = subst (λ (n : List Note). tells a c n) (ap (λ (n : List Note). xs ++ n) none ∙ append-nil xs) (follows a b c xs ys first second)

pub client_after : (rules others : RouteRules) (limit k max_calls m : ℕ) (s mid : Standing) (move : Move) → others ≡ rules → k ≡ limit → m ≡ max_calls → mid ≡ s → of_client others.judging k m (as_session mid) ≡ move → of_client rules.judging limit max_calls (as_session s) ≡ move
client_after rules others limit k max_calls m s mid move a b d e h =
    subst (λ (r : RouteRules). of_client r.judging limit max_calls (as_session s) ≡ move) a
    (subst (λ (n : ℕ). of_client others.judging n max_calls (as_session s) ≡ move) b
    (subst (λ (n : ℕ). of_client others.judging k n (as_session s) ≡ move) d
    (subst (λ (x : Standing). of_client others.judging k m (as_session x) ≡ move) e h)))

-- by a judge that is the same
pub found_by : (r q : Routing) (limit : ℕ) (held : List ℕ) (w : Waiting) → q ≡ r → IsFound (rules_of r).judging limit held w → IsFound (rules_of q).judging limit held w
found_by r q limit held w same f = subst (λ (x : Routing). IsFound (rules_of x).judging limit held w) (sym same) f
