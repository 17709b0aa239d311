-- What went over each session of a server.
use Rattle.std.proofs.Common.{◌≡◌, ℕ, suc, ◌<◌, ◌≤◌, ◌==◌, ◌⊎◌, inl, inr, List, [], ◌∷◌, ◌++◌, length, nat_lt, Option, Some, None, Bool, true, false, if◌then◌else◌, arith, ap, sym, ◌∙◌, subst, refl}
use Rattle.std.proofs.lemmas.Bool.Decides.{nat_tests}
use Rattle.std.proofs.lemmas.List.Quantifiers.{position-Some}
use Rattle.std.specs.Cmp.Lexicographic.{pointwise}
use Rattle.std.specs.Prelude.{nat_eq}
use Rattle.gate_fan.specs.Meaning.{Told, Meaning}
use Rattle.gate_fan.specs.declared.fan.Target.{Target}
use Rattle.gate_hub.specs.declared.hub.Served.{Served}
use Rattle.session_core.specs.Notes.{Note}
use Rattle.translate_methods.specs.Methods.{target_for, target_of_name}
use Rattle.session_core.specs.Stands.{sent_on}
use Rattle.session_core.specs.declared.judge.ClientJudged.{ClientJudged}
use Rattle.session_core.specs.declared.judge.ClientJudged.TheVariants as client
use Rattle.session_judge.specs.Client.{of_client}
use Rattle.service_router.specs.Rules.{RouteRules}
use Rattle.service_router.specs.Routing.{Routing, server_of}
use Rattle.service_router.specs.Setups.{routing_of, rules_for}
use Rattle.service_router.specs.Judging.{asked, target_in, unserved, by_target, or_first, judged_client, output_of, rules_of}
use Rattle.service_router.specs.Standing.{Standing, History, due_to}
use Rattle.service_router.specs.Fits.{Fits, onward_to}
use Rattle.service_router.specs.Ends.{IsAtRest}
use Rattle.service_router.specs.Steps.{IsStill, outcome_of, as_session, with_port}
use Rattle.session_core.specs.Rules.{Rules}
use Rattle.session_core.specs.Steps as session
use Rattle.session_core.specs.declared.outcome.Outcome.{Outcome}
use Rattle.service_router.specs.Router.{Seen, rules_in}
use Rattle.service_router.specs.All.{Terms as Judged, FitsBy, AllOfClient, AllAnswers, TargetWasSent, ClientWasSent, IsPaid, AllWasSent, CameTo, IsToldBy}
use Rattle.service_router.specs.declared.outcome.RouteOutcome.{RouteOutcome}
use Rattle.route_server.specs.Matching.{history_of}
use Rattle.route_server.specs.Turning.{IsSettled}
use Rattle.route_server.specs.Saying.{Said, closings, heard_in}
use Rattle.route_server.specs.Serving.{Setting, Entry, IsHeld, IsOutcome, NotOpened, LinkFailed, OfItself, IsAmong, IsOpenOne, IsEndedOne}
use Rattle.route_server.specs.Steps.{CanRoute, Passage, ServesBy, Ending, LinesEnd, MayBeUnsettled}
use Rattle.route_laws.specs.Routed.{Given, setting_for, IsRouted, IsWritable, Course, NeverOpened, Broken, CameToAnEnd, LeftOpen, HasCourse, RoutesAll}
use Rattle.route_laws.proofs.Still.{still_by}

-- ---- what no target is sent

abbrev nobody : Target
nobody = record { service = []; address = [] }

serves_within : (targets : List Target) (service : Option (List ℕ)) (u : ℕ) → target_for (server_of targets) service ≡ Some u → u < length targets
serves_within targets None u e = absurd (cc)
serves_within targets (Some service) u e = (position-Some (λ (t : Target). pointwise nat_eq t.service service) targets u nobody e).0

named_within : (targets : List Target) (name : Option (List ℕ)) (u : ℕ) → target_of_name (server_of targets) name ≡ Some u → u < length targets
named_within targets None u e = absurd (cc)
named_within targets (Some name) u e = serves_within targets _ u e

-- a frame goes to no target beyond those that are there
none_by : (b : Bool) (xs : List ℕ) → xs ≡ [] → (if b then xs else []) ≡ []
none_by true xs e = e
none_by false xs e = refl

unserved_none : (v : ClientJudged) (out : List ℕ) → sent_on (unserved v) out ≡ []
unserved_none (client.Opens call) out = refl
unserved_none client.Goes out = refl
unserved_none (client.Halts h) out = refl
unserved_none (client.Refused cause) out = refl
unserved_none (client.Dropped cause) out = refl

frame_none : (r : Routing) (u : ℕ) (x out : List ℕ) → length r.targets ≤ u → (if or_first (target_in r x) == u then sent_on (judged_client r x) out else []) ≡ []
frame_none r u x out over = by (target_in r x) (λ t e. named_within r.targets _ t e)
  where
    by : (o : Option ℕ) → ((t : ℕ) → o ≡ Some t → t < length r.targets) → (if or_first o == u then sent_on (by_target o (of_client (asked r x).verdict)) out else []) ≡ []
    by None within = none_by (0 == u) (sent_on (unserved (of_client (asked r x).verdict)) out) (unserved_none (of_client (asked r x).verdict) out)
    by (Some t) within =
        let under = within t refl in
        let off : (t == u) ≡ false = grind (arith, nat_tests, under, over) in
        ap (λ (b : Bool). if b then sent_on (of_client (asked r x).verdict) out else []) off

onward_none : (r : Routing) (u : ℕ) (xs : List (List ℕ)) → length r.targets ≤ u → onward_to (rules_of r) u xs ≡ []
unfolding rules_of
onward_none r u [] over = refl
onward_none r u (x ∷ xs) over = ap (λ (ys : List ℕ). ys ++ onward_to (rules_of r) u xs) (frame_none r u x (output_of r x) over) ∙ onward_none r u xs over

append_none : (xs ys : List ℕ) → xs ++ ys ≡ [] → ys ≡ []
append_none [] ys e = e
append_none (x ∷ xs) ys e = absurd (cc)

due_here : (u : ℕ) (xs : List ℕ) → (if u == u then xs else []) ≡ xs
due_here u xs = let on : (u == u) ≡ true = grind (arith, nat_tests) in ap (λ (b : Bool). if b then xs else []) on

-- where nothing is due to any port that is there, nothing is due to a target
nothing_toward : (r : Routing) (limit max_calls : ℕ) (h : History) (s : Standing) → Fits (rules_of r) limit max_calls h s → ((x : ℕ) → x ≤ length r.targets → due_to x s ≡ []) → s.to_upstream ≡ []
nothing_toward r limit max_calls h s fits none = sym (due_here s.toward s.to_upstream) ∙ by (nat_lt s.toward (length r.targets)) refl
  where
    by : (b : Bool) → nat_lt s.toward (length r.targets) ≡ b → due_to (suc s.toward) s ≡ []
    by true e = none (suc s.toward) (let under : s.toward < length r.targets = grind (arith, nat_tests, e) in omega (arith, under))
    by false e = append_none (h.sent (suc s.toward)) (due_to (suc s.toward) s) (fits.went (suc s.toward) ∙ onward_none r s.toward fits.xs (let over : length r.targets ≤ s.toward = grind (arith, nat_tests, e) in over))

-- ---- a router that has an outcome is at rest

rests : (rules : Rules) (limit max_calls : ℕ) (s : Standing) (o : RouteOutcome) → outcome_of rules limit max_calls s ≡ Some o → IsStill rules limit max_calls s
rests rules limit max_calls s o is = by (session.outcome_of rules limit max_calls (as_session s)) refl is
  where
    by : (x : Option Outcome) → session.outcome_of rules limit max_calls (as_session s) ≡ x → with_port s x ≡ Some o → IsStill rules limit max_calls s
    by None e p = absurd (cc)
    by (Some y) e p = still_by rules limit max_calls (as_session s) y e

-- ---- one session

-- the laws of a router
pub record Laws : Type 0 where
  pub targets : (t : Judged) (h : History) (s : Standing) (all : AllOfClient t h) (u : ℕ) → FitsBy t h s → TargetWasSent t h all u
  pub client : (t : Judged) (h : History) (s : Standing) (all : AllOfClient t h) (answers : AllAnswers t h all) → FitsBy t h s → ClientWasSent t h all answers
  pub paid : (t : Judged) (h : History) (s : Standing) → 0 < t.max_calls → IsPaid t h s → AllWasSent t h
  pub says : (t : Judged) (h : History) (s : Standing) (o : RouteOutcome) (fits : FitsBy t h s) → CameTo t s o → IsToldBy t h s fits o

routed_by : Laws → (t : Judged) (h : History) (s : Standing) → FitsBy t h s → IsRouted t h
routed_by laws t h s fits = record { targets = λ all u. laws.targets t h s all u fits; client = λ all answers. laws.client t h s all answers fits }

abbrev judged_on : (g : Given) → CanRoute g.setup g.targets → Judged
judged_on g good = record { rules = rules_for g.setup g.targets; limit = g.setup.limit; max_calls = g.setup.calls; small = omega (arith, good.small) }

held_fits : (set : Setting) (r : Seen) (notes : List Note) (told : Told) → IsHeld set r notes told → Fits set.rules set.limit set.max_calls (history_of told) r.standing
held_fits set r notes told h =
    subst (λ (rules : RouteRules). Fits rules set.limit set.max_calls (history_of told) r.standing) h.judged
    (subst (λ (n : ℕ). Fits (rules_in r) n set.max_calls (history_of told) r.standing) h.limited
    (subst (λ (n : ℕ). Fits (rules_in r) r.limit n (history_of told) r.standing) h.calls h.matches.fits.fits))

held_rest : (set : Setting) (r : Seen) (notes : List Note) (told : Told) → IsHeld set r notes told → IsAtRest set.rules set.limit set.max_calls r.standing r.outcome
held_rest set r notes told h =
    subst (λ (rules : RouteRules). IsAtRest rules set.limit set.max_calls r.standing r.outcome) h.judged
    (subst (λ (n : ℕ). IsAtRest (rules_in r) n set.max_calls r.standing r.outcome) h.limited
    (subst (λ (n : ℕ). IsAtRest (rules_in r) r.limit n r.standing r.outcome) h.calls h.matches.rest))

but_never : {A B : Type 0} → A ⊎ B → (B → ⊥) → A
but_never (inl a) never = a
but_never (inr b) never = absurd (never b)

open_course : Laws → (g : Given) (good : CanRoute g.setup g.targets) (result : Served) (lines : LinesEnd) (r : Seen) (notes : List Note) (told : Told) → IsHeld (setting_for g) r notes told → ((MayBeUnsettled result lines → ⊥) → IsSettled r told) → Course (judged_on g good) result lines told None
open_course laws g good result lines r notes told h settled = LeftOpen (routed_by laws t (history_of told) r.standing fits) paid
  where
    t : Judged
    t = judged_on g good

    fits : FitsBy t (history_of told) r.standing
    fits = held_fits (setting_for g) r notes told h

    paid : (MayBeUnsettled result lines → ⊥) → IsWritable told → AllWasSent t (history_of told)
    paid unspent writable = laws.paid t (history_of told) r.standing good.some (record {
      fits = fits;
      rest = subst (λ (o : Option RouteOutcome). IsAtRest t.rules t.limit t.max_calls r.standing o) s.going (held_rest (setting_for g) r notes told h);
      to_client = none 0 (omega arith);
      to_upstream = nothing_toward (routing_of g.setup g.targets) g.setup.limit g.setup.calls (history_of told) r.standing fits none;
    })
      where
        s : IsSettled r told
        s = settled unspent

        none : (x : ℕ) → x ≤ length g.targets → due_to x r.standing ≡ []
        none x within = but_never (s.writes x (omega (arith, within, h.targets))) (writable x)

ended_course : Laws → (g : Given) (good : CanRoute g.setup g.targets) (result : Served) (lines : LinesEnd) (o : RouteOutcome) (notes : List Note) (told : Told) → IsOutcome (setting_for g) o notes told → Course (judged_on g good) result lines told (Some o)
ended_course laws g good result lines o notes told (NotOpened why quiet none calm) = NeverOpened o why none
ended_course laws g good result lines o notes told (LinkFailed x s is failed calm fits) =
    subst (λ (p : RouteOutcome). Course (judged_on g good) result lines told (Some p)) (sym is) (Broken x failed (routed_by laws (judged_on g good) (history_of told) s fits.fits))
ended_course laws g good result lines o notes told (OfItself s is calm fits) =
    CameToAnEnd o s fits.fits (laws.says (judged_on g good) (history_of told) s o fits.fits (record { still = rests (rules_for g.setup g.targets).judging g.setup.limit g.setup.calls s o is; outcome_is = sym is })) (routed_by laws (judged_on g good) (history_of told) s fits.fits)

-- ---- all sessions

course_at : Laws → (g : Given) (good : CanRoute g.setup g.targets) (result : Served) (lines : LinesEnd) (held : List Entry) (said : List Said) (busy : ℕ) (m n : Meaning) → Ending (setting_for g) result lines held said busy m n → (k : ℕ) → (n.session k).announced ≡ true → HasCourse (judged_on g good) result lines held (closings said) n k
course_at laws g good result lines held said busy m n end k announced = by (end.stands.covers k announced)
  where
    t : Judged
    t = judged_on g good

    among : IsAmong k held (closings said) → HasCourse t result lines held (closings said) n k
    among (IsOpenOne i e p q) = (
      None,
      (i, e, p, q),
      subst (λ (j : ℕ). Course t result lines (n.session j) None) q (open_course laws g good result lines e.router (heard_in said e.number) (n.session e.number) (end.stands.each i e p) (λ unspent. end.left.settled unspent i e p)),
    )
    among (IsEndedOne i c p q) = (
      Some c.1,
      (i, c, p, q, refl),
      subst (λ (j : ℕ). Course t result lines (n.session j) (Some c.1)) q (ended_course laws g good result lines c.1 (heard_in said c.0) (n.session c.0) (end.stands.ended i c p).why),
    )

    by : ⊥ ⊎ IsAmong k held (closings said) → HasCourse t result lines held (closings said) n k
    by (inl never) = absurd never
    by (inr x) = among x

pub routes : Laws → (g : Given) (text : ℕ → Note → List ℕ) (way : Passage) (result : Served) → CanRoute g.setup g.targets → ServesBy (setting_for g) text way result → RoutesAll g text way result
routes laws g text way result good serves = record {
  judged = judged_on g good;
  are_judged = record { rules = refl; limit = refl; max_calls = refl };
  held = serves.held;
  said = serves.said;
  lines = serves.lines;
  writes = serves.writes;
  answers = serves.answers;
  sessions = λ m told fresh.
      let r = serves.keeps m told fresh in
      (r.0, r.1, λ k announced. course_at laws g good result serves.lines serves.held serves.said serves.busy m r.0 r.2 k announced);
}
