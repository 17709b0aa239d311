-- A router at rest with nothing due stands at the greatest stand.
use Rattle.std.proofs.Common.{◌≡◌, ℕ, zero, suc, ◌==◌, ◌+◌, ◌<◌, ◌≤◌, ◌^◌, inl, inr, List, [], ◌∷◌, ◌++◌, length, length-append, drop, map, arith, refl, sym, ◌∙◌, ap, subst, Option, Some, None, slice_get, Bool, true, false, ◌&&◌, if◌then◌else◌}
use Rattle.std.proofs.lemmas.List.{append-nil, length-drop}
use Rattle.framed_transport.specs.Frames.{framed}
use Rattle.framed_transport.specs.Front.{Whole, front}
use Rattle.session_core.specs.Rules.{Rules}
use Rattle.session_core.specs.Standing as session
use Rattle.session_core.specs.Stands as session_stands
use Rattle.session_core.specs.Stands.{IsLawful, IsTaken}
use Rattle.session_core.specs.Fits.{told}
use Rattle.session_core.specs.Steps.{Waits, Halts, Takes, is_none, of_upstream, of_client, by_judged, ByUpstream, ByClient, outcome_of, by_both, by_upstream}
use Rattle.translate_verdicts.specs.declared.verdict.Cause.{Cause}
use Rattle.session_core.specs.declared.outcome.Halt.{Halt}
use Rattle.session_core.specs.declared.outcome.Outcome.{Outcome}
use Rattle.session_core.specs.declared.judge.ClientJudged.{ClientJudged}
use Rattle.session_core.specs.declared.judge.ClientJudged.TheVariants as client
use Rattle.session_core.specs.declared.judge.UpstreamJudged.{UpstreamJudged}
use Rattle.session_core.specs.declared.judge.UpstreamJudged.TheVariants as upstream
use Rattle.session_core.proofs.Moves.{StandsAtFront, judges, answers}
use Rattle.session_core.proofs.Fitting.{get_front}
use Rattle.session_core.proofs.Greatest.{Compared, compared}
use Rattle.service_router.specs.declared.call.OpenCall.{OpenCall}
use Rattle.service_router.specs.Rules.{RouteRules}
use Rattle.service_router.specs.Standing.{Standing, History, inbox_of, due_to}
use Rattle.service_router.specs.Fits.{Fits, calls_of, answers_of, written_to}
use Rattle.service_router.specs.Steps.{as_session, asked, call_of, with_port, IsStill}
use Rattle.service_router.specs.Ends.{IsAtRest}
use Rattle.service_router.specs.Stands.{Stand, AreDue}
use Rattle.service_router.proofs.Walks.{calls_are, calls_count, opens_count, answers_kept}
use Rattle.service_router.proofs.Ordered.{Ordered, ordered, calls_further, called}

-- ---- no frame of the oldest call's target is left

is_answer : (v : UpstreamJudged) → ((halt : Halt) → v ≡ upstream.Halts halt → ⊥) → (refused : Option Cause) × (v ≡ upstream.Answers refused)
is_answer (upstream.Halts halt) quiet = absurd (quiet halt refl)
is_answer (upstream.Answers refused) quiet = (refused, refl)

no_answer_left : (rules : Rules) (limit max_calls : ℕ) (s : Standing) (call : OpenCall) (calls : List OpenCall) (y rest : List ℕ) → IsStill rules limit max_calls s → s.calls ≡ call ∷ calls → s.to_client ≡ [] → front limit (inbox_of (suc call.target) s).held ≡ Whole y rest → ((halt : Halt) → rules.replied call.call y ≡ upstream.Halts halt → ⊥) → ⊥
no_answer_left rules limit max_calls s call calls y rest still open_is none whole quiet =
    let a = is_answer (rules.replied call.call y) quiet in
    still _ (ByUpstream (answers rules limit (as_session s) call.call (map call_of calls) y rest (upstream.Answers a.0) (ap (map call_of) open_is) none
    (ap (λ (cs : List OpenCall). front limit (asked cs s.upstreams).held) open_is ∙ whole) a.1))

-- ---- no frame of the client is left

no_halt : (rules : Rules) (limit max_calls : ℕ) (s : session.Standing) (halt : Halt) → outcome_of rules limit max_calls s ≡ None → s.to_client ≡ [] → s.to_upstream ≡ [] → of_upstream rules limit s ≡ Halts halt → ⊥
unfolding outcome_of
no_halt rules limit max_calls s halt none due other e =
    let a : is_none s.to_client ≡ true = ap is_none due in
    let b : is_none s.to_upstream ≡ true = ap is_none other in
    let both = by_both limit s (of_upstream rules limit s) (of_client rules limit max_calls s) in
    let some : (if is_none s.to_client && is_none s.to_upstream then both else None) ≡ Some (by_upstream halt s) =
    ap (λ t. if t && is_none s.to_upstream then both else None) a ∙ (ap (λ t. if t then both else None) b ∙ ap (λ m. by_both limit s m (of_client rules limit max_calls s)) e) in
    let clash : None ≡ Some (by_upstream halt s) = sym none ∙ some in
    cc

none_inside : (s : Standing) (o : Option Outcome) → None ≡ with_port s o → o ≡ None
none_inside s None e = refl
none_inside s (Some o) e = absurd (cc)

taken_by : (v : ClientJudged) (s : session.Standing) (output answer rest : List ℕ) → ((halt : Halt) → v ≡ client.Halts halt → ⊥) → ((cause : Cause) → v ≡ client.Refused cause → s.calls ≡ []) → s.to_client ≡ [] → (t : session.Standing) × (by_judged v s output answer rest ≡ Takes t)
taken_by (client.Halts halt) s output answer rest quiet turn due = absurd (quiet halt refl)
taken_by (client.Opens call) s output answer rest quiet turn due = (_, refl)
taken_by client.Goes s output answer rest quiet turn due = (_, refl)
taken_by (client.Refused cause) s output answer rest quiet turn due =
    let took = Takes (record s { client = rest; to_client = framed answer; taken = told (s.taken + 1) }) in (
      record s { client = rest; to_client = framed answer; taken = told (s.taken + 1) },
      ap (λ t. if t && is_none s.to_client then took else Waits) (ap is_none (turn cause refl)) ∙ ap (λ t. if t then took else Waits) (ap is_none due),
    )
taken_by (client.Dropped cause) s output answer rest quiet turn due = (_, refl)

no_call_left : (rules : RouteRules) (limit max_calls : ℕ) (s : Standing) (x rest : List ℕ) → IsAtRest rules limit max_calls s None → s.to_client ≡ [] → s.to_upstream ≡ [] → length s.calls < max_calls → front limit s.client.held ≡ Whole x rest → ((halt : Halt) → rules.judging.judged x ≡ client.Halts halt → ⊥) → ((cause : Cause) → rules.judging.judged x ≡ client.Refused cause → s.calls ≡ []) → ⊥
no_call_left rules limit max_calls s x rest at due other few whole quiet turn =
    let j = rules.judging in
    let inner : session.Standing = as_session s in
    let none = none_inside s (outcome_of j limit max_calls inner) at.outcome_is in
    let took = taken_by (j.judged x) inner (j.output x) (j.answer x) rest quiet (λ cause e. ap (map call_of) (turn cause e)) due in
    at.still took.0 (ByClient (λ halt e. no_halt j limit max_calls inner halt none due other e)
    (judges j limit max_calls inner x rest (j.judged x) other (omega (arith, opens_count s.calls, few)) whole refl ∙ took.1))

-- ---- the greatest stand

none_of : {X : Type 0} (xs : List X) → length xs ≤ 0 → xs ≡ []
none_of [] h = refl
none_of (x ∷ xs) h = absurd (omega (arith, h))

-- what stands at a place stands first behind those before it
dropped_at : {X : Type 0} (xs : List X) (k : ℕ) (x : X) → slice_get xs k ≡ Some x → (rest : List X) × (drop k xs ≡ x ∷ rest)
dropped_at [] k x e = absurd (cc)
dropped_at (y ∷ xs) zero x e = let same : y ≡ x = cc in (xs, ap (λ z. z ∷ xs) same)
dropped_at (y ∷ xs) (suc k) x e = dropped_at xs k x e

open_count : (rules : RouteRules) (limit max_calls : ℕ) (h : History) (s : Standing) (f : Fits rules limit max_calls h s) → length s.calls + length f.ys ≡ length (calls_of rules f.xs)
open_count rules limit max_calls h s f = omega (arith, ap length f.calls, length-drop (length f.ys) (calls_of rules f.xs), f.lawful.paired, calls_count rules f.xs)

-- the calls of fewer frames, at a place that they have
asked_at : (rules : RouteRules) (xs zs more : List (List ℕ)) (k : ℕ) → zs ≡ xs ++ more → k < length (calls_of rules xs) → slice_get (calls_of rules zs) k ≡ slice_get (calls_of rules xs) k
asked_at rules xs zs more k d inside =
    ap (λ t. slice_get (calls_of rules t) k) d ∙ (ap (λ t. slice_get t k) (calls_further rules xs more) ∙ get_front (calls_of rules xs) (calls_of rules more) k inside)

-- an answer is left where the other stand has one more to the oldest open call
more_answers : (rules : RouteRules) (limit max_calls : ℕ) (h : History) (s : Standing) (f : Fits rules limit max_calls h s) (zs ws : List (List ℕ)) (call : OpenCall) (y : List ℕ) (more : List (List ℕ)) (rest : List ℕ) → IsStill rules.judging limit max_calls s → s.to_client ≡ [] → IsLawful rules.judging max_calls zs ws → ws ≡ f.ys ++ y ∷ more → front limit (inbox_of (suc call.target) s).held ≡ Whole y rest → slice_get (calls_of rules f.xs) (length f.ys) ≡ Some call → slice_get (calls_of rules zs) (length f.ys) ≡ Some call → ⊥
more_answers rules limit max_calls h s f zs ws call y more rest still due other e whole mine theirs =
    let first = dropped_at (calls_of rules f.xs) (length f.ys) call mine in
    let at : slice_get (session_stands.calls_of rules.judging zs) (length f.ys) ≡ Some call.call = ap (λ t. slice_get t (length f.ys)) (sym (calls_are rules zs)) ∙ called (calls_of rules zs) (length f.ys) call theirs in
    no_answer_left rules.judging limit max_calls s call first.0 y rest still (f.calls ∙ first.1) due whole
    (λ halt j. other.replies f.ys more y call.call halt e at j)

-- a call is left where the other stand has one more
more_calls : (rules : RouteRules) (limit max_calls : ℕ) (s : Standing) (xs zs ws : List (List ℕ)) (x : List ℕ) (more : List (List ℕ)) (rest : List ℕ) → IsAtRest rules limit max_calls s None → s.to_client ≡ [] → s.to_upstream ≡ [] → IsLawful rules.judging max_calls zs ws → zs ≡ xs ++ x ∷ more → front limit s.client.held ≡ Whole x rest → length s.calls < max_calls → ((cause : Cause) → rules.judging.judged x ≡ client.Refused cause → s.calls ≡ []) → ⊥
more_calls rules limit max_calls s xs zs ws x more rest at due other lawful e whole few turn =
    no_call_left rules limit max_calls s x rest at due other few whole (λ halt j. lawful.passes xs more x halt e j) turn

abbrev NoGreater : (xs ys zs ws : List (List ℕ)) → Type 0
NoGreater xs ys zs ws = (length zs ≤ length xs) × (length ws ≤ length ys)

-- the other stand has no more frames of the client
by_answers : (rules : RouteRules) (limit max_calls : ℕ) (h : History) (s : Standing) (f : Fits rules limit max_calls h s) (zs ws p : List (List ℕ)) → IsAtRest rules limit max_calls s None → s.to_client ≡ [] → IsLawful rules.judging max_calls zs ws → f.xs ≡ zs ++ p → Ordered limit (calls_of rules f.xs) f.ys ws (λ u. (inbox_of (suc u) s).held) → NoGreater f.xs f.ys zs ws
by_answers rules limit max_calls h s f zs ws p at due lawful d (inl (q, e)) =
    (omega (arith, ap length d, length-append zs p), omega (arith, ap length e, length-append ws q))
by_answers rules limit max_calls h s f zs ws p at due lawful d (inr (y, late, behind, call, e, there, w)) =
    let inside : length f.ys < length (calls_of rules zs) = omega (arith, lawful.paired, calls_count rules zs, ap length e, length-append f.ys (y ∷ late)) in
    absurd (more_answers rules limit max_calls h s f zs ws call y late behind at.still due lawful e w there
    (sym (asked_at rules zs f.xs p (length f.ys) d inside) ∙ there))

-- it has one more
by_calls : (rules : RouteRules) (limit max_calls : ℕ) (h : History) (s : Standing) (f : Fits rules limit max_calls h s) (zs ws : List (List ℕ)) (x : List ℕ) (more : List (List ℕ)) (rest : List ℕ) (calls : List OpenCall) → 0 < max_calls → IsAtRest rules limit max_calls s None → s.to_client ≡ [] → s.to_upstream ≡ [] → IsLawful rules.judging max_calls zs ws → zs ≡ f.xs ++ x ∷ more → front limit s.client.held ≡ Whole x rest → s.calls ≡ calls → Ordered limit (calls_of rules zs) f.ys ws (λ u. (inbox_of (suc u) s).held) → ⊥
by_calls rules limit max_calls h s f zs ws x more rest calls some at due other lawful d w c (inl (q, e)) =
    let few : length s.calls < max_calls = omega (arith, open_count rules limit max_calls h s f, calls_count rules f.xs, lawful.few f.xs more x d, ap length e, length-append ws q) in
    more_calls rules limit max_calls s f.xs zs ws x more rest at due other lawful d w few
    (λ cause j. none_of s.calls (omega (arith, open_count rules limit max_calls h s f, calls_count rules f.xs, lawful.in_turn f.xs more x cause d j, ap length e, length-append ws q)))
by_calls rules limit max_calls h s f zs ws x more rest [] some at due other lawful d w c (inr (y, late, behind, call, e, there, v)) =
    more_calls rules limit max_calls s f.xs zs ws x more rest at due other lawful d w (omega (arith, ap length c, some)) (λ cause j. c)
by_calls rules limit max_calls h s f zs ws x more rest (k ∷ calls) some at due other lawful d w c (inr (y, late, behind, call, e, there, v)) =
    let inside : length f.ys < length (calls_of rules f.xs) = omega (arith, open_count rules limit max_calls h s f, ap length c) in
    more_answers rules limit max_calls h s f zs ws call y late behind at.still due lawful e v
    (sym (asked_at rules f.xs zs (x ∷ more) (length f.ys) d inside) ∙ there) there

-- the answers of a stand's targets, where more calls were opened
abbrev AreTaken : ℕ → List OpenCall → List (List ℕ) → (ℕ → List ℕ) → (ℕ → List ℕ) → Type 0
AreTaken limit calls ys received rest = (u : ℕ) → IsTaken limit (received (suc u)) (answers_of u calls ys) (rest (suc u))

taken_longer : (rules : RouteRules) (limit : ℕ) (xs ys zs more : List (List ℕ)) (received rest : ℕ → List ℕ) → zs ≡ xs ++ more → length ys ≤ length (calls_of rules xs) → AreTaken limit (calls_of rules xs) ys received rest → AreTaken limit (calls_of rules zs) ys received rest
taken_longer rules limit xs ys zs more received rest d few taken u =
    let longer : calls_of rules zs ≡ calls_of rules xs ++ calls_of rules more = ap (calls_of rules) d ∙ calls_further rules xs more in
    subst (λ frames. IsTaken limit (received (suc u)) frames (rest (suc u))) (sym (ap (λ cs. answers_of u cs ys) longer ∙ answers_kept u (calls_of rules xs) (calls_of rules more) ys few)) (taken u)

longer_count : (rules : RouteRules) (xs zs more : List (List ℕ)) → zs ≡ xs ++ more → length (calls_of rules xs) ≤ length (calls_of rules zs)
longer_count rules xs zs more d = omega (arith, ap (λ t. length (calls_of rules t)) d, ap length (calls_further rules xs more), length-append (calls_of rules xs) (calls_of rules more))

-- the answers of two stands over the same bytes, by the calls of the one that has more frames of the client
in_order : StandsAtFront → (rules : RouteRules) (limit : ℕ) (calls : List OpenCall) (ys ws : List (List ℕ)) (received rest other : ℕ → List ℕ) → limit < 2 ^ 31 → AreTaken limit calls ys received rest → AreTaken limit calls ws received other → length ys ≤ length calls → length ws ≤ length calls → Ordered limit calls ys ws (λ u. rest (suc u))
in_order law rules limit calls ys ws received rest other small a b m n =
    ordered limit calls ws ys (λ u. received (suc u)) (λ u. other (suc u)) (λ u. rest (suc u)) law small b a n m

no_greater : StandsAtFront → (rules : RouteRules) (limit max_calls : ℕ) (h : History) (s : Standing) (f : Fits rules limit max_calls h s) (o : Stand rules limit max_calls h.received) → limit < 2 ^ 31 → 0 < max_calls → IsAtRest rules limit max_calls s None → s.to_client ≡ [] → s.to_upstream ≡ [] → Compared limit f.xs o.xs s.client.held → NoGreater f.xs f.ys o.xs o.ys
no_greater law rules limit max_calls h s f o small some at due other (inl (p, d)) =
    let mine : length f.ys ≤ length (calls_of rules f.xs) = omega (arith, f.lawful.paired, calls_count rules f.xs) in
    let theirs : length o.ys ≤ length (calls_of rules o.xs) = omega (arith, o.lawful.paired, calls_count rules o.xs) in
    by_answers rules limit max_calls h s f o.xs o.ys p at due o.lawful d
    (in_order law rules limit (calls_of rules f.xs) f.ys o.ys h.received (λ port. (inbox_of port s).held) o.rest small
    (λ u. f.came (suc u)) (taken_longer rules limit o.xs o.ys f.xs p h.received o.rest d theirs (λ u. o.came (suc u)))
    mine (omega (arith, theirs, longer_count rules o.xs f.xs p d)))
no_greater law rules limit max_calls h s f o small some at due other (inr (x, more, behind, d, w)) =
    let mine : length f.ys ≤ length (calls_of rules f.xs) = omega (arith, f.lawful.paired, calls_count rules f.xs) in
    let theirs : length o.ys ≤ length (calls_of rules o.xs) = omega (arith, o.lawful.paired, calls_count rules o.xs) in
    absurd (by_calls rules limit max_calls h s f o.xs o.ys x more behind s.calls some at due other o.lawful d w refl
    (in_order law rules limit (calls_of rules o.xs) f.ys o.ys h.received (λ port. (inbox_of port s).held) o.rest small
    (taken_longer rules limit f.xs f.ys o.xs (x ∷ more) h.received (λ port. (inbox_of port s).held) d mine (λ u. f.came (suc u))) (λ u. o.came (suc u))
    (omega (arith, mine, longer_count rules f.xs o.xs (x ∷ more) d)) theirs))

-- ---- all that is due was sent

all_sent : (sent due whole : List ℕ) → due ≡ [] → sent ++ due ≡ whole → sent ≡ whole
all_sent sent due whole e h = sym (append-nil sent) ∙ (ap (λ b. sent ++ b) (sym e) ∙ h)

none_due : (port : ℕ) (s : Standing) → s.to_client ≡ [] → s.to_upstream ≡ [] → due_to port s ≡ []
none_due zero s a b = a
none_due (suc u) s a b = by (s.toward == u)
  where
    by : (t : Bool) → (if t then s.to_upstream else []) ≡ []
    by true = b
    by false = refl

pub all_due : StandsAtFront → (rules : RouteRules) (limit max_calls : ℕ) (h : History) (s : Standing) → limit < 2 ^ 31 → 0 < max_calls → Fits rules limit max_calls h s → IsAtRest rules limit max_calls s None → s.to_client ≡ [] → s.to_upstream ≡ [] → AreDue rules limit max_calls h.received h.sent
all_due law rules limit max_calls h s small some f at due other = record {
  at = record { xs = f.xs; ys = f.ys; rest = λ port. (inbox_of port s).held; lawful = f.lawful; came = f.came };
  greatest = λ o. no_greater law rules limit max_calls h s f o small some at due other (compared limit (h.received zero) f.xs o.xs s.client.held (o.rest zero) law small (f.came zero) (o.came zero));
  whole = λ port. all_sent (h.sent port) (due_to port s) (written_to rules f.xs f.ys port) (none_due port s due other) (f.went port);
}

-- ---- one greatest stand

same_frames : (limit : ℕ) (xs zs : List (List ℕ)) (rest : List ℕ) → length xs ≤ length zs → length zs ≤ length xs → Compared limit xs zs rest → xs ≡ zs
same_frames limit xs zs rest a b (inl ([], e)) = e ∙ append-nil zs
same_frames limit xs zs rest a b (inl (m ∷ more, e)) = absurd (omega (arith, ap length e, length-append zs (m ∷ more)))
same_frames limit xs zs rest a b (inr (x, more, behind, e, w)) = absurd (omega (arith, ap length e, length-append xs (x ∷ more)))

same_answers : (limit : ℕ) (calls : List OpenCall) (ys ws : List (List ℕ)) (rest : ℕ → List ℕ) → length ys ≤ length ws → length ws ≤ length ys → Ordered limit calls ys ws rest → ys ≡ ws
same_answers limit calls ys ws rest a b (inl ([], e)) = e ∙ append-nil ws
same_answers limit calls ys ws rest a b (inl (m ∷ more, e)) = absurd (omega (arith, ap length e, length-append ws (m ∷ more)))
same_answers limit calls ys ws rest a b (inr (y, late, behind, call, e, at, w)) = absurd (omega (arith, ap length e, length-append ys (y ∷ late)))

pub one_due : StandsAtFront → (rules : RouteRules) (limit max_calls port : ℕ) (received a b : ℕ → List ℕ) → limit < 2 ^ 31 → AreDue rules limit max_calls received a → AreDue rules limit max_calls received b → a port ≡ b port
one_due law rules limit max_calls port received a b small p q =
    let more = p.greatest q.at in
    let less = q.greatest p.at in
    let xs : p.at.xs ≡ q.at.xs = same_frames limit p.at.xs q.at.xs (p.at.rest zero) less.0 more.0 (compared limit (received zero) p.at.xs q.at.xs (p.at.rest zero) (q.at.rest zero) law small (p.at.came zero) (q.at.came zero)) in
    let mine : length p.at.ys ≤ length (calls_of rules p.at.xs) = omega (arith, p.at.lawful.paired, calls_count rules p.at.xs) in
    let theirs : length q.at.ys ≤ length (calls_of rules p.at.xs) = omega (arith, q.at.lawful.paired, calls_count rules q.at.xs, ap (λ t. length (calls_of rules t)) xs) in
    let came : AreTaken limit (calls_of rules p.at.xs) q.at.ys received q.at.rest = subst (λ t. AreTaken limit (calls_of rules t) q.at.ys received q.at.rest) (sym xs) (λ u. q.at.came (suc u)) in
    let ys : p.at.ys ≡ q.at.ys = same_answers limit (calls_of rules p.at.xs) p.at.ys q.at.ys (λ u. p.at.rest (suc u)) less.1 more.1
    (in_order law rules limit (calls_of rules p.at.xs) p.at.ys q.at.ys received p.at.rest q.at.rest small (λ u. p.at.came (suc u)) came mine theirs) in
    p.whole port ∙ (ap (λ t. written_to rules t p.at.ys port) xs ∙ (ap (λ t. written_to rules q.at.xs t port) ys ∙ sym (q.whole port)))
