-- A router that fits goes on to fit.
use Rattle.std.proofs.Common.{◌≡◌, ◌⊎◌, inl, inr, ℕ, zero, suc, ◌+◌, ◌-◌, ◌==◌, ◌<◌, List, [], ◌∷◌, ◌++◌, length, length-append, drop, map, arith, refl, sym, ◌∙◌, ap, subst, Bool, true, false, if◌then◌else◌}
use Rattle.std.specs.Prelude.{slice_set, get_or}
use Rattle.std.proofs.lemmas.List.{append-nil, drop-append-le, drop-drop, length-drop}
use Rattle.framed_transport.specs.Frames.{framed, IsCut}
use Rattle.session_core.specs.Stands as session
use Rattle.session_core.specs.Stands.{opened, sent_on, back, IsLawful, IsTaken}
use Rattle.session_core.specs.Fits.{told}
use Rattle.session_core.specs.declared.outcome.Halt.{Halt}
use Rattle.translate_verdicts.specs.declared.verdict.Cause.{Cause}
use Rattle.session_core.specs.declared.judge.ClientJudged.{ClientJudged}
use Rattle.session_core.specs.declared.judge.ClientJudged.TheVariants as client
use Rattle.session_core.proofs.Fitting.{lawful_client, lawful_upstream, taken_more}
use Rattle.session_core.proofs.Walks.{back_more, back_answered, back_replied}
use Rattle.service_router.specs.declared.call.OpenCall.{OpenCall}
use Rattle.service_router.specs.Rules.{RouteRules}
use Rattle.service_router.specs.Standing.{Standing, History, Inbox, inbox_of, silent, due_to}
use Rattle.session_core.specs.Notes.{Note, call_notes}
use Rattle.service_router.specs.Fits.{Fits, led, calls_of, answers_of, frames_of, written_to}
use Rattle.service_router.specs.Telling.{Asked, Answered, FitsTold}
use Rattle.service_router.specs.Steps.{call_of}
use Rattle.service_router.specs.Working.{Answers, Asks, TakesBy, asked_once}
use Rattle.service_router.proofs.Ports.{same_port, set_at, port_turned}
use Rattle.service_router.proofs.Telling.{asked_more, asked_still, answered_more, answered_still, asked_notes, answered_notes, calls_asked, calls_answered}
use Rattle.service_router.proofs.Walks.{calls_count, calls_more, onward_more, sent_by, answers_kept, answers_more, dropped_calls}

dropped_more : {X : Type 0} (xs : List X) (n m : ℕ) (x : X) (rest : List X) → drop n xs ≡ x ∷ rest → m ≡ n + 1 → drop m xs ≡ rest
dropped_more xs n m x rest e k = ap (λ i. drop i xs) k ∙ (sym (drop-drop 1 n xs) ∙ ap (drop 1) e)

-- ---- a frame of the client

-- the router behind a frame of the client: what comes of it at each port
record ClientTook (rules : RouteRules) (frame rest : List ℕ) (h : History) (xs ys : List (List ℕ)) (s t : Standing) : Type 0 where
  held : t.client ≡ asked_once s.client rest
  upstreams : t.upstreams ≡ s.upstreams
  to_client : h.sent zero ++ t.to_client ≡ back rules.judging (xs ++ frame ∷ []) ys
  to_upstream : (u : ℕ) → due_to (suc u) t ≡ sent_by rules u frame
  calls : t.calls ≡ s.calls ++ map (led (rules.target frame)) (opened (rules.judging.judged frame))

open_count : (rules : RouteRules) (limit max_calls : ℕ) (h : History) (s : Standing) (f : Fits rules limit max_calls h s) → length s.calls ≡ length (session.calls_of rules.judging f.xs) - length f.ys
open_count rules limit max_calls h s f = ap length f.calls ∙ (length-drop (length f.ys) (calls_of rules f.xs) ∙ ap (λ n. n - length f.ys) (calls_count rules f.xs))

none_due : (u : ℕ) (s : Standing) → s.to_upstream ≡ [] → due_to (suc u) s ≡ []
none_due u s none = by (s.toward == u)
  where
    by : (b : Bool) → (if b then s.to_upstream else []) ≡ []
    by true = none
    by false = refl

client_on : (rules : RouteRules) (limit max_calls : ℕ) (h : History) (past added : List Note) (s t : Standing) (frame rest : List ℕ) (w : FitsTold rules limit max_calls h past s) → IsCut limit s.client.held frame rest → ((halt : Halt) → rules.judging.judged frame ≡ client.Halts halt → ⊥) → length s.calls < max_calls → ((cause : Cause) → rules.judging.judged frame ≡ client.Refused cause → s.calls ≡ []) → s.to_upstream ≡ [] → added ≡ call_notes (rules.judging.judged frame) (told (s.client.taken + 1)) frame → ClientTook rules frame rest h w.fits.xs w.fits.ys s t → FitsTold rules limit max_calls h (past ++ added) t
client_on rules limit max_calls h past added s t frame rest w cut passes few turn none noted took =
    let f = w.fits in
    let count = open_count rules limit max_calls h s f in
    let paired = f.lawful.paired in
    let kept : (u : ℕ) → answers_of u (calls_of rules (f.xs ++ frame ∷ [])) f.ys ≡ answers_of u (calls_of rules f.xs) f.ys = λ u.
    ap (λ cs. answers_of u cs f.ys) (calls_more rules f.xs frame) ∙ answers_kept u (calls_of rules f.xs) (map (led (rules.target frame)) (opened (rules.judging.judged frame))) f.ys (omega (arith, paired, calls_count rules f.xs)) in
    record {
      fits = record {
        xs = f.xs ++ frame ∷ [];
        ys = f.ys;
        lawful = lawful_client rules.judging max_calls f.xs f.ys frame f.lawful passes (omega (arith, count, few, paired)) (λ cause j. omega (arith, count, ap length (turn cause j), paired));
        came = came_by kept;
        went = went_by;
        calls = took.calls ∙ (ap (λ cs. cs ++ map (led (rules.target frame)) (opened (rules.judging.judged frame))) f.calls
            ∙ (sym (drop-append-le (length f.ys) (calls_of rules f.xs) (map (led (rules.target frame)) (opened (rules.judging.judged frame))) (omega (arith, paired, calls_count rules f.xs)))
            ∙ ap (drop (length f.ys)) (sym (calls_more rules f.xs frame))));
        counted = counted_by kept;
        ended = ended_by;
      };
      course = w.course ++ Asked frame ∷ [];
      asked = asked_more w.course frame ∙ ap (λ xs. xs ++ frame ∷ []) w.asked;
      answered = answered_still w.course frame ∙ w.answered;
      calls = calls_asked rules limit max_calls h past s w frame (f.xs ++ frame ∷ []) (map (led (rules.target frame)) (opened (rules.judging.judged frame))) (calls_more rules f.xs frame);
      notes_are = asked_notes rules limit max_calls h past s w frame added noted;
    }
  where
    same_inbox : (u : ℕ) → inbox_of (suc u) t ≡ inbox_of (suc u) s
    same_inbox u = ap (λ (us : List Inbox). get_or us u (silent 0)) took.upstreams

    came_by : ((u : ℕ) → answers_of u (calls_of rules (w.fits.xs ++ frame ∷ [])) w.fits.ys ≡ answers_of u (calls_of rules w.fits.xs) w.fits.ys) → (port : ℕ) → IsTaken limit (h.received port) (frames_of rules (w.fits.xs ++ frame ∷ []) w.fits.ys port) (inbox_of port t).held
    came_by kept zero = subst (λ (i : Inbox). IsTaken limit (h.received zero) (w.fits.xs ++ frame ∷ []) i.held) (sym took.held) (taken_more limit (h.received zero) w.fits.xs s.client.held frame rest (w.fits.came zero) cut)
    came_by kept (suc u) =
        subst (λ (i : Inbox). IsTaken limit (h.received (suc u)) (answers_of u (calls_of rules (w.fits.xs ++ frame ∷ [])) w.fits.ys) i.held) (sym (same_inbox u))
        (subst (λ zs. IsTaken limit (h.received (suc u)) zs (inbox_of (suc u) s).held) (sym (kept u)) (w.fits.came (suc u)))

    went_by : (port : ℕ) → h.sent port ++ due_to port t ≡ written_to rules (w.fits.xs ++ frame ∷ []) w.fits.ys port
    went_by zero = took.to_client
    went_by (suc u) =
        ap (λ (b : List ℕ). h.sent (suc u) ++ b) (took.to_upstream u)
        ∙ (ap (λ (b : List ℕ). b ++ sent_by rules u frame) (sym (append-nil (h.sent (suc u))) ∙ (ap (λ (b : List ℕ). h.sent (suc u) ++ b) (sym (none_due u s none)) ∙ w.fits.went (suc u)))
        ∙ sym (onward_more rules u w.fits.xs frame))

    counted_by : ((u : ℕ) → answers_of u (calls_of rules (w.fits.xs ++ frame ∷ [])) w.fits.ys ≡ answers_of u (calls_of rules w.fits.xs) w.fits.ys) → (port : ℕ) → (inbox_of port t).taken ≡ told (length (frames_of rules (w.fits.xs ++ frame ∷ []) w.fits.ys port))
    counted_by kept zero = omega (arith, ap (λ (i : Inbox). i.taken) took.held, w.fits.counted zero, length-append w.fits.xs (frame ∷ []))
    counted_by kept (suc u) = ap (λ (i : Inbox). i.taken) (same_inbox u) ∙ (w.fits.counted (suc u) ∙ ap (λ zs. told (length zs)) (sym (kept u)))

    ended_by : (port : ℕ) → (inbox_of port t).ended ≡ h.ended port
    ended_by zero = ap (λ (i : Inbox). i.ended) took.held ∙ w.fits.ended zero
    ended_by (suc u) = ap (λ (i : Inbox). i.ended) (same_inbox u) ∙ w.fits.ended (suc u)

-- nothing goes on
nothing_sent : (rules : RouteRules) (u : ℕ) (frame : List ℕ) (v : ClientJudged) → rules.judging.judged frame ≡ v → sent_on v (rules.judging.output frame) ≡ [] → [] ≡ sent_by rules u frame
nothing_sent rules u frame v j none = by (rules.target frame == u)
  where
    by : (b : Bool) → [] ≡ (if b then sent_on (rules.judging.judged frame) (rules.judging.output frame) else [])
    by true = sym (ap (λ w. sent_on w (rules.judging.output frame)) j ∙ none)
    by false = refl

-- or this, to the target
all_sent : (rules : RouteRules) (u : ℕ) (frame : List ℕ) (v : ClientJudged) → rules.judging.judged frame ≡ v → sent_on v (rules.judging.output frame) ≡ framed (rules.judging.output frame) → (if rules.target frame == u then framed (rules.judging.output frame) else []) ≡ sent_by rules u frame
all_sent rules u frame v j is = ap (λ (b : List ℕ). if rules.target frame == u then b else []) (sym (ap (λ w. sent_on w (rules.judging.output frame)) j ∙ is))

quiet_back : (rules : RouteRules) (limit max_calls : ℕ) (h : History) (s : Standing) (frame : List ℕ) (f : Fits rules limit max_calls h s) → ((cause : Cause) → rules.judging.judged frame ≡ client.Refused cause → ⊥) → h.sent zero ++ s.to_client ≡ back rules.judging (f.xs ++ frame ∷ []) f.ys
quiet_back rules limit max_calls h s frame f quiet = f.went zero ∙ sym (back_more rules.judging f.xs f.ys frame quiet f.lawful.paired)

no_more : (rules : RouteRules) (frame : List ℕ) (calls : List OpenCall) (v : ClientJudged) → rules.judging.judged frame ≡ v → opened v ≡ [] → calls ≡ calls ++ map (led (rules.target frame)) (opened (rules.judging.judged frame))
no_more rules frame calls v j none = sym (append-nil calls) ∙ ap (λ cs. calls ++ map (led (rules.target frame)) cs) (sym (ap opened j ∙ none))

asks_by : (rules : RouteRules) (limit max_calls : ℕ) (h : History) (past added : List Note) (s t : Standing) (frame rest : List ℕ) (v : ClientJudged) (w : FitsTold rules limit max_calls h past s) → IsCut limit s.client.held frame rest → length s.calls < max_calls → s.to_upstream ≡ [] → rules.judging.judged frame ≡ v → TakesBy v (rules.target frame) (rules.judging.output frame) (rules.judging.answer frame) rest s t → added ≡ call_notes (rules.judging.judged frame) (told (s.client.taken + 1)) frame → FitsTold rules limit max_calls h (past ++ added) t
asks_by rules limit max_calls h past added s t frame rest (client.Halts halt) w cut few none j m noted = absurd m
asks_by rules limit max_calls h past added s t frame rest (client.Opens call) w cut few none j m noted =
    subst (λ (x : Standing). FitsTold rules limit max_calls h (past ++ added) x) (sym m)
    (client_on rules limit max_calls h past added s _ frame rest w cut (λ k i. cc) few (λ k i. absurd (cc)) none noted
    (record {
      held = refl;
      upstreams = refl;
      to_client = quiet_back rules limit max_calls h s frame w.fits (λ k i. cc);
      to_upstream = λ u. all_sent rules u frame (client.Opens call) j refl;
      calls = ap (λ cs. s.calls ++ map (led (rules.target frame)) cs) (sym (ap opened j));
    }))
asks_by rules limit max_calls h past added s t frame rest client.Goes w cut few none j m noted =
    subst (λ (x : Standing). FitsTold rules limit max_calls h (past ++ added) x) (sym m)
    (client_on rules limit max_calls h past added s _ frame rest w cut (λ k i. cc) few (λ k i. absurd (cc)) none noted
    (record {
      held = refl;
      upstreams = refl;
      to_client = quiet_back rules limit max_calls h s frame w.fits (λ k i. cc);
      to_upstream = λ u. all_sent rules u frame client.Goes j refl;
      calls = no_more rules frame s.calls client.Goes j refl;
    }))
asks_by rules limit max_calls h past added s t frame rest (client.Refused cause) w cut few none j m noted =
    let f = w.fits in
    let count = open_count rules limit max_calls h s f in
    let all : length f.ys ≡ length (session.calls_of rules.judging f.xs) = omega (arith, count, ap length m.0, f.lawful.paired) in
    let sent : h.sent zero ≡ back rules.judging f.xs f.ys = sym (append-nil (h.sent zero)) ∙ (ap (λ (b : List ℕ). h.sent zero ++ b) (sym m.1) ∙ f.went zero) in
    subst (λ (x : Standing). FitsTold rules limit max_calls h (past ++ added) x) (sym m.2)
    (client_on rules limit max_calls h past added s _ frame rest w cut (λ k i. cc) few (λ k i. m.0) none noted
    (record {
      held = refl;
      upstreams = refl;
      to_client = ap (λ (b : List ℕ). b ++ framed (rules.judging.answer frame)) sent ∙ sym (back_answered rules.judging f.xs f.ys frame cause j all);
      to_upstream = λ u. none_due u s none ∙ nothing_sent rules u frame (client.Refused cause) j refl;
      calls = no_more rules frame s.calls (client.Refused cause) j refl;
    }))
asks_by rules limit max_calls h past added s t frame rest (client.Dropped cause) w cut few none j m noted =
    subst (λ (x : Standing). FitsTold rules limit max_calls h (past ++ added) x) (sym m)
    (client_on rules limit max_calls h past added s _ frame rest w cut (λ k i. cc) few (λ k i. absurd (cc)) none noted
    (record {
      held = refl;
      upstreams = refl;
      to_client = quiet_back rules limit max_calls h s frame w.fits (λ k i. cc);
      to_upstream = λ u. none_due u s none ∙ nothing_sent rules u frame (client.Dropped cause) j refl;
      calls = no_more rules frame s.calls (client.Dropped cause) j refl;
    }))

-- ---- a frame of a target

answers_on : (rules : RouteRules) (limit max_calls : ℕ) (h : History) (past added : List Note) (s t : Standing) → Answers rules.judging limit s t added → FitsTold rules limit max_calls h past s → FitsTold rules limit max_calls h (past ++ added) t
answers_on rules limit max_calls h past added s t a w =
    let f = w.fits in
    let open_is : drop (length f.ys) (calls_of rules f.xs) ≡ a.call ∷ a.calls = sym f.calls ∙ a.opened in
    let judged_open : drop (length f.ys) (session.calls_of rules.judging f.xs) ≡ a.call.call ∷ map call_of a.calls = dropped_calls rules f.xs (length f.ys) a.call a.calls open_is in
    let left : drop (length (f.ys ++ a.frame ∷ [])) (calls_of rules f.xs) ≡ a.calls = dropped_more (calls_of rules f.xs) (length f.ys) (length (f.ys ++ a.frame ∷ [])) a.call a.calls open_is (length-append f.ys (a.frame ∷ [])) in
    subst (λ (x : Standing). FitsTold rules limit max_calls h (past ++ added) x) (sym a.after)
    (record {
      fits = record {
        xs = f.xs;
        ys = f.ys ++ a.frame ∷ [];
        lawful = lawful_upstream rules.judging max_calls f.xs f.ys a.frame a.call.call (map call_of a.calls) a.refused f.lawful judged_open a.answers;
        came = came_by open_is;
        went = went_by judged_open;
        calls = sym left;
        counted = counted_by open_is;
        ended = ended_by;
      };
      course = w.course ++ Answered a.call a.frame ∷ [];
      asked = asked_still w.course a.call a.frame ∙ w.asked;
      answered = answered_more w.course a.call a.frame ∙ ap (λ ys. ys ++ a.frame ∷ []) w.answered;
      calls = calls_answered rules limit max_calls h past s w a.call a.frame a.calls open_is;
      notes_are = answered_notes rules limit max_calls h past s w a.call a.frame added a.noted;
    })
  where
    inbox : Inbox
    inbox = inbox_of (suc a.call.target) s

    after : Inbox
    after = record (inbox) { held = a.rest; taken = told (inbox.taken + 1) }

    there : (u : ℕ) → get_or (slice_set s.upstreams a.call.target after) u (silent 0) ≡ (if u == a.call.target then after else inbox_of (suc u) s)
    there u = set_at s.upstreams a.call.target u after (silent 0) a.known

    more : (u : ℕ) → drop (length w.fits.ys) (calls_of rules w.fits.xs) ≡ a.call ∷ a.calls → answers_of u (calls_of rules w.fits.xs) (w.fits.ys ++ a.frame ∷ []) ≡ answers_of u (calls_of rules w.fits.xs) w.fits.ys ++ (if a.call.target == u then a.frame ∷ [] else [])
    more u open_is = answers_more u (calls_of rules w.fits.xs) w.fits.ys a.frame a.call a.calls open_is

    came_by : drop (length w.fits.ys) (calls_of rules w.fits.xs) ≡ a.call ∷ a.calls → (port : ℕ) → IsTaken limit (h.received port) (frames_of rules w.fits.xs (w.fits.ys ++ a.frame ∷ []) port) (inbox_of port (record s { to_client = framed (rules.judging.reply a.call.call a.frame); calls = a.calls; upstreams = slice_set s.upstreams a.call.target after })).held
    came_by open_is zero = w.fits.came zero
    came_by open_is (suc u) =
        subst (λ (i : Inbox). IsTaken limit (h.received (suc u)) (answers_of u (calls_of rules w.fits.xs) (w.fits.ys ++ a.frame ∷ [])) i.held) (sym (there u))
        (subst (λ zs. IsTaken limit (h.received (suc u)) zs (if u == a.call.target then after else inbox_of (suc u) s).held) (sym (more u open_is))
        (at (u == a.call.target) refl))
      where
        at : (b : Bool) → (u == a.call.target) ≡ b → IsTaken limit (h.received (suc u)) (answers_of u (calls_of rules w.fits.xs) w.fits.ys ++ (if a.call.target == u then a.frame ∷ [] else [])) (if b then after else inbox_of (suc u) s).held
        at true same =
            let is = same_port u a.call.target same in
            subst (λ (b : Bool). IsTaken limit (h.received (suc u)) (answers_of u (calls_of rules w.fits.xs) w.fits.ys ++ (if b then a.frame ∷ [] else [])) a.rest) (sym (port_turned u a.call.target true same))
            (taken_more limit (h.received (suc u)) (answers_of u (calls_of rules w.fits.xs) w.fits.ys) inbox.held a.frame a.rest
            (subst (λ v. IsTaken limit (h.received (suc u)) (answers_of u (calls_of rules w.fits.xs) w.fits.ys) (inbox_of (suc v) s).held) is (w.fits.came (suc u))) a.cut)
        at false differs =
            subst (λ (b : Bool). IsTaken limit (h.received (suc u)) (answers_of u (calls_of rules w.fits.xs) w.fits.ys ++ (if b then a.frame ∷ [] else [])) (inbox_of (suc u) s).held) (sym (port_turned u a.call.target false differs))
            (subst (λ zs. IsTaken limit (h.received (suc u)) zs (inbox_of (suc u) s).held) (sym (append-nil (answers_of u (calls_of rules w.fits.xs) w.fits.ys))) (w.fits.came (suc u)))

    went_by : drop (length w.fits.ys) (session.calls_of rules.judging w.fits.xs) ≡ a.call.call ∷ map call_of a.calls → (port : ℕ) → h.sent port ++ due_to port (record s { to_client = framed (rules.judging.reply a.call.call a.frame); calls = a.calls; upstreams = slice_set s.upstreams a.call.target after }) ≡ written_to rules w.fits.xs (w.fits.ys ++ a.frame ∷ []) port
    went_by judged_open zero =
        let sent : h.sent zero ≡ back rules.judging w.fits.xs w.fits.ys = sym (append-nil (h.sent zero)) ∙ (ap (λ (b : List ℕ). h.sent zero ++ b) (sym a.none) ∙ w.fits.went zero) in
        ap (λ (b : List ℕ). b ++ framed (rules.judging.reply a.call.call a.frame)) sent ∙ sym (back_replied rules.judging w.fits.xs w.fits.ys a.frame a.call.call (map call_of a.calls) judged_open w.fits.lawful.in_turn)
    went_by judged_open (suc u) = w.fits.went (suc u)

    counted_by : drop (length w.fits.ys) (calls_of rules w.fits.xs) ≡ a.call ∷ a.calls → (port : ℕ) → (inbox_of port (record s { to_client = framed (rules.judging.reply a.call.call a.frame); calls = a.calls; upstreams = slice_set s.upstreams a.call.target after })).taken ≡ told (length (frames_of rules w.fits.xs (w.fits.ys ++ a.frame ∷ []) port))
    counted_by open_is zero = w.fits.counted zero
    counted_by open_is (suc u) =
        ap (λ (i : Inbox). i.taken) (there u) ∙ (at (u == a.call.target) refl ∙ ap (λ zs. told (length zs)) (sym (more u open_is)))
      where
        at : (b : Bool) → (u == a.call.target) ≡ b → (if b then after else inbox_of (suc u) s).taken ≡ told (length (answers_of u (calls_of rules w.fits.xs) w.fits.ys ++ (if a.call.target == u then a.frame ∷ [] else [])))
        at true same =
            let is = same_port u a.call.target same in
            let before : inbox.taken ≡ told (length (answers_of u (calls_of rules w.fits.xs) w.fits.ys)) = subst (λ v. (inbox_of (suc v) s).taken ≡ told (length (answers_of u (calls_of rules w.fits.xs) w.fits.ys))) is (w.fits.counted (suc u)) in
            let grown : told (inbox.taken + 1) ≡ told (length (answers_of u (calls_of rules w.fits.xs) w.fits.ys ++ a.frame ∷ [])) = omega (arith, before, length-append (answers_of u (calls_of rules w.fits.xs) w.fits.ys) (a.frame ∷ [])) in
            subst (λ (b : Bool). told (inbox.taken + 1) ≡ told (length (answers_of u (calls_of rules w.fits.xs) w.fits.ys ++ (if b then a.frame ∷ [] else [])))) (sym (port_turned u a.call.target true same)) grown
        at false differs =
            subst (λ (b : Bool). (inbox_of (suc u) s).taken ≡ told (length (answers_of u (calls_of rules w.fits.xs) w.fits.ys ++ (if b then a.frame ∷ [] else [])))) (sym (port_turned u a.call.target false differs))
            (w.fits.counted (suc u) ∙ ap (λ zs. told (length zs)) (sym (append-nil (answers_of u (calls_of rules w.fits.xs) w.fits.ys))))

    ended_by : (port : ℕ) → (inbox_of port (record s { to_client = framed (rules.judging.reply a.call.call a.frame); calls = a.calls; upstreams = slice_set s.upstreams a.call.target after })).ended ≡ h.ended port
    ended_by zero = w.fits.ended zero
    ended_by (suc u) = ap (λ (i : Inbox). i.ended) (there u) ∙ at (u == a.call.target) refl
      where
        at : (b : Bool) → (u == a.call.target) ≡ b → (if b then after else inbox_of (suc u) s).ended ≡ h.ended (suc u)
        at true same = subst (λ v. inbox.ended ≡ h.ended (suc v)) (sym (same_port u a.call.target same)) (w.fits.ended (suc a.call.target))
        at false differs = w.fits.ended (suc u)

-- ---- either

pub fits_on : (rules : RouteRules) (limit max_calls : ℕ) (h : History) (past added : List Note) (s t : Standing) → (Answers rules.judging limit s t added ⊎ Asks rules limit max_calls s t added) → FitsTold rules limit max_calls h past s → FitsTold rules limit max_calls h (past ++ added) t
fits_on rules limit max_calls h past added s t (inl a) w = answers_on rules limit max_calls h past added s t a w
fits_on rules limit max_calls h past added s t (inr a) w = asks_by rules limit max_calls h past added s t a.frame a.rest (rules.judging.judged a.frame) w a.cut a.few a.none refl a.takes a.noted
