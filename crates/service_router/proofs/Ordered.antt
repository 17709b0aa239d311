-- What the client was sent is a front of what all frames give.
use Rattle.std.proofs.Common.{◌≡◌, ◌⊎◌, inl, inr, ℕ, zero, suc, ◌==◌, ◌<◌, ◌≤◌, ◌^◌, List, [], ◌∷◌, ◌++◌, length, length-append, append_assoc, map, arith, refl, sym, ◌∙◌, ap, subst, Bool, true, false, if◌then◌else◌, Some, slice_get}
use Rattle.std.specs.List.{flat_map}
use Rattle.std.proofs.lemmas.List.Elements.{All-head, All-tail}
use Rattle.framed_transport.specs.Frames.{framed}
use Rattle.framed_transport.specs.Front.{Whole, front}
use Rattle.session_core.specs.Rules.{Rules}
use Rattle.session_core.specs.Stands as session
use Rattle.session_core.specs.Stands.{IsTaken, IsAllOfClient, IsFrontOf, back, back_by}
use Rattle.session_core.specs.declared.judge.ClientJudged.{ClientJudged}
use Rattle.session_core.specs.declared.judge.ClientJudged.TheVariants as client
use Rattle.session_core.proofs.Greatest.{StandsAtFront, compared}
use Rattle.session_core.proofs.Fitting.{get_front}
use Rattle.service_router.specs.declared.call.OpenCall.{OpenCall}
use Rattle.service_router.specs.Rules.{RouteRules}
use Rattle.service_router.specs.Standing.{Standing, History, inbox_of}
use Rattle.service_router.specs.Fits.{Fits, led, calls_of, answers_of}
use Rattle.service_router.specs.Steps.{call_of}
use Rattle.service_router.specs.All.{AreAllAnswers}
use Rattle.service_router.proofs.Ports.{same_port, same_again}
use Rattle.service_router.proofs.Walks.{calls_are, calls_count, answers_kept}
use Rattle.service_router.proofs.Fronts.{goes_on}

-- ---- of two lists of answers to the same calls one goes on from the other

abbrev pub Ordered : ℕ → List OpenCall → List (List ℕ) → List (List ℕ) → (ℕ → List ℕ) → Type 0
Ordered limit cs ws ys rest =
    ((more : List (List ℕ)) × (ws ≡ ys ++ more))
    ⊎ ((y : List ℕ) × (late : List (List ℕ)) × (behind : List ℕ) × (call : OpenCall) × (ys ≡ ws ++ y ∷ late) × (slice_get cs (length ws) ≡ Some call) × (front limit (rest call.target) ≡ Whole y behind))

ordered_on : (limit : ℕ) (c : OpenCall) (cs : List OpenCall) (w y : List ℕ) (ws ys : List (List ℕ)) (rest : ℕ → List ℕ) → w ≡ y → Ordered limit cs ws ys rest → Ordered limit (c ∷ cs) (w ∷ ws) (y ∷ ys) rest
ordered_on limit c cs w y ws ys rest same (inl (more, e)) = inl (more, cc)
ordered_on limit c cs w y ws ys rest same (inr (x, late, behind, call, e, at, f)) = inr (x, late, behind, call, cc, at, f)

first_frame : (limit : ℕ) (bytes x : List ℕ) (xs : List (List ℕ)) (rest : List ℕ) → StandsAtFront → limit < 2 ^ 31 → IsTaken limit bytes (x ∷ xs) rest → front limit bytes ≡ Whole x (flat_map framed xs ++ rest)
first_frame limit bytes x xs rest law small t =
    ap (front limit) (t.whole ∙ append_assoc (framed x) (flat_map framed xs) rest) ∙ law limit x (flat_map framed xs ++ rest) small (All-head (λ frame. length frame ≤ limit) x xs t.each)

-- the answers of a call's own target begin with its answer
own_answers : (c : OpenCall) (cs : List OpenCall) (y : List ℕ) (ys : List (List ℕ)) → answers_of c.target (c ∷ cs) (y ∷ ys) ≡ y ∷ answers_of c.target cs ys
own_answers c cs y ys = ap (λ (b : Bool). (if b then y ∷ [] else []) ++ answers_of c.target cs ys) (same_again c.target)

other_answers : (u : ℕ) (c : OpenCall) (cs : List OpenCall) (y : List ℕ) (ys : List (List ℕ)) → (c.target == u) ≡ false → answers_of u (c ∷ cs) (y ∷ ys) ≡ answers_of u cs ys
other_answers u c cs y ys e = ap (λ (b : Bool). (if b then y ∷ [] else []) ++ answers_of u cs ys) e

no_answers : (u : ℕ) (cs : List OpenCall) → answers_of u cs [] ≡ []
no_answers u [] = refl
no_answers u (c ∷ cs) = refl

pub ordered : (limit : ℕ) (cs : List OpenCall) (ys ws : List (List ℕ)) (bytes r q : ℕ → List ℕ) → StandsAtFront → limit < 2 ^ 31 → ((u : ℕ) → IsTaken limit (bytes u) (answers_of u cs ys) (r u)) → ((u : ℕ) → IsTaken limit (bytes u) (answers_of u cs ws) (q u)) → length ys ≤ length cs → length ws ≤ length cs → Ordered limit cs ws ys q
ordered limit cs [] ws bytes r q law small a b m n = inl (ws, refl)
ordered limit [] (y ∷ ys) ws bytes r q law small a b m n = absurd (omega (arith, m))
ordered limit (c ∷ cs) (y ∷ ys) [] bytes r q law small a b m n =
    let u = c.target in
    let mine : IsTaken limit (bytes u) (y ∷ answers_of u cs ys) (r u) = subst (λ xs. IsTaken limit (bytes u) xs (r u)) (own_answers c cs y ys) (a u) in
    inr (y, ys, flat_map framed (answers_of u cs ys) ++ r u, c, refl, refl, ap (front limit) (sym (b u).whole) ∙ first_frame limit (bytes u) y (answers_of u cs ys) (r u) law small mine)
ordered limit (c ∷ cs) (y ∷ ys) (w ∷ ws) bytes r q law small a b m n =
    let u = c.target in
    let mine : IsTaken limit (bytes u) (y ∷ answers_of u cs ys) (r u) = subst (λ xs. IsTaken limit (bytes u) xs (r u)) (own_answers c cs y ys) (a u) in
    let theirs : IsTaken limit (bytes u) (w ∷ answers_of u cs ws) (q u) = subst (λ xs. IsTaken limit (bytes u) xs (q u)) (own_answers c cs w ws) (b u) in
    let both : Whole y (flat_map framed (answers_of u cs ys) ++ r u) ≡ Whole w (flat_map framed (answers_of u cs ws) ++ q u) =
    sym (first_frame limit (bytes u) y (answers_of u cs ys) (r u) law small mine) ∙ first_frame limit (bytes u) w (answers_of u cs ws) (q u) law small theirs in
    let same : w ≡ y = cc in
    let left : flat_map framed (answers_of u cs ys) ++ r u ≡ flat_map framed (answers_of u cs ws) ++ q u = cc in
    ordered_on limit c cs w y ws ys q same
    (ordered limit cs ys ws (λ v. flat_map framed (answers_of v cs ys) ++ r v) r q law small
    (λ v. behind_mine v (c.target == v) refl)
    (λ v. behind_theirs left v (c.target == v) refl)
    (omega (arith, m)) (omega (arith, n)))
  where
    behind_mine : (v : ℕ) (t : Bool) → (c.target == v) ≡ t → IsTaken limit (flat_map framed (answers_of v cs ys) ++ r v) (answers_of v cs ys) (r v)
    behind_mine v true e =
        let is : c.target ≡ v = same_port c.target v e in
        let all : IsTaken limit (bytes v) (y ∷ answers_of v cs ys) (r v) = subst (λ k. IsTaken limit (bytes k) (y ∷ answers_of k cs ys) (r k)) is (subst (λ xs. IsTaken limit (bytes c.target) xs (r c.target)) (own_answers c cs y ys) (a c.target)) in
        record { each = All-tail (λ frame. length frame ≤ limit) y (answers_of v cs ys) all.each; whole = refl }
    behind_mine v false e =
        let all : IsTaken limit (bytes v) (answers_of v cs ys) (r v) = subst (λ xs. IsTaken limit (bytes v) xs (r v)) (other_answers v c cs y ys e) (a v) in
        record { each = all.each; whole = refl }

    behind_theirs : flat_map framed (answers_of c.target cs ys) ++ r c.target ≡ flat_map framed (answers_of c.target cs ws) ++ q c.target → (v : ℕ) (t : Bool) → (c.target == v) ≡ t → IsTaken limit (flat_map framed (answers_of v cs ys) ++ r v) (answers_of v cs ws) (q v)
    behind_theirs left v true e =
        let is : c.target ≡ v = same_port c.target v e in
        let all : IsTaken limit (bytes v) (w ∷ answers_of v cs ws) (q v) = subst (λ k. IsTaken limit (bytes k) (w ∷ answers_of k cs ws) (q k)) is (subst (λ xs. IsTaken limit (bytes c.target) xs (q c.target)) (own_answers c cs w ws) (b c.target)) in
        record {
          each = All-tail (λ frame. length frame ≤ limit) w (answers_of v cs ws) all.each;
          whole = subst (λ k. flat_map framed (answers_of k cs ys) ++ r k ≡ flat_map framed (answers_of k cs ws) ++ q k) is left;
        }
    behind_theirs left v false e =
        let mine : IsTaken limit (bytes v) (answers_of v cs ys) (r v) = subst (λ xs. IsTaken limit (bytes v) xs (r v)) (other_answers v c cs y ys e) (a v) in
        let theirs : IsTaken limit (bytes v) (answers_of v cs ws) (q v) = subst (λ xs. IsTaken limit (bytes v) xs (q v)) (other_answers v c cs w ws e) (b v) in
        record { each = theirs.each; whole = sym mine.whole ∙ theirs.whole }

-- ---- more frames, more answers

longer_by : (rules : Rules) (v : ClientJudged) (answer : List ℕ) (next : List (List ℕ) → List ℕ) (ys w : List (List ℕ)) → ((zs : List (List ℕ)) → IsFrontOf (next zs) (next (zs ++ w))) → IsFrontOf (back_by rules v answer next ys) (back_by rules v answer next (ys ++ w))
longer_by rules (client.Halts halt) answer next ys w h = h ys
longer_by rules (client.Opens call) answer next [] w h = (back_by rules (client.Opens call) answer next w, refl)
longer_by rules (client.Opens call) answer next (y ∷ ys) w h =
    let r = h ys in
    (r.0, ap (λ t. framed (rules.reply call y) ++ t) r.1 ∙ sym (append_assoc (framed (rules.reply call y)) (next ys) r.0))
longer_by rules client.Goes answer next ys w h = h ys
longer_by rules (client.Refused cause) answer next ys w h =
    let r = h ys in
    (r.0, ap (λ t. framed answer ++ t) r.1 ∙ sym (append_assoc (framed answer) (next ys) r.0))
longer_by rules (client.Dropped cause) answer next ys w h = h ys

back_longer : (rules : Rules) (xs ys w : List (List ℕ)) → IsFrontOf (back rules xs ys) (back rules xs (ys ++ w))
back_longer rules [] ys w = ([], refl)
back_longer rules (x ∷ xs) ys w = longer_by rules (rules.judged x) (rules.answer x) (λ zs. back rules xs zs) ys w (λ zs. back_longer rules xs zs w)

further_by : (rules : Rules) (v : ClientJudged) (answer : List ℕ) (next other : List (List ℕ) → List ℕ) (ys : List (List ℕ)) → ((zs : List (List ℕ)) → IsFrontOf (other zs) (next zs)) → IsFrontOf (back_by rules v answer other ys) (back_by rules v answer next ys)
further_by rules (client.Halts halt) answer next other ys h = h ys
further_by rules (client.Opens call) answer next other [] h = ([], refl)
further_by rules (client.Opens call) answer next other (y ∷ ys) h =
    let r = h ys in
    (r.0, ap (λ t. framed (rules.reply call y) ++ t) r.1 ∙ sym (append_assoc (framed (rules.reply call y)) (other ys) r.0))
further_by rules client.Goes answer next other ys h = h ys
further_by rules (client.Refused cause) answer next other ys h =
    let r = h ys in
    (r.0, ap (λ t. framed answer ++ t) r.1 ∙ sym (append_assoc (framed answer) (other ys) r.0))
further_by rules (client.Dropped cause) answer next other ys h = h ys

back_further : (rules : Rules) (xs more ys : List (List ℕ)) → IsFrontOf (back rules xs ys) (back rules (xs ++ more) ys)
back_further rules [] more ys = (back rules more ys, refl)
back_further rules (x ∷ xs) more ys = further_by rules (rules.judged x) (rules.answer x) (λ zs. back rules (xs ++ more) zs) (λ zs. back rules xs zs) ys (λ zs. back_further rules xs more zs)

front_on : (a b c : List ℕ) → IsFrontOf a b → IsFrontOf b c → IsFrontOf a c
front_on a b c p q = (p.0 ++ q.0, q.1 ∙ (ap (λ t. t ++ q.0) p.1 ∙ append_assoc a p.0 q.0))

-- ---- the whole

pub calls_further : (rules : RouteRules) (xs more : List (List ℕ)) → calls_of rules (xs ++ more) ≡ calls_of rules xs ++ calls_of rules more
calls_further rules [] more = refl
calls_further rules (x ∷ xs) more =
    let first = map (led (rules.target x)) (session.opened (rules.judging.judged x)) in
    ap (λ t. first ++ t) (calls_further rules xs more) ∙ sym (append_assoc first (calls_of rules xs) (calls_of rules more))

-- a call without its target
pub called : (cs : List OpenCall) (k : ℕ) (call : OpenCall) → slice_get cs k ≡ Some call → slice_get (map call_of cs) k ≡ Some call.call
called [] k call e = absurd (cc)
called (c ∷ cs) zero call e = let same : c ≡ call = cc in ap (λ (x : OpenCall). Some x.call) same
called (c ∷ cs) (suc k) call e = called cs k call e

answers_go_on : (rules : RouteRules) (limit max_calls : ℕ) (h : History) (s : Standing) (f : Fits rules limit max_calls h s) (zs ws more : List (List ℕ)) → zs ≡ f.xs ++ more → (all : AreAllAnswers rules limit h.received zs ws) → Ordered limit (calls_of rules zs) ws f.ys all.rest → (w : List (List ℕ)) × (ws ≡ f.ys ++ w)
answers_go_on rules limit max_calls h s f zs ws more d all (inl (w, e)) = (w, e)
answers_go_on rules limit max_calls h s f zs ws more d all (inr (y, late, behind, call, e, at, v)) =
    let inside : length ws < length (calls_of rules f.xs) = omega (arith, f.lawful.paired, calls_count rules f.xs, ap length e, length-append ws (y ∷ late)) in
    let there : slice_get (calls_of rules f.xs) (length ws) ≡ Some call =
    sym (get_front (calls_of rules f.xs) (calls_of rules more) (length ws) inside) ∙ (ap (λ t. slice_get t (length ws)) (sym (calls_further rules f.xs more)) ∙ (ap (λ t. slice_get (calls_of rules t) (length ws)) (sym d) ∙ at)) in
    let asked : slice_get (session.calls_of rules.judging f.xs) (length ws) ≡ Some call.call = ap (λ t. slice_get t (length ws)) (sym (calls_are rules f.xs)) ∙ called (calls_of rules f.xs) (length ws) call there in
    let halts = all.last call y behind at v in
    absurd (f.lawful.replies ws late y call.call halts.0 e asked halts.1)

pub client_front : StandsAtFront → (rules : RouteRules) (limit max_calls : ℕ) (h : History) (s : Standing) (zs ws : List (List ℕ)) → limit < 2 ^ 31 → Fits rules limit max_calls h s → IsAllOfClient rules.judging limit (h.received zero) zs → AreAllAnswers rules limit h.received zs ws → IsFrontOf (h.sent zero) (back rules.judging zs ws)
client_front law rules limit max_calls h s zs ws small f all answers =
    let more = goes_on rules limit max_calls h s f zs all (compared limit (h.received zero) zs f.xs all.rest s.client.held law small all.taken (f.came zero)) in
    let longer : calls_of rules zs ≡ calls_of rules f.xs ++ calls_of rules more.0 = ap (calls_of rules) more.1 ∙ calls_further rules f.xs more.0 in
    let few : length f.ys ≤ length (calls_of rules f.xs) = omega (arith, f.lawful.paired, calls_count rules f.xs) in
    let mine : (u : ℕ) → IsTaken limit (h.received (suc u)) (answers_of u (calls_of rules zs) f.ys) (inbox_of (suc u) s).held = λ u.
    subst (λ xs. IsTaken limit (h.received (suc u)) xs (inbox_of (suc u) s).held) (sym (ap (λ cs. answers_of u cs f.ys) longer ∙ answers_kept u (calls_of rules f.xs) (calls_of rules more.0) f.ys few)) (f.came (suc u)) in
    let w = answers_go_on rules limit max_calls h s f zs ws more.0 more.1 answers
    (ordered limit (calls_of rules zs) f.ys ws (λ u. h.received (suc u)) (λ u. (inbox_of (suc u) s).held) answers.rest law small mine answers.taken (omega (arith, few, ap length longer, length-append (calls_of rules f.xs) (calls_of rules more.0))) answers.paired) in
    let taken : IsFrontOf (back rules.judging f.xs f.ys) (back rules.judging zs ws) =
    subst (λ z. IsFrontOf (back rules.judging f.xs f.ys) (back rules.judging z ws)) (sym more.1)
    (subst (λ y. IsFrontOf (back rules.judging f.xs f.ys) (back rules.judging (f.xs ++ more.0) y)) (sym w.1)
    (front_on _ (back rules.judging f.xs (f.ys ++ w.0)) _ (back_longer rules.judging f.xs f.ys w.0) (back_further rules.judging f.xs more.0 (f.ys ++ w.0)))) in
    front_on (h.sent zero) (back rules.judging f.xs f.ys) _ (s.to_client, sym (f.went zero)) taken
