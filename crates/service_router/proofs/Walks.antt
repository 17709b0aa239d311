-- What is due changes by one frame more.
use Rattle.std.proofs.Common.{◌≡◌, ℕ, zero, suc, ◌==◌, ◌≤◌, List, [], ◌∷◌, ◌++◌, length, append_assoc, drop, map, arith, refl, sym, ◌∙◌, ap, if◌then◌else◌}
use Rattle.std.proofs.lemmas.List.{append-nil}
use Rattle.session_core.specs.Stands as session
use Rattle.session_core.specs.declared.judge.Call.{Call}
use Rattle.service_router.specs.declared.call.OpenCall.{OpenCall}
use Rattle.service_router.specs.Rules.{RouteRules}
use Rattle.service_router.specs.Fits.{led, calls_of, onward_to, answers_of}
use Rattle.service_router.specs.Steps.{call_of}

-- the calls without their targets are those of the session
without_targets : (target : ℕ) (calls : List Call) (more : List OpenCall) → map call_of (map (led target) calls ++ more) ≡ calls ++ map call_of more
without_targets target [] more = refl
without_targets target (c ∷ cs) more = ap (λ t. c ∷ t) (without_targets target cs more)

pub calls_are : (rules : RouteRules) (xs : List (List ℕ)) → map call_of (calls_of rules xs) ≡ session.calls_of rules.judging xs
calls_are rules [] = refl
calls_are rules (x ∷ xs) = without_targets (rules.target x) (session.opened (rules.judging.judged x)) (calls_of rules xs) ∙ ap (λ t. session.opened (rules.judging.judged x) ++ t) (calls_are rules xs)

pub map_length : {X Y : Type 0} (f : X → Y) (xs : List X) → length (map f xs) ≡ length xs
map_length f [] = refl
map_length f (x ∷ xs) = ap suc (map_length f xs)

pub calls_count : (rules : RouteRules) (xs : List (List ℕ)) → length (calls_of rules xs) ≡ length (session.calls_of rules.judging xs)
calls_count rules xs = sym (map_length call_of (calls_of rules xs)) ∙ ap length (calls_are rules xs)

pub opens_count : (calls : List OpenCall) → length (map call_of calls) ≡ length calls
opens_count calls = map_length call_of calls

pub calls_more : (rules : RouteRules) (xs : List (List ℕ)) (x : List ℕ) → calls_of rules (xs ++ x ∷ []) ≡ calls_of rules xs ++ map (led (rules.target x)) (session.opened (rules.judging.judged x))
calls_more rules [] x = append-nil (map (led (rules.target x)) (session.opened (rules.judging.judged x)))
calls_more rules (w ∷ xs) x =
    let first = map (led (rules.target w)) (session.opened (rules.judging.judged w)) in
    ap (λ t. first ++ t) (calls_more rules xs x) ∙ sym (append_assoc first (calls_of rules xs) (map (led (rules.target x)) (session.opened (rules.judging.judged x))))

abbrev pub sent_by : RouteRules → ℕ → List ℕ → List ℕ
sent_by rules u x = if rules.target x == u then session.sent_on (rules.judging.judged x) (rules.judging.output x) else []

pub onward_more : (rules : RouteRules) (u : ℕ) (xs : List (List ℕ)) (x : List ℕ) → onward_to rules u (xs ++ x ∷ []) ≡ onward_to rules u xs ++ sent_by rules u x
onward_more rules u [] x = append-nil (sent_by rules u x)
onward_more rules u (w ∷ xs) x = ap (λ t. sent_by rules u w ++ t) (onward_more rules u xs x) ∙ sym (append_assoc (sent_by rules u w) (onward_to rules u xs) (sent_by rules u x))

-- more calls don't change which target gave these answers
pub answers_kept : (u : ℕ) (cs more : List OpenCall) (ys : List (List ℕ)) → length ys ≤ length cs → answers_of u (cs ++ more) ys ≡ answers_of u cs ys
answers_kept u [] [] [] h = refl
answers_kept u [] (m ∷ more) [] h = refl
answers_kept u [] more (y ∷ ys) h = absurd (omega (arith, h))
answers_kept u (c ∷ cs) more [] h = refl
answers_kept u (c ∷ cs) more (y ∷ ys) h = ap (λ t. (if c.target == u then y ∷ [] else []) ++ t) (answers_kept u cs more ys (omega (arith, h)))

-- one answer more is its call's target's
pub answers_more : (u : ℕ) (cs : List OpenCall) (ys : List (List ℕ)) (y : List ℕ) (call : OpenCall) (calls : List OpenCall) → drop (length ys) cs ≡ call ∷ calls → answers_of u cs (ys ++ y ∷ []) ≡ answers_of u cs ys ++ (if call.target == u then y ∷ [] else [])
answers_more u [] [] y call calls e = absurd (cc)
answers_more u [] (z ∷ ys) y call calls e = absurd (cc)
answers_more u (c ∷ cs) [] y call calls e =
    let same : c ≡ call = cc in
    append-none (if c.target == u then y ∷ [] else []) (answers_of u cs []) (none_left u cs) ∙ ap (λ (k : OpenCall). if k.target == u then y ∷ [] else []) same
  where
    none_left : (v : ℕ) (ks : List OpenCall) → answers_of v ks [] ≡ []
    none_left v [] = refl
    none_left v (k ∷ ks) = refl

    append-none : (some bs : List (List ℕ)) → bs ≡ [] → some ++ bs ≡ some
    append-none some bs none = ap (λ t. some ++ t) none ∙ append-nil some
answers_more u (c ∷ cs) (z ∷ ys) y call calls e =
    let front = (if c.target == u then z ∷ [] else []) in
    ap (λ t. front ++ t) (answers_more u cs ys y call calls e) ∙ sym (append_assoc front (answers_of u cs ys) (if call.target == u then y ∷ [] else []))

-- the open calls without their targets
map_drop : {X Y : Type 0} (f : X → Y) (n : ℕ) (xs : List X) → map f (drop n xs) ≡ drop n (map f xs)
map_drop f zero xs = refl
map_drop f (suc n) [] = refl
map_drop f (suc n) (x ∷ xs) = map_drop f n xs

pub dropped_calls : (rules : RouteRules) (xs : List (List ℕ)) (n : ℕ) (call : OpenCall) (calls : List OpenCall) → drop n (calls_of rules xs) ≡ call ∷ calls → drop n (session.calls_of rules.judging xs) ≡ call.call ∷ map call_of calls
dropped_calls rules xs n call calls e = ap (drop n) (sym (calls_are rules xs)) ∙ (sym (map_drop call_of n (calls_of rules xs)) ∙ ap (map call_of) e)
