-- What is told of one frame more.
use Rattle.std.proofs.Common.{◌≡◌, ℕ, zero, suc, ◌+◌, ◌==◌, ◌≤◌, List, [], ◌∷◌, ◌++◌, length, take, drop, append_assoc, length-append, arith, refl, sym, ◌∙◌, ap, Bool, true, false, if◌then◌else◌}
use Rattle.std.proofs.lemmas.List.{append-nil, length-take-le, take-append-drop, take-append-le}
use Rattle.session_core.specs.Fits.{told}
use Rattle.session_core.specs.Notes.{Note, call_notes, reply_notes}
use Rattle.service_router.specs.declared.call.OpenCall.{OpenCall}
use Rattle.service_router.specs.Rules.{RouteRules}
use Rattle.service_router.specs.Standing.{Standing, History, inbox_of}
use Rattle.service_router.specs.Fits.{calls_of, answers_of}
use Rattle.service_router.specs.Telling.{Turn, Asked, Answered, asked_in, answered_in, calls_in, port_of, count_of, next_notes, notes_behind, notes_of, FitsTold}
use Rattle.service_router.proofs.Ports.{same_again, first_differs, later_differs, both_later}
use Rattle.service_router.proofs.Walks.{answers_kept, calls_count}

-- ---- one frame more

pub asked_more : (course : List Turn) (x : List ℕ) → asked_in (course ++ Asked x ∷ []) ≡ asked_in course ++ x ∷ []
asked_more [] x = refl
asked_more (Asked w ∷ course) x = ap (λ t. w ∷ t) (asked_more course x)
asked_more (Answered call y ∷ course) x = asked_more course x

pub asked_still : (course : List Turn) (call : OpenCall) (y : List ℕ) → asked_in (course ++ Answered call y ∷ []) ≡ asked_in course
asked_still [] call y = refl
asked_still (Asked w ∷ course) call y = ap (λ t. w ∷ t) (asked_still course call y)
asked_still (Answered k z ∷ course) call y = asked_still course call y

pub answered_more : (course : List Turn) (call : OpenCall) (y : List ℕ) → answered_in (course ++ Answered call y ∷ []) ≡ answered_in course ++ y ∷ []
answered_more [] call y = refl
answered_more (Asked w ∷ course) call y = answered_more course call y
answered_more (Answered k z ∷ course) call y = ap (λ t. z ∷ t) (answered_more course call y)

pub answered_still : (course : List Turn) (x : List ℕ) → answered_in (course ++ Asked x ∷ []) ≡ answered_in course
answered_still [] x = refl
answered_still (Asked w ∷ course) x = answered_still course x
answered_still (Answered k z ∷ course) x = ap (λ t. z ∷ t) (answered_still course x)

calls_more : (course : List Turn) (call : OpenCall) (y : List ℕ) → calls_in (course ++ Answered call y ∷ []) ≡ calls_in course ++ call ∷ []
calls_more [] call y = refl
calls_more (Asked w ∷ course) call y = calls_more course call y
calls_more (Answered k z ∷ course) call y = ap (λ t. k ∷ t) (calls_more course call y)

calls_still : (course : List Turn) (x : List ℕ) → calls_in (course ++ Asked x ∷ []) ≡ calls_in course
calls_still [] x = refl
calls_still (Asked w ∷ course) x = calls_still course x
calls_still (Answered k z ∷ course) x = ap (λ t. k ∷ t) (calls_still course x)

notes_more : (rules : RouteRules) (before course : List Turn) (turn : Turn) → notes_behind rules before (course ++ turn ∷ []) ≡ notes_behind rules before course ++ next_notes rules (before ++ course) turn
notes_more rules before [] turn = append-nil (next_notes rules before turn) ∙ ap (λ b. next_notes rules b turn) (sym (append-nil before))
notes_more rules before (t ∷ course) turn =
    let first = next_notes rules before t in
    let later = notes_behind rules (before ++ t ∷ []) course in
    ap (λ (n : List Note). first ++ n) (notes_more rules (before ++ t ∷ []) course turn ∙ ap (λ b. later ++ next_notes rules b turn) (append_assoc before (t ∷ []) course))
    ∙ sym (append_assoc first later (next_notes rules (before ++ t ∷ course) turn))

-- ---- the calls that were answered

-- more calls were opened
calls_kept : (n : ℕ) (calls all more : List OpenCall) → n ≤ length calls → all ≡ calls ++ more → take n calls ≡ take n all
calls_kept n calls all more within e = sym (ap (take n) e ∙ take-append-le n calls more within)

-- the first that is open was answered
first_taken : (calls rest : List OpenCall) (call : OpenCall) (n m : ℕ) → drop n calls ≡ call ∷ rest → m ≡ n + 1 → take n calls ++ call ∷ [] ≡ take m calls
first_taken calls rest call n m open_is is = next calls n open_is ∙ ap (λ k. take k calls) (sym is)
  where
    next : (cs : List OpenCall) (k : ℕ) → drop k cs ≡ call ∷ rest → take k cs ++ call ∷ [] ≡ take (k + 1) cs
    next [] zero e = absurd (cc)
    next [] (suc k) e = absurd (cc)
    next (c ∷ cs) zero e = let same : c ≡ call = cc in ap (λ (x : OpenCall). x ∷ []) (sym same)
    next (c ∷ cs) (suc k) e =
        let place : suc k + 1 ≡ suc (k + 1) = omega arith in
        ap (λ t. c ∷ t) (next cs k e) ∙ ap (λ i. take i (c ∷ cs)) (sym place)

-- ---- which frame of its port it is

count_more : (port : ℕ) (turn : Turn) (course : List Turn) (b : Bool) → (port_of turn == port) ≡ b → count_of port (turn ∷ course) ≡ (if b then 1 else 0) + count_of port course
count_more port turn course b e = ap (λ (t : Bool). (if t then 1 else 0) + count_of port course) e

count_client : (course : List Turn) → count_of 0 course ≡ length (asked_in course)
count_client [] = refl
count_client (Asked x ∷ course) = omega (arith, count_more 0 (Asked x) course true (same_again 0), count_client course)
count_client (Answered call y ∷ course) = omega (arith, count_more 0 (Answered call y) course false (later_differs call.target), count_client course)

count_answer : (u : ℕ) (call : OpenCall) (y : List ℕ) (course : List Turn) (b : Bool) → (call.target == u) ≡ b → count_of (suc u) course ≡ length (answers_of u (calls_in course) (answered_in course)) → count_of (suc u) (Answered call y ∷ course) ≡ length ((if b then y ∷ [] else []) ++ answers_of u (calls_in course) (answered_in course))
count_answer u call y course true e before = omega (arith, count_more (suc u) (Answered call y) course true (sym (both_later call.target u) ∙ e), before)
count_answer u call y course false e before = omega (arith, count_more (suc u) (Answered call y) course false (sym (both_later call.target u) ∙ e), before)

count_target : (u : ℕ) (course : List Turn) → count_of (suc u) course ≡ length (answers_of u (calls_in course) (answered_in course))
count_target u [] = refl
count_target u (Asked x ∷ course) = omega (arith, count_more (suc u) (Asked x) course false (first_differs u), count_target u course)
count_target u (Answered call y ∷ course) = count_answer u call y course (call.target == u) refl (count_target u course)

next_told : (n m k : ℕ) → n ≡ told m → k ≡ m → told (n + 1) ≡ told (k + 1)
next_told n m k e is = omega (arith, e, is)

-- those that were taken of a port
module _ (rules : RouteRules) (limit max_calls : ℕ) (h : History) (past : List Note) (s : Standing) (f : FitsTold rules limit max_calls h past s) where
  of_client : (x : List ℕ) → call_notes (rules.judging.judged x) (told (s.client.taken + 1)) x ≡ next_notes rules f.course (Asked x)
  of_client x = ap (λ n. call_notes (rules.judging.judged x) n x) (next_told s.client.taken (length f.fits.xs) (count_of 0 f.course) (f.fits.counted 0) (count_client f.course ∙ ap length f.asked))

  of_target : (call : OpenCall) (y : List ℕ) → reply_notes (suc call.target) (rules.judging.replied call.call y) (told ((inbox_of (suc call.target) s).taken + 1)) y ≡ next_notes rules f.course (Answered call y)
  of_target call y =
      let u = call.target in
      let all = calls_of rules f.fits.xs in
      let k = length f.fits.ys in
      ap (λ n. reply_notes (suc u) (rules.judging.replied call.call y) n y) (next_told (inbox_of (suc u) s).taken (length (answers_of u all f.fits.ys)) (count_of (suc u) f.course) (f.fits.counted (suc u))
      (count_target u f.course ∙ (ap (λ cs. length (answers_of u cs (answered_in f.course))) f.calls ∙ (ap (λ ys. length (answers_of u (take k all) ys)) f.answered ∙ ap length (all_kept u)))))
    where
      all_kept : (u : ℕ) → answers_of u (take (length f.fits.ys) (calls_of rules f.fits.xs)) f.fits.ys ≡ answers_of u (calls_of rules f.fits.xs) f.fits.ys
      all_kept u =
          let all = calls_of rules f.fits.xs in
          let ys = f.fits.ys in
          let k = length ys in
          let few : k ≤ length all = omega (arith, f.fits.lawful.paired, calls_count rules f.fits.xs) in
          sym (answers_kept u (take k all) (drop k all) ys (omega (arith, length-take-le k all few))) ∙ ap (λ cs. answers_of u cs ys) (take-append-drop k all)

  -- ---- what is told with it

  pub asked_notes : (x : List ℕ) (added : List Note) → added ≡ call_notes (rules.judging.judged x) (told (s.client.taken + 1)) x → past ++ added ≡ notes_of rules (f.course ++ Asked x ∷ [])
  asked_notes x added e = ap (λ (n : List Note). n ++ added) f.notes_are ∙ (ap (λ (n : List Note). notes_of rules f.course ++ n) (e ∙ of_client x) ∙ sym (notes_more rules [] f.course (Asked x)))

  pub answered_notes : (call : OpenCall) (y : List ℕ) (added : List Note) → added ≡ reply_notes (suc call.target) (rules.judging.replied call.call y) (told ((inbox_of (suc call.target) s).taken + 1)) y → past ++ added ≡ notes_of rules (f.course ++ Answered call y ∷ [])
  answered_notes call y added e = ap (λ (n : List Note). n ++ added) f.notes_are ∙ (ap (λ (n : List Note). notes_of rules f.course ++ n) (e ∙ of_target call y) ∙ sym (notes_more rules [] f.course (Answered call y)))

  -- the calls that were answered, behind one frame more
  pub calls_asked : (x : List ℕ) (xs : List (List ℕ)) (more : List OpenCall) → calls_of rules xs ≡ calls_of rules f.fits.xs ++ more → calls_in (f.course ++ Asked x ∷ []) ≡ take (length f.fits.ys) (calls_of rules xs)
  calls_asked x xs more e = calls_still f.course x ∙ (f.calls ∙ calls_kept (length f.fits.ys) (calls_of rules f.fits.xs) (calls_of rules xs) more (omega (arith, f.fits.lawful.paired, calls_count rules f.fits.xs)) e)

  pub calls_answered : (call : OpenCall) (y : List ℕ) (rest : List OpenCall) → drop (length f.fits.ys) (calls_of rules f.fits.xs) ≡ call ∷ rest → calls_in (f.course ++ Answered call y ∷ []) ≡ take (length (f.fits.ys ++ y ∷ [])) (calls_of rules f.fits.xs)
  calls_answered call y rest open_is = calls_more f.course call y ∙ (ap (λ cs. cs ++ call ∷ []) f.calls ∙ first_taken (calls_of rules f.fits.xs) rest call (length f.fits.ys) (length (f.fits.ys ++ y ∷ [])) open_is (length-append f.fits.ys (y ∷ [])))
