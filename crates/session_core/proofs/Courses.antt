-- What is told when one frame more is taken.
use Rattle.std.proofs.Common.{◌≡◌, ℕ, ◌+◌, List, [], ◌∷◌, ◌++◌, length, append_assoc, drop, arith, refl, sym, ◌∙◌, ap}
use Rattle.std.proofs.lemmas.List.{append-nil}
use Rattle.session_core.specs.Rules.{Rules}
use Rattle.session_core.specs.Standing.{Standing, History}
use Rattle.session_core.specs.Stands.{opened}
use Rattle.session_core.specs.Fits.{Fits, told}
use Rattle.session_core.specs.Notes.{Note, call_notes}
use Rattle.session_core.specs.Telling.{Turn, Asked, Answered, asked_in, answered_in, open_behind, answer_notes, notes_from, FitsTold}
use Rattle.session_core.specs.declared.judge.Call.{Call}

pub asked_more : (course : List Turn) (x : List ℕ) → asked_in (course ++ Asked x ∷ []) ≡ asked_in course ++ x ∷ []
asked_more [] x = refl
asked_more (Asked w ∷ course) x = ap (λ t. w ∷ t) (asked_more course x)
asked_more (Answered w ∷ course) x = asked_more course x

pub asked_same : (course : List Turn) (y : List ℕ) → asked_in (course ++ Answered y ∷ []) ≡ asked_in course
asked_same [] y = refl
asked_same (Asked w ∷ course) y = ap (λ t. w ∷ t) (asked_same course y)
asked_same (Answered w ∷ course) y = asked_same course y

pub answered_more : (course : List Turn) (y : List ℕ) → answered_in (course ++ Answered y ∷ []) ≡ answered_in course ++ y ∷ []
answered_more [] y = refl
answered_more (Asked w ∷ course) y = answered_more course y
answered_more (Answered w ∷ course) y = ap (λ t. w ∷ t) (answered_more course y)

pub answered_same : (course : List Turn) (x : List ℕ) → answered_in (course ++ Asked x ∷ []) ≡ answered_in course
answered_same [] x = refl
answered_same (Asked w ∷ course) x = answered_same course x
answered_same (Answered w ∷ course) x = ap (λ t. w ∷ t) (answered_same course x)

pub open_more : (rules : Rules) (calls : List Call) (course : List Turn) (x : List ℕ) → open_behind rules calls (course ++ Asked x ∷ []) ≡ open_behind rules calls course ++ opened (rules.judged x)
open_more rules calls [] x = refl
open_more rules calls (Asked w ∷ course) x = open_more rules (calls ++ opened (rules.judged w)) course x
open_more rules calls (Answered w ∷ course) x = open_more rules (drop 1 calls) course x

pub open_less : (rules : Rules) (calls : List Call) (course : List Turn) (y : List ℕ) → open_behind rules calls (course ++ Answered y ∷ []) ≡ drop 1 (open_behind rules calls course)
open_less rules calls [] y = refl
open_less rules calls (Asked w ∷ course) y = open_less rules (calls ++ opened (rules.judged w)) course y
open_less rules calls (Answered w ∷ course) y = open_less rules (drop 1 calls) course y

pub notes_asked : (rules : Rules) (i j : ℕ) (calls : List Call) (course : List Turn) (x : List ℕ) → notes_from rules i j calls (course ++ Asked x ∷ []) ≡ notes_from rules i j calls course ++ call_notes (rules.judged x) (told ((i + length (asked_in course)) + 1)) x
notes_asked rules i j calls [] x =
    let n : i + 1 ≡ (i + 0) + 1 = omega arith in
    append-nil (call_notes (rules.judged x) (told (i + 1)) x) ∙ ap (λ k. call_notes (rules.judged x) (told k) x) n
notes_asked rules i j calls (Asked w ∷ course) x =
    let first = call_notes (rules.judged w) (told (i + 1)) w in
    let late = notes_from rules (i + 1) j (calls ++ opened (rules.judged w)) course in
    let n : ((i + 1) + length (asked_in course)) + 1 ≡ (i + length (w ∷ asked_in course)) + 1 = omega arith in
    ap (λ t. first ++ t) (notes_asked rules (i + 1) j (calls ++ opened (rules.judged w)) course x)
    ∙ (ap (λ k. first ++ (late ++ call_notes (rules.judged x) (told k) x)) n ∙ sym (append_assoc first late (call_notes (rules.judged x) (told ((i + length (w ∷ asked_in course)) + 1)) x)))
notes_asked rules i j calls (Answered w ∷ course) x =
    let first = answer_notes rules calls (told (j + 1)) w in
    let late = notes_from rules i (j + 1) (drop 1 calls) course in
    ap (λ t. first ++ t) (notes_asked rules i (j + 1) (drop 1 calls) course x)
    ∙ sym (append_assoc first late (call_notes (rules.judged x) (told ((i + length (asked_in course)) + 1)) x))

pub notes_answered : (rules : Rules) (i j : ℕ) (calls : List Call) (course : List Turn) (y : List ℕ) → notes_from rules i j calls (course ++ Answered y ∷ []) ≡ notes_from rules i j calls course ++ answer_notes rules (open_behind rules calls course) (told ((j + length (answered_in course)) + 1)) y
notes_answered rules i j calls [] y =
    let n : j + 1 ≡ (j + 0) + 1 = omega arith in
    append-nil (answer_notes rules calls (told (j + 1)) y) ∙ ap (λ k. answer_notes rules calls (told k) y) n
notes_answered rules i j calls (Asked w ∷ course) y =
    let first = call_notes (rules.judged w) (told (i + 1)) w in
    let calls' = calls ++ opened (rules.judged w) in
    let late = notes_from rules (i + 1) j calls' course in
    ap (λ t. first ++ t) (notes_answered rules (i + 1) j calls' course y)
    ∙ sym (append_assoc first late (answer_notes rules (open_behind rules calls' course) (told ((j + length (answered_in course)) + 1)) y))
notes_answered rules i j calls (Answered w ∷ course) y =
    let first = answer_notes rules calls (told (j + 1)) w in
    let calls' = drop 1 calls in
    let late = notes_from rules i (j + 1) calls' course in
    let n : ((j + 1) + length (answered_in course)) + 1 ≡ (j + length (w ∷ answered_in course)) + 1 = omega arith in
    ap (λ t. first ++ t) (notes_answered rules i (j + 1) calls' course y)
    ∙ (ap (λ k. first ++ (late ++ answer_notes rules (open_behind rules calls' course) (told k) y)) n
    ∙ sym (append_assoc first late (answer_notes rules (open_behind rules calls' course) (told ((j + length (w ∷ answered_in course)) + 1)) y)))

-- where no frame was taken, the same was told
pub told_like : (rules : Rules) (limit max_calls : ℕ) (h h' : History) (past : List Note) (s s' : Standing) (f : FitsTold rules limit max_calls h past s) (g : Fits rules limit max_calls h' s') → f.fits.xs ≡ g.xs → f.fits.ys ≡ g.ys → s.calls ≡ s'.calls → FitsTold rules limit max_calls h' past s'
told_like rules limit max_calls h h' past s s' f g xs ys calls = record {
  fits = g;
  course = f.course;
  asked = f.asked ∙ xs;
  answered = f.answered ∙ ys;
  open_calls = f.open_calls ∙ calls;
  notes_are = f.notes_are;
}
