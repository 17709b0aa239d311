-- What is due when one frame more is taken.
use Rattle.std.proofs.Common.{◌≡◌, ℕ, zero, suc, ◌+◌, ◌≤◌, List, [], ◌∷◌, ◌++◌, length, length-append, append_assoc, drop, arith, refl, sym, ◌∙◌, ap, subst}
use Rattle.std.proofs.lemmas.List.{append-nil}
use Rattle.framed_transport.specs.Frames.{framed}
use Rattle.session_core.specs.Rules.{Rules}
use Rattle.session_core.specs.Stands.{opened, calls_of, sent_on, onward, back_by, back}
use Rattle.session_core.specs.declared.judge.Call.{Call}
use Rattle.translate_verdicts.specs.declared.verdict.Cause.{Cause}
use Rattle.session_core.specs.declared.judge.ClientJudged.{ClientJudged}
use Rattle.session_core.specs.declared.judge.ClientJudged.TheVariants as client

-- what holds of each place of a list and of one more at its end
pub each_more : {X : Type 0} (P : List X → X → Type 0) (xs : List X) (x : X) → ((early late : List X) (y : X) → xs ≡ early ++ y ∷ late → P early y) → P xs x → (early late : List X) (y : X) → xs ++ x ∷ [] ≡ early ++ y ∷ late → P early y
each_more P [] x h p [] late y e = subst (λ z. P [] z) (cc) p
each_more P [] x h p (z ∷ early) late y e = absurd (omega (arith, ap length e, length-append early (y ∷ late)))
each_more P (w ∷ xs) x h p [] late y e = subst (λ z. P [] z) (cc) (h [] xs w refl)
each_more P (w ∷ xs) x h p (z ∷ early) late y e =
    let first : w ≡ z = cc in
    let rest : xs ++ x ∷ [] ≡ early ++ y ∷ late = cc in
    subst (λ v. P (v ∷ early) y) first
    (each_more (λ l v. P (w ∷ l) v) xs x (λ l r v f. h (w ∷ l) r v (ap (λ t. w ∷ t) f)) p early late y rest)

pub calls_more : (rules : Rules) (xs : List (List ℕ)) (x : List ℕ) → calls_of rules (xs ++ x ∷ []) ≡ calls_of rules xs ++ opened (rules.judged x)
calls_more rules [] x = append-nil (opened (rules.judged x))
calls_more rules (w ∷ xs) x = ap (λ t. opened (rules.judged w) ++ t) (calls_more rules xs x) ∙ sym (append_assoc (opened (rules.judged w)) (calls_of rules xs) (opened (rules.judged x)))

pub onward_more : (rules : Rules) (xs : List (List ℕ)) (x : List ℕ) → onward rules (xs ++ x ∷ []) ≡ onward rules xs ++ sent_on (rules.judged x) (rules.output x)
onward_more rules [] x = append-nil (sent_on (rules.judged x) (rules.output x))
onward_more rules (w ∷ xs) x = ap (λ t. sent_on (rules.judged w) (rules.output w) ++ t) (onward_more rules xs x) ∙ sym (append_assoc (sent_on (rules.judged w) (rules.output w)) (onward rules xs) (sent_on (rules.judged x) (rules.output x)))

-- ---- a frame that is not answered

-- whatever follows is the same as far as the upstream's frames go
same_by : (rules : Rules) (v : ClientJudged) (answer : List ℕ) (next other : List (List ℕ) → List ℕ) (n : ℕ) (ys : List (List ℕ)) → length ys ≤ length (opened v) + n → ((zs : List (List ℕ)) → length zs ≤ n → next zs ≡ other zs) → back_by rules v answer next ys ≡ back_by rules v answer other ys
same_by rules (client.Halts halt) answer next other n ys le h = h ys (omega arith)
same_by rules (client.Opens call) answer next other n [] le h = refl
same_by rules (client.Opens call) answer next other n (y ∷ ys) le h = ap (λ t. framed (rules.reply call y) ++ t) (h ys (omega arith))
same_by rules client.Goes answer next other n ys le h = h ys (omega arith)
same_by rules (client.Refused cause) answer next other n ys le h = ap (λ t. framed answer ++ t) (h ys (omega arith))
same_by rules (client.Dropped cause) answer next other n ys le h = h ys (omega arith)

last_by : (rules : Rules) (v : ClientJudged) (answer : List ℕ) → ((cause : Cause) → v ≡ client.Refused cause → ⊥) → back_by rules v answer (λ zs. []) [] ≡ []
last_by rules (client.Halts halt) answer quiet = refl
last_by rules (client.Opens call) answer quiet = refl
last_by rules client.Goes answer quiet = refl
last_by rules (client.Refused cause) answer quiet = absurd (quiet cause refl)
last_by rules (client.Dropped cause) answer quiet = refl

none_left : {X : Type 0} (xs : List X) → length xs ≤ 0 → xs ≡ []
none_left [] h = refl
none_left (x ∷ xs) h = absurd (omega (arith, h))

pub back_more : (rules : Rules) (xs ys : List (List ℕ)) (x : List ℕ) → ((cause : Cause) → rules.judged x ≡ client.Refused cause → ⊥) → length ys ≤ length (calls_of rules xs) → back rules (xs ++ x ∷ []) ys ≡ back rules xs ys
back_more rules [] ys x quiet le = ap (λ zs. back rules (x ∷ []) zs) (none_left ys le) ∙ last_by rules (rules.judged x) (rules.answer x) quiet
back_more rules (w ∷ xs) ys x quiet le =
    same_by rules (rules.judged w) (rules.answer w) (λ zs. back rules (xs ++ x ∷ []) zs) (λ zs. back rules xs zs) (length (calls_of rules xs)) ys
    (omega (arith, le, length-append (opened (rules.judged w)) (calls_of rules xs)))
    (λ zs h. back_more rules xs zs x quiet h)

-- ---- a refused call, once each call before it was answered

more_by : (rules : Rules) (v : ClientJudged) (answer : List ℕ) (next other : List (List ℕ) → List ℕ) (more : List ℕ) (n : ℕ) (ys : List (List ℕ)) → length ys ≡ length (opened v) + n → ((zs : List (List ℕ)) → length zs ≡ n → next zs ≡ other zs ++ more) → back_by rules v answer next ys ≡ back_by rules v answer other ys ++ more
more_by rules (client.Halts halt) answer next other more n ys le h = h ys (omega arith)
more_by rules (client.Opens call) answer next other more n [] le h = absurd (omega (arith, le))
more_by rules (client.Opens call) answer next other more n (y ∷ ys) le h = ap (λ t. framed (rules.reply call y) ++ t) (h ys (omega arith)) ∙ sym (append_assoc (framed (rules.reply call y)) (other ys) more)
more_by rules client.Goes answer next other more n ys le h = h ys (omega arith)
more_by rules (client.Refused cause) answer next other more n ys le h = ap (λ t. framed answer ++ t) (h ys (omega arith)) ∙ sym (append_assoc (framed answer) (other ys) more)
more_by rules (client.Dropped cause) answer next other more n ys le h = h ys (omega arith)

pub back_answered : (rules : Rules) (xs ys : List (List ℕ)) (x : List ℕ) (cause : Cause) → rules.judged x ≡ client.Refused cause → length ys ≡ length (calls_of rules xs) → back rules (xs ++ x ∷ []) ys ≡ back rules xs ys ++ framed (rules.answer x)
back_answered rules [] ys x cause j le =
    ap (λ v. back_by rules v (rules.answer x) (λ zs. []) ys) j ∙ append-nil (framed (rules.answer x))
back_answered rules (w ∷ xs) ys x cause j le =
    more_by rules (rules.judged w) (rules.answer w) (λ zs. back rules (xs ++ x ∷ []) zs) (λ zs. back rules xs zs) (framed (rules.answer x)) (length (calls_of rules xs)) ys
    (omega (arith, le, length-append (opened (rules.judged w)) (calls_of rules xs)))
    (λ zs h. back_answered rules xs zs x cause j h)

-- ---- a reply

-- no refused call stands behind a call that has no reply
abbrev pub InTurn : Rules → List (List ℕ) → List (List ℕ) → Type 0
InTurn rules xs ys = (early late : List (List ℕ)) (x : List ℕ) (cause : Cause) → xs ≡ early ++ x ∷ late → rules.judged x ≡ client.Refused cause → length (calls_of rules early) ≤ length ys

-- behind the first frame
later : (rules : Rules) (w : List ℕ) (xs ys zs : List (List ℕ)) (v : ClientJudged) → rules.judged w ≡ v → length ys ≤ length (opened v) + length zs → InTurn rules (w ∷ xs) ys → InTurn rules xs zs
later rules w xs ys zs v j le turn early late x cause e r =
    let h : length (opened (rules.judged w) ++ calls_of rules early) ≤ length ys = turn (w ∷ early) late x cause (ap (λ t. w ∷ t) e) r in
    omega (arith, h, le, length-append (opened (rules.judged w)) (calls_of rules early), ap (λ u. length (opened u)) j)

silent_by : (rules : Rules) (w : List ℕ) (xs : List (List ℕ)) (v : ClientJudged) → rules.judged w ≡ v → ((cause : Cause) → v ≡ client.Refused cause → ⊥) → back rules xs [] ≡ [] → back_by rules v (rules.answer w) (λ zs. back rules xs zs) [] ≡ []
silent_by rules w xs (client.Halts halt) j quiet h = h
silent_by rules w xs (client.Opens call) j quiet h = refl
silent_by rules w xs client.Goes j quiet h = h
silent_by rules w xs (client.Refused cause) j quiet h = absurd (quiet cause refl)
silent_by rules w xs (client.Dropped cause) j quiet h = h

-- with no refused call nothing is answered before the first reply
silent : (rules : Rules) (xs : List (List ℕ)) → ((early late : List (List ℕ)) (x : List ℕ) (cause : Cause) → xs ≡ early ++ x ∷ late → rules.judged x ≡ client.Refused cause → ⊥) → back rules xs [] ≡ []
silent rules [] quiet = refl
silent rules (w ∷ xs) quiet =
    silent_by rules w xs (rules.judged w) refl (λ cause j. quiet [] xs w cause refl j)
    (silent rules xs (λ early late x cause e r. quiet (w ∷ early) late x cause (ap (λ t. w ∷ t) e) r))

-- behind an open call a refused one does not stand
opens_late : (rules : Rules) (w : List ℕ) (xs early late : List (List ℕ)) (x : List ℕ) (cause : Cause) (call : Call) → rules.judged w ≡ client.Opens call → xs ≡ early ++ x ∷ late → rules.judged x ≡ client.Refused cause → InTurn rules (w ∷ xs) [] → 1 ≤ 0
opens_late rules w xs early late x cause call j e r turn =
    let h : length (opened (rules.judged w) ++ calls_of rules early) ≤ 0 = turn (w ∷ early) late x cause (ap (λ t. w ∷ t) e) r in
    omega (arith, h, length-append (opened (rules.judged w)) (calls_of rules early), ap (λ u. length (opened u)) j)

no_call : (n : ℕ) (call : Call) (calls : List Call) → drop n [] ≡ call ∷ calls → ⊥
no_call zero call calls e = cc
no_call (suc n) call calls e = cc

replied_by : (rules : Rules) (w : List ℕ) (xs ys : List (List ℕ)) (y : List ℕ) (call : Call) (calls : List Call) (v : ClientJudged) → rules.judged w ≡ v → drop (length ys) (opened v ++ calls_of rules xs) ≡ call ∷ calls → InTurn rules (w ∷ xs) ys → ((zs : List (List ℕ)) → drop (length zs) (calls_of rules xs) ≡ call ∷ calls → InTurn rules xs zs → back rules xs (zs ++ y ∷ []) ≡ back rules xs zs ++ framed (rules.reply call y)) → back_by rules v (rules.answer w) (λ zs. back rules xs zs) (ys ++ y ∷ []) ≡ back_by rules v (rules.answer w) (λ zs. back rules xs zs) ys ++ framed (rules.reply call y)
replied_by rules w xs ys y call calls (client.Halts halt) j e turn h = h ys e (later rules w xs ys ys (client.Halts halt) j (omega arith) turn)
replied_by rules w xs [] y call calls (client.Opens first) j e turn h =
    let same : first ≡ call = cc in
    let none : back rules xs [] ≡ [] = silent rules xs (λ early late x cause f r. absurd (omega (arith, opens_late rules w xs early late x cause first j f r turn))) in
    ap (λ t. framed (rules.reply first y) ++ t) none ∙ (append-nil (framed (rules.reply first y)) ∙ ap (λ k. framed (rules.reply k y)) same)
replied_by rules w xs (z ∷ zs) y call calls (client.Opens first) j e turn h =
    ap (λ t. framed (rules.reply first z) ++ t) (h zs e (later rules w xs (z ∷ zs) zs (client.Opens first) j (omega arith) turn))
    ∙ sym (append_assoc (framed (rules.reply first z)) (back rules xs zs) (framed (rules.reply call y)))
replied_by rules w xs ys y call calls client.Goes j e turn h = h ys e (later rules w xs ys ys client.Goes j (omega arith) turn)
replied_by rules w xs ys y call calls (client.Refused cause) j e turn h =
    ap (λ t. framed (rules.answer w) ++ t) (h ys e (later rules w xs ys ys (client.Refused cause) j (omega arith) turn))
    ∙ sym (append_assoc (framed (rules.answer w)) (back rules xs ys) (framed (rules.reply call y)))
replied_by rules w xs ys y call calls (client.Dropped cause) j e turn h = h ys e (later rules w xs ys ys (client.Dropped cause) j (omega arith) turn)

pub back_replied : (rules : Rules) (xs ys : List (List ℕ)) (y : List ℕ) (call : Call) (calls : List Call) → drop (length ys) (calls_of rules xs) ≡ call ∷ calls → InTurn rules xs ys → back rules xs (ys ++ y ∷ []) ≡ back rules xs ys ++ framed (rules.reply call y)
back_replied rules [] ys y call calls e turn = absurd (no_call (length ys) call calls e)
back_replied rules (w ∷ xs) ys y call calls e turn =
    replied_by rules w xs ys y call calls (rules.judged w) refl e turn (λ zs f t. back_replied rules xs zs y call calls f t)
