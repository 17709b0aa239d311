-- A session at rest with nothing due stands at the greatest stand.
use Rattle.std.proofs.Common.{◌≡◌, ℕ, ◌+◌, ◌<◌, ◌≤◌, ◌^◌, ◌⊎◌, inl, inr, List, [], ◌∷◌, ◌++◌, length, length-append, append_assoc, arith, refl, sym, ◌∙◌, ap, Option, Some, None, slice_get, true, ◌&&◌, if◌then◌else◌}
use Rattle.std.specs.List.{flat_map}
use Rattle.std.proofs.lemmas.List.{append-nil, length-drop}
use Rattle.std.proofs.lemmas.List.Elements.{All-head, All-tail}
use Rattle.framed_transport.specs.Frames.{framed}
use Rattle.framed_transport.specs.Front.{Whole, front}
use Rattle.session_core.specs.Rules.{Rules}
use Rattle.session_core.specs.Standing.{Standing, History}
use Rattle.session_core.specs.Stands.{opened, calls_of, onward, back, IsLawful, IsTaken, IsDue}
use Rattle.session_core.specs.Fits.{Fits, told}
use Rattle.session_core.specs.Steps.{Waits, Halts, Takes, is_none, of_upstream, of_client, by_judged, ByUpstream, ByClient, IsStill, outcome_of, by_both, by_upstream}
use Rattle.session_core.specs.Ends.{IsAtRest}
use Rattle.session_core.specs.declared.judge.Call.{Call}
use Rattle.translate_verdicts.specs.declared.verdict.Cause.{Cause}
use Rattle.session_core.specs.declared.outcome.Halt.{Halt}
use Rattle.session_core.specs.declared.judge.ClientJudged.{ClientJudged}
use Rattle.session_core.specs.declared.judge.ClientJudged.TheVariants as client
use Rattle.session_core.specs.declared.judge.UpstreamJudged.{UpstreamJudged}
use Rattle.session_core.specs.declared.judge.UpstreamJudged.TheVariants as upstream
pub use Rattle.session_core.proofs.Moves.{StandsAtFront}
use Rattle.session_core.proofs.Moves.{judges, answers}
use Rattle.session_core.proofs.Fitting.{get_front, get_dropped}

-- of two lists of frames of the same bytes one goes on from the other
abbrev pub Compared : ℕ → List (List ℕ) → List (List ℕ) → List ℕ → Type 0
Compared limit xs zs rest =
    ((more : List (List ℕ)) × (xs ≡ zs ++ more))
    ⊎ ((x : List ℕ) × (more : List (List ℕ)) × (behind : List ℕ) × (zs ≡ xs ++ x ∷ more) × (front limit rest ≡ Whole x behind))

compared_on : (limit : ℕ) (x z : List ℕ) (xs zs : List (List ℕ)) (rest : List ℕ) → x ≡ z → Compared limit xs zs rest → Compared limit (x ∷ xs) (z ∷ zs) rest
compared_on limit x z xs zs rest same (inl (more, e)) = inl (more, cc)
compared_on limit x z xs zs rest same (inr (y, more, behind, e, f)) = inr (y, more, behind, cc, f)

first_of : (limit : ℕ) (bytes x : List ℕ) (xs : List (List ℕ)) (rest : List ℕ) → StandsAtFront → limit < 2 ^ 31 → IsTaken limit bytes (x ∷ xs) rest → front limit bytes ≡ Whole x (flat_map framed xs ++ rest)
first_of limit bytes x xs rest law small t =
    ap (front limit) (t.whole ∙ append_assoc (framed x) (flat_map framed xs) rest) ∙ law limit x (flat_map framed xs ++ rest) small (All-head (λ frame. length frame ≤ limit) x xs t.each)

pub compared : (limit : ℕ) (bytes : List ℕ) (xs zs : List (List ℕ)) (rest other : List ℕ) → StandsAtFront → limit < 2 ^ 31 → IsTaken limit bytes xs rest → IsTaken limit bytes zs other → Compared limit xs zs rest
compared limit bytes xs [] rest other law small p q = inl (xs, refl)
compared limit bytes [] (z ∷ zs) rest other law small p q =
    inr (z, zs, flat_map framed zs ++ other, refl, ap (front limit) (sym p.whole) ∙ first_of limit bytes z zs other law small q)
compared limit bytes (x ∷ xs) (z ∷ zs) rest other law small p q =
    let a = first_of limit bytes x xs rest law small p in
    let b = first_of limit bytes z zs other law small q in
    let both : Whole x (flat_map framed xs ++ rest) ≡ Whole z (flat_map framed zs ++ other) = sym a ∙ b in
    let same : x ≡ z = cc in
    let left : flat_map framed zs ++ other ≡ flat_map framed xs ++ rest = cc in
    let mine : IsTaken limit (flat_map framed xs ++ rest) xs rest = record { each = All-tail (λ frame. length frame ≤ limit) x xs p.each; whole = refl } in
    let theirs : IsTaken limit (flat_map framed xs ++ rest) zs other = record { each = All-tail (λ frame. length frame ≤ limit) z zs q.each; whole = sym left } in
    compared_on limit x z xs zs rest same (compared limit (flat_map framed xs ++ rest) xs zs rest other law small mine theirs)

pub calls_append : (rules : Rules) (xs ys : List (List ℕ)) → calls_of rules (xs ++ ys) ≡ calls_of rules xs ++ calls_of rules ys
calls_append rules [] ys = refl
calls_append rules (x ∷ xs) ys = ap (λ t. opened (rules.judged x) ++ t) (calls_append rules xs ys) ∙ sym (append_assoc (opened (rules.judged x)) (calls_of rules xs) (calls_of rules ys))

-- ---- no frame of the upstream is left

is_answer : (v : UpstreamJudged) → ((halt : Halt) → v ≡ upstream.Halts halt → ⊥) → (refused : Option Cause) × (v ≡ upstream.Answers refused)
is_answer (upstream.Halts halt) quiet = absurd (quiet halt refl)
is_answer (upstream.Answers refused) quiet = (refused, refl)

no_reply_left : (rules : Rules) (limit max_calls : ℕ) (s : Standing) (call : Call) (calls : List Call) (y rest : List ℕ) → IsStill rules limit max_calls s → s.calls ≡ call ∷ calls → s.to_client ≡ [] → front limit s.upstream ≡ Whole y rest → ((halt : Halt) → rules.replied call y ≡ upstream.Halts halt → ⊥) → ⊥
no_reply_left rules limit max_calls s call calls y rest still open_is none whole quiet =
    let answer = is_answer (rules.replied call y) quiet in
    still _ (ByUpstream (answers rules limit s call calls y rest (upstream.Answers answer.0) open_is none whole answer.1))

-- ---- no frame of the client is left

no_halt : (rules : Rules) (limit max_calls : ℕ) (s : Standing) (halt : Halt) → None ≡ outcome_of rules limit max_calls s → s.to_client ≡ [] → s.to_upstream ≡ [] → of_upstream rules limit s ≡ Halts halt → ⊥
unfolding outcome_of
no_halt rules limit max_calls s halt none due other e =
    let a : is_none s.to_client ≡ true = ap is_none due in
    let b : is_none s.to_upstream ≡ true = ap is_none other in
    let both = by_both limit s (of_upstream rules limit s) (of_client rules limit max_calls s) in
    let told : (if is_none s.to_client && is_none s.to_upstream then both else None) ≡ Some (by_upstream halt s) =
    ap (λ t. if t && is_none s.to_upstream then both else None) a ∙ (ap (λ t. if t then both else None) b ∙ ap (λ m. by_both limit s m (of_client rules limit max_calls s)) e) in
    let clash : None ≡ Some (by_upstream halt s) = none ∙ told in
    cc

taken_by : (v : ClientJudged) (s : Standing) (output answer rest : List ℕ) → ((halt : Halt) → v ≡ client.Halts halt → ⊥) → ((cause : Cause) → v ≡ client.Refused cause → s.calls ≡ []) → s.to_client ≡ [] → (t : Standing) × (by_judged v s output answer rest ≡ Takes t)
taken_by (client.Halts halt) s output answer rest quiet turn due = absurd (quiet halt refl)
taken_by (client.Opens call) s output answer rest quiet turn due = (_, refl)
taken_by client.Goes s output answer rest quiet turn due = (_, refl)
taken_by (client.Refused cause) s output answer rest quiet turn due =
    let took = Takes (record s { client = rest; to_client = framed answer; taken = told (s.taken + 1) }) in (
      record s { client = rest; to_client = framed answer; taken = told (s.taken + 1) },
      ap (λ t. if t && is_none s.to_client then took else Waits) (ap is_none (turn cause refl)) ∙ ap (λ t. if t then took else Waits) (ap is_none due),
    )
taken_by (client.Dropped cause) s output answer rest quiet turn due = (_, refl)

no_call_left : (rules : Rules) (limit max_calls : ℕ) (s : Standing) (x rest : List ℕ) → IsAtRest rules limit max_calls s None → s.to_client ≡ [] → s.to_upstream ≡ [] → length s.calls < max_calls → front limit s.client ≡ Whole x rest → ((halt : Halt) → rules.judged x ≡ client.Halts halt → ⊥) → ((cause : Cause) → rules.judged x ≡ client.Refused cause → s.calls ≡ []) → ⊥
no_call_left rules limit max_calls s x rest at due other few whole quiet turn =
    let took = taken_by (rules.judged x) s (rules.output x) (rules.answer x) rest quiet turn due in
    at.still took.0 (ByClient (λ halt e. no_halt rules limit max_calls s halt at.outcome_is due other e)
    (judges rules limit max_calls s x rest (rules.judged x) other few whole refl ∙ took.1))

-- ---- the greatest stand

none_of : {X : Type 0} (xs : List X) → length xs ≤ 0 → xs ≡ []
none_of [] h = refl
none_of (x ∷ xs) h = absurd (omega (arith, h))

-- a reply is left where the other stand has one more and a call is open
more_replies : (rules : Rules) (limit max_calls : ℕ) (h : History) (s : Standing) (f : Fits rules limit max_calls h s) (zs ws : List (List ℕ)) (call : Call) (calls : List Call) (y : List ℕ) (more : List (List ℕ)) (rest : List ℕ) → IsStill rules limit max_calls s → s.to_client ≡ [] → IsLawful rules max_calls zs ws → ws ≡ f.ys ++ y ∷ more → front limit s.upstream ≡ Whole y rest → s.calls ≡ call ∷ calls → slice_get (calls_of rules zs) (length f.ys) ≡ slice_get (calls_of rules f.xs) (length f.ys) → ⊥
more_replies rules limit max_calls h s f zs ws call calls y more rest still due other e whole open_is same =
    let at : slice_get (calls_of rules f.xs) (length f.ys) ≡ Some call = get_dropped (calls_of rules f.xs) (length f.ys) call calls (sym f.calls ∙ open_is) in
    no_reply_left rules limit max_calls s call calls y rest still open_is due whole
    (λ halt j. other.replies f.ys more y call halt e (same ∙ at) j)

-- a call is left where the other stand has one more
more_calls : (rules : Rules) (limit max_calls : ℕ) (h : History) (s : Standing) (f : Fits rules limit max_calls h s) (zs ws : List (List ℕ)) (x : List ℕ) (more : List (List ℕ)) (rest : List ℕ) → IsAtRest rules limit max_calls s None → s.to_client ≡ [] → s.to_upstream ≡ [] → IsLawful rules max_calls zs ws → zs ≡ f.xs ++ x ∷ more → front limit s.client ≡ Whole x rest → length s.calls < max_calls → ((cause : Cause) → rules.judged x ≡ client.Refused cause → s.calls ≡ []) → ⊥
more_calls rules limit max_calls h s f zs ws x more rest at due other lawful e whole few turn =
    no_call_left rules limit max_calls s x rest at due other few whole (λ halt j. lawful.passes f.xs more x halt e j) turn

open_count : (rules : Rules) (limit max_calls : ℕ) (h : History) (s : Standing) (f : Fits rules limit max_calls h s) → length s.calls + length f.ys ≡ length (calls_of rules f.xs)
open_count rules limit max_calls h s f = omega (arith, ap length f.calls, length-drop (length f.ys) (calls_of rules f.xs), f.lawful.paired)

-- the other stand is no greater, by how both compare
by_both_sides : (rules : Rules) (limit max_calls : ℕ) (h : History) (s : Standing) (f : Fits rules limit max_calls h s) (zs ws : List (List ℕ)) (calls : List Call) → 0 < max_calls → IsAtRest rules limit max_calls s None → s.to_client ≡ [] → s.to_upstream ≡ [] → IsLawful rules max_calls zs ws → s.calls ≡ calls → Compared limit f.xs zs s.client → Compared limit f.ys ws s.upstream → (length zs ≤ length f.xs) × (length ws ≤ length f.ys)
by_both_sides rules limit max_calls h s f zs ws calls some at due other lawful c (inl (p, d)) (inl (q, e)) =
    (omega (arith, ap length d, length-append zs p), omega (arith, ap length e, length-append ws q))
by_both_sides rules limit max_calls h s f zs ws [] some at due other lawful c (inl (p, d)) (inr (y, more, rest, e, w)) =
    absurd (omega (arith, open_count rules limit max_calls h s f, ap length c, lawful.paired, ap length e, length-append f.ys (y ∷ more), ap (λ t. length (calls_of rules t)) d, ap length (calls_append rules zs p), length-append (calls_of rules zs) (calls_of rules p)))
by_both_sides rules limit max_calls h s f zs ws (call ∷ calls) some at due other lawful c (inl (p, d)) (inr (y, more, rest, e, w)) =
    let inside : length f.ys < length (calls_of rules zs) = omega (arith, lawful.paired, ap length e, length-append f.ys (y ∷ more)) in
    let same : slice_get (calls_of rules zs) (length f.ys) ≡ slice_get (calls_of rules f.xs) (length f.ys) =
    sym (ap (λ t. slice_get (calls_of rules t) (length f.ys)) d ∙ (ap (λ t. slice_get t (length f.ys)) (calls_append rules zs p) ∙ get_front (calls_of rules zs) (calls_of rules p) (length f.ys) inside)) in
    absurd (more_replies rules limit max_calls h s f zs ws call calls y more rest at.still due lawful e w c same)
by_both_sides rules limit max_calls h s f zs ws calls some at due other lawful c (inr (x, more, rest, d, w)) (inl (q, e)) =
    let few : length s.calls < max_calls = omega (arith, open_count rules limit max_calls h s f, lawful.few f.xs more x d, ap length e, length-append ws q) in
    absurd (more_calls rules limit max_calls h s f zs ws x more rest at due other lawful d w few
    (λ cause j. none_of s.calls (omega (arith, open_count rules limit max_calls h s f, lawful.in_turn f.xs more x cause d j, ap length e, length-append ws q))))
by_both_sides rules limit max_calls h s f zs ws [] some at due other lawful c (inr (x, more, rest, d, w)) (inr (y, m, r, e, v)) =
    absurd (more_calls rules limit max_calls h s f zs ws x more rest at due other lawful d w (omega (arith, ap length c, some)) (λ cause j. c))
by_both_sides rules limit max_calls h s f zs ws (call ∷ calls) some at due other lawful c (inr (x, more, rest, d, w)) (inr (y, m, r, e, v)) =
    let inside : length f.ys < length (calls_of rules f.xs) = omega (arith, open_count rules limit max_calls h s f, ap length c) in
    let same : slice_get (calls_of rules zs) (length f.ys) ≡ slice_get (calls_of rules f.xs) (length f.ys) =
    ap (λ t. slice_get (calls_of rules t) (length f.ys)) d ∙ (ap (λ t. slice_get t (length f.ys)) (calls_append rules f.xs (x ∷ more)) ∙ get_front (calls_of rules f.xs) (calls_of rules (x ∷ more)) (length f.ys) inside) in
    absurd (more_replies rules limit max_calls h s f zs ws call calls y m r at.still due lawful e v c same)

all_sent : (sent due whole : List ℕ) → due ≡ [] → sent ++ due ≡ whole → sent ≡ whole
all_sent sent due whole e h = sym (append-nil sent) ∙ (ap (λ b. sent ++ b) (sym e) ∙ h)

pub all_due : StandsAtFront → (rules : Rules) (limit max_calls : ℕ) (h : History) (s : Standing) → limit < 2 ^ 31 → 0 < max_calls → Fits rules limit max_calls h s → IsAtRest rules limit max_calls s None → s.to_client ≡ [] → s.to_upstream ≡ [] → IsDue rules limit max_calls h.from_client h.from_upstream h.to_client h.to_upstream
all_due law rules limit max_calls h s small some f at due other = record {
  at = record { xs = f.xs; ys = f.ys; client_rest = s.client; upstream_rest = s.upstream; lawful = f.lawful; client = f.client; upstream = f.upstream };
  greatest = λ o. by_both_sides rules limit max_calls h s f o.xs o.ys s.calls some at due other o.lawful refl
      (compared limit h.from_client f.xs o.xs s.client o.client_rest law small f.client o.client)
      (compared limit h.from_upstream f.ys o.ys s.upstream o.upstream_rest law small f.upstream o.upstream);
  answers = all_sent h.to_client s.to_client (back rules f.xs f.ys) due f.to_client;
  calls = all_sent h.to_upstream s.to_upstream (onward rules f.xs) other f.to_upstream;
}
