-- While some of what is due to a side is left, no more can be taken than before any of it was sent.
use Rattle.std.proofs.Common.{◌≡◌, ℕ, ◌<◌, List, [], ◌∷◌, length, drop, arith, refl, sym, ◌∙◌, ap, subst, Bool, true, false, ◌&&◌, nat_lt, if◌then◌else◌, Option, None}
use Rattle.std.proofs.lemmas.List.{length-drop}
use Rattle.framed_transport.specs.Front.{Front, Part, Large, Whole, front, is_part}
use Rattle.session_core.specs.Rules.{Rules}
use Rattle.session_core.specs.Standing.{Standing}
use Rattle.session_core.specs.Steps.{Move, Waits, Takes, is_none, of_client, client_front, by_judged, of_upstream, upstream_by, upstream_front, upstream_move, by_reply, ByUpstream, ByClient, IsStill, outcome_of}
use Rattle.session_core.specs.Ends.{IsAtRest}
use Rattle.session_core.specs.Halves.{let_go}
use Rattle.session_core.specs.Working.{standing, half_of, with_half}
use Rattle.session_core.specs.declared.state.State.{State}
use Rattle.gate_hub.specs.declared.hub.Side.{Side}
use Rattle.gate_hub.specs.declared.hub.Side.TheVariants as side
use Rattle.session_core.specs.declared.outcome.Outcome.{Outcome}
use Rattle.session_core.specs.declared.judge.Call.{Call}
use Rattle.session_core.specs.declared.judge.ClientJudged.{ClientJudged}
use Rattle.session_core.specs.declared.judge.ClientJudged.TheVariants as client
use Rattle.session_core.specs.declared.judge.UpstreamJudged.{UpstreamJudged}
use Rattle.session_core.specs.declared.judge.UpstreamJudged.TheVariants as upstream

-- where the first takes something, the second does
abbrev pub TakesToo : Move → Move → Type 0
TakesToo m n = (t : Standing) → m ≡ Takes t → ((u : Standing) × (n ≡ Takes u))

first_fails : {X : Type 0} (a b : Bool) (x y : X) → a ≡ false → (if a && b then x else y) ≡ y
first_fails true b x y e = absurd (cc)
first_fails false b x y e = refl

second_fails : {X : Type 0} (a b : Bool) (x y : X) → b ≡ false → (if a && b then x else y) ≡ y
second_fails a true x y e = absurd (cc)
second_fails true false x y e = refl
second_fails false false x y e = refl

no_take : (m : Move) (t : Standing) → m ≡ Waits → m ≡ Takes t → ⊥
no_take m t waits takes = cc

-- ---- what is left to the client

-- a session to whose client this is due
abbrev pub owing_client : Standing → List ℕ → Standing
owing_client s due = record s { to_client = due }

by_verdict : (v : ClientJudged) (s : Standing) (due output answer rest : List ℕ) → is_none due ≡ false → TakesToo (by_judged v (owing_client s due) output answer rest) (by_judged v s output answer rest)
by_verdict (client.Halts h) s due output answer rest some t e = absurd (cc)
by_verdict (client.Opens call) s due output answer rest some t e = (_, refl)
by_verdict client.Goes s due output answer rest some t e = (_, refl)
by_verdict (client.Refused cause) s due output answer rest some t e = absurd (no_take _ t (second_fails (is_none s.calls) (is_none due) _ Waits some) e)
by_verdict (client.Dropped cause) s due output answer rest some t e = (_, refl)

by_front : (rules : Rules) (s : Standing) (due : List ℕ) (f : Front) → is_none due ≡ false → TakesToo (client_front rules (owing_client s due) f) (client_front rules s f)
by_front rules s due Part some t e = absurd (cc)
by_front rules s due (Large n) some t e = absurd (cc)
by_front rules s due (Whole frame rest) some t e = by_verdict (rules.judged frame) s due (rules.output frame) (rules.answer frame) rest some t e

by_test : (b : Bool) (m n : Move) → TakesToo m n → TakesToo (if b then m else Waits) (if b then n else Waits)
by_test true m n too t e = too t e
by_test false m n too t e = absurd (cc)

client_too : (rules : Rules) (limit max_calls : ℕ) (s : Standing) (due : List ℕ) → is_none due ≡ false → TakesToo (of_client rules limit max_calls (owing_client s due)) (of_client rules limit max_calls s)
unfolding of_client
client_too rules limit max_calls s due some =
    by_test (is_none s.to_upstream && nat_lt (length s.calls) max_calls) _ _ (by_front rules s due (front limit s.client) some)

owed_moves : (part ended : Bool) (m n : Move) → upstream_move false part ended m ≡ upstream_move false part ended n
owed_moves true true m n = refl
owed_moves true false m n = refl
owed_moves false ended m n = refl

owed_by : (rules : Rules) (limit : ℕ) (s : Standing) (due : List ℕ) (calls : List Call) → is_none s.to_client ≡ false → is_none due ≡ false → upstream_by rules limit (owing_client s due) calls ≡ upstream_by rules limit s calls
owed_by rules limit s due [] before after = refl
owed_by rules limit s due (call ∷ calls) before after =
    let part = is_part (front limit s.upstream) in
    let m = upstream_front rules (owing_client s due) call calls (front limit s.upstream) in
    let n = upstream_front rules s call calls (front limit s.upstream) in
    ap (λ b. upstream_move b part s.upstream_ended m) after ∙ (owed_moves part s.upstream_ended m n ∙ sym (ap (λ b. upstream_move b part s.upstream_ended n) before))

owed_same : (rules : Rules) (limit : ℕ) (s : Standing) (due : List ℕ) → is_none s.to_client ≡ false → is_none due ≡ false → of_upstream rules limit (owing_client s due) ≡ of_upstream rules limit s
unfolding of_upstream
owed_same rules limit s due before after = owed_by rules limit s due s.calls before after

still_owing : (rules : Rules) (limit max_calls : ℕ) (s : Standing) (due : List ℕ) → is_none s.to_client ≡ false → is_none due ≡ false → IsStill rules limit max_calls s → IsStill rules limit max_calls (owing_client s due)
still_owing rules limit max_calls s due before after still t (ByUpstream e) = still t (ByUpstream (sym (owed_same rules limit s due before after) ∙ e))
still_owing rules limit max_calls s due before after still t (ByClient none e) =
    let too = client_too rules limit max_calls s due after t e in
    still too.0 (ByClient (λ h halts. none h (owed_same rules limit s due before after ∙ halts)) too.1)

client_owed : (rules : Rules) (limit max_calls : ℕ) (s : Standing) → is_none s.to_client ≡ false → outcome_of rules limit max_calls s ≡ None
unfolding outcome_of
client_owed rules limit max_calls s some = first_fails (is_none s.to_client) (is_none s.to_upstream) _ None some

pub rests_owing_client : (rules : Rules) (limit max_calls : ℕ) (s : Standing) (due : List ℕ) (outcome : Option Outcome) → is_none s.to_client ≡ false → is_none due ≡ false → IsAtRest rules limit max_calls s outcome → IsAtRest rules limit max_calls (owing_client s due) outcome
rests_owing_client rules limit max_calls s due outcome before after rest = record {
  still = still_owing rules limit max_calls s due before after rest.still;
  outcome_is = rest.outcome_is ∙ (client_owed rules limit max_calls s before ∙ sym (client_owed rules limit max_calls (owing_client s due) after));
}

-- ---- what is left to the upstream

abbrev pub owing_upstream : Standing → List ℕ → Standing
owing_upstream s due = record s { to_upstream = due }

by_reply_too : (v : UpstreamJudged) (s : Standing) (due : List ℕ) (calls : List Call) (reply rest : List ℕ) → TakesToo (by_reply v (owing_upstream s due) calls reply rest) (by_reply v s calls reply rest)
by_reply_too (upstream.Halts h) s due calls reply rest t e = absurd (cc)
by_reply_too (upstream.Answers refused) s due calls reply rest t e = (_, refl)

part_too : (b : Bool) (h : Move) (n : Move) → ((t : Standing) → h ≡ Takes t → ⊥) → TakesToo (if b then h else Waits) n
part_too true h n none t e = absurd (none t e)
part_too false h n none t e = absurd (cc)

reply_front_too : (rules : Rules) (s : Standing) (due : List ℕ) (call : Call) (calls : List Call) (f : Front) → TakesToo (upstream_front rules (owing_upstream s due) call calls f) (upstream_front rules s call calls f)
reply_front_too rules s due call calls Part t e = part_too s.upstream_ended _ _ (λ u h. cc) t e
reply_front_too rules s due call calls (Large n) t e = absurd (cc)
reply_front_too rules s due call calls (Whole frame rest) t e = by_reply_too (rules.replied call frame) s due calls (rules.reply call frame) rest t e

move_too : (none part ended : Bool) (m n : Move) → TakesToo m n → TakesToo (upstream_move none part ended m) (upstream_move none part ended n)
move_too true part ended m n too t e = too t e
move_too false true true m n too t e = absurd (cc)
move_too false true false m n too t e = absurd (cc)
move_too false false ended m n too t e = absurd (cc)

upstream_by_too : (rules : Rules) (limit : ℕ) (s : Standing) (due : List ℕ) (calls : List Call) → TakesToo (upstream_by rules limit (owing_upstream s due) calls) (upstream_by rules limit s calls)
upstream_by_too rules limit s due [] t e = absurd (cc)
upstream_by_too rules limit s due (call ∷ calls) t e =
    move_too (is_none s.to_client) (is_part (front limit s.upstream)) s.upstream_ended _ _ (reply_front_too rules s due call calls (front limit s.upstream)) t e

upstream_too : (rules : Rules) (limit : ℕ) (s : Standing) (due : List ℕ) → TakesToo (of_upstream rules limit (owing_upstream s due)) (of_upstream rules limit s)
unfolding of_upstream
upstream_too rules limit s due = upstream_by_too rules limit s due s.calls

client_waits : (rules : Rules) (limit max_calls : ℕ) (s : Standing) → is_none s.to_upstream ≡ false → of_client rules limit max_calls s ≡ Waits
unfolding of_client
client_waits rules limit max_calls s some = first_fails (is_none s.to_upstream) (nat_lt (length s.calls) max_calls) _ Waits some

upstream_owed : (rules : Rules) (limit max_calls : ℕ) (s : Standing) → is_none s.to_upstream ≡ false → outcome_of rules limit max_calls s ≡ None
unfolding outcome_of
upstream_owed rules limit max_calls s some = second_fails (is_none s.to_client) (is_none s.to_upstream) _ None some

still_owing_upstream : (rules : Rules) (limit max_calls : ℕ) (s : Standing) (due : List ℕ) → is_none due ≡ false → IsStill rules limit max_calls s → IsStill rules limit max_calls (owing_upstream s due)
still_owing_upstream rules limit max_calls s due after still t (ByUpstream e) =
    let too = upstream_too rules limit s due t e in
    still too.0 (ByUpstream too.1)
still_owing_upstream rules limit max_calls s due after still t (ByClient none e) = no_take _ t (client_waits rules limit max_calls (owing_upstream s due) after) e

pub rests_owing_upstream : (rules : Rules) (limit max_calls : ℕ) (s : Standing) (due : List ℕ) (outcome : Option Outcome) → is_none s.to_upstream ≡ false → is_none due ≡ false → IsAtRest rules limit max_calls s outcome → IsAtRest rules limit max_calls (owing_upstream s due) outcome
rests_owing_upstream rules limit max_calls s due outcome before after rest = record {
  still = still_owing_upstream rules limit max_calls s due after rest.still;
  outcome_is = rest.outcome_is ∙ (upstream_owed rules limit max_calls s before ∙ sym (upstream_owed rules limit max_calls (owing_upstream s due) after));
}

-- ---- some of it is left

pub was_some : (old new : List ℕ) (n : ℕ) → 0 < length new → new ≡ drop n old → 0 < length old
was_some old new n some e = omega (arith, some, ap length e ∙ length-drop n old)

-- ---- of either side

pub owes : (r : Bool) (xs ys : List ℕ) → r ≡ false → xs ≡ ys → r ≡ is_none xs → is_none ys ≡ false
owes r xs ys unpaid same is = sym (ap is_none same) ∙ (sym is ∙ unpaid)

owed_length : (xs : List ℕ) → is_none xs ≡ false → 0 < length xs
owed_length [] e = absurd (cc)
owed_length (x ∷ xs) e = omega arith

length_owed : (xs : List ℕ) → 0 < length xs → is_none xs ≡ false
length_owed [] h = absurd (omega (arith, h))
length_owed (x ∷ xs) h = refl

was_owed : (xs : List ℕ) (n : ℕ) → is_none (drop n xs) ≡ false → is_none xs ≡ false
was_owed xs n left = length_owed xs (was_some xs (drop n xs) n (owed_length (drop n xs) left) refl)

-- some of what was due to a side was sent, and some is left: no more can be taken than before
pub rests_owing : (x : Side) (rules : Rules) (limit max_calls : ℕ) (s t : State) (n : ℕ) → t ≡ with_half x s (let_go (half_of x s) n) → is_none (half_of x t).due.bytes ≡ false → IsAtRest rules limit max_calls (standing s) s.outcome → IsAtRest rules limit max_calls (standing t) t.outcome
rests_owing x rules limit max_calls s t n e left rest =
    subst (λ (u : State). IsAtRest rules limit max_calls (standing u) u.outcome) (sym e)
    (by x (sym (ap (λ (u : State). is_none (half_of x u).due.bytes) e) ∙ left))
  where
    by : (y : Side) → is_none (half_of y (with_half y s (let_go (half_of y s) n))).due.bytes ≡ false → IsAtRest rules limit max_calls (standing (with_half y s (let_go (half_of y s) n))) (with_half y s (let_go (half_of y s) n)).outcome
    by side.Client left = rests_owing_client rules limit max_calls (standing s) (drop n s.client.due.bytes) s.outcome (was_owed s.client.due.bytes n left) left rest
    by side.Upstream left = rests_owing_upstream rules limit max_calls (standing s) (drop n s.upstream.due.bytes) s.outcome (was_owed s.upstream.due.bytes n left) left rest
