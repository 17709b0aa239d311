-- What a look at a side comes to.
use Rattle.std.proofs.Common.{◌≡◌, ℕ, ◌+◌, ◌-◌, ◌==◌, ◌<◌, ◌≤◌, List, [], ◌∷◌, ◌++◌, length, length-append, drop, arith, refl, sym, ◌∙◌, ap, subst, Bool, true, false, ◌&&◌, nat_lt, if◌then◌else◌, Option, Some, None, IfSome, slice_get, append_assoc, ◌^◌}
use Rattle.std.proofs.lemmas.Bool.Decides.{nat_tests}
use Rattle.framed_transport.specs.Front.{Front, Part, Whole, front, is_part, behind}
use Rattle.session_core.specs.Rules.{Rules}
use Rattle.session_core.specs.Standing.{Standing}
use Rattle.session_core.specs.Steps.{Move, Waits, Halts, Takes, is_none, of_client, client_front, by_judged, of_upstream, upstream_by, upstream_front, upstream_move, by_reply}
use Rattle.session_core.specs.Fits.{told}
use Rattle.framed_transport.specs.Frames.{framed, IsCut}
use Rattle.session_core.specs.Working.{limit_of, Comes, ends_step, Cuts, Took, ByUpstream, ByClient, Knows, IsFound, judged_as, told_if, reply_front_notes, call_front_notes}
use Rattle.session_core.specs.Notes.{Note, call_notes, reply_notes, reply_notes_by}
use Rattle.session_core.specs.Telling.{answer_notes}
use Rattle.session_core.specs.declared.half.Half.{Half}
use Rattle.session_core.specs.declared.state.State.{State}
use Rattle.session_core.specs.declared.state.Waiting.{Waiting}
use Rattle.session_core.specs.declared.state.Waiting.TheVariants as waiting
use Rattle.session_core.specs.declared.outcome.Halt.{Halt}
use Rattle.session_core.specs.declared.state.SessionStep.{SessionStep}
use Rattle.translate_verdicts.specs.declared.verdict.Cause.{Cause}
use Rattle.session_core.specs.declared.judge.ClientJudged.TheVariants as client
use Rattle.session_core.specs.declared.judge.Call.{Call}
use Rattle.session_core.specs.declared.judge.ClientJudged.{ClientJudged}
use Rattle.session_core.specs.declared.judge.UpstreamJudged.{UpstreamJudged}
use Rattle.session_core.specs.declared.judge.UpstreamJudged.TheVariants as upstream

-- a frame on the stream stands at its front
abbrev pub StandsAtFront : Type 0
StandsAtFront = (limit : ℕ) (frame rest : List ℕ) → limit < 2 ^ 31 → length frame ≤ limit → front limit (framed frame ++ rest) ≡ Whole frame rest

pub none_of : {X : Type 0} (xs : List X) → length xs ≡ 0 → xs ≡ []
none_of [] e = refl
none_of (x ∷ xs) e = absurd (omega (arith, e))

pub some_of : {X : Type 0} (xs : List X) → 0 < length xs → is_none xs ≡ false
some_of [] h = absurd (omega (arith, h))
some_of (x ∷ xs) h = refl

pub first_of : {X : Type 0} (xs : List X) (x : X) → slice_get xs 0 ≡ Some x → xs ≡ x ∷ drop 1 xs
first_of [] x e = absurd (cc)
first_of (y ∷ xs) x e = cc

pub first_at : {X : Type 0} (xs : List X) (x y : X) → Some x ≡ slice_get xs 0 → y ≡ x → xs ≡ y ∷ drop 1 xs
first_at xs x y e same = first_of xs y (sym e ∙ ap Some (sym same))

pub no_first : {X : Type 0} (xs : List X) → slice_get xs 0 ≡ None → xs ≡ []
no_first [] e = refl
no_first (y ∷ xs) e = absurd (cc)

-- ---- the client

-- it is looked at
pub looks : (rules : Rules) (limit max_calls : ℕ) (s : Standing) (f : Front) → s.to_upstream ≡ [] → length s.calls < max_calls → front limit s.client ≡ f → of_client rules limit max_calls s ≡ client_front rules s f
unfolding of_client
looks rules limit max_calls s f none few e =
    let lt : nat_lt (length s.calls) max_calls ≡ true = grind (arith, nat_tests) in
    rw (none, lt, e) refl

-- and judged
pub judges : (rules : Rules) (limit max_calls : ℕ) (s : Standing) (frame rest : List ℕ) (v : ClientJudged) → s.to_upstream ≡ [] → length s.calls < max_calls → front limit s.client ≡ Whole frame rest → rules.judged frame ≡ v → of_client rules limit max_calls s ≡ by_judged v s (rules.output frame) (rules.answer frame) rest
judges rules limit max_calls s frame rest v none few e j =
    looks rules limit max_calls s (Whole frame rest) none few e ∙ ap (λ (w : ClientJudged). by_judged w s (rules.output frame) (rules.answer frame) rest) j

pub waits_for_upstream : (rules : Rules) (limit max_calls : ℕ) (s : Standing) → 0 < length s.to_upstream → of_client rules limit max_calls s ≡ Waits
unfolding of_client
waits_for_upstream rules limit max_calls s some = rw (some_of s.to_upstream some) refl

by_test : {X : Type 0} (a b : Bool) (x y : X) → b ≡ false → (if a && b then x else y) ≡ y
by_test true b x y e = rw e refl
by_test false b x y e = refl

pub waits_for_call : (rules : Rules) (limit max_calls : ℕ) (s : Standing) → max_calls ≤ length s.calls → of_client rules limit max_calls s ≡ Waits
unfolding of_client
waits_for_call rules limit max_calls s many =
    let no : nat_lt (length s.calls) max_calls ≡ false = grind (arith, nat_tests) in
    by_test (is_none s.to_upstream) (nat_lt (length s.calls) max_calls) (client_front rules s (front limit s.client)) Waits no

-- ---- the upstream

pub no_call : (rules : Rules) (limit : ℕ) (s : Standing) → s.calls ≡ [] → of_upstream rules limit s ≡ Waits
unfolding of_upstream
no_call rules limit s e = rw e refl

pub asks : (rules : Rules) (limit : ℕ) (s : Standing) (call : Call) (calls : List Call) (f : Front) → s.calls ≡ call ∷ calls → s.to_client ≡ [] → front limit s.upstream ≡ f → of_upstream rules limit s ≡ upstream_front rules s call calls f
unfolding of_upstream
asks rules limit s call calls f e none g = rw (e, none, g) refl

pub answers : (rules : Rules) (limit : ℕ) (s : Standing) (call : Call) (calls : List Call) (frame rest : List ℕ) (v : UpstreamJudged) → s.calls ≡ call ∷ calls → s.to_client ≡ [] → front limit s.upstream ≡ Whole frame rest → rules.replied call frame ≡ v → of_upstream rules limit s ≡ by_reply v s calls (rules.reply call frame) rest
answers rules limit s call calls frame rest v e none g j =
    asks rules limit s call calls (Whole frame rest) e none g ∙ ap (λ (w : UpstreamJudged). by_reply w s calls (rules.reply call frame) rest) j

-- the upstream's end alone halts where something is due to the client
ends_by : (part ended : Bool) (m : Move) (s : Standing) → Comes (ends_step part ended) (upstream_move false part ended m) s s
ends_by true true m s = (refl, refl)
ends_by true false m s = (refl, refl)
ends_by false ended m s = (refl, refl)

pub due_first : (rules : Rules) (limit : ℕ) (s : Standing) (call : Call) (calls : List Call) → s.calls ≡ call ∷ calls → 0 < length s.to_client → Comes (ends_step (is_part (front limit s.upstream)) s.upstream_ended) (of_upstream rules limit s) s s
unfolding of_upstream
due_first rules limit s call calls e some =
    let part = is_part (front limit s.upstream) in
    let move = upstream_front rules s call calls (front limit s.upstream) in
    subst (λ (cs : List Call). Comes (ends_step part s.upstream_ended) (upstream_by rules limit s cs) s s) (sym e)
    (subst (λ (b : Bool). Comes (ends_step part s.upstream_ended) (upstream_move b part s.upstream_ended move) s s) (sym (some_of s.to_client some))
    (ends_by part s.upstream_ended move s))

part_by : (ended : Bool) (s : Standing) → Comes (ends_step true ended) (if ended then Halts Rattle.session_core.specs.declared.outcome.Halt.TheVariants.Inside else Waits) s s
part_by true s = (refl, refl)
part_by false s = (refl, refl)

pub no_reply : (rules : Rules) (limit : ℕ) (s : Standing) (call : Call) (calls : List Call) → s.calls ≡ call ∷ calls → s.to_client ≡ [] → front limit s.upstream ≡ Part → Comes (ends_step (is_part (front limit s.upstream)) s.upstream_ended) (of_upstream rules limit s) s s
no_reply rules limit s call calls e none g =
    rw (asks rules limit s call calls Part e none g, g) (part_by s.upstream_ended s)

-- ---- what the program knows

pub empty_is : (r : Bool) (xs ys : List ℕ) → r ≡ true → r ≡ (length xs == 0) → xs ≡ ys → ys ≡ []
empty_is r xs ys t e same = none_of ys (grind (arith, nat_tests, ap length same))

pub some_is : (r : Bool) (xs ys : List ℕ) → r ≡ false → r ≡ (length xs == 0) → xs ≡ ys → 0 < length ys
some_is r xs ys t e same = grind (arith, nat_tests, ap length same)

pub paid_none : {X : Type 0} (r : Bool) (xs : List X) → r ≡ true → r ≡ is_none xs → xs ≡ []
paid_none r [] t e = refl
paid_none r (x ∷ xs) t e = absurd (cc)

pub owed_some : {X : Type 0} (r : Bool) (xs : List X) → r ≡ false → r ≡ is_none xs → 0 < length xs
owed_some r [] t e = absurd (cc)
owed_some r (x ∷ xs) t e = omega arith

-- whether a call is open
pub none_open : {X : Type 0} (r : Bool) (xs : List X) → r ≡ true → r ≡ (length xs == 0) → xs ≡ []
none_open r xs t e = none_of xs (grind (arith, nat_tests))

pub some_open : {X : Type 0} (r : Bool) (xs : List X) → r ≡ false → r ≡ (length xs == 0) → (x : X) × (xs ≡ x ∷ drop 1 xs)
some_open r [] t e = absurd (cc)
some_open r (x ∷ xs) t e = (x, refl)

pub behind_whole : (limit : ℕ) (held frame rest : List ℕ) → front limit held ≡ Whole frame rest → behind held (front limit held) ≡ rest
behind_whole limit held frame rest e = ap (behind held) e

pub pushed : (xs : List Call) (x : Call) (max_calls : ℕ) → length xs < max_calls → drop (length (xs ++ x ∷ []) - max_calls) (xs ++ x ∷ []) ≡ xs ++ x ∷ []
pushed xs x max_calls few =
    let e : length (xs ++ x ∷ []) - max_calls ≡ 0 = omega (arith, length-append xs (x ∷ [])) in
    ap (λ n. drop n (xs ++ x ∷ [])) e

pub other_limit : (limit other : ℕ) (held : List ℕ) (f : Front) → other ≡ limit → front other held ≡ f → front limit held ≡ f
other_limit limit other held f e g = ap (λ n. front n held) (sym e) ∙ g

-- what stands once a frame of the client is let go
pub after_client : (s t : Standing) (held rest out bytes : List ℕ) (calls more : List Call) → t ≡ record s { client = held; to_upstream = out; calls = calls; taken = told (s.taken + 1) } → held ≡ rest → out ≡ bytes → calls ≡ more → record s { client = rest; to_upstream = bytes; calls = more; taken = told (s.taken + 1) } ≡ t
after_client s t held rest out bytes calls more e a b d = rw (← a, ← b, ← d) (sym e)

-- and one of the upstream
pub after_upstream : (s t : Standing) (held rest out bytes : List ℕ) (calls more : List Call) → t ≡ record s { upstream = held; to_client = out; calls = calls; answered = told (s.answered + 1) } → held ≡ rest → out ≡ bytes → calls ≡ more → record s { upstream = rest; to_client = bytes; calls = more; answered = told (s.answered + 1) } ≡ t
after_upstream s t held rest out bytes calls more e a b d = rw (← a, ← b, ← d) (sym e)

-- the answer's turn, once nothing is written to the upstream
pub refused_step : (came : SessionStep) (rules : Rules) (limit max_calls : ℕ) (s mid t : Standing) (frame rest answer : List ℕ) (cause : Cause) → s.to_upstream ≡ [] → length s.calls < max_calls → front limit s.client ≡ Whole frame rest → rules.judged frame ≡ client.Refused cause → mid ≡ s → answer ≡ rules.answer frame → Comes came (by_judged (client.Refused cause) mid [] answer rest) mid t → Comes came (of_client rules limit max_calls s) s t
refused_step came rules limit max_calls s mid t frame rest answer cause none few e j same is h =
    subst (λ (m : Move). Comes came m s t) (sym (judges rules limit max_calls s frame rest (client.Refused cause) none few e j))
    (subst (λ (m : Standing). Comes came (by_judged (client.Refused cause) m (rules.output frame) (rules.answer frame) rest) m t) same
    (subst (λ (a : List ℕ). Comes came (by_judged (client.Refused cause) mid (rules.output frame) a rest) mid t) is h))

-- ---- a step was taken

pub took_upstream : (rules : Rules) (limit other max_calls : ℕ) (s t : Standing) → other ≡ limit → of_upstream rules limit s ≡ Takes t → Cuts other s.upstream → Took rules limit max_calls s t (reply_front_notes rules s (front limit s.upstream))
took_upstream rules limit other max_calls s t same e cut = ByUpstream e (subst (λ (k : ℕ). Cuts k s.upstream) same cut) refl

pub took_client : (rules others : Rules) (limit k max_calls m : ℕ) (s mid t : Standing) → of_upstream rules limit s ≡ Waits → mid ≡ s → others ≡ rules → k ≡ limit → m ≡ max_calls → of_client others k m mid ≡ Takes t → Cuts k mid.client → Took rules limit max_calls s t (call_front_notes others mid.taken (front k mid.client))
took_client rules others limit k max_calls m s mid t waits same judge limits many e cut =
    ByClient waits (cc)
    (subst (λ (n : ℕ). Cuts n s.client) limits (subst (λ (x : Standing). Cuts k x.client) same cut))
    (ap (λ (x : Standing). call_front_notes others x.taken (front k x.client)) same
    ∙ (ap (λ (r : Rules). call_front_notes r s.taken (front k s.client)) judge ∙ ap (λ (n : ℕ). call_front_notes rules s.taken (front n s.client)) limits))

pub client_at : (rules others : Rules) (limit k max_calls m : ℕ) (s mid : Standing) → mid ≡ s → others ≡ rules → k ≡ limit → m ≡ max_calls → of_client rules limit max_calls s ≡ of_client others k m mid
client_at rules others limit k max_calls m s mid same judge limits many =
    sym (ap (λ (x : Standing). of_client others k m x) same
    ∙ (ap (λ (r : Rules). of_client r k m s) judge ∙ (ap (λ (n : ℕ). of_client rules n m s) limits ∙ ap (λ (n : ℕ). of_client rules limit n s) many)))

-- ---- what is told at a step

pub told_ends : (came : SessionStep) (part ended : Bool) (notes : List Note) → came ≡ ends_step part ended → [] ≡ told_if came notes
told_ends came part ended notes is = none part ended ∙ ap (λ (c : SessionStep). told_if c notes) (sym is)
  where
    none : (part ended : Bool) → [] ≡ told_if (ends_step part ended) notes
    none true true = refl
    none true false = refl
    none false ended = refl

pub reply_told : (rules : Rules) (limit : ℕ) (s : Standing) (call : Call) (calls : List Call) (frame rest : List ℕ) (refused : Option Cause) (n : ℕ) → s.calls ≡ call ∷ calls → front limit s.upstream ≡ Whole frame rest → rules.replied call frame ≡ upstream.Answers refused → n ≡ told (s.answered + 1) → reply_notes_by 0 refused n frame ≡ reply_front_notes rules s (front limit s.upstream)
reply_told rules limit s call calls frame rest refused n open_is whole replied number =
    ap (λ (k : ℕ). reply_notes_by 0 refused k frame) number
    ∙ sym (ap (reply_front_notes rules s) whole
    ∙ (ap (λ (cs : List Call). answer_notes rules cs (told (s.answered + 1)) frame) open_is ∙ ap (λ (v : UpstreamJudged). reply_notes 0 v (told (s.answered + 1)) frame) replied))

pub call_told : (rules : Rules) (limit taken : ℕ) (held frame rest : List ℕ) (v : ClientJudged) (n : ℕ) → front limit held ≡ Whole frame rest → rules.judged frame ≡ v → n ≡ told (taken + 1) → call_notes v n frame ≡ call_front_notes rules taken (front limit held)
call_told rules limit taken held frame rest v n whole judged number =
    ap (λ (k : ℕ). call_notes v k frame) number
    ∙ sym (ap (call_front_notes rules taken) whole ∙ ap (λ (u : ClientJudged). call_notes u (told (taken + 1)) frame) judged)

-- ---- what is known of a frame that waits

pub knows_nothing : (rules : Rules) (s : State) → s.known ≡ None → Knows rules s
knows_nothing rules s none = subst (λ (o : Option Waiting). IfSome o (λ found. IsFound rules (limit_of s) s.client.held.held found)) (sym none) tt

pub found_refused : (rules : Rules) (limit : ℕ) (held : List ℕ) (w : Waiting) (cause : Cause) → IsFound rules limit held w → w ≡ waiting.Refused cause → IsFound rules limit held (waiting.Refused cause)
found_refused rules limit held w cause f is = subst (λ (x : Waiting). IsFound rules limit held x) is f

-- what stands at the front is the frame that was found
pub same_found : (rules : Rules) (limit : ℕ) (held : List ℕ) (w : Waiting) (frame rest : List ℕ) → (f : IsFound rules limit held w) → front limit held ≡ Whole frame rest → (f.frame ≡ frame) × (f.rest ≡ rest)
same_found rules limit held w frame rest f e = let both : Whole f.frame f.rest ≡ Whole frame rest = sym f.stands ∙ e in (cc, cc)

pub found_cuts : (rules : Rules) (limit : ℕ) (held : List ℕ) (w : Waiting) → IsFound rules limit held w → Cuts limit held
found_cuts rules limit held w f = λ frame rest e.
    let same = same_found rules limit held w frame rest f e in
    subst (λ (x : List ℕ). IsCut limit held x rest) same.0 (subst (λ (x : List ℕ). IsCut limit held f.frame x) same.1 f.cut)

pub waits_halted : (rules : Rules) (limit max_calls : ℕ) (s : Standing) (w : Waiting) (h : Halt) → s.to_upstream ≡ [] → length s.calls < max_calls → IsFound rules limit s.client w → w ≡ waiting.Halts h → of_client rules limit max_calls s ≡ Halts h
waits_halted rules limit max_calls s w h none few f is = judges rules limit max_calls s f.frame f.rest (client.Halts h) none few f.stands (f.judged ∙ ap judged_as is)

pub waits_refused : (came : SessionStep) (rules : Rules) (limit max_calls : ℕ) (s t : Standing) (w : Waiting) (cause : Cause) → s.to_upstream ≡ [] → length s.calls < max_calls → (f : IsFound rules limit s.client w) → w ≡ waiting.Refused cause → Comes came (by_judged (client.Refused cause) s [] (rules.answer f.frame) f.rest) s t → Comes came (of_client rules limit max_calls s) s t
waits_refused came rules limit max_calls s t w cause none few f is h =
    refused_step came rules limit max_calls s s t f.frame f.rest (rules.answer f.frame) cause none few f.stands (f.judged ∙ ap judged_as is) refl refl h

-- more bytes behind it change nothing
pub found_fed : (rules : Rules) (limit : ℕ) (held more : List ℕ) (w : Waiting) → StandsAtFront → limit < 2 ^ 31 → IsFound rules limit held w → IsFound rules limit (held ++ more) w
found_fed rules limit held more w law small f =
    let whole : held ++ more ≡ framed f.frame ++ (f.rest ++ more) = ap (λ (xs : List ℕ). xs ++ more) f.cut.whole ∙ append_assoc (framed f.frame) f.rest more in
    record {
      frame = f.frame;
      rest = f.rest ++ more;
      stands = ap (front limit) whole ∙ law limit f.frame (f.rest ++ more) small f.cut.within;
      cut = record { within = f.cut.within; whole = whole };
      judged = f.judged;
    }

pub fed_by : (o : Option Waiting) (rules : Rules) (limit : ℕ) (held more : List ℕ) → StandsAtFront → limit < 2 ^ 31 → IfSome o (λ w. IsFound rules limit held w) → IfSome o (λ w. IsFound rules limit (held ++ more) w)
fed_by None rules limit held more law small known = tt
fed_by (Some w) rules limit held more law small known = found_fed rules limit held more w law small known

pub knows_kept : (rules : Rules) (s t : State) → t.known ≡ s.known → t.client ≡ s.client → Knows rules s → Knows rules t
knows_kept rules s t known kept k =
    subst (λ (o : Option Waiting). IfSome o (λ w. IsFound rules (limit_of t) t.client.held.held w)) (sym known)
    (subst (λ (b : Half). IfSome s.known (λ w. IsFound rules b.held.limit b.held.held w)) (sym kept) k)

pub knows_found : (rules : Rules) (s : State) (w : Waiting) → s.known ≡ Some w → IsFound rules (limit_of s) s.client.held.held w → Knows rules s
knows_found rules s w known f = subst (λ (o : Option Waiting). IfSome o (λ found. IsFound rules (limit_of s) s.client.held.held found)) (sym known) f

pub found_of : (rules : Rules) (s : State) (w : Waiting) → s.known ≡ Some w → Knows rules s → IsFound rules (limit_of s) s.client.held.held w
found_of rules s w known k = subst (λ (o : Option Waiting). IfSome o (λ found. IsFound rules (limit_of s) s.client.held.held found)) known k

-- ---- a frame that was judged just now

pub found_at : (rules : Rules) (limit : ℕ) (held frame rest : List ℕ) (w : Waiting) → front limit held ≡ Whole frame rest → Cuts limit held → rules.judged frame ≡ judged_as w → IsFound rules limit held w
found_at rules limit held frame rest w stands cuts judged = record { frame = frame; rest = rest; stands = stands; cut = cuts frame rest stands; judged = judged }

pub refused_at : (rules : Rules) (limit : ℕ) (held : List ℕ) (cause : Cause) (frame rest : List ℕ) → IsFound rules limit held (waiting.Refused cause) → front limit held ≡ Whole frame rest → rules.judged frame ≡ client.Refused cause
refused_at rules limit held cause frame rest f e = ap rules.judged (sym (same_found rules limit held (waiting.Refused cause) frame rest f e).0) ∙ f.judged

-- the same by the judge before, which is the same
pub found_by : (J : Type 0) (rules : J → Rules) (j k : J) (limit : ℕ) (held : List ℕ) (w : Waiting) → k ≡ j → IsFound (rules j) limit held w → IsFound (rules k) limit held w
found_by J rules j k limit held w same f = subst (λ (x : J). IsFound (rules x) limit held w) (sym same) f

pub knows_by : (J : Type 0) (rules : J → Rules) (j k : J) (s : State) → k ≡ j → Knows (rules k) s → Knows (rules j) s
knows_by J rules j k s same known = subst (λ (x : J). Knows (rules x) s) same known
