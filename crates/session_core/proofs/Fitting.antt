-- A session that fits goes on to fit.
use Rattle.std.proofs.Common.{◌≡◌, ℕ, zero, suc, ◌+◌, ◌-◌, ◌<◌, ◌≤◌, List, [], ◌∷◌, ◌++◌, length, length-append, append_assoc, drop, arith, refl, sym, ◌∙◌, ap, subst, Option, Some, slice_get, Bool, true, false, ◌&&◌, nat_lt, if◌then◌else◌}
use Rattle.std.specs.List.{flat_map}
use Rattle.std.proofs.lemmas.Bool.Decides.{nat_tests}
use Rattle.std.proofs.lemmas.List.{append-nil, drop-drop, drop-append-le, length-drop}
use Rattle.std.proofs.lemmas.List.Elements.{All-append, All-nil, All-cons}
use Rattle.std.proofs.lemmas.Grind.{flat_map-append}
use Rattle.framed_transport.specs.Frames.{framed, IsCut}
use Rattle.framed_transport.specs.Front.{Front, Part, Whole, Large, front, is_part}
use Rattle.session_core.specs.Rules.{Rules}
use Rattle.session_core.specs.Standing.{Standing, History}
use Rattle.session_core.specs.Stands.{opened, calls_of, sent_on, back, IsLawful, IsTaken}
use Rattle.session_core.specs.Fits.{Fits, told}
use Rattle.session_core.specs.Steps.{Move, Waits, Halts, Takes, is_none, of_client, client_front, by_judged, of_upstream, upstream_by, upstream_front, upstream_move, by_reply}
use Rattle.session_core.specs.Working.{Cuts, Took, ByUpstream, ByClient, call_front_notes, reply_front_notes}
use Rattle.session_core.specs.Notes.{Note, call_notes}
use Rattle.session_core.specs.Telling.{Asked, Answered, asked_in, answered_in, answer_notes, notes_from, FitsTold}
use Rattle.session_core.specs.declared.judge.Call.{Call}
use Rattle.translate_verdicts.specs.declared.verdict.Cause.{Cause}
use Rattle.session_core.specs.declared.outcome.Halt.{Halt}
use Rattle.session_core.specs.declared.outcome.Halt.TheVariants as halt
use Rattle.session_core.specs.declared.judge.ClientJudged.{ClientJudged}
use Rattle.session_core.specs.declared.judge.ClientJudged.TheVariants as client
use Rattle.session_core.specs.declared.judge.UpstreamJudged.{UpstreamJudged}
use Rattle.session_core.specs.declared.judge.UpstreamJudged.TheVariants as upstream
use Rattle.session_core.proofs.Walks.{each_more, calls_more, onward_more, back_more, back_answered, back_replied}
use Rattle.session_core.proofs.Courses.{asked_more, asked_same, answered_more, answered_same, open_more, open_less, notes_asked, notes_answered}

-- ---- what may have been taken

pub get_front : {X : Type 0} (xs ys : List X) (k : ℕ) → k < length xs → slice_get (xs ++ ys) k ≡ slice_get xs k
get_front [] ys k h = absurd (omega (arith, h))
get_front (x ∷ xs) ys zero h = refl
get_front (x ∷ xs) ys (suc k) h = get_front xs ys k (omega (arith, h))

pub get_dropped : {X : Type 0} (xs : List X) (k : ℕ) (x : X) (rest : List X) → drop k xs ≡ x ∷ rest → slice_get xs k ≡ Some x
get_dropped [] zero x rest e = absurd (cc)
get_dropped [] (suc k) x rest e = absurd (cc)
get_dropped (y ∷ xs) zero x rest e = cc
get_dropped (y ∷ xs) (suc k) x rest e = get_dropped xs k x rest e

-- one frame has one verdict
clash : (rules : Rules) (y : List ℕ) (call other : Call) (halt : Halt) (refused : Option Cause) (calls : List Call) (k : ℕ) → slice_get calls k ≡ Some call → slice_get calls k ≡ Some other → rules.replied call y ≡ upstream.Answers refused → rules.replied other y ≡ upstream.Halts halt → ⊥
clash rules y call other halt refused calls k e f a b =
    let same : call ≡ other = cc in
    let both : upstream.Answers refused ≡ upstream.Halts halt = sym a ∙ (ap (λ c. rules.replied c y) same ∙ b) in
    cc

dropped_more : {X : Type 0} (xs : List X) (n m : ℕ) (x : X) (rest : List X) → drop n xs ≡ x ∷ rest → m ≡ n + 1 → drop m xs ≡ rest
dropped_more xs n m x rest e k = ap (λ i. drop i xs) k ∙ (sym (drop-drop 1 n xs) ∙ ap (drop 1) e)

pub lawful_client : (rules : Rules) (max_calls : ℕ) (xs ys : List (List ℕ)) (x : List ℕ) → IsLawful rules max_calls xs ys → ((halt : Halt) → rules.judged x ≡ client.Halts halt → ⊥) → length (calls_of rules xs) < max_calls + length ys → ((cause : Cause) → rules.judged x ≡ client.Refused cause → length (calls_of rules xs) ≤ length ys) → IsLawful rules max_calls (xs ++ x ∷ []) ys
lawful_client rules max_calls xs ys x l passes few turn = record {
  passes = λ early late y h e j. each_more (λ before z. (halt : Halt) → rules.judged z ≡ client.Halts halt → ⊥) xs x (λ a b z f k i. l.passes a b z k f i) passes early late y e h j;
  few = λ early late y e. each_more (λ before z. length (calls_of rules before) < max_calls + length ys) xs x (λ a b z f. l.few a b z f) few early late y e;
  in_turn = λ early late y cause e j. each_more (λ before z. (k : Cause) → rules.judged z ≡ client.Refused k → length (calls_of rules before) ≤ length ys) xs x (λ a b z f k i. l.in_turn a b z k f i) turn early late y e cause j;
  paired = omega (arith, l.paired, ap length (calls_more rules xs x), length-append (calls_of rules xs) (opened (rules.judged x)));
  replies = λ early late y call h e at j.
      let inside : length early < length (calls_of rules xs) = omega (arith, l.paired, ap length e, length-append early (y ∷ late)) in
      l.replies early late y call h e (sym (get_front (calls_of rules xs) (opened (rules.judged x)) (length early) inside) ∙ (ap (λ cs. slice_get cs (length early)) (sym (calls_more rules xs x)) ∙ at)) j;
}

pub lawful_upstream : (rules : Rules) (max_calls : ℕ) (xs ys : List (List ℕ)) (y : List ℕ) (call : Call) (calls : List Call) (refused : Option Cause) → IsLawful rules max_calls xs ys → drop (length ys) (calls_of rules xs) ≡ call ∷ calls → rules.replied call y ≡ upstream.Answers refused → IsLawful rules max_calls xs (ys ++ y ∷ [])
lawful_upstream rules max_calls xs ys y call calls refused l is_open replied = record {
  passes = l.passes;
  few = λ early late x e. omega (arith, l.few early late x e, length-append ys (y ∷ []));
  in_turn = λ early late x cause e j. omega (arith, l.in_turn early late x cause e j, length-append ys (y ∷ []));
  paired = omega (arith, ap length is_open, length-drop (length ys) (calls_of rules xs), length-append ys (y ∷ []));
  replies = λ early late z k h e at j. each_more (λ before v. (c : Call) (i : Halt) → slice_get (calls_of rules xs) (length before) ≡ Some c → rules.replied c v ≡ upstream.Halts i → ⊥) ys y (λ a b v f c i g m. l.replies a b v c i f g m) (λ c i g m. clash rules y call c i refused (calls_of rules xs) (length ys) (get_dropped (calls_of rules xs) (length ys) call calls is_open) g replied m) early late z e k h at j;
}

pub taken_more : (limit : ℕ) (bytes : List ℕ) (xs : List (List ℕ)) (held x rest : List ℕ) → IsTaken limit bytes xs held → IsCut limit held x rest → IsTaken limit bytes (xs ++ x ∷ []) rest
taken_more limit bytes xs held x rest taken cut = record {
  each = All-append (λ frame. length frame ≤ limit) xs (x ∷ []) taken.each (All-cons (λ frame. length frame ≤ limit) x [] cut.within (All-nil (λ frame. length frame ≤ limit)));
  whole = taken.whole ∙ (ap (λ t. flat_map framed xs ++ t) (cut.whole ∙ ap (λ t. t ++ rest) (sym (append-nil (framed x)))) ∙ (sym (append_assoc (flat_map framed xs) (flat_map framed (x ∷ [])) rest) ∙ ap (λ t. t ++ rest) (sym (flat_map-append framed xs (x ∷ [])))));
}

-- ---- a frame of the client

-- what was told once the client's frame is taken
abbrev noted : Rules → Standing → List Note → List ℕ → List Note
noted rules s past frame = past ++ call_notes (rules.judged frame) (told (s.taken + 1)) frame

client_on : (rules : Rules) (limit max_calls : ℕ) (h : History) (past : List Note) (s t : Standing) (frame rest : List ℕ) (f : FitsTold rules limit max_calls h past s) → IsCut limit s.client frame rest → ((halt : Halt) → rules.judged frame ≡ client.Halts halt → ⊥) → length s.calls < max_calls → ((cause : Cause) → rules.judged frame ≡ client.Refused cause → s.calls ≡ []) → s.to_upstream ≡ [] → t.client ≡ rest → t.upstream ≡ s.upstream → t.to_upstream ≡ sent_on (rules.judged frame) (rules.output frame) → h.to_client ++ t.to_client ≡ back rules (f.fits.xs ++ frame ∷ []) f.fits.ys → t.calls ≡ s.calls ++ opened (rules.judged frame) → t.taken ≡ told (s.taken + 1) → t.answered ≡ s.answered → t.client_ended ≡ s.client_ended → t.upstream_ended ≡ s.upstream_ended → FitsTold rules limit max_calls h (noted rules s past frame) t
client_on rules limit max_calls h past s t frame rest f cut passes few turn none held other out back calls taken answered ends upstream_ends =
    let g = f.fits in
    let long : length s.calls ≡ length (calls_of rules g.xs) - length g.ys = ap length g.calls ∙ length-drop (length g.ys) (calls_of rules g.xs) in
    let number : told (s.taken + 1) ≡ told ((0 + length (asked_in f.course)) + 1) = omega (arith, g.taken, ap length f.asked) in
    record {
      fits = record {
        xs = g.xs ++ frame ∷ [];
        ys = g.ys;
        lawful = lawful_client rules max_calls g.xs g.ys frame g.lawful passes (omega (arith, long, few, g.lawful.paired)) (λ cause j. omega (arith, long, ap length (turn cause j), g.lawful.paired));
        client = subst (λ b. IsTaken limit h.from_client (g.xs ++ frame ∷ []) b) (sym held) (taken_more limit h.from_client g.xs s.client frame rest g.client cut);
        upstream = subst (λ b. IsTaken limit h.from_upstream g.ys b) (sym other) g.upstream;
        to_client = back;
        to_upstream =
            ap (λ b. h.to_upstream ++ b) out
            ∙ (ap (λ b. b ++ sent_on (rules.judged frame) (rules.output frame)) (sym (append-nil h.to_upstream) ∙ (ap (λ b. h.to_upstream ++ b) (sym none) ∙ g.to_upstream))
            ∙ sym (onward_more rules g.xs frame));
        calls =
            calls ∙ (ap (λ c. c ++ opened (rules.judged frame)) g.calls
            ∙ (sym (drop-append-le (length g.ys) (calls_of rules g.xs) (opened (rules.judged frame)) g.lawful.paired)
            ∙ ap (drop (length g.ys)) (sym (calls_more rules g.xs frame))));
        taken = omega (arith, taken, g.taken, length-append g.xs (frame ∷ []));
        answered = answered ∙ g.answered;
        client_ended = ends ∙ g.client_ended;
        upstream_ended = upstream_ends ∙ g.upstream_ended;
      };
      course = f.course ++ Asked frame ∷ [];
      asked = asked_more f.course frame ∙ ap (λ xs. xs ++ frame ∷ []) f.asked;
      answered = answered_same f.course frame ∙ f.answered;
      open_calls = open_more rules [] f.course frame ∙ (ap (λ c. c ++ opened (rules.judged frame)) f.open_calls ∙ sym calls);
      notes_are =
          ap (λ ns. ns ++ call_notes (rules.judged frame) (told (s.taken + 1)) frame) f.notes_are
          ∙ (ap (λ n. notes_from rules 0 0 [] f.course ++ call_notes (rules.judged frame) n frame) number ∙ sym (notes_asked rules 0 0 [] f.course frame));
    }

record ClientTook (rules : Rules) (limit max_calls : ℕ) (s t : Standing) : Type 0 where
  frame : List ℕ
  rest : List ℕ
  none : s.to_upstream ≡ []
  few : length s.calls < max_calls
  whole : front limit s.client ≡ Whole frame rest
  moves : by_judged (rules.judged frame) s (rules.output frame) (rules.answer frame) rest ≡ Takes t

client_by_front : (rules : Rules) (limit max_calls : ℕ) (s t : Standing) (f : Front) → s.to_upstream ≡ [] → length s.calls < max_calls → front limit s.client ≡ f → client_front rules s f ≡ Takes t → ClientTook rules limit max_calls s t
client_by_front rules limit max_calls s t Part none few e m = absurd (cc)
client_by_front rules limit max_calls s t (Large n) none few e m = absurd (cc)
client_by_front rules limit max_calls s t (Whole frame rest) none few e m = record { frame = frame; rest = rest; none = none; few = few; whole = e; moves = m }

client_by_tests : (rules : Rules) (limit max_calls : ℕ) (s t : Standing) (due : List ℕ) (b : Bool) → s.to_upstream ≡ due → nat_lt (length s.calls) max_calls ≡ b → (if is_none due && b then client_front rules s (front limit s.client) else Waits) ≡ Takes t → ClientTook rules limit max_calls s t
client_by_tests rules limit max_calls s t [] true none e m = client_by_front rules limit max_calls s t (front limit s.client) none (grind (arith, nat_tests)) refl m
client_by_tests rules limit max_calls s t [] false none e m = absurd (cc)
client_by_tests rules limit max_calls s t (d ∷ due) b none e m = absurd (cc)

client_took : (rules : Rules) (limit max_calls : ℕ) (s t : Standing) → of_client rules limit max_calls s ≡ Takes t → ClientTook rules limit max_calls s t
unfolding of_client
client_took rules limit max_calls s t e = client_by_tests rules limit max_calls s t s.to_upstream (nat_lt (length s.calls) max_calls) refl refl e

inner : (s t : Standing) → Takes s ≡ Takes t → s ≡ t
inner s t e = cc

-- a refused call was answered
refused_by : (s t : Standing) (output answer rest : List ℕ) (calls : List Call) (due : List ℕ) → s.calls ≡ calls → s.to_client ≡ due → (if is_none calls && is_none due then Takes (record s { client = rest; to_client = framed answer; taken = told (s.taken + 1) }) else Waits) ≡ Takes t → (s.calls ≡ []) × (s.to_client ≡ []) × (record s { client = rest; to_client = framed answer; taken = told (s.taken + 1) } ≡ t)
refused_by s t output answer rest [] [] c d m = (c, d, inner _ _ m)
refused_by s t output answer rest [] (x ∷ due) c d m = absurd (cc)
refused_by s t output answer rest (x ∷ calls) due c d m = absurd (cc)

quiet_back : (rules : Rules) (limit max_calls : ℕ) (h : History) (s : Standing) (frame : List ℕ) (f : Fits rules limit max_calls h s) → ((cause : Cause) → rules.judged frame ≡ client.Refused cause → ⊥) → h.to_client ++ s.to_client ≡ back rules (f.xs ++ frame ∷ []) f.ys
quiet_back rules limit max_calls h s frame f quiet = f.to_client ∙ sym (back_more rules f.xs f.ys frame quiet f.lawful.paired)

fits_by : (rules : Rules) (limit max_calls : ℕ) (h : History) (past : List Note) (s t : Standing) (frame rest : List ℕ) (v : ClientJudged) (f : FitsTold rules limit max_calls h past s) → IsCut limit s.client frame rest → length s.calls < max_calls → s.to_upstream ≡ [] → rules.judged frame ≡ v → by_judged v s (rules.output frame) (rules.answer frame) rest ≡ Takes t → FitsTold rules limit max_calls h (noted rules s past frame) t
fits_by rules limit max_calls h past s t frame rest (client.Halts halt) f cut few none j m = absurd (cc)
fits_by rules limit max_calls h past s t frame rest (client.Opens call) f cut few none j m =
    subst (λ u. FitsTold rules limit max_calls h (noted rules s past frame) u) (inner _ _ m)
    (client_on rules limit max_calls h past s _ frame rest f cut (λ k i. cc) few (λ k i. absurd (cc)) none refl refl (ap (λ u. sent_on u (rules.output frame)) (sym j)) (quiet_back rules limit max_calls h s frame f.fits (λ k i. cc)) (ap (λ u. s.calls ++ opened u) (sym j)) refl refl refl refl)
fits_by rules limit max_calls h past s t frame rest client.Goes f cut few none j m =
    subst (λ u. FitsTold rules limit max_calls h (noted rules s past frame) u) (inner _ _ m)
    (client_on rules limit max_calls h past s _ frame rest f cut (λ k i. cc) few (λ k i. absurd (cc)) none refl refl (ap (λ u. sent_on u (rules.output frame)) (sym j)) (quiet_back rules limit max_calls h s frame f.fits (λ k i. cc)) (sym (append-nil s.calls) ∙ ap (λ u. s.calls ++ opened u) (sym j)) refl refl refl refl)
fits_by rules limit max_calls h past s t frame rest (client.Refused cause) f cut few none j m =
    let parts = refused_by s t (rules.output frame) (rules.answer frame) rest s.calls s.to_client refl refl m in
    let long : length s.calls ≡ length (calls_of rules f.fits.xs) - length f.fits.ys = ap length f.fits.calls ∙ length-drop (length f.fits.ys) (calls_of rules f.fits.xs) in
    let all : length f.fits.ys ≡ length (calls_of rules f.fits.xs) = omega (arith, long, ap length parts.0, f.fits.lawful.paired) in
    let sent : h.to_client ≡ back rules f.fits.xs f.fits.ys = sym (append-nil h.to_client) ∙ (ap (λ b. h.to_client ++ b) (sym parts.1) ∙ f.fits.to_client) in
    subst (λ u. FitsTold rules limit max_calls h (noted rules s past frame) u) parts.2
    (client_on rules limit max_calls h past s _ frame rest f cut (λ k i. cc) few (λ k i. parts.0) none refl refl (none ∙ ap (λ u. sent_on u (rules.output frame)) (sym j)) (ap (λ b. b ++ framed (rules.answer frame)) sent ∙ sym (back_answered rules f.fits.xs f.fits.ys frame cause j all)) (sym (append-nil s.calls) ∙ ap (λ u. s.calls ++ opened u) (sym j)) refl refl refl refl)
fits_by rules limit max_calls h past s t frame rest (client.Dropped cause) f cut few none j m =
    subst (λ u. FitsTold rules limit max_calls h (noted rules s past frame) u) (inner _ _ m)
    (client_on rules limit max_calls h past s _ frame rest f cut (λ k i. cc) few (λ k i. absurd (cc)) none refl refl (none ∙ ap (λ u. sent_on u (rules.output frame)) (sym j)) (quiet_back rules limit max_calls h s frame f.fits (λ k i. cc)) (sym (append-nil s.calls) ∙ ap (λ u. s.calls ++ opened u) (sym j)) refl refl refl refl)

pub fits_client : (rules : Rules) (limit max_calls : ℕ) (h : History) (past added : List Note) (s t : Standing) → of_client rules limit max_calls s ≡ Takes t → Cuts limit s.client → added ≡ call_front_notes rules s.taken (front limit s.client) → FitsTold rules limit max_calls h past s → FitsTold rules limit max_calls h (past ++ added) t
fits_client rules limit max_calls h past added s t e cuts told_are f =
    let took = client_took rules limit max_calls s t e in
    let same : added ≡ call_notes (rules.judged took.frame) (told (s.taken + 1)) took.frame = told_are ∙ ap (call_front_notes rules s.taken) took.whole in
    subst (λ ns. FitsTold rules limit max_calls h (past ++ ns) t) (sym same)
    (fits_by rules limit max_calls h past s t took.frame took.rest (rules.judged took.frame) f (cuts took.frame took.rest took.whole) took.few took.none refl took.moves)

-- ---- a frame of the upstream

record UpstreamTook (rules : Rules) (limit : ℕ) (s t : Standing) : Type 0 where
  call : Call
  calls : List Call
  frame : List ℕ
  rest : List ℕ
  opened : s.calls ≡ call ∷ calls
  none : s.to_client ≡ []
  whole : front limit s.upstream ≡ Whole frame rest
  refused : Option Cause
  answers : rules.replied call frame ≡ upstream.Answers refused
  after : record s { upstream = rest; to_client = framed (rules.reply call frame); calls = calls; answered = told (s.answered + 1) } ≡ t

upstream_by_reply : (rules : Rules) (limit : ℕ) (s t : Standing) (call : Call) (calls : List Call) (frame rest : List ℕ) (v : UpstreamJudged) → s.calls ≡ call ∷ calls → s.to_client ≡ [] → front limit s.upstream ≡ Whole frame rest → rules.replied call frame ≡ v → by_reply v s calls (rules.reply call frame) rest ≡ Takes t → UpstreamTook rules limit s t
upstream_by_reply rules limit s t call calls frame rest (upstream.Halts k) c d w j m = absurd (cc)
upstream_by_reply rules limit s t call calls frame rest (upstream.Answers refused) c d w j m = record { call = call; calls = calls; frame = frame; rest = rest; opened = c; none = d; whole = w; refused = refused; answers = j; after = inner _ _ m }

not_ended : (b : Bool) (t : Standing) → (if b then Halts halt.Inside else Waits) ≡ Takes t → ⊥
not_ended true t m = cc
not_ended false t m = cc

upstream_by_front : (rules : Rules) (limit : ℕ) (s t : Standing) (call : Call) (calls : List Call) (f : Front) → s.calls ≡ call ∷ calls → s.to_client ≡ [] → front limit s.upstream ≡ f → upstream_front rules s call calls f ≡ Takes t → UpstreamTook rules limit s t
upstream_by_front rules limit s t call calls Part c d w m = absurd (not_ended s.upstream_ended t m)
upstream_by_front rules limit s t call calls (Large n) c d w m = absurd (cc)
upstream_by_front rules limit s t call calls (Whole frame rest) c d w m = upstream_by_reply rules limit s t call calls frame rest (rules.replied call frame) c d w refl m

not_due : (part ended : Bool) (move : Move) (t : Standing) → upstream_move false part ended move ≡ Takes t → ⊥
not_due true true move t m = cc
not_due true false move t m = cc
not_due false ended move t m = cc

upstream_by_due : (rules : Rules) (limit : ℕ) (s t : Standing) (call : Call) (calls : List Call) (due : List ℕ) → s.calls ≡ call ∷ calls → s.to_client ≡ due → upstream_move (is_none due) (is_part (front limit s.upstream)) s.upstream_ended (upstream_front rules s call calls (front limit s.upstream)) ≡ Takes t → UpstreamTook rules limit s t
upstream_by_due rules limit s t call calls [] c d m = upstream_by_front rules limit s t call calls (front limit s.upstream) c d refl m
upstream_by_due rules limit s t call calls (x ∷ due) c d m = absurd (not_due (is_part (front limit s.upstream)) s.upstream_ended (upstream_front rules s call calls (front limit s.upstream)) t m)

upstream_by_calls : (rules : Rules) (limit : ℕ) (s t : Standing) (calls : List Call) → s.calls ≡ calls → upstream_by rules limit s calls ≡ Takes t → UpstreamTook rules limit s t
upstream_by_calls rules limit s t [] c m = absurd (cc)
upstream_by_calls rules limit s t (call ∷ calls) c m = upstream_by_due rules limit s t call calls s.to_client c refl m

upstream_took : (rules : Rules) (limit : ℕ) (s t : Standing) → of_upstream rules limit s ≡ Takes t → UpstreamTook rules limit s t
unfolding of_upstream
upstream_took rules limit s t e = upstream_by_calls rules limit s t s.calls refl e

pub fits_upstream : (rules : Rules) (limit max_calls : ℕ) (h : History) (past added : List Note) (s t : Standing) → of_upstream rules limit s ≡ Takes t → Cuts limit s.upstream → added ≡ reply_front_notes rules s (front limit s.upstream) → FitsTold rules limit max_calls h past s → FitsTold rules limit max_calls h (past ++ added) t
fits_upstream rules limit max_calls h past added s t e cuts told_are f =
    let g = f.fits in
    let took = upstream_took rules limit s t e in
    let open_is : drop (length g.ys) (calls_of rules g.xs) ≡ took.call ∷ took.calls = sym g.calls ∙ took.opened in
    let sent : h.to_client ≡ back rules g.xs g.ys = sym (append-nil h.to_client) ∙ (ap (λ b. h.to_client ++ b) (sym took.none) ∙ g.to_client) in
    let left : drop (length (g.ys ++ took.frame ∷ [])) (calls_of rules g.xs) ≡ took.calls = dropped_more (calls_of rules g.xs) (length g.ys) (length (g.ys ++ took.frame ∷ [])) took.call took.calls open_is (length-append g.ys (took.frame ∷ [])) in
    let same : added ≡ answer_notes rules s.calls (told (s.answered + 1)) took.frame = told_are ∙ ap (reply_front_notes rules s) took.whole in
    let number : told (s.answered + 1) ≡ told ((0 + length (answered_in f.course)) + 1) = omega (arith, g.answered, ap length f.answered) in
    subst (λ u. FitsTold rules limit max_calls h (past ++ added) u) took.after
    (record {
      fits = record {
        xs = g.xs;
        ys = g.ys ++ took.frame ∷ [];
        lawful = lawful_upstream rules max_calls g.xs g.ys took.frame took.call took.calls took.refused g.lawful open_is took.answers;
        client = g.client;
        upstream = taken_more limit h.from_upstream g.ys s.upstream took.frame took.rest g.upstream (cuts took.frame took.rest took.whole);
        to_client = ap (λ b. b ++ framed (rules.reply took.call took.frame)) sent ∙ sym (back_replied rules g.xs g.ys took.frame took.call took.calls open_is g.lawful.in_turn);
        to_upstream = g.to_upstream;
        calls = sym left;
        taken = g.taken;
        answered = omega (arith, g.answered, length-append g.ys (took.frame ∷ []));
        client_ended = g.client_ended;
        upstream_ended = g.upstream_ended;
      };
      course = f.course ++ Answered took.frame ∷ [];
      asked = asked_same f.course took.frame ∙ f.asked;
      answered = answered_more f.course took.frame ∙ ap (λ ys. ys ++ took.frame ∷ []) f.answered;
      open_calls = open_less rules [] f.course took.frame ∙ (ap (drop 1) f.open_calls ∙ ap (drop 1) took.opened);
      notes_are =
          ap (λ ns. past ++ ns) same
          ∙ (ap (λ ns. ns ++ answer_notes rules s.calls (told (s.answered + 1)) took.frame) f.notes_are
          ∙ (ap (λ n. notes_from rules 0 0 [] f.course ++ answer_notes rules s.calls n took.frame) number
          ∙ (ap (λ cs. notes_from rules 0 0 [] f.course ++ answer_notes rules cs (told ((0 + length (answered_in f.course)) + 1)) took.frame) (sym f.open_calls)
          ∙ sym (notes_answered rules 0 0 [] f.course took.frame))));
    })

pub fits_on : (rules : Rules) (limit max_calls : ℕ) (h : History) (past added : List Note) (s t : Standing) → Took rules limit max_calls s t added → FitsTold rules limit max_calls h past s → FitsTold rules limit max_calls h (past ++ added) t
fits_on rules limit max_calls h past added s t (ByUpstream e cuts told_are) f = fits_upstream rules limit max_calls h past added s t e cuts told_are f
fits_on rules limit max_calls h past added s t (ByClient w e cuts told_are) f = fits_client rules limit max_calls h past added s t e cuts told_are f

-- ---- what is held after a step

rests_by : (s t : Standing) (v : ClientJudged) (output answer rest : List ℕ) → by_judged v s output answer rest ≡ Takes t → (t.client ≡ rest) × (t.upstream ≡ s.upstream)
rests_by s t (client.Halts k) output answer rest m = absurd (cc)
rests_by s t (client.Opens call) output answer rest m = let e = inner _ _ m in (ap (λ (u : Standing). u.client) (sym e), ap (λ (u : Standing). u.upstream) (sym e))
rests_by s t client.Goes output answer rest m = let e = inner _ _ m in (ap (λ (u : Standing). u.client) (sym e), ap (λ (u : Standing). u.upstream) (sym e))
rests_by s t (client.Refused cause) output answer rest m =
    let e = (refused_by s t output answer rest s.calls s.to_client refl refl m).2 in
    (ap (λ (u : Standing). u.client) (sym e), ap (λ (u : Standing). u.upstream) (sym e))
rests_by s t (client.Dropped cause) output answer rest m = let e = inner _ _ m in (ap (λ (u : Standing). u.client) (sym e), ap (λ (u : Standing). u.upstream) (sym e))

pub client_took_rests : (rules : Rules) (limit max_calls : ℕ) (s t : Standing) → of_client rules limit max_calls s ≡ Takes t → (frame : List ℕ) × (rest : List ℕ) × (front limit s.client ≡ Whole frame rest) × (t.client ≡ rest) × (t.upstream ≡ s.upstream)
client_took_rests rules limit max_calls s t e =
    let took = client_took rules limit max_calls s t e in
    let r = rests_by s t (rules.judged took.frame) (rules.output took.frame) (rules.answer took.frame) took.rest took.moves in
    (took.frame, took.rest, took.whole, r.0, r.1)

pub upstream_took_rests : (rules : Rules) (limit : ℕ) (s t : Standing) → of_upstream rules limit s ≡ Takes t → (frame : List ℕ) × (rest : List ℕ) × (front limit s.upstream ≡ Whole frame rest) × (t.upstream ≡ rest) × (t.client ≡ s.client)
upstream_took_rests rules limit s t e =
    let took = upstream_took rules limit s t e in
    (took.frame, took.rest, took.whole, ap (λ (u : Standing). u.upstream) (sym took.after), ap (λ (u : Standing). u.client) (sym took.after))
