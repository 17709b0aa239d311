-- Frames that are held and pass one after another in the loop of their pair.
use Rattle.std.proofs.Common.{◌≡◌, ℕ, ◌+◌, ◌≤◌, List, [], ◌∷◌, ◌++◌, length, take, drop, arith, refl, sym, ◌∙◌, ap, subst, append_assoc, true, Ok}
use Rattle.std.proofs.lemmas.List.{append-nil, drop-drop, take_at, take-take, length-append, length-drop, length-take-le}
use Rattle.std.proofs.Math.Seq.{take-append-add}
use Rattle.std.specs.Int.{to_be_bytes, w32}
use Rattle.gate_io.specs.Buffer.{Buffer}
use Rattle.framed_transport.specs.Frames.{framed}
use Rattle.line_transport.specs.Buffers.{Incoming}
use Rattle.line_transport.specs.Cuts.{Spans, sent}
use Rattle.line_transport.specs.declared.transport.Transport.{Transport}
use Rattle.line_transport.specs.declared.transport.Transport.TheVariants.{Frames}
use Rattle.line_transport.proofs.Spanning.{spans_one}
use Rattle.protocol_traits.specs.declared.proto.Proto.{Proto}
use Rattle.translate_verdicts.specs.declared.verdict.Verdict.{Verdict}
use Rattle.translate_verdicts.specs.declared.verdict.Verdict.TheVariants.{Passed}
use Rattle.gate_streams.specs.Handling.{Treated, passes, sent_by, treated, treated_by, translated}
use Rattle.gate_streams.specs.Progress.{Moment}
use Rattle.gate_streams.specs.Running.{ConvertsNext, IsConversion, Runs}
use Rattle.gate_streams.specs.Terms.{Terms, judged_by}
use Rattle.gate_streams.specs.Working.{Gathers, IsHandled, Waits, moment}
use Rattle.gate_streams.specs.declared.stream.Work.{Work}
use Rattle.gate_streams.specs.declared.task.Doing.{Doing}
use Rattle.gate_streams.proofs.Gathering.{not_refused}
use Rattle.gate_streams.proofs.Progress.{waits_one}
use Rattle.gate_streams.proofs.Treating.{passed_is_handled, translation_passed}

-- what a frame that was cut off took
pub framed_long : (held frame rest : List ℕ) → held ≡ framed frame ++ rest → 4 + length frame ≤ length held
unfolding framed
framed_long held frame rest is =
    let size : length (to_be_bytes w32 (length frame)) ≡ 4 = refl in
    let whole : length held ≡ length (framed frame) + length rest = ap length is ∙ length-append (framed frame) rest in
    let front : length (framed frame) ≡ 4 + length frame = length-append (to_be_bytes w32 (length frame)) frame in
    omega (arith, whole, front)

-- what stands before four bytes
pub front_before : (old mid : List ℕ) (to : ℕ) → take (to + 4) mid ≡ take (to + 4) old → take to mid ≡ take to old
front_before old mid to front = sym (take-take to (to + 4) mid (omega arith)) ∙ (ap (take to) front ∙ take-take to (to + 4) old (omega arith))

-- a length behind what stood before
pub front_behind : (old mid new four : List ℕ) (to : ℕ) → length mid ≡ length old → take (to + 4) mid ≡ take (to + 4) old → to ≤ length old → new ≡ take to mid ++ four ++ drop (to + 4) mid → take to new ≡ take to old
front_behind old mid new four to kept front within is =
    let tail = drop (to + 4) mid in
    let place : length (take to mid) ≡ to = length-take-le to mid (omega (arith, kept, within)) in
    ap (take to) (is ∙ append_assoc (take to mid) four tail) ∙ (take_at (take to mid) (four ++ tail) to place ∙ front_before old mid to front)

-- a length and what it tells, behind what stood before
pub laid_behind : (old mid new bytes : List ℕ) (to n : ℕ) → length mid ≡ length old → take (to + 4) mid ≡ take (to + 4) old → take n (drop (to + 4) mid) ≡ bytes → to + (4 + n) ≤ length old
    → new ≡ take to mid ++ to_be_bytes w32 n ++ drop (to + 4) mid → take (to + (4 + n)) new ≡ take to old ++ sent Frames bytes
unfolding framed
laid_behind old mid new bytes to n kept front laid within is =
    let tail = drop (to + 4) mid in
    let four = to_be_bytes w32 n in
    let place : length (take to mid) ≡ to = length-take-le to mid (omega (arith, kept, within)) in
    let before : take to mid ≡ take to old = front_before old mid to front in
    let long : n ≤ length tail = omega (arith, kept, within, length-drop (to + 4) mid) in
    let size : n ≡ length bytes = sym (length-take-le n tail long) ∙ ap length laid in
    let first : take (to + (4 + n)) new ≡ take (to + (4 + n)) (take to mid ++ (four ++ tail)) = ap (take (to + (4 + n))) (is ∙ append_assoc (take to mid) four tail) in
    let second : take (to + (4 + n)) (take to mid ++ (four ++ tail)) ≡ take to mid ++ take (4 + n) (four ++ tail) =
    subst (λ (at : ℕ). take (at + (4 + n)) (take to mid ++ (four ++ tail)) ≡ take to mid ++ take (4 + n) (four ++ tail)) place (take-append-add (take to mid) (four ++ tail) (4 + n)) in
    let third : take (4 + n) (four ++ tail) ≡ four ++ take n tail = take-append-add four tail n in
    let fourth : four ++ take n tail ≡ to_be_bytes w32 (length bytes) ++ bytes = ap (λ (xs : List ℕ). four ++ xs) laid ∙ ap (λ (m : ℕ). to_be_bytes w32 m ++ bytes) size in
    first ∙ (second ∙ (ap (λ (xs : List ℕ). take to mid ++ xs) (third ∙ fourth) ∙ ap (λ (xs : List ℕ). xs ++ (to_be_bytes w32 (length bytes) ++ bytes)) before))

pub runs_none : (k : Terms) (held : List ℕ) → Runs k held held 0 []
runs_none k held a b out waiting is waits =
    let zero : b.frames ≡ b.frames + 0 = omega arith in
    subst (λ (xs : List ℕ). Waits k a (record b { held = held; frames = b.frames + 0 }) xs waiting) (sym (append-nil out))
    (subst (λ (n : ℕ). Waits k a (record b { held = held; frames = n }) out waiting) zero
    (subst (λ (xs : List ℕ). Waits k a (record b { held = xs }) out waiting) is waits))

-- one more
pub runs_on : (k : Terms) (from to : Proto) (held bytes new : List ℕ) (read n size : ℕ) → IsConversion k from to → Runs k held (drop read held) n bytes → ConvertsNext k from to (drop read held) size bytes new
    → Runs k held (drop (read + (4 + size)) held) (n + 1) new
runs_on k from to held bytes new read n size conversion before (frame, info, size_is, cut, passed, appended) a b out waiting is waits =
    let j = judged_by k from to frame in
    let rest = drop (4 + size) (drop read held) in
    let there : rest ≡ drop (read + (4 + size)) held = drop-drop (4 + size) read held in
    let front : Moment = record b { held = drop read held; frames = b.frames + n } in
    let behind : Moment = record b { held = drop (read + (4 + size)) held; frames = b.frames + (n + 1) } in
    let one : Spans k.input k.limit (drop read held) (frame ∷ []) rest =
    subst (λ (t : Transport). Spans t k.limit (drop read held) (frame ∷ []) rest) (sym conversion.input) (spans_one Frames k.limit (drop read held) frame rest cut (λ lines. absurd (cc))) in
    let same : sent Frames j.bytes ≡ sent_by k.output j.verdict j.bytes =
    ap (λ (t : Transport). sent_by t (Passed info) j.bytes) (sym conversion.output) ∙ ap (λ (v : Verdict). sent_by k.output v j.bytes) (sym passed) in
    let more : out ++ new ≡ (out ++ bytes) ++ sent_by k.output j.verdict j.bytes =
    ap (λ (xs : List ℕ). out ++ xs) appended ∙ (sym (append_assoc out bytes (sent Frames j.bytes)) ∙ ap (λ (xs : List ℕ). (out ++ bytes) ++ xs) same) in
    let told : Buffer = record { bytes = waiting; room = 0 } in
    let is_treated : treated k frame ≡ translated k.output j = ap (λ (d : Doing). treated_by k d frame) conversion.doing in
    let quick = passed_is_handled (front.frames + 1) (translated k.output j) b.written b.written (out ++ bytes) (out ++ new) told
    (translation_passed k.output j.verdict j.bytes info b.written (out ++ bytes) (out ++ new) passed more) in
    let handled : IsHandled (front.frames + 1) (Ok true) (treated k frame) b.written (out ++ bytes) told b.written (out ++ new) told =
    subst (λ (t : Treated). IsHandled (front.frames + 1) (Ok true) t b.written (out ++ bytes) told b.written (out ++ new) told) (sym is_treated) quick in
    waits_one k a front behind (out ++ bytes) waiting (out ++ new) waiting frame rest (before a b out waiting is waits) one (sym there) refl handled.1 refl (omega arith) refl
    (not_refused b.refused (passes k frame) handled.0) (ap (λ (l : Buffer). l.bytes) handled.2)

-- what a run took of what is held, and left on the page
pub run_gathers : (k : Terms) (work : Work) (inbox : Incoming) (page : Buffer) (before rest bytes : List ℕ) (n : ℕ) → Runs k before rest n bytes → work.inbox.held ≡ before → inbox.held ≡ rest → page.bytes ≡ work.page.out.bytes ++ bytes
    → Gathers k work (record work { inbox = inbox; page = record work.page { out = page }; number = work.number + n })
run_gathers k work inbox page before rest bytes n runs was held written a left out reported waits =
    let done : Work = record work { inbox = inbox; page = record work.page { out = page }; number = work.number + n } in
    subst (λ (xs : List ℕ). Waits k a (moment done left out reported) xs work.lines.bytes) (sym written)
    (subst (λ (xs : List ℕ). Waits k a (record (moment done left out reported) { held = xs }) (work.page.out.bytes ++ bytes) work.lines.bytes) (sym held)
    (runs a (moment work left out reported) work.page.out.bytes work.lines.bytes was waits))
