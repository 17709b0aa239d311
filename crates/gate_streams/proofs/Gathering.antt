-- Frames that are held, and what comes of those that are converted one after another.
use Rattle.std.proofs.Common.{◌≡◌, ℕ, ◌+◌, ◌≤◌, ◌||◌, not, List, [], ◌∷◌, ◌++◌, length, arith, refl, sym, ◌∙◌, ap, subst, Bool, true, false, Ok}
use Rattle.gate_io.specs.Buffer.{Buffer}
use Rattle.protocol_traits.specs.declared.proto.Proto.{Proto}
use Rattle.line_transport.specs.Buffers.{Incoming, front_of, CountsNext, PassesOver}
use Rattle.line_transport.specs.Cuts.{IsCut, Spans}
use Rattle.line_transport.specs.Front.{behind, Whole, is_blank_front}
use Rattle.line_transport.specs.declared.transport.Transport.{Transport}
use Rattle.line_transport.proofs.Spanning.{spans_one, spans_fewer, piece_within}
use Rattle.translate_verdicts.specs.declared.verdict.HeadInfo.{HeadInfo}
use Rattle.translate_verdicts.specs.declared.verdict.Verdict.TheVariants.{Passed}
use Rattle.gate_start.specs.declared.page.Page.{Page}
use Rattle.gate_streams.specs.Handling.{Treated, treated, treated_by, translated, sent_of, passes}
use Rattle.gate_streams.specs.Terms.{Terms, judged_by}
use Rattle.gate_streams.specs.Working.{Gathers, IsHandled, IsHandler, IsReady, IsRoomy, Waits, moment}
use Rattle.gate_streams.specs.declared.handler.Handler.{Handler}
use Rattle.gate_streams.specs.declared.stream.Work.{Work}
use Rattle.gate_streams.specs.declared.task.Doing.{Doing}
use Rattle.gate_streams.specs.declared.task.Doing.TheVariants.{Convert}
use Rattle.gate_streams.proofs.Progress.{waits_one, waits_over}
use Rattle.gate_streams.proofs.Treating.{passed_is_handled, translation_passed}

-- ---- the frame at the front

pub within : (k : Terms) (b : Incoming) (message rest : List ℕ) → b.limit ≡ k.limit → IsCut b.transport b.limit b.held message rest → length message ≤ k.limit
within k b message rest limit cut = omega (arith, limit, piece_within b.transport b.limit message cut.is)

-- the message at the front is cut off
pub spans : (k : Terms) (b : Incoming) (message rest : List ℕ) → b.limit ≡ k.limit → b.transport ≡ k.input → CountsNext b → front_of b ≡ Whole message rest → IsCut b.transport b.limit b.held message rest → Spans k.input k.limit b.held (message ∷ []) rest
spans k b message rest limit transport counts whole cut =
    subst (λ (t : Transport). Spans t k.limit b.held (message ∷ []) rest) transport
    (subst (λ (n : ℕ). Spans b.transport n b.held (message ∷ []) rest) limit
    (spans_one b.transport b.limit b.held message rest cut (λ lines. sym (ap is_blank_front whole) ∙ counts lines)))

pub gone : (a b : Incoming) (message rest : List ℕ) → b ≡ record a { held = behind a.held (front_of a) } → front_of a ≡ Whole message rest → b.held ≡ rest
gone a b message rest e whole = ap (λ (h : Incoming). h.held) e ∙ ap (behind a.held) whole

pub one_fewer : (k : Terms) (b : Incoming) (message rest : List ℕ) → Spans k.input k.limit b.held (message ∷ []) rest → length rest + 1 ≤ length b.held
one_fewer k b message rest s = omega (arith, spans_fewer k.input k.limit b.held (message ∷ []) rest s)

-- what is passed over is not counted, and takes no bytes
pub passed_fewer : (a b : Incoming) → PassesOver a b → length b.held ≤ length a.held
passed_fewer a b p = omega (arith, spans_fewer a.transport a.limit a.held [] b.held p.spans)

pub passed_spans : (k : Terms) (a b : Incoming) → a.limit ≡ k.limit → a.transport ≡ k.input → PassesOver a b → Spans k.input k.limit a.held [] b.held
passed_spans k a b limit transport p =
    subst (λ (t : Transport). Spans t k.limit a.held [] b.held) transport (subst (λ (n : ℕ). Spans a.transport n a.held [] b.held) limit p.spans)

-- ---- one frame after another

-- the work stays ready as what it holds gets less
pub ready_on : (k : Terms) (a b : Work) → IsReady k a → b.inbox.limit ≡ a.inbox.limit → b.inbox.transport ≡ a.inbox.transport → b.page.out.room ≡ a.page.out.room → b.lines ≡ a.lines → b.handler ≡ a.handler
    → b.taken ≡ a.taken → b.number + length b.inbox.held ≤ a.number + length a.inbox.held → IsReady k b
ready_on k a b r limit transport room lines handler taken counted = record {
  limit_is = limit ∙ r.limit_is;
  transport_is = transport ∙ r.transport_is;
  page = subst (λ (n : ℕ). IsRoomy k.doing k.limit n) (sym room) r.page;
  lines = ap (λ (l : Buffer). l.room) lines ∙ r.lines;
  handler = subst (λ (h : Handler). IsHandler k h) (sym handler) r.handler;
  counted = omega (arith, counted, r.counted, taken);
  taken = omega (arith, r.taken, taken);
}

pub gathers_nothing : (k : Terms) (work : Work) → Gathers k work work
gathers_nothing k work a left written reported waits = waits

pub gathers_on : (k : Terms) (a b c : Work) → Gathers k a b → Gathers k b c → Gathers k a c
gathers_on k a b c first next from left written reported waits = next from left written reported (first from left written reported waits)

-- what is passed over at the front was let go
pub over_gathers : (k : Terms) (b c : Work) → Spans k.input k.limit b.inbox.held [] c.inbox.held → c.page ≡ b.page → c.lines ≡ b.lines → c.number ≡ b.number → c.taken ≡ b.taken → c.refused ≡ b.refused → Gathers k b c
over_gathers k b c over page lines number taken refused a left written reported waits =
    subst (λ (xs : List ℕ). Waits k a (moment c left written reported) xs c.lines.bytes) (sym (ap (λ (p : Page). p.out.bytes) page))
    (subst (λ (xs : List ℕ). Waits k a (moment c left written reported) b.page.out.bytes xs) (sym (ap (λ (l : Buffer). l.bytes) lines))
    (waits_over k a (moment b left written reported) (moment c left written reported) b.page.out.bytes b.lines.bytes waits over refl refl refl number taken refused))

pub not_refused : (refused passed : Bool) → true ≡ passed → refused ≡ (refused || not passed)
not_refused true passed e = refl
not_refused false passed e = ap not e

-- what comes of a frame that passes the quick way waits
pub one_gathers : (k : Terms) (from to : Proto) (info : HeadInfo) (frame rest : List ℕ) (b c : Work) → k.doing ≡ Convert from to → (judged_by k from to frame).verdict ≡ Passed info
    → c.page.out.bytes ≡ b.page.out.bytes ++ sent_of k.output (judged_by k from to frame) → Spans k.input k.limit b.inbox.held (frame ∷ []) rest → c.inbox.held ≡ rest
    → c.lines ≡ b.lines → c.number ≡ b.number + 1 → c.taken ≡ b.taken → c.refused ≡ b.refused → Gathers k b c
one_gathers k from to info frame rest b c doing passed appended cut held lines number taken refused a left written reported waits =
    let j = judged_by k from to frame in
    let is : treated k frame ≡ translated k.output j = ap (λ (d : Doing). treated_by k d frame) doing in
    let quick = passed_is_handled (b.number + 1) (translated k.output j) written written b.page.out.bytes c.page.out.bytes b.lines
    (translation_passed k.output j.verdict j.bytes info written b.page.out.bytes c.page.out.bytes passed appended) in
    let handled : IsHandled (b.number + 1) (Ok true) (treated k frame) written b.page.out.bytes b.lines written c.page.out.bytes b.lines =
    subst (λ (t : Treated). IsHandled (b.number + 1) (Ok true) t written b.page.out.bytes b.lines written c.page.out.bytes b.lines) (sym is) quick in
    waits_one k a (moment b left written reported) (moment c left written reported) b.page.out.bytes b.lines.bytes c.page.out.bytes c.lines.bytes frame rest waits cut held refl handled.1 refl number taken
    (refused ∙ not_refused b.refused (passes k frame) handled.0) (ap (λ (l : Buffer). l.bytes) lines ∙ ap (λ (l : Buffer). l.bytes) handled.2)
