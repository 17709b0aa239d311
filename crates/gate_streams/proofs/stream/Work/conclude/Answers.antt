use Rattle.std.proofs.Common.{◌≡◌, ◌∙◌, arith, refl, ap, length}
use Rattle.gate_io.specs.Buffer.{Buffer}
use Rattle.gate_streams.specs.Lines.{left_text}
use Rattle.gate_streams.proofs.stream.Work.conclude.Goals as goal

pub returns-in-All-clause-ended : goal.returns-in-All-clause-ended
returns-in-All-clause-ended g c = λ left written.
    let text : c.bytes.result.now ≡ left_text c.args.self.now.number (length c.args.self.now.inbox.held) = c.bytes.ensures.bytes ∙ (ap (λ (b : Buffer). b.bytes) c.left.ensures ∙ ap (left_text c.args.self.now.number) c.held-count.ensures.count) in
    ((λ none. omega (arith, c.if-count-gt0.true, c.held-count.ensures.count, ap length none)), refl, refl, rw text at (c.in-All.ensures.all refl))

pub returns-in-Failed-clause-ended : goal.returns-in-Failed-clause-ended
returns-in-Failed-clause-ended g c = λ left written.
    let text : c.bytes.result.now ≡ left_text c.args.self.now.number (length c.args.self.now.inbox.held) = c.bytes.ensures.bytes ∙ (ap (λ (b : Buffer). b.bytes) c.left.ensures ∙ ap (left_text c.args.self.now.number) c.held-count.ensures.count) in
    ((λ none. omega (arith, c.if-count-gt0.true, c.held-count.ensures.count, ap length none)), refl, refl, rw text at c.in-Failed.ensures.front)
