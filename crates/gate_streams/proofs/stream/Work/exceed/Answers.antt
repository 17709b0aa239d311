use Rattle.std.proofs.Common.{◌≡◌, ◌∙◌, ◌+◌, refl, ap}
use Rattle.gate_io.specs.Buffer.{Buffer}
use Rattle.gate_streams.specs.Lines.{excess_text}
use Rattle.gate_streams.proofs.Progress.{goes_nowhere, broken_line, excess_line, rest_over}
use Rattle.gate_streams.proofs.stream.Work.exceed.Goals as goal

pub returns-in-All-clause-ended : goal.returns-in-All-clause-ended
returns-in-All-clause-ended g c = λ left written.
    let text : c.bytes.result.now ≡ excess_text c.args.task.now.limit (c.args.self.now.number + 1) c.args.excess =
    c.bytes.ensures.bytes ∙ (ap (λ (b : Buffer). b.bytes) c.excess.ensures ∙ ap (λ n. excess_text n (c.args.self.now.number + 1) c.args.excess) c.limit.ensures) in
    rest_over _ _ _ _ _ (goes_nowhere _ _)
    (excess_line c.args.task.now.input c.args.task.now.limit c.args.self.now.number c.args.self.now.inbox.held c.bytes.result.now c.args.excess c.requires.large text)
    refl (c.in-All.ensures.all refl) refl c.args.excess c.requires.large

pub returns-in-Failed-clause-ended : goal.returns-in-Failed-clause-ended
returns-in-Failed-clause-ended g c = λ left written.
    let text : c.bytes.result.now ≡ excess_text c.args.task.now.limit (c.args.self.now.number + 1) c.args.excess =
    c.bytes.ensures.bytes ∙ (ap (λ (b : Buffer). b.bytes) c.excess.ensures ∙ ap (λ n. excess_text n (c.args.self.now.number + 1) c.args.excess) c.limit.ensures) in
    broken_line _ _ _ c.bytes.result.now
    (excess_line c.args.task.now.input c.args.task.now.limit c.args.self.now.number c.args.self.now.inbox.held c.bytes.result.now c.args.excess c.requires.large text)
    refl refl c.in-Failed.ensures.front
