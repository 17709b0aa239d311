use Rattle.std.proofs.Common.{◌+◌, List, ℕ, take, drop, ap, ◌∙◌}
use Rattle.framed_transport.specs.Frames.{framed}
use Rattle.http_front.specs.Fronts.{Front}
use Rattle.http_front.specs.declared.stage.Stage.TheVariants as stage
use Rattle.http_front.proofs.Fitting.{hands_part, hands_whole}
use Rattle.http_front.proofs.front.Front.hand_body.Goals as goal

pub returns-then-given-count-clause-hands : goal.returns-then-given-count-clause-hands
returns-then-given-count-clause-hands c =
    hands_whole c.args.rules.now c.args.self.now c.end_body.new.self c.args.size c.args.given c.copy_frame-count.result c.args.last _ c.requires.at c.requires.whole c.if-given-count.true c.end_body.ensures
    (c.copy_frame-count.ensures.copied ∙ ap (λ (l : List ℕ). take c.copy_frame-count.result (drop c.args.given (framed (take c.args.size l)))) (c.bytes.ensures.bytes ∙ ap (λ (f : Front). f.input) c.self.view_is))

pub returns-clause-hands : goal.returns-clause-hands
returns-clause-hands c =
    hands_part c.args.self.now _ c.args.size c.args.given c.copy_frame-count.result c.args.last _ c.requires.at c.requires.whole
    (ap (λ (f : Front). record f { stage = stage.Body c.args.size (c.args.given + c.copy_frame-count.result) c.args.last }) c.self.view_is)
    (c.copy_frame-count.ensures.copied ∙ ap (λ (l : List ℕ). take c.copy_frame-count.result (drop c.args.given (framed (take c.args.size l)))) (c.bytes.ensures.bytes ∙ ap (λ (f : Front). f.input) c.self.view_is))
    c.args.rules.now
