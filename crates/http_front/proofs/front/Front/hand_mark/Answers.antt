use Rattle.std.proofs.Common.{ap, ◌∙◌}
use Rattle.http_front.specs.Fronts.{Front}
use Rattle.http_front.specs.declared.stage.Stage.{Stage}
use Rattle.http_front.proofs.Fitting.{hands_mark}
use Rattle.http_front.proofs.front.Front.hand_mark.Goals as goal

pub returns-clause-hands : goal.returns-clause-hands
returns-clause-hands c =
    let now = c.args.self.now in
    hands_mark now _ c.args.given c.copy_from-count.result _ c.requires.at
    (ap (λ (f : Front). record f { stage = c.behind_mark-self-inside.result }) c.self.view_is ∙ ap (λ (s : Stage). record now { stage = s }) c.behind_mark-self-inside.ensures)
    c.copy_from-count.ensures.copied
