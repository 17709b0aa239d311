use Rattle.std.proofs.Common.{length, ap}
use Rattle.http_front.specs.Fronts.{Front}
use Rattle.http_front.specs.declared.stage.Stage.TheVariants as stage
use Rattle.http_front.proofs.Fitting.{hands_early, early_piece}
use Rattle.http_front.proofs.front.Front.hand_early.Goals as goal

pub returns-clause-hands : goal.returns-clause-hands
returns-clause-hands c =
    hands_early c.args.self.now _ _ c.requires.at (ap (λ (f : Front). record f { stage = stage.Over }) c.self.view_is)
    (early_piece c.copy_from-count.result (length c.args.into.now) _ c.copy_from-count.ensures.count c.requires.some c.copy_from-count.ensures.copied)
