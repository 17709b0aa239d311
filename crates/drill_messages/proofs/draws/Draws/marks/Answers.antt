use Rattle.std.proofs.Common.{ap, ℤ, [], ◌∷◌, ◌++◌, ◌∙◌}
use Rattle.drill_messages.specs.Messages.{mark_of}
use Rattle.drill_messages.proofs.Drawing.{one_made, mark_value}
use Rattle.drill_messages.proofs.draws.Draws.marks.Goals as goal

pub loop-place-preserved : goal.loop-place-preserved
loop-place-preserved c =
    one_made mark_of _ _ _ _ _ _ c.loop-place.invariant
    (c.push.ensures.items ∙ (ap (λ (m : ℤ). c.loop-place.marks.items ++ m ∷ []) (mark_value c.draw.result c.draw.ensures.short) ∙ ap (λ d. c.loop-place.marks.items ++ mark_of d ∷ []) c.draw.ensures.drawn))
    c.draw.ensures.state
