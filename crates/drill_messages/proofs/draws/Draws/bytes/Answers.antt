use Rattle.std.proofs.Common.{ap, [], ◌∷◌, ◌++◌, ◌∙◌}
use Rattle.drill_messages.specs.Messages.{byte_of}
use Rattle.drill_messages.proofs.Drawing.{one_made}
use Rattle.drill_messages.proofs.draws.Draws.bytes.Goals as goal

pub loop-place-preserved : goal.loop-place-preserved
loop-place-preserved c =
    one_made byte_of _ _ _ _ _ _ c.loop-place.invariant (c.push.ensures.items ∙ ap (λ d. c.loop-place.bytes.items ++ byte_of d ∷ []) c.draw.ensures.drawn) c.draw.ensures.state
