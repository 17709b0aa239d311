use Rattle.std.proofs.Common.{ℕ, ◌+◌, ◌*◌, ◌^◌, pos, ◌∙◌, ap}
use Rattle.std.specs.Prelude.{◌-ℤ◌}
use Rattle.drill_messages.specs.Messages.{id_of}
use Rattle.drill_messages.specs.Draws.{draw}
use Rattle.drill_messages.proofs.Drawing.{id_value}
use Rattle.drill_messages.proofs.draws.Draws.id.Goals as goal

pub returns-clause-drawn : goal.returns-clause-drawn
unfolding id_of
returns-clause-drawn c =
    id_value c.draw-high.result c.draw-low.result c.draw-high.ensures.short c.draw-low.ensures.short
    ∙ (ap (λ (n : ℕ). pos (n * 2 ^ 31 + c.draw-low.result) -ℤ pos (2 ^ 61)) c.draw-high.ensures.drawn
    ∙ ap (λ (n : ℕ). pos (draw c.args.self.now.state * 2 ^ 31 + n) -ℤ pos (2 ^ 61)) (c.draw-low.ensures.drawn ∙ ap draw c.draw-high.ensures.state))
