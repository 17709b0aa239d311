use Rattle.std.proofs.Common.{◌∙◌, ap, ◌≡◌, ◌-◌, List}
use Rattle.protocol_traits.specs.declared.nest.Slot.{Slot}
use Rattle.protocol_traits.specs.Places.{nested}
use Rattle.protocol_traits.proofs.Levels.{nested-pop}
use Rattle.protocol_traits.proofs.nest.Nest.pop.Goals as goal

pub returns-then-self-gt0 : goal.returns-then-self-gt0
returns-then-self-gt0 c =
    ap (λ (top : Slot). nested top c.self.inside.outer (c.self.inside.depth - 1)) c.get-self-inside.ensures
    ∙ nested-pop c.self.inside.top c.self.inside.outer c.self.inside.depth c.args.self.now c.self.view_is c.if-self-gt0.true
