use Rattle.std.proofs.Common.{◌∙◌, ap, ◌-◌}
use Rattle.type_walk.specs.declared.levels.Level.{Level}
use Rattle.type_walk.specs.Places.{nested}
use Rattle.type_walk.proofs.Nested.{nested-pop}
use Rattle.type_walk.proofs.levels.Levels.pop.Goals as goal

pub returns-then-self-gt0 : goal.returns-then-self-gt0
returns-then-self-gt0 c =
    ap (λ (top : Level). nested top c.self.inside.outer (c.self.inside.depth - 1)) c.get-self-inside.ensures
    ∙ nested-pop c.self.inside.top c.self.inside.outer c.self.inside.depth c.args.self.now c.self.view_is c.if-self-gt0.true
