use Rattle.std.proofs.Common.{◌<◌, length, ap, ◌∙◌, arith}
use Rattle.conform_check.specs.Inside.{advanced, next_step}
use Rattle.conform_check.specs.Fitting.{Opened, Shelved}
use Rattle.conform_check.proofs.Shelves.{advanced_top, length_levels}
use Rattle.conform_check.proofs.trail.Trail.advance.Goals as goal

pub returns-clause-levels : goal.returns-clause-levels
returns-clause-levels c =
    let shelves = c.self.inside.shelves.items in
    let depth = c.self.inside.depth in
    let view = ap (λ (v : Opened). v.levels) c.self.view_is in
    let some : 0 < depth = omega (arith, c.requires, length_levels shelves depth, ap length view) in
    advanced_top shelves depth c.index_mut.result.now c.advance.new.self some (omega (arith, c.self.invariant.0, c.self.invariant.1.levels))
    (c.advance.ensures.inside ∙ ap (λ (s : Shelved). record { step = next_step s.inside.step; seen = s.inside.seen }) c.index_mut.ensures.value) ∙ ap advanced view
