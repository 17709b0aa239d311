use Rattle.std.proofs.Common.{◌<◌, ◌+◌, ◌∷◌, length, ap, refl, ◌∙◌, arith}
use Rattle.conform_check.specs.Inside.{opened}
use Rattle.conform_check.specs.Fitting.{Opened}
use Rattle.conform_check.proofs.Shelves.{opened_next, length_levels}
use Rattle.conform_check.proofs.trail.Trail.open.Goals as goal

pub returns-clause-levels : goal.returns-clause-levels
returns-clause-levels c =
    let shelves = c.self.inside.shelves.items in
    let depth = c.self.inside.depth in
    let view = ap (λ (v : Opened). v.levels) c.self.view_is in
    let few : depth < length shelves = omega (arith, c.requires, length_levels shelves depth, ap length view, c.self.invariant.1.levels) in
    opened_next shelves depth (depth + 1) c.begin.new.self (opened c.args.step) refl few c.begin.ensures.inside ∙ ap (λ up. opened c.args.step ∷ up) view
