use Rattle.std.proofs.Common.{◌<◌, ◌++◌, ◌∷◌, [], length, ap, ◌∙◌, arith}
use Rattle.std.specs.Int.{w16}
use Rattle.std.proofs.lemmas.Int.{to_z-of_z}
use Rattle.conform_check.specs.declared.step.Step.TheVariants as steps
use Rattle.conform_check.specs.Inside.{announced}
use Rattle.conform_check.specs.Fitting.{Opened, Shelved}
use Rattle.conform_check.proofs.Shelves.{announced_top, length_levels}
use Rattle.conform_check.proofs.trail.Trail.announce.Goals as goal

pub returns-clause-levels : goal.returns-clause-levels
returns-clause-levels c =
    let shelves = c.self.inside.shelves.items in
    let depth = c.self.inside.depth in
    let view = ap (λ (v : Opened). v.levels) c.self.view_is in
    let some : 0 < depth = omega (arith, c.requires.open, length_levels shelves depth, ap length view) in
    announced_top shelves depth c.index_mut.result.now c.announce.new.self c.args.id some (omega (arith, c.self.invariant.0, c.self.invariant.1.levels))
    (rw (to_z-of_z w16 c.args.id c.ranges.id) at c.announce.ensures.inside ∙ ap (λ (s : Shelved). record { step = steps.Field c.args.id; seen = s.inside.seen ++ c.args.id ∷ [] }) c.index_mut.ensures.value) ∙ ap (announced c.args.id) view
