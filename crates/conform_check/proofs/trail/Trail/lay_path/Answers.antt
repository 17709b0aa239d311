use Rattle.std.proofs.Common.{◌++◌, ◌∷◌, [], length, length-append, ap, ◌∙◌, arith, get_or}
use Rattle.conform_check.specs.Fitting.{Shelved}
use Rattle.conform_check.proofs.Shelves.{path_step}
use Rattle.conform_check.proofs.trail.Trail.lay_path.Goals as goal

pub loop-at-preserved : goal.loop-at-preserved
loop-at-preserved c =
    let shelves = c.self.inside.shelves.items in
    let inv = c.loop-at.invariant in
    let step = c.step.ensures ∙ ap (λ (s : Shelved). s.inside.step) c.index.ensures in
    record {
      path = c.push_reserved.ensures.items ∙ ap (λ x. c.loop-at.path.items ++ x ∷ []) step ∙ ap (λ xs. xs ++ (get_or shelves c.loop-at.at c.index.result.now).inside.step ∷ []) inv.path ∙ path_step shelves c.loop-at.at c.index.result.now (omega (arith, c.self.invariant.0, c.self.invariant.1.levels, c.loop-at-test.true));
      long = ap length c.push_reserved.ensures.items ∙ omega (arith, length-append c.loop-at.path.items (c.step.result ∷ []), inv.long);
      room = c.push_reserved.ensures.capacity ∙ inv.room;
    }
