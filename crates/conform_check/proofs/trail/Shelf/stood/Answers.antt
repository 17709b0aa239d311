use Rattle.std.proofs.Common.{ap, sym, ◌∙◌}
use Rattle.std.specs.Int.{w16}
use Rattle.std.proofs.lemmas.Int.{to_z-of_z}
use Rattle.conform_check.specs.Breaches.{stood}
use Rattle.conform_check.specs.Fitting.{Shelved}
use Rattle.conform_check.proofs.Ids.{over_greatest}
use Rattle.conform_check.proofs.trail.Shelf.stood.Goals as goal

pub returns-then-is_below : goal.returns-then-is_below
returns-then-is_below c =
    let over = rw (to_z-of_z w16 c.args.id c.ranges.id) at (sym c.is_below.ensures ∙ c.if-is_below.true) in
    sym (over_greatest c.self.inside.greatest.id c.args.id c.self.inside.ids.items c.self.invariant over) ∙ ap (λ (s : Shelved). stood c.args.id s.inside.seen) c.self.view_is
