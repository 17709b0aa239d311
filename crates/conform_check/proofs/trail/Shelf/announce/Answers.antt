use Rattle.std.specs.Int.{w16}
use Rattle.std.proofs.lemmas.Int.{to_z-of_z}
use Rattle.conform_check.proofs.Ids.{greatest_more}
use Rattle.conform_check.proofs.trail.Shelf.announce.Goals as goal

pub invariant_of-self : goal.invariant_of-self
invariant_of-self c =
    let same = to_z-of_z w16 c.args.id c.ranges.id in
    rw (rw same at c.push_reserved.ensures.items, rw same at c.raise.ensures) (greatest_more c.self.inside.greatest.id c.args.id c.self.inside.ids.items c.self.invariant)
