use Rattle.std.proofs.Common.{sym, ◌∙◌, arith}
use Rattle.std.specs.Int.{w16}
use Rattle.std.proofs.lemmas.Int.{to_z-of_z}
use Rattle.conform_check.proofs.Levels.{fits_announced}
use Rattle.conform_check.proofs.looking.look_at_field.Goals as goal

pub announce-requires-clause-room : goal.announce-requires-clause-room
announce-requires-clause-room c =
    let breach = rw (c.inside.ensures.value, c.stood-before.ensures, to_z-of_z w16 c.args.id c.ranges.id) at (sym c.in-None.is ∙ c.field_breach.ensures) in
    rw c.requires.width (fits_announced c.args.schema.now c.args.walk.now.levels c.args.trail.now.levels c.args.id c.args.kind c.requires.fitting (omega (arith, c.requires.open, c.requires.same)) breach).0
