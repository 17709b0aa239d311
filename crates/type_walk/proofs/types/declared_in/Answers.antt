use Rattle.std.proofs.lemmas.Int.{to_z-of_z}
use Rattle.std.specs.Int.{w16}
use Rattle.type_walk.specs.declared.levels.Level.TheVariants.{Fields}
use Rattle.type_walk.proofs.Sound.{declared_types}
use Rattle.type_walk.proofs.types.declared_in.Goals as goal

pub returns-in-Fields-clause-typed : goal.returns-in-Fields-clause-typed
returns-in-Fields-clause-typed c =
    rw (c.in-Fields.is, c.of_kind.ensures.value, c.field.ensures.value, to_z-of_z w16 c.args.id c.ranges.id) (declared_types c.args.schema.now (Fields c.in-Fields.s) c.args.id c.args.kind)

pub returns-in-Fields-clause-known : goal.returns-in-Fields-clause-known
returns-in-Fields-clause-known c = c.of_kind.ensures.known c.args.schema.now c.field.ensures.known
