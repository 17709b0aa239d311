use Rattle.type_walk.proofs.types.in_set.Goals as goal

pub returns-in-Set-clause-known : goal.returns-in-Set-clause-known
returns-in-Set-clause-known c = c.under.ensures.known c.args.schema.now c.ty.ensures.known
