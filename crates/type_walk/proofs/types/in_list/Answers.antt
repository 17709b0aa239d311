use Rattle.type_walk.proofs.types.in_list.Goals as goal

pub returns-in-List-clause-known : goal.returns-in-List-clause-known
returns-in-List-clause-known c = c.under.ensures.known c.args.schema.now c.ty.ensures.known
