use Rattle.type_walk.proofs.types.in_map.Goals as goal

pub returns-in-Map-clause-known : goal.returns-in-Map-clause-known
returns-in-Map-clause-known c =
    let d = c.args.schema.now in
    (c.under-key.ensures.known d c.ty.ensures.known, c.under-value.ensures.known d c.ty-in-Map.ensures.known)
