use Rattle.std.proofs.Common.{subst, Option, Some}
use Rattle.idl_consts.specs.declared.row.ConstRow.{ConstRow}
use Rattle.idl_consts.specs.Meant.{meant_at}
use Rattle.idl_consts.specs.Trails.{GoesOn}
use Rattle.idl_consts.proofs.Trailing.{leads_wrong}
use Rattle.idl_consts.specs.Views.{files_of}
use Rattle.idl_consts.proofs.follow.settle.Goals as goal

pub returns-in-Some-clause-row : goal.returns-in-Some-clause-row
returns-in-Some-clause-row c =
    let d = files_of c.args.view.now in
    let trail = c.args.trail.now in
    let name = c.args.name in
    let halted = subst (λ (row : Option ConstRow). GoesOn d name.constant (meant_at d name.ty) (Some row) trail) c.in-Some.is c.requires.done in
    leads_wrong d name.constant (meant_at d name.ty) trail.outer.items trail.top.constant (meant_at d trail.top.ty) c.in-Some.row halted.0 halted.1

pub unwind-requires-clause-halted : goal.unwind-requires-clause-halted
unwind-requires-clause-halted c =
    let d = files_of c.args.view.now in
    let name = c.args.name in
    subst (λ (row : Option ConstRow). GoesOn d name.constant (meant_at d name.ty) (Some row) c.args.trail.now) c.in-Some.is c.requires.done
