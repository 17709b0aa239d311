use Rattle.std.proofs.Common.{Some, Option, subst}
use Rattle.idl_consts.specs.declared.row.ConstRow.{ConstRow}
use Rattle.idl_consts.specs.Following.{IsRow}
use Rattle.idl_consts.specs.Meant.{meant_at}
use Rattle.idl_consts.specs.Pieces.{ending}
use Rattle.idl_consts.proofs.Judged.{name_passed, name_wrong}
use Rattle.idl_consts.specs.Views.{files_of}
use Rattle.idl_consts.proofs.check.names_fault.Goals as goal

pub loop-name-preserved : goal.loop-name-preserved
loop-name-preserved c =
    let d = files_of c.args.view.now in
    let name = c.name-item.result in
    let free = subst (λ (row : Option ConstRow). IsRow d name.constant (meant_at d name.ty) row) c.in_default.is c.in_ok-row.ensures.row in
    record {
      told = λ told more. c.loop-name.invariant.told told (name_passed d c.args.names.now c.loop-name.name-index name (ending c.args.fault) told c.loop-name-test.true c.name-item.is free more);
      known = c.in_ok-row.ensures.known;
    }

pub returns-in-Some-clause-told : goal.returns-in-Some-clause-told
returns-in-Some-clause-told c =
    let d = files_of c.args.view.now in
    let name = c.name-item.result in
    let wrong = subst (λ (row : Option ConstRow). IsRow d name.constant (meant_at d name.ty) row) c.in-Some.is c.in_ok-row.ensures.row in
    c.loop-name.invariant.told (Some (name.at, c.in-Some.row))
    (name_wrong d c.args.names.now c.loop-name.name-index name (ending c.args.fault) c.in-Some.row c.loop-name-test.true c.name-item.is wrong)
