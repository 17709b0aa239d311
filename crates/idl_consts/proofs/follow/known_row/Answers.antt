use Rattle.std.proofs.Common.{refl, sym, subst}
use Rattle.std.specs.Prelude.{IfSome}
use Rattle.idl_consts.specs.Following.{IsRow}
use Rattle.idl_consts.specs.Meant.{Meant}
use Rattle.idl_consts.specs.Views.{files_of}
use Rattle.idl_consts.proofs.follow.known_row.Goals as goal

pub returns-then-is_own : goal.returns-then-is_own
returns-then-is_own c =
    let d = files_of c.args.view.now in
    subst (λ (y : Meant). IfSome c.get.result (IsRow d c.args.name.constant y)) (sym (c.if-is_own.ensures refl)) (c.get.ensures d c.requires.known)
