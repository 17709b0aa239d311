use Rattle.std.proofs.Common.{refl, subst}
use Rattle.idl_consts.specs.Following.{IsRow}
use Rattle.idl_consts.specs.Meant.{Meant}
use Rattle.idl_consts.specs.Views.{files_of}
use Rattle.idl_consts.proofs.follow.keep.Goals as goal

pub returns-then-is_own : goal.returns-then-is_own
returns-then-is_own c =
    let d = files_of c.args.view.now in
    c.put.ensures d c.requires.known (subst (λ (y : Meant). IsRow d c.args.frame.now.constant y c.args.row) (c.if-is_own.ensures refl) c.requires.row)
