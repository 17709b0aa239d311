use Rattle.std.proofs.Common.{List, sym, subst}
use Rattle.idl_consts.specs.Knowing.{AreRows}
use Rattle.idl_consts.proofs.Kept.{Entry, none_known, none_pushed}
use Rattle.idl_consts.proofs.knowing.blank.Goals as goal

pub rows-init : goal.rows-init
rows-init c = λ d. subst (λ (xs : List Entry). AreRows d xs) (sym c.new-rows.ensures.items) (none_known d)

pub rows-preserved : goal.rows-preserved
rows-preserved c = λ d. subst (λ (xs : List Entry). AreRows d xs) (sym c.in_ok-push.ensures.items) (none_pushed d c.rows.rows.items (c.rows.invariant d))
