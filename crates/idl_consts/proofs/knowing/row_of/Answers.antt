use Rattle.std.proofs.Common.{refl, subst}
use Rattle.idl_names.specs.declared.documents.Spot.{Spot}
use Rattle.idl_consts.specs.Knowing.{IsOwnRow}
use Rattle.idl_consts.proofs.knowing.row_of.Goals as goal

pub returns-then-is_spot-clause-own : goal.returns-then-is_spot-clause-own
returns-then-is_spot-clause-own c = λ d known. subst (λ (x : Spot). IsOwnRow d x c.args.row) (c.if-is_spot.ensures.yes refl) known
