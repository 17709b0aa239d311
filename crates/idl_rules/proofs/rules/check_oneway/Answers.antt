use Rattle.std.proofs.Common.{◌∙◌, ap, sym, Option, ℕ}
use Rattle.idl_document.specs.Trees.{function_tree}
use Rattle.idl_rules.specs.Leasts.{none_lesser}
use Rattle.idl_rules.specs.Order.{lesser, least_of}
use Rattle.idl_rules.specs.Rules.{oneway_by, answers}
use Rattle.idl_rules.proofs.rules.check_oneway.Goals as goal

pub returns-in_default : goal.returns-in_default
returns-in_default c =
    let f = function_tree c.args.function.now in
    sym (none_lesser c.args.least.now) ∙ ap (λ (o : Option ℕ). lesser c.args.least.now (least_of (oneway_by o (answers f.returns f.throws)))) (sym c.in_default.is)
