use Rattle.std.proofs.Common.{◌+◌, ◌++◌, refl, drop, arith}
use Rattle.idl_document.specs.Trees.{function_tree, function_trees}
use Rattle.idl_rules.specs.Order.{lesser, least_of}
use Rattle.idl_rules.specs.Rules.{methods_refusals, method_refusals}
use Rattle.idl_rules.proofs.Steps.{opened, ends, noted}
use Rattle.idl_rules.proofs.rules.check_methods.Goals as goal

pub loop-function-preserved : goal.loop-function-preserved
loop-function-preserved c =
    let fs = c.args.functions.now in
    let f = c.function-item.result in
    let rest = methods_refusals (function_trees (drop (c.loop-function.function-index + 1) fs)) in
    noted c.loop-function.least c.check_method.new.least (lesser c.args.least.now (least_of (methods_refusals (function_trees fs)))) (method_refusals (function_tree f)) rest
    (method_refusals (function_tree f) ++ rest) refl c.in_ok-check_method.ensures
    (opened fs c.loop-function.function-index f (λ l. methods_refusals (function_trees l)) c.loop-function.least _ c.loop-function-test.true c.function-item.is c.loop-function.invariant)

pub returns : goal.returns
returns c = ends c.args.functions.now c.loop-function.function-index (λ l. methods_refusals (function_trees l)) c.loop-function.least _ refl (omega arith) c.loop-function.invariant
