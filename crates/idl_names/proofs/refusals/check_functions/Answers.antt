use Rattle.std.proofs.Common.{◌+◌, refl, drop, arith}
use Rattle.idl_document.specs.Trees.{function_tree, function_trees}
use Rattle.idl_rules.specs.Order.{lesser, least_of}
use Rattle.idl_names.specs.Files.{file_trees}
use Rattle.idl_names.specs.Refusals.{function_refusals, functions_refusals}
use Rattle.idl_names.proofs.Noting.{opened, ends, noted}
use Rattle.idl_names.proofs.refusals.check_functions.Goals as goal

pub loop-function-preserved : goal.loop-function-preserved
loop-function-preserved c =
    let files = file_trees c.args.names.now.files.now in
    let told = c.args.cycles.now in
    let file = c.args.file in
    let fs = c.args.functions.now in
    let f = c.function-item.result in
    let i = c.loop-function.function-index in
    noted c.loop-function.least c.check_function.new.least (lesser c.args.least.now (least_of (functions_refusals files told file (function_trees fs)))) (function_refusals files told file (function_tree f))
    (functions_refusals files told file (function_trees (drop (i + 1) fs))) c.check_function.ensures
    (opened fs i f (λ l. functions_refusals files told file (function_trees l)) c.loop-function.least _ c.loop-function-test.true c.function-item.is c.loop-function.invariant)

pub returns : goal.returns
returns c =
    let files = file_trees c.args.names.now.files.now in
    ends c.args.functions.now c.loop-function.function-index (λ l. functions_refusals files c.args.cycles.now c.args.file (function_trees l)) c.loop-function.least _ refl (omega arith) c.loop-function.invariant
