use Rattle.std.proofs.Common.{◌+◌, ◌++◌, refl, drop, arith}
use Rattle.idl_document.specs.Trees.{definition_tree, definition_trees}
use Rattle.idl_rules.specs.Order.{lesser, least_of}
use Rattle.idl_rules.specs.Rules.{all_inner, inner_refusals}
use Rattle.idl_rules.proofs.Steps.{opened, ends, noted}
use Rattle.idl_rules.proofs.rules.check_all.Goals as goal

pub loop-definition-preserved : goal.loop-definition-preserved
loop-definition-preserved c =
    let ds = c.args.definitions.now in
    let d = c.definition-item.result in
    let rest = all_inner (definition_trees (drop (c.loop-definition.definition-index + 1) ds)) in
    noted c.loop-definition.least c.check_inside.new.least (lesser c.args.least.now (least_of (all_inner (definition_trees ds)))) (inner_refusals (definition_tree d)) rest
    (inner_refusals (definition_tree d) ++ rest) refl c.in_ok-check_inside.ensures
    (opened ds c.loop-definition.definition-index d (λ l. all_inner (definition_trees l)) c.loop-definition.least _ c.loop-definition-test.true c.definition-item.is c.loop-definition.invariant)

pub returns : goal.returns
returns c = ends c.args.definitions.now c.loop-definition.definition-index (λ l. all_inner (definition_trees l)) c.loop-definition.least _ refl (omega arith) c.loop-definition.invariant
