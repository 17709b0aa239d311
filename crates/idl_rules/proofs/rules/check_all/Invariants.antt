use Rattle.std.proofs.Common.{◌≡◌, drop}
use Rattle.idl_document.specs.Trees.{definition_trees}
use Rattle.idl_rules.specs.Order.{lesser, least_of}
use Rattle.idl_rules.specs.Rules.{all_inner}
use Rattle.idl_rules.proofs.rules.check_all.Given as goal

abbrev pub invariant-loop-definition : goal.invariant-loop-definition
invariant-loop-definition l =
    lesser l.least (least_of (all_inner (definition_trees (drop l.definition-index l.definitions))))
    ≡ lesser l.initial.least (least_of (all_inner (definition_trees l.definitions)))
