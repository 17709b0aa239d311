use Rattle.std.proofs.Common.{◌≡◌, drop}
use Rattle.idl_document.specs.Trees.{function_trees}
use Rattle.idl_rules.specs.Order.{lesser, least_of}
use Rattle.idl_rules.specs.Rules.{methods_refusals}
use Rattle.idl_rules.proofs.rules.check_methods.Given as goal

abbrev pub invariant-loop-function : goal.invariant-loop-function
invariant-loop-function l =
    lesser l.least (least_of (methods_refusals (function_trees (drop l.function-index l.functions))))
    ≡ lesser l.initial.least (least_of (methods_refusals (function_trees l.functions)))
