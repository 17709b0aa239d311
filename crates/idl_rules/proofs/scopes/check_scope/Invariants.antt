use Rattle.std.proofs.Common.{◌≡◌, drop}
use Rattle.idl_document.specs.Trees.{definition_trees}
use Rattle.idl_rules.specs.declared.row.IdlRow.TheVariants as rows
use Rattle.idl_rules.specs.Doubles.{repeated}
use Rattle.idl_rules.specs.Order.{lesser, least_of}
use Rattle.idl_rules.specs.Rules.{names_in, scope_refusals}
use Rattle.idl_rules.proofs.scopes.check_scope.Given as goal

abbrev pub invariant-loop-definition : goal.invariant-loop-definition
invariant-loop-definition l =
    lesser l.least (least_of (repeated rows.DuplicateName l.seen (names_in l.scope (definition_trees (drop l.definition-index l.definitions)))))
    ≡ lesser l.initial.least (least_of (scope_refusals l.scope (definition_trees l.definitions)))
