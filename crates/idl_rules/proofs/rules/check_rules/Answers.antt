use Rattle.std.proofs.Common.{◌≡◌, ◌∙◌, ◌++◌, ap, rules}
use Rattle.std.proofs.lemmas.Result.{on_ok_weaker}
use Rattle.idl_document.specs.Trees.{definition_trees}
use Rattle.idl_rules.specs.declared.scopes.Scope.TheVariants as scopes
use Rattle.idl_rules.specs.Order.{lesser, least_of}
use Rattle.idl_rules.specs.Rules.{scope_refusals, all_inner}
use Rattle.idl_rules.proofs.Steps.{joined}
use Rattle.idl_rules.proofs.rules.check_rules.Goals as goal

pub returns : goal.returns
returns c =
    let old = c.args.least.now in
    let ds = definition_trees c.args.document.now.definitions in
    let first : c.check_scope.new.least ≡ lesser old (least_of (scope_refusals scopes.Types ds)) = search rules in
    let second : c.check_scope-2.new.least ≡ lesser c.check_scope.new.least (least_of (scope_refusals scopes.Constants ds)) = search rules in
    let third : c.check_scope-3.new.least ≡ lesser c.check_scope-2.new.least (least_of (scope_refusals scopes.Services ds)) = search rules in
    let two = joined old c.check_scope.new.least c.check_scope-2.new.least (scope_refusals scopes.Types ds) (scope_refusals scopes.Constants ds) first second in
    let three = joined old c.check_scope-2.new.least c.check_scope-3.new.least (scope_refusals scopes.Types ds ++ scope_refusals scopes.Constants ds) (scope_refusals scopes.Services ds) two third in
    let all = joined old c.check_scope-3.new.least c.check_all.new.least (scope_refusals scopes.Types ds ++ scope_refusals scopes.Constants ds ++ scope_refusals scopes.Services ds) (all_inner ds) three in
    on_ok_weaker c.check_all.result all (on_ok_weaker c.check_all.result (λ e. e ∙ ap (λ l. lesser c.check_scope-3.new.least (least_of (all_inner (definition_trees l)))) c.as_slice-definitions.ensures) c.check_all.ensures)
