use Rattle.std.proofs.Common.{◌≡◌, ◌∙◌, ap, sym, List, map}
use Rattle.std.proofs.lemmas.Result.{on_ok_weaker}
use Rattle.idl_document.specs.declared.document.Name.{Name}
use Rattle.idl_document.specs.Trees.{definition_tree, function_trees, enum_of, service_of}
use Rattle.idl_rules.specs.declared.row.IdlRow.TheVariants as rows
use Rattle.idl_rules.specs.Doubles.{double_names}
use Rattle.idl_rules.specs.Leasts.{none_lesser}
use Rattle.idl_rules.specs.Order.{lesser, least_of}
use Rattle.idl_rules.specs.Rules.{methods_refusals}
use Rattle.idl_rules.specs.Values.{value_refusals}
use Rattle.idl_rules.proofs.Steps.{joined, function_names}
use Rattle.idl_rules.proofs.rules.check_inside.Goals as goal

pub returns-in-Const : goal.returns-in-Const
returns-in-Const c = rw c.in-Const.is (sym (none_lesser c.args.least.now))

pub returns-in-Typedef : goal.returns-in-Typedef
returns-in-Typedef c = rw c.in-Typedef.is (sym (none_lesser c.args.least.now))

pub returns-in_ok-check_names-in-Enum : goal.returns-in_ok-check_names-in-Enum
returns-in_ok-check_names-in-Enum c =
    let members = c.as_slice-members.result.now in
    let old = c.args.least.now in
    let e : definition_tree c.args.definition.now ≡ enum_of c.in-Enum.field-0 members = ap definition_tree c.in-Enum.is ∙ ap (λ ms. enum_of c.in-Enum.field-0 ms) (sym c.as_slice-members.ensures) in
    rw e (joined old c.check_names.new.least c.check_values.new.least (double_names rows.DuplicateName (map (λ m. m.name) members)) (value_refusals members)
    c.in_ok-check_names-in-Enum.ensures c.check_values.ensures)

pub returns-in_ok-check_names-in-Service : goal.returns-in_ok-check_names-in-Service
returns-in_ok-check_names-in-Service c =
    let functions = c.as_slice-functions.result.now in
    let trees = function_trees functions in
    let old = c.args.least.now in
    let e : definition_tree c.args.definition.now ≡ service_of c.in-Service.field-0 c.in-Service.field-1 trees =
    ap definition_tree c.in-Service.is ∙ ap (λ fs. service_of c.in-Service.field-0 c.in-Service.field-1 (function_trees fs)) (sym c.as_slice-functions.ensures) in
    let names = c.in_ok-check_names-in-Service.ensures ∙ ap (λ (ns : List Name). lesser old (least_of (double_names rows.DuplicateName ns))) (sym (function_names functions)) in
    rw e
    (on_ok_weaker c.check_methods.result (joined old c.check_names-in-Service.new.least c.check_methods.new.least (double_names rows.DuplicateName (map (λ f. f.name) trees)) (methods_refusals trees) names)
    c.check_methods.ensures)
