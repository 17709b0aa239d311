use Rattle.std.proofs.Common.{◌≡◌, ◌∙◌, ◌++◌, ap, sym, List}
use Rattle.idl_document.specs.declared.document.Function.{Function}
use Rattle.idl_document.specs.Trees.{definition_tree, function_trees, typedef_of, service_of, type_tree}
use Rattle.idl_rules.specs.declared.row.IdlRow.TheVariants as rows
use Rattle.idl_rules.specs.Leasts.{none_lesser}
use Rattle.idl_rules.specs.Order.{lesser, least_of}
use Rattle.idl_names.specs.Files.{file_trees}
use Rattle.idl_names.specs.Refusals.{type_refusals, base_refusals, functions_refusals, cycle_refusals}
use Rattle.idl_names.proofs.Noting.{joined}
use Rattle.idl_names.proofs.refusals.check_definition.Goals as goal

pub returns-in-Enum : goal.returns-in-Enum
returns-in-Enum c = rw c.in-Enum.is (sym (none_lesser c.args.least.now))

pub returns-in-Typedef : goal.returns-in-Typedef
returns-in-Typedef c =
    let files = file_trees c.args.names.now.files.now in
    let spot = c.args.spot in
    let ty = type_tree c.in-Typedef.ty in
    let e : definition_tree c.args.definition.now ≡ typedef_of c.in-Typedef.name ty = ap definition_tree c.in-Typedef.is in
    rw e (joined c.args.least.now c.check_type-in-Typedef.new.least c.check_cycle.new.least (type_refusals files spot.file ty) (cycle_refusals c.args.cycles.now spot c.in-Typedef.name rows.TypedefCycle)
    c.check_type-in-Typedef.ensures c.check_cycle.ensures)

pub returns-in-Service : goal.returns-in-Service
returns-in-Service c =
    let files = file_trees c.args.names.now.files.now in
    let told = c.args.cycles.now in
    let spot = c.args.spot in
    let file = spot.file in
    let old = c.args.least.now in
    let name = c.in-Service.name in
    let base = c.in-Service.base in
    let functions = function_trees c.in-Service.functions in
    let first = c.check_base.new.least in
    let second = c.check_functions.new.least in
    let e : definition_tree c.args.definition.now ≡ service_of name base functions = ap definition_tree c.in-Service.is in
    let methods = c.check_functions.ensures ∙ ap (λ (fs : List Function). lesser first (least_of (functions_refusals files told file (function_trees fs)))) c.as_slice-in-Service.ensures in
    rw e (joined old second c.check_cycle-in-Service.new.least (base_refusals files file base ++ functions_refusals files told file functions) (cycle_refusals told spot name rows.ServiceCycle)
    (joined old first second (base_refusals files file base) (functions_refusals files told file functions) c.check_base.ensures methods) c.check_cycle-in-Service.ensures)
