use Rattle.std.proofs.Common.{◌≡◌, ◌++◌, rules}
use Rattle.std.proofs.lemmas.Result.{on_ok_weaker}
use Rattle.idl_document.specs.Trees.{function_tree}
use Rattle.idl_rules.specs.Order.{lesser, least_of}
use Rattle.idl_rules.specs.Rules.{field_refusals, oneway_refusals}
use Rattle.idl_rules.proofs.Steps.{joined}
use Rattle.idl_rules.proofs.rules.check_method.Goals as goal

pub returns : goal.returns
returns c =
    let f = function_tree c.args.function.now in
    let old = c.args.least.now in
    let oneway = oneway_refusals f in
    let mid : c.check_fields.new.least ≡ lesser c.check_oneway.new.least (least_of (field_refusals f.args)) = search rules in
    let two = joined old c.check_oneway.new.least c.check_fields.new.least (oneway_refusals f) (field_refusals f.args) c.check_oneway.ensures mid in
    on_ok_weaker c.check_fields-2.result (λ e. joined old c.check_fields.new.least c.check_fields-2.new.least (oneway_refusals f ++ field_refusals f.args) (field_refusals f.throws) two (search (rules, e))) c.check_fields-2.ensures
