use Rattle.std.proofs.Common.{◌∙◌, ap, sym, List, map}
use Rattle.std.proofs.lemmas.Result.{on_ok_weaker}
use Rattle.idl_document.specs.declared.document.Name.{Name}
use Rattle.idl_document.specs.Trees.{field_trees}
use Rattle.idl_rules.specs.declared.row.IdlRow.TheVariants as rows
use Rattle.idl_rules.specs.Doubles.{double_names}
use Rattle.idl_rules.specs.Ids.{id_refusals}
use Rattle.idl_rules.specs.Order.{lesser, least_of}
use Rattle.idl_rules.proofs.Steps.{joined, field_names}
use Rattle.idl_rules.proofs.rules.check_fields.Goals as goal

pub returns : goal.returns
returns c =
    let fs = c.args.fields.now in
    let old = c.args.least.now in
    let names = c.in_ok-check_names.ensures ∙ ap (λ (ns : List Name). lesser old (least_of (double_names rows.DuplicateFieldName ns))) (sym (field_names fs)) in
    on_ok_weaker c.check_ids.result (joined old c.check_names.new.least c.check_ids.new.least (double_names rows.DuplicateFieldName (map (λ f. f.name) (field_trees fs))) (id_refusals (field_trees fs)) names)
    c.check_ids.ensures
