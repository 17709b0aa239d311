use Rattle.std.proofs.Common.{◌+◌, refl, drop, arith}
use Rattle.idl_document.specs.Trees.{field_trees, type_tree}
use Rattle.idl_rules.specs.Order.{lesser, least_of}
use Rattle.idl_names.specs.Files.{file_trees}
use Rattle.idl_names.specs.Refusals.{type_refusals, fields_refusals}
use Rattle.idl_names.proofs.Noting.{opened, ends, noted}
use Rattle.idl_names.proofs.refusals.check_fields.Goals as goal

pub loop-field-preserved : goal.loop-field-preserved
loop-field-preserved c =
    let files = file_trees c.args.names.now.files.now in
    let file = c.args.file in
    let fs = c.args.fields.now in
    let f = c.field-item.result in
    let i = c.loop-field.field-index in
    noted c.loop-field.least c.check_type.new.least (lesser c.args.least.now (least_of (fields_refusals files file (field_trees fs)))) (type_refusals files file (type_tree f.ty))
    (fields_refusals files file (field_trees (drop (i + 1) fs))) c.check_type.ensures
    (opened fs i f (λ l. fields_refusals files file (field_trees l)) c.loop-field.least _ c.loop-field-test.true c.field-item.is c.loop-field.invariant)

pub returns : goal.returns
returns c =
    let files = file_trees c.args.names.now.files.now in
    ends c.args.fields.now c.loop-field.field-index (λ l. fields_refusals files c.args.file (field_trees l)) c.loop-field.least _ refl (omega arith) c.loop-field.invariant
