use Rattle.std.proofs.Common.{◌+◌, ◌++◌, refl, drop, arith}
use Rattle.idl_document.specs.Trees.{field_trees, type_tree}
use Rattle.idl_rules.specs.Order.{lesser, least_of}
use Rattle.idl_names.specs.Files.{file_trees}
use Rattle.idl_names.specs.Refusals.{type_refusals, thrown_refusals, throws_refusals}
use Rattle.idl_names.proofs.Noting.{opened, ends, noted, joined}
use Rattle.idl_names.proofs.refusals.check_throws.Goals as goal

pub loop-field-preserved : goal.loop-field-preserved
loop-field-preserved c =
    let files = file_trees c.args.names.now.files.now in
    let told = c.args.cycles.now in
    let file = c.args.file in
    let fs = c.args.fields.now in
    let f = c.field-item.result in
    let i = c.loop-field.field-index in
    let type_rows = type_refusals files file (type_tree f.ty) in
    let thrown_rows = thrown_refusals files told file (type_tree f.ty) in
    noted c.loop-field.least c.check_thrown.new.least (lesser c.args.least.now (least_of (throws_refusals files told file (field_trees fs)))) (type_rows ++ thrown_rows)
    (throws_refusals files told file (field_trees (drop (i + 1) fs)))
    (joined c.loop-field.least c.check_type.new.least c.check_thrown.new.least type_rows thrown_rows c.check_type.ensures c.check_thrown.ensures)
    (opened fs i f (λ l. throws_refusals files told file (field_trees l)) c.loop-field.least _ c.loop-field-test.true c.field-item.is c.loop-field.invariant)

pub returns : goal.returns
returns c =
    let files = file_trees c.args.names.now.files.now in
    ends c.args.fields.now c.loop-field.field-index (λ l. throws_refusals files c.args.cycles.now c.args.file (field_trees l)) c.loop-field.least _ refl (omega arith) c.loop-field.invariant
