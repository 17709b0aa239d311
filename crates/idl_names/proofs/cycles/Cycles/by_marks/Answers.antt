use Rattle.std.proofs.Common.{◌∙◌, ap, sym, length, List, arith}
use Rattle.std.proofs.lemmas.List.{length-map}
use Rattle.idl_document.specs.declared.document.Definition.{Definition}
use Rattle.idl_document.specs.Trees.{definition_tree}
use Rattle.idl_names.specs.Files.{file_tree, file_trees}
use Rattle.idl_names.proofs.Counting.{few_here}
use Rattle.idl_names.proofs.Looking.{made_at}
use Rattle.idl_names.proofs.Rounds.{rows_none, rows_more, rows_all}
use Rattle.idl_names.proofs.cycles.Cycles.by_marks.Goals as goal

pub loop-place-init : goal.loop-place-init
loop-place-init c = rows_none (file_trees c.args.names.now.files.now) c.new-rows.result.items c.new-rows.ensures.items

pub row_of-requires-clause-few : goal.row_of-requires-clause-few
row_of-requires-clause-few c =
    few_here c.args.names.now.files.now c.file-item.result c.as_slice-count.result.now c.loop-place.place c.loop-place-test.true c.file-item.is c.as_slice-count.ensures c.args.names.now.few

pub loop-place-preserved : goal.loop-place-preserved
loop-place-preserved c =
    let files = c.args.names.now.files.now in
    let file = c.file-item.result in
    let count = ap (λ (ds : List Definition). length ds) c.as_slice-count.ensures ∙ sym (length-map file.document.definitions definition_tree) in
    rows_more (file_trees files) c.loop-place.rows.items c.push.new.self.items c.in_ok-row.row (file_tree file) (length c.as_slice-count.result.now) c.loop-place.place c.in_ok-push.ensures.items c.loop-place.invariant
    (made_at file_tree files c.loop-place.place file c.loop-place-test.true c.file-item.is) count c.in_ok-row.ensures

pub returns : goal.returns
returns c =
    let files = c.args.names.now.files.now in
    rows_all (file_trees files) c.loop-place.rows.items c.loop-place.place (let over = length-map files file_tree in omega arith) c.loop-place.invariant
