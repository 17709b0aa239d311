use Rattle.std.proofs.Common.{◌≡◌, ◌∙◌, ap, suc, ℕ, ◌+◌, refl, drop, arith, add-one}
use Rattle.idl_document.specs.Trees.{definition_tree, definition_trees}
use Rattle.idl_rules.specs.Order.{lesser, least_of}
use Rattle.idl_names.specs.Files.{file_trees}
use Rattle.idl_names.specs.Meaning.{spot_at}
use Rattle.idl_names.specs.Refusals.{definition_refusals, definitions_refusals}
use Rattle.idl_names.proofs.Noting.{opened, ends, noted}
use Rattle.idl_names.proofs.refusals.check_definitions.Goals as goal

pub loop-place-preserved : goal.loop-place-preserved
loop-place-preserved c =
    let files = file_trees c.args.names.now.files.now in
    let told = c.args.cycles.now in
    let file = c.args.file in
    let ds = c.args.definitions.now in
    let i = c.loop-place.place in
    let d = c.index-definitions-place.result in
    let step : i + 1 ≡ suc i = add-one i in
    ap (λ (n : ℕ). lesser c.check_definition.new.least (least_of (definitions_refusals files told file n (definition_trees (drop (i + 1) ds))))) step
    ∙ noted c.loop-place.least c.check_definition.new.least (lesser c.args.least.now (least_of (definitions_refusals files told file 0 (definition_trees ds)))) (definition_refusals files told (spot_at file i) (definition_tree d))
    (definitions_refusals files told file (suc i) (definition_trees (drop (i + 1) ds))) c.check_definition.ensures
    (opened ds i d (λ l. definitions_refusals files told file i (definition_trees l)) c.loop-place.least _ c.loop-place-test.true c.index-definitions-place.is c.loop-place.invariant)

pub returns : goal.returns
returns c =
    let files = file_trees c.args.names.now.files.now in
    ends c.args.definitions.now c.loop-place.place (λ l. definitions_refusals files c.args.cycles.now c.args.file c.loop-place.place (definition_trees l)) c.loop-place.least _ refl (omega arith) c.loop-place.invariant
