use Rattle.std.proofs.Common.{◌≡◌, ◌+◌, ◌∙◌, ap, sym, drop, List, Err, rules}
use Rattle.idl_document.specs.declared.document.Definition.{Definition}
use Rattle.idl_document.specs.Trees.{definition_tree, definition_trees}
use Rattle.idl_schema.specs.Adding.{firsts}
use Rattle.type_tables.specs.Declarations.{Declarations}
use Rattle.idl_schema.specs.Numbers.{after}
use Rattle.idl_schema.specs.Shares.{share, shares, with_share}
use Rattle.idl_schema.proofs.Apart.{first_apart}
use Rattle.idl_schema.specs.Indexes.{files_of}
use Rattle.idl_schema.proofs.Kept.{inner_kept}
use Rattle.idl_schema.proofs.Listing.{next}
use Rattle.idl_schema.proofs.Sharing.{definition_added}
use Rattle.idl_schema.proofs.making.add_definitions.Goals as goal

pub loop-definition-preserved : goal.loop-definition-preserved
loop-definition-preserved c =
    let files = files_of c.args.index.now in
    let ds = c.args.definitions.now in
    let i = c.loop-definition.definition-index in
    let d = c.definition-item.result in
    let b = c.loop-definition.builder in
    let open_list = next ds i d c.loop-definition-test.true c.definition-item.is in
    definition_added files c.args.file b c.add_definition.new.builder (definition_tree d) (definition_trees (drop (i + 1) ds))
    (with_share c.args.builder.now (shares files c.args.file (firsts c.args.builder.now) (definition_trees ds))) c.in_ok-add_definition.ensures.exact
    (ap (λ (l : List Definition). with_share b (shares files c.args.file (firsts b) (definition_trees l))) (sym open_list) ∙ c.loop-definition.invariant)

pub add_definition-requires-clause-kept : goal.add_definition-requires-clause-kept
add_definition-requires-clause-kept c = inner_kept c.args.definitions.now c.loop-definition.definition-index c.definition-item.result c.loop-definition-test.true c.definition-item.is c.requires.kept

pub returns-in_err-add_definition-clause-unless : goal.returns-in_err-add_definition-clause-unless
returns-in_err-add_definition-clause-unless c apart =
    let files = files_of c.args.index.now in
    let ds = c.args.definitions.now in
    let i = c.loop-definition.definition-index in
    let d = c.definition-item.result in
    let b = c.loop-definition.builder in
    let open_list = next ds i d c.loop-definition-test.true c.definition-item.is in
    let whole = ap (λ (l : List Definition). with_share b (shares files c.args.file (firsts b) (definition_trees l))) (sym open_list) ∙ c.loop-definition.invariant in
    let here = share files c.args.file (firsts b) (definition_tree d) in
    let rest = shares files c.args.file (after (firsts b) (definition_tree d)) (definition_trees (drop (i + 1) ds)) in
    let is : c.from_residual.result ≡ Err c.in_err-add_definition.field-0.0 = search rules in
    rw is (c.in_err-add_definition.ensures.unless (first_apart b.names here rest _ (ap (λ (e : Declarations). e.names) whole) apart))
