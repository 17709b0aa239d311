use Rattle.std.proofs.Common.{◌≡◌, ◌+◌, ◌∙◌, ◌++◌, Err, rules, ap, sym, subst, suc, drop, List, ℕ}
use Rattle.idl_names.specs.declared.documents.FileDoc.{FileDoc}
use Rattle.idl_names.specs.Files.{file_tree, file_trees}
use Rattle.idl_document.specs.Trees.{definition_trees}
use Rattle.idl_rules.specs.Rules.{all_inner}
use Rattle.idl_schema.specs.Adding.{firsts}
use Rattle.type_tables.specs.Declarations.{Declarations}
use Rattle.idl_schema.specs.Numbers.{after_all}
use Rattle.idl_schema.specs.Shares.{Share, shares, files_shares, with_share}
use Rattle.idl_schema.specs.Stands.{AreApart}
use Rattle.idl_schema.proofs.Apart.{first_apart}
use Rattle.idl_schema.specs.Indexes.{files_of}
use Rattle.idl_schema.proofs.Kept.{file_kept}
use Rattle.idl_schema.proofs.Listing.{next}
use Rattle.idl_schema.proofs.Sharing.{file_added}
use Rattle.idl_schema.proofs.making.add_files.Goals as goal

pub loop-at-preserved : goal.loop-at-preserved
loop-at-preserved c =
    let files = files_of c.args.index.now in
    let fs = c.args.files.now in
    let i = c.loop-at.at in
    let f = c.index-files-at.result in
    let b = c.loop-at.builder in
    let open_list = next fs i f c.loop-at-test.true c.index-files-at.is in
    let added = c.in_ok-add_definitions.ensures.exact
    ∙ ap (λ (n : ℕ). with_share b (shares files n (firsts b) (definition_trees c.as_slice.result.now))) c.in_ok-place.ensures
    ∙ ap (λ ds. with_share b (shares files i (firsts b) (definition_trees ds))) c.as_slice.ensures in
    file_added files i b c.add_definitions.new.builder (file_tree f) (file_trees (drop (i + 1) fs)) (with_share c.args.builder.now (files_shares files 0 (firsts c.args.builder.now) (file_trees fs))) added
    (ap (λ (l : List FileDoc). with_share b (files_shares files i (firsts b) (file_trees l))) (sym open_list) ∙ c.loop-at.invariant)

pub add_definitions-requires-clause-kept : goal.add_definitions-requires-clause-kept
add_definitions-requires-clause-kept c =
    let kept = file_kept c.args.files.now c.loop-at.at c.index-files-at.result c.loop-at-test.true c.index-files-at.is c.requires in
    ap (λ ds. all_inner (definition_trees ds)) c.as_slice.ensures ∙ kept

pub returns-in_err-add_definitions-clause-unless : goal.returns-in_err-add_definitions-clause-unless
returns-in_err-add_definitions-clause-unless c apart =
    let files = files_of c.args.index.now in
    let fs = c.args.files.now in
    let i = c.loop-at.at in
    let f = c.index-files-at.result in
    let b = c.loop-at.builder in
    let open_list = next fs i f c.loop-at-test.true c.index-files-at.is in
    let whole = ap (λ (l : List FileDoc). with_share b (files_shares files i (firsts b) (file_trees l))) (sym open_list) ∙ c.loop-at.invariant in
    let ds = definition_trees f.document.definitions in
    let here = shares files i (firsts b) ds in
    let rest = files_shares files (suc i) (after_all (firsts b) ds) (file_trees (drop (i + 1) fs)) in
    let first = first_apart b.names here rest _ (ap (λ (e : Declarations). e.names) whole) apart in
    let place = ap (λ (n : ℕ). shares files n (firsts b) (definition_trees c.as_slice.result.now)) c.in_ok-place.ensures ∙ ap (λ xs. shares files i (firsts b) (definition_trees xs)) c.as_slice.ensures in
    let is : c.from_residual-in_err-add_definitions.result ≡ Err c.in_err-add_definitions.field-0.0 = search rules in
    rw is (c.in_err-add_definitions.ensures.unless (subst (λ (s : Share). AreApart (b.names ++ s.names)) (sym place) first))
