use Rattle.std.proofs.Common.{arith, ◌≡◌, ◌∙◌, ap, sym, List, Option, None, option_map, slice_get, Bor}
use Rattle.std.specs.Option.{option_copied}
use Rattle.idl_document.specs.declared.document.Definition.{Definition}
use Rattle.idl_document.specs.Trees.{definition_trees}
use Rattle.idl_rules.specs.Leasts.{none_lesser}
use Rattle.idl_rules.specs.Order.{lesser, least_of}
use Rattle.idl_names.specs.declared.documents.FileDoc.{FileDoc}
use Rattle.idl_names.specs.Files.{FileTree, file_tree, file_trees}
use Rattle.idl_names.specs.Refusals.{definitions_refusals, file_refusals, name_refusals}
use Rattle.idl_names.proofs.refusals.check_names.Goals as goal
use Rattle.std.proofs.lemmas.Grind.{elements}

pub returns-in-Some : goal.returns-in-Some
unfolding name_refusals
returns-in-Some c =
    let files = file_trees c.args.names.now.files.now in
    let file = c.args.file in
    let told = c.args.cycles.now in
    let old = c.args.least.now in
    c.check_definitions.ensures ∙ ap (λ (ds : List Definition). lesser old (least_of (definitions_refusals files told file 0 (definition_trees ds)))) c.as_slice.ensures
    ∙ ap (λ (t : Option FileTree). lesser old (least_of (file_refusals files told file t))) c.in-Some.ensures

pub returns-in_default : goal.returns-in_default
unfolding name_refusals
returns-in_default c =
    let files = file_trees c.args.names.now.files.now in
    let old = c.args.least.now in
    let none : None ≡ slice_get files c.args.file = ap (λ (r : Option (Bor FileDoc)). option_map file_tree (option_copied r)) (sym c.in_default.is) ∙ c.file_at.ensures in
    sym (none_lesser old) ∙ ap (λ (t : Option FileTree). lesser old (least_of (file_refusals files c.args.cycles.now c.args.file t))) none

pub check_definitions-requires : goal.check_definitions-requires
check_definitions-requires c = grind (arith, elements)
