use Rattle.std.proofs.Common.{◌≡◌, ◌∙◌, ap, sym, List}
use Rattle.std.proofs.lemmas.Result.{on_ok_weaker}
use Rattle.idl_document.specs.declared.document.TypeExpr.{TypeExpr}
use Rattle.idl_document.specs.Trees.{TypeTree, type_tree, form_tree, map_at}
use Rattle.idl_names.specs.declared.documents.Spot.{Spot}
use Rattle.idl_names.specs.Cycles.{type_spots}
use Rattle.idl_names.specs.Files.{file_trees}
use Rattle.idl_names.specs.Sets.{with_all}
use Rattle.idl_names.proofs.Spots.{with_append}
use Rattle.idl_names.proofs.leading.+add_type.Goals as goal

pub returns-in_ok-add_type-in-Map : goal.returns-in_ok-add_type-in-Map
returns-in_ok-add_type-in-Map t c =
    let files = file_trees c.args.names.now.files.now in
    let file = c.args.file in
    let old = c.args.set.now in
    let mid = c.add_type.new.set in
    let key = c.in-Map.key.value in
    let value = c.in-Map.value.value in
    let e : type_tree c.args.ty.now ≡ map_at c.args.ty.now.at (type_tree key) (type_tree value) = ap (form_tree c.args.ty.now.at) c.in-Map.is in
    let first = c.in_ok-add_type-in-Map.ensures ∙ ap (λ (u : TypeExpr). with_all old (type_spots files file (type_tree u))) c.deref.ensures in
    on_ok_weaker c.add_type-in-Map.result
    (λ second. second ∙ ap (λ (u : TypeExpr). with_all mid (type_spots files file (type_tree u))) c.deref-in-Map.ensures
    ∙ ap (λ (m : List Spot). with_all m (type_spots files file (type_tree value))) first
    ∙ sym (with_append old (type_spots files file (type_tree key)) (type_spots files file (type_tree value)))
    ∙ ap (λ (u : TypeTree). with_all old (type_spots files file u)) (sym e))
    c.add_type-in-Map.ensures
