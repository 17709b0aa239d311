use Rattle.std.proofs.Common.{◌≡◌, ◌∙◌, ap, sym}
use Rattle.idl_document.specs.declared.document.TypeExpr.{TypeExpr}
use Rattle.idl_document.specs.Trees.{type_tree, form_tree, map_at}
use Rattle.idl_rules.specs.Leasts.{none_lesser}
use Rattle.idl_rules.specs.Order.{lesser, least_of}
use Rattle.idl_names.specs.Files.{file_trees}
use Rattle.idl_names.specs.Refusals.{type_refusals}
use Rattle.idl_names.proofs.Noting.{joined}
use Rattle.idl_names.proofs.refusals.+check_type.Goals as goal

pub returns-in-Base : goal.returns-in-Base
returns-in-Base t c = rw c.in-Base.is (sym (none_lesser c.args.least.now))

pub returns-in-Map : goal.returns-in-Map
returns-in-Map t c =
    let files = file_trees c.args.names.now.files.now in
    let file = c.args.file in
    let old = c.args.least.now in
    let mid = c.check_type.new.least in
    let key = c.in-Map.key.value in
    let value = c.in-Map.value.value in
    let e : type_tree c.args.ty.now ≡ map_at c.args.ty.now.at (type_tree key) (type_tree value) = ap (form_tree c.args.ty.now.at) c.in-Map.is in
    let first = c.check_type.ensures ∙ ap (λ (u : TypeExpr). lesser old (least_of (type_refusals files file (type_tree u)))) c.deref.ensures in
    let second = c.check_type-in-Map.ensures ∙ ap (λ (u : TypeExpr). lesser mid (least_of (type_refusals files file (type_tree u)))) c.deref-in-Map.ensures in
    rw e (joined old mid c.check_type-in-Map.new.least (type_refusals files file (type_tree key)) (type_refusals files file (type_tree value)) first second)
