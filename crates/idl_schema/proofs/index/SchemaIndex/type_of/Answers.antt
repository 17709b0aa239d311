use Rattle.std.proofs.Common.{◌≡◌, ◌<◌, ◌∙◌, ap, sym, arith, ℕ, suc, ◌+◌, ◌-◌, List, add-one}
use Rattle.idl_names.specs.Targets.{definition_count}
use Rattle.idl_schema.specs.Indexes.{files_of}
use Rattle.idl_schema.specs.Types.{target, target_of, ty_by, ty_in, followed}
use Rattle.idl_document.specs.Trees.{type_tree}
use Rattle.idl_schema.proofs.Following.{found_here, goes_on, plain_here, plain_result}
use Rattle.idl_schema.proofs.index.SchemaIndex.type_of.Goals as goal

pub returns-in-Found : goal.returns-in-Found
returns-in-Found c =
    let files = files_of c.args.self.now in
    let tree = c.typedefs.at.tree.now in
    let whole = ty_in files c.args.file c.args.base (type_tree c.args.tree.now) in
    let some : 0 < c.typedefs.left = omega arith in
    found_here files c.typedefs.left c.typedefs.at.file c.typedefs.at.base tree.at tree.form whole c.typedefs.invariant c.in-Named.word c.in-Found.ty c.resolution-resolution.result c.in-Named.is some (sym (ap target_of c.in-Found.is))
    (c.resolution-resolution.ensures.meant ∙ ap (λ (w : List ℕ). ty_by (target files c.typedefs.at.file w) (followed (c.typedefs.left - 1) files)) c.as_slice.ensures)

pub typedefs-preserved : goal.typedefs-preserved
typedefs-preserved c =
    let files = files_of c.args.self.now in
    let tree = c.typedefs.at.tree.now in
    let next = c.in-Alias.next in
    let whole = ty_in files c.args.file c.args.base (type_tree c.args.tree.now) in
    let some : 0 < c.typedefs.left = omega arith in
    goes_on files c.typedefs.left c.typedefs.at.file c.typedefs.at.base tree.at tree.form whole c.typedefs.invariant c.in-Named.word next.file next.base (type_tree next.tree.now) c.resolution-resolution.result c.in-Named.is some (sym (ap target_of c.in-Alias.is))
    (c.resolution-resolution.ensures.meant ∙ ap (λ (w : List ℕ). ty_by (target files c.typedefs.at.file w) (followed (c.typedefs.left - 1) files)) c.as_slice.ensures)

pub returns-in_default : goal.returns-in_default
returns-in_default c =
    let files = files_of c.args.self.now in
    let tree = c.typedefs.at.tree.now in
    let whole = ty_in files c.args.file c.args.base (type_tree c.args.tree.now) in
    plain_result c.plain_ty.result (plain_here files c.typedefs.left c.typedefs.at.file c.typedefs.at.base tree.at tree.form whole c.typedefs.invariant c.in_default.not-Named) c.plain_ty.ensures

pub typedefs-init : goal.typedefs-init
unfolding ty_in
typedefs-init c =
    let files = files_of c.args.self.now in
    let steps : c.definition_count-left.result + 1 ≡ suc (definition_count files) = rw (add-one) (ap (λ (n : ℕ). suc n) c.definition_count-left.ensures.count) in
    ap (λ (n : ℕ). followed n files c.args.file c.args.base (type_tree c.args.tree.now)) steps
