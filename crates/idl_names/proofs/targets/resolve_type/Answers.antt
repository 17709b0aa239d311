use Rattle.std.proofs.Common.{◌∙◌, ap, sym, option_map}
use Rattle.idl_document.specs.Trees.{type_tree}
use Rattle.idl_names.specs.Files.{file_trees}
use Rattle.idl_names.specs.Told.{step_tree, target_tree}
use Rattle.idl_names.proofs.Chasing.{target_is, chased_lost, chased_ends, chased_follows, chased_out}
use Rattle.idl_names.proofs.targets.resolve_type.Goals as goal

pub typedefs-init : goal.typedefs-init
typedefs-init c =
    target_is (file_trees c.args.names.now.files.now) c.definition_count-left.result c.args.file (type_tree c.args.ty.now) c.definition_count-left.ensures.count

pub returns-in_err-target : goal.returns-in_err-target
returns-in_err-target c =
    ap (option_map target_tree) c.from_residual.ensures
    ∙ sym (chased_lost (file_trees c.args.names.now.files.now) c.typedefs.left c.typedefs.file (type_tree c.typedefs.ty.now) c.typedefs-test.true c.in_err-target.ensures)
    ∙ c.typedefs.invariant

pub returns-in-End : goal.returns-in-End
returns-in-End c =
    sym (chased_ends (file_trees c.args.names.now.files.now) c.typedefs.left c.typedefs.file (type_tree c.typedefs.ty.now) c.typedefs-test.true c.in_ok-target.field-0 (target_tree c.in-End.target) (ap step_tree c.in-End.is) c.in_ok-target.ensures)
    ∙ c.typedefs.invariant

pub typedefs-preserved : goal.typedefs-preserved
typedefs-preserved c =
    chased_follows (file_trees c.args.names.now.files.now) c.typedefs.left c.typedefs.file (type_tree c.typedefs.ty.now) c.typedefs-test.true c.in_ok-target.field-0 c.in-Typedef.other (type_tree c.in-Typedef.aliased.now) (ap step_tree c.in-Typedef.is) c.in_ok-target.ensures
    ∙ c.typedefs.invariant

pub returns : goal.returns
returns c = sym (chased_out (file_trees c.args.names.now.files.now) c.typedefs.left c.typedefs.file (type_tree c.typedefs.ty.now) c.typedefs-test.false) ∙ c.typedefs.invariant
