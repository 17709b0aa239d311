use Rattle.std.proofs.Common.{◌∙◌, ap, sym, Bool, ℕ}
use Rattle.idl_document.specs.Trees.{type_tree}
use Rattle.idl_rules.specs.declared.row.IdlRow.TheVariants as rows
use Rattle.idl_rules.specs.Doubles.{when}
use Rattle.idl_rules.specs.Order.{lesser, least_of}
use Rattle.idl_names.specs.Files.{file_trees}
use Rattle.idl_names.specs.Refusals.{is_refused, is_round, is_other}
use Rattle.idl_names.specs.Targets.{target_of}
use Rattle.idl_names.proofs.Noting.{offset_is}
use Rattle.idl_names.proofs.refusals.check_thrown.Goals as goal

pub returns : goal.returns
returns c =
    let files = file_trees c.args.names.now.files.now in
    let file = c.args.file in
    let old = c.args.least.now in
    let ty = type_tree c.args.ty.now in
    let refused = is_refused (is_round files c.args.cycles.now file ty) (is_other (target_of files file ty)) in
    c.note_when.ensures ∙ ap (λ (b : Bool). lesser old (least_of (when b c.args.ty.now.at rows.NotAnException))) c.is_refused-refused.ensures
    ∙ ap (λ (n : ℕ). lesser old (least_of (when refused n rows.NotAnException))) (sym (offset_is c.args.ty.now))
