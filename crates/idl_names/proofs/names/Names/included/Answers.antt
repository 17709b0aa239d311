use Rattle.std.proofs.Common.{◌∙◌, None, Some}
use Rattle.idl_names.specs.Files.{file_trees}
use Rattle.idl_names.proofs.Indexed.{included_by}
use Rattle.idl_names.proofs.names.Names.included.Goals as goal

pub returns-in_err-include : goal.returns-in_err-include
returns-in_err-include c =
    let names = c.args.self.now in
    c.from_residual.ensures ∙ included_by (file_trees names.files.now) names.index.items c.args.file c.args.prefix.now _ c.as_slice.ensures.value None names.indexed c.in_err-include.ensures

pub returns : goal.returns
returns c =
    let names = c.args.self.now in
    c.include_at.ensures ∙ included_by (file_trees names.files.now) names.index.items c.args.file c.args.prefix.now _ c.as_slice.ensures.value (Some c.in_ok-include.include) names.indexed c.in_ok-include.ensures
