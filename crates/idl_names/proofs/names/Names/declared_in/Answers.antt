use Rattle.std.proofs.Common.{◌<◌, ◌^◌, ◌∙◌, arith, None, Some}
use Rattle.idl_names.specs.Files.{file_trees}
use Rattle.idl_names.proofs.Indexed.{declared_by, few_by}
use Rattle.idl_names.proofs.names.Names.declared_in.Goals as goal

pub returns-in_err-place : goal.returns-in_err-place
returns-in_err-place c =
    let names = c.args.self.now in
    c.from_residual.ensures ∙ declared_by (file_trees names.files.now) names.index.items c.args.file c.args.scope c.args.name.now _ c.as_slice.ensures.value None names.indexed c.in_err-place.ensures

pub overflow_cast-result : goal.overflow_cast-result
overflow_cast-result c =
    let names = c.args.self.now in
    let fits : c.in_ok-place.place < 2 ^ 32 = few_by (file_trees names.files.now) names.index.items c.args.file c.args.scope c.args.name.now _ c.as_slice.ensures.value c.in_ok-place.place names.indexed names.few c.in_ok-place.ensures in
    omega arith

pub returns : goal.returns
returns c =
    let names = c.args.self.now in
    declared_by (file_trees names.files.now) names.index.items c.args.file c.args.scope c.args.name.now _ c.as_slice.ensures.value (Some c.in_ok-place.place) names.indexed c.in_ok-place.ensures
