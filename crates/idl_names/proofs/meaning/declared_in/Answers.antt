use Rattle.std.proofs.Common.{◌∙◌, arith, Some, None}
use Rattle.idl_names.specs.Files.{file_trees}
use Rattle.idl_names.proofs.Looking.{declared_at, few_at}
use Rattle.idl_names.proofs.meaning.declared_in.Goals as goal

pub returns-in_err-place : goal.returns-in_err-place
returns-in_err-place c =
    c.from_residual-in_err-place.ensures
    ∙ declared_at (file_trees c.args.files.now) c.args.file c.args.scope c.args.name.now c.in_ok-found.found.now c.as_slice.result.now None c.in_ok-found.ensures c.as_slice.ensures c.in_err-place.ensures.place

pub overflow_cast-result : goal.overflow_cast-result
overflow_cast-result c =
    let fits = few_at (file_trees c.args.files.now) c.args.file c.in_ok-place.place c.in_ok-found.found.now c.as_slice.result.now c.requires c.in_ok-found.ensures c.as_slice.ensures c.in_ok-place.ensures.within in
    omega arith

pub returns : goal.returns
returns c =
    declared_at (file_trees c.args.files.now) c.args.file c.args.scope c.args.name.now c.in_ok-found.found.now c.as_slice.result.now (Some c.in_ok-place.place) c.in_ok-found.ensures c.as_slice.ensures c.in_ok-place.ensures.place
