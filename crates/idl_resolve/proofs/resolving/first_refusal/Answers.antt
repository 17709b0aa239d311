use Rattle.std.proofs.Common.{sym, ◌∙◌, arith}
use Rattle.idl_resolve.specs.Refused.{first_refusal}
use Rattle.idl_resolve.proofs.Asking.{passed, refused}
use Rattle.idl_resolve.proofs.resolving.first_refusal.Goals as goal

pub returns-in-Some : goal.returns-in-Some
unfolding first_refusal
returns-in-Some c =
    refused c.args.cycles.now c.args.names.now.files.now c.loop-place.place c.file-item.result (omega arith) c.file-item.is _ (c.in-Some.offset, c.in-Some.row) c.in_ok-file.file
    (sym c.in-Some.is ∙ c.in_ok-offset.ensures) (c.in_ok-file.ensures ∙ c.as_slice.ensures) c.loop-place.invariant

pub loop-place-preserved : goal.loop-place-preserved
loop-place-preserved c =
    passed c.args.cycles.now c.args.names.now.files.now c.loop-place.place c.file-item.result (omega arith) c.file-item.is _ (sym c.in_default.is ∙ c.in_ok-offset.ensures) c.loop-place.invariant
