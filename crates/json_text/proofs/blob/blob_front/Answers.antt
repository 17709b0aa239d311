use Rattle.std.proofs.Common.{arith, ◌-◌}
use Rattle.std.proofs.lemmas.List.{take_rest}
use Rattle.std.proofs.lemmas.Bool.Decides.{nat_tests}
use Rattle.json_text.proofs.Blobs.{blob_behind, no_blob, no_quote}
use Rattle.json_text.proofs.blob.blob_front.Goals as goal

pub returns-then-is_empty-clause-exact : goal.returns-then-is_empty-clause-exact
returns-then-is_empty-clause-exact c = no_blob c.args.bytes.now (grind (arith, nat_tests))

pub returns-then-bytes-ne34-clause-exact : goal.returns-then-bytes-ne34-clause-exact
returns-then-bytes-ne34-clause-exact c = no_quote c.args.bytes.now (grind (arith, nat_tests)) c.if-bytes-ne34.true

pub returns-clause-exact : goal.returns-clause-exact
returns-clause-exact c =
    let bytes = c.args.bytes.now in
    let s = rw take_rest at c.symbols_end-symbols.ensures.value in
    let p = rw take_rest at c.padding_end-end.ensures.value in
    let same = blob_behind bytes (grind (arith, nat_tests)) c.if-bytes-ne34.false c.symbols_end-symbols.result (c.padding_end-end.result - c.symbols_end-symbols.result) (omega (arith, s)) (omega (arith, p)) in
    rw same (rw take_rest at c.content.ensures.exact)
