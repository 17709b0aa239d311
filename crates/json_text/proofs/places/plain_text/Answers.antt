use Rattle.std.proofs.Common.{◌+◌, arith}
use Rattle.json_text.proofs.PlainTexts.{text_there, ascii_valid}
use Rattle.json_text.proofs.places.plain_text.Goals as goal

pub returns-then-is_ascii-clause-found : goal.returns-then-is_ascii-clause-found
returns-then-is_ascii-clause-found c =
    let run = c.plain_run-stop in
    text_there c.args.bytes.now c.args.at run.result.0 (omega arith) c.if-bytes-at-ne34.false run.ensures.value (omega (arith, run.ensures.bound)) c.if-bytes-stop-ne34.false
    (ascii_valid c.args.bytes.now (c.args.at + 1) run.result.0 (omega (arith, run.ensures.value)) run.ensures.bound (run.ensures.ascii c.if-is_ascii.true))

pub returns-in-Good-clause-found : goal.returns-in-Good-clause-found
returns-in-Good-clause-found c =
    let run = c.plain_run-stop in
    text_there c.args.bytes.now c.args.at run.result.0 (omega arith) c.if-bytes-at-ne34.false run.ensures.value (omega (arith, run.ensures.bound)) c.if-bytes-stop-ne34.false c.in-Good.ensures
