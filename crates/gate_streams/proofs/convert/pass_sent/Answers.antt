use Rattle.std.proofs.Common.{◌++◌, arith, ap, ◌∙◌, length, length-append}
use Rattle.gate_io.specs.Buffer.{Buffer}
use Rattle.line_transport.specs.Buffers.{lead}
use Rattle.line_transport.specs.declared.transport.Transport.{Transport}
use Rattle.gate_streams.specs.Handling.{sent_of}
use Rattle.gate_streams.specs.Terms.{judged_by}
use Rattle.gate_streams.proofs.Sending.{at_most_four, closed}
use Rattle.gate_streams.proofs.convert.pass_sent.Goals as goal

pub close-requires-clause-room : goal.close-requires-clause-room
close-requires-clause-room c =
    let begun = ap (λ (b : Buffer). length b.bytes) c.begin-begun.ensures.bytes ∙ length-append c.args.out.now.bytes (lead c.output-transport.result) in
    omega (arith, c.passes.ensures.short, begun, at_most_four c.output-transport.result, c.requires.fits, c.passes.ensures.room, ap (λ (b : Buffer). b.room) c.begin-begun.ensures.bytes)

pub returns-then-passes-clause-passed : goal.returns-then-passes-clause-passed
returns-then-passes-clause-passed c passed =
    let x = c.passes.ensures.passes c.if-passes.true in
    (x.0, x.1.0)

pub returns-then-passes-clause-appended : goal.returns-then-passes-clause-appended
returns-then-passes-clause-appended c passed =
    let j = judged_by c.args.task.now c.args.from c.args.to c.args.frame.now in
    let x = c.passes.ensures.passes c.if-passes.true in
    let t = c.output-transport.result in
    ap (λ (b : Buffer). b.bytes) c.close.ensures
    ∙ (closed t j.verdict j.bytes x.0 c.args.out.now.bytes (lead t) c.passes.new.out.bytes c.begin-begun.result c.begin-begun.ensures.place x.1.0
    (x.1.1 ∙ ap (λ (b : Buffer). b.bytes ++ j.bytes) c.begin-begun.ensures.bytes)
    ∙ ap (λ (transport : Transport). c.args.out.now.bytes ++ sent_of transport j) c.output-transport.ensures)
