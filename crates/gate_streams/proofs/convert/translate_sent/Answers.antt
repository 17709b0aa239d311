use Rattle.std.proofs.Common.{arith, ap, ◌∙◌, length, length-append}
use Rattle.gate_io.specs.Buffer.{Buffer}
use Rattle.line_transport.specs.Buffers.{lead}
use Rattle.gate_streams.proofs.Sending.{at_most_four}
use Rattle.gate_streams.proofs.convert.translate_sent.Goals as goal

pub close-requires-clause-room : goal.close-requires-clause-room
close-requires-clause-room c =
    let begun = ap (λ (b : Buffer). length b.bytes) c.begin-at.ensures.bytes ∙ length-append c.args.out.now.bytes (lead c.output-transport.result) in
    omega (arith, c.translate-verdict.ensures.short, begun, at_most_four c.output-transport.result, c.requires.fits, c.translate-verdict.ensures.room, ap (λ (b : Buffer). b.room) c.begin-at.ensures.bytes)
