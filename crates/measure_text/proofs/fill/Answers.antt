-- One byte more is put in its place.
use Rattle.std.proofs.Common.{◌<◌, length, arith}
use Rattle.measure_text.proofs.Words.{fills}
use Rattle.measure_text.proofs.fill.Goals as goal

pub loop-byte-preserved : goal.loop-byte-preserved
loop-byte-preserved c =
    let within : c.loop-byte.byte-index < length c.loop-byte.bytes = omega (arith, c.loop-byte-test.true, c.loop-byte.auto.bytes) in
    fills c.args.every c.loop-byte.left c.loop-byte.byte-index c.next_byte-next.result.0 c.next_byte-next.result.1 c.loop-byte.bytes within c.next_byte-next.ensures c.loop-byte.invariant
