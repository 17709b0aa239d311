use Rattle.std.proofs.Common.{arith}
use Rattle.std.proofs.lemmas.Grind.{common_steps}
use Rattle.message_show.specs.Pieces.{output}
use Rattle.message_show.proofs.Strings.{piece_more}
use Rattle.message_show.proofs.Told.{tells_then, tells_same}
use Rattle.message_show.proofs.values.tell_bytes.Goals as goal

pub loop-at-preserved : goal.loop-at-preserved
loop-at-preserved g c =
    let sink = g.O.Sink in
    let old = output (sink.written c.args.out.now) (sink.faults c.args.out.now) in
    let mid = output (sink.written c.loop-at.out) (sink.faults c.loop-at.out) in
    let new = output (sink.written c.tell_piece-line.new.out) (sink.faults c.tell_piece-line.new.out) in
    let bytes = c.args.bytes.now in
    record {
      within = omega (arith, c.min-end.ensures, c.loop-at.invariant.within);
      told = tells_same old new c.args.line c.tell_piece-line.result _ _ (piece_more bytes c.loop-at.at c.min-end.result (omega (arith, c.min-end.ensures, c.loop-at.invariant.within)))
          (tells_then old mid new c.args.line c.loop-at.line c.tell_piece-line.result _ _ c.loop-at.invariant.told c.tell_piece-line.ensures.told);
    }

pub returns : goal.returns
returns g c = grind (arith, common_steps)
