use Rattle.message_show.specs.Pieces.{output}
use Rattle.message_show.proofs.Told.{tells_behind}
use Rattle.message_show.proofs.line.Line.put.Goals as goal

pub returns-then-piece-self : goal.returns-then-piece-self
returns-then-piece-self g c =
    let sink = g.O.Sink in
    rw c.push.ensures (record { told = tells_behind (output (sink.written c.args.out.now) (sink.faults c.args.out.now)) c.args.self c.args.piece.now })
