use Rattle.std.proofs.Common.{[]}
use Rattle.message_show.proofs.Told.{tells_more}
use Rattle.message_show.proofs.line.Line.put_long.Goals as goal

pub returns-then-piece-le-ROOM : goal.returns-then-piece-le-ROOM
returns-then-piece-le-ROOM g c = record { told = tells_more _ _ _ _ _ [] c.args.piece.now c.flush-line.ensures.told c.push.ensures }
