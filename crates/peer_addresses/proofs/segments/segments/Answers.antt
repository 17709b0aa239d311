use Rattle.std.proofs.Common.{sym}
use Rattle.peer_addresses.proofs.Written.{read_whole, nothing_written}
use Rattle.peer_addresses.proofs.segments.segments.Goals as goal

pub returns-in-Ok : goal.returns-in-Ok
returns-in-Ok c = rw c.segments.ensures (sym (read_whole c.args.word.now _ c.in-Ok.ensures))

pub returns-in-Err : goal.returns-in-Err
returns-in-Err c = nothing_written c.args.word.now c.in-Err.ensures
