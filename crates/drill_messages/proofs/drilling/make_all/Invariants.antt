use Rattle.std.proofs.Common.{◌≤◌}
use Rattle.drill_messages.specs.Rooms.{IsOpen}
use Rattle.drill_messages.proofs.Rounds.{Going}
use Rattle.drill_messages.proofs.drilling.make_all.Given as goal

abbrev pub invariant-loop-seq : goal.invariant-loop-seq
invariant-loop-seq g l =
    let sink = g.O.Sink in
    record {
      going : Going l.fn.seed (sink.written l.fn.output) (sink.written l.output) l.seq l.totals l.draws.state l.rooms.stream.bytes;
      open_rooms : IsOpen l.rooms;
      later : sink.faults l.fn.output ≤ sink.faults l.output;
    }
