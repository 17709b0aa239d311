use Rattle.std.proofs.Common.{refl}
use Rattle.stream_messages.proofs.Sides.{lane_writes}
use Rattle.stream_messages.proofs.lane.Lane.write.Goals as goal

pub returns-clause-goes : goal.returns-clause-goes
returns-clause-goes g c =
    lane_writes (g.H.Hub.tells c.args.hub.now) (g.H.Hub.tells c.write_contents.new.hub) c.args.k c.args.side c.args.self.now (record (c.args.self.now) { stripper = c.write_contents.new.stripper }) c.args.from.now c.write_contents.result refl
    c.write_contents.ensures.goes
