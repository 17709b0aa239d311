use Rattle.std.proofs.Common.{refl}
use Rattle.stream_messages.proofs.Sides.{lane_reads}
use Rattle.stream_messages.proofs.lane.Lane.read.Goals as goal

pub returns-clause-goes : goal.returns-clause-goes
returns-clause-goes g c =
    lane_reads (g.H.Hub.tells c.args.hub.now) (g.H.Hub.tells c.read_frames.new.hub) c.args.k c.args.side c.args.self.now (record (c.args.self.now) { framer = c.read_frames.new.framer }) c.read_frames.new.into c.read_frames.result refl
    c.read_frames.ensures.goes
