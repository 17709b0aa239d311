use Rattle.std.proofs.Common.{refl}
use Rattle.gate_streams.specs.Working.{moment}
use Rattle.gate_streams.proofs.Draining.{all_drained, drain_broke}
use Rattle.gate_streams.proofs.stream.Work.drain.Goals as goal

pub returns-in-Ok-flush_both-clause-drained : goal.returns-in-Ok-flush_both-clause-drained
returns-in-Ok-flush_both-clause-drained g c = λ left.
    all_drained c.args.task.now _ (moment c.handle_frames.new.self left (g.O.Sink.written c.handle_frames.new.output) (g.E.Sink.written c.handle_frames.new.report)) _
    c.handle_frames.new.self.page.out.bytes c.handle_frames.new.self.lines.bytes c.in-Ok.excess (c.in-Ok.ensures.handled left) refl refl refl refl refl c.in-Ok-flush_both.ensures.both.0 c.in-Ok-flush_both.ensures.both.1

pub returns-in-Err-flush_both-clause-drained : goal.returns-in-Err-flush_both-clause-drained
returns-in-Err-flush_both-clause-drained g c = λ left.
    drain_broke c.in-Err-flush_both.broken c.args.task.now _ (moment c.handle_frames.new.self left (g.O.Sink.written c.handle_frames.new.output) (g.E.Sink.written c.handle_frames.new.report)) _
    c.handle_frames.new.self.page.out.bytes c.handle_frames.new.self.lines.bytes c.in-Ok.excess (c.in-Ok.ensures.handled left) refl c.in-Err-flush_both.ensures.both
