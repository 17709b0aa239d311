use Rattle.std.proofs.Common.{refl}
use Rattle.gate_streams.specs.Terms.{shown_by}
use Rattle.gate_streams.proofs.Treating.{long_passed, long_broken, page_broken, not_refused, not_unread}
use Rattle.gate_streams.proofs.show.show_long.Goals as goal

pub returns-in-Failed-clause-treated : goal.returns-in-Failed-clause-treated
returns-in-Failed-clause-treated g c =
    page_broken (shown_by c.args.task.now c.args.from c.args.frame.now) (g.O.Sink.written c.args.output.now) (g.O.Sink.written c.flush.new.output) c.args.page.now.out.bytes c.flush.new.self.out.bytes c.requires.message c.flush.ensures.front

pub returns-in-Passed-clause-treated : goal.returns-in-Passed-clause-treated
returns-in-Passed-clause-treated g c =
    long_passed (shown_by c.args.task.now c.args.from c.args.frame.now) (g.O.Sink.written c.args.output.now) (g.O.Sink.written c.flush.new.output) (g.O.Sink.written c.show.new.output) c.args.page.now.out.bytes c.flush.new.self.out.bytes (c.in-All.ensures.all refl).0 (c.in-All.ensures.all refl).1 c.in-Passed.ensures.exact

pub returns-in-Refused-clause-treated : goal.returns-in-Refused-clause-treated
returns-in-Refused-clause-treated g c =
    not_refused (shown_by c.args.task.now c.args.from c.args.frame.now) c.in-Refused.fault (g.O.Sink.written c.flush.new.output) (g.O.Sink.written c.show.new.output) c.requires.message c.in-Refused.ensures.exact

pub returns-in-Unread-clause-treated : goal.returns-in-Unread-clause-treated
returns-in-Unread-clause-treated g c =
    not_unread (shown_by c.args.task.now c.args.from c.args.frame.now) c.in-Unread.fault (g.O.Sink.written c.flush.new.output) (g.O.Sink.written c.show.new.output) c.requires.message c.in-Unread.ensures.exact

pub returns-in-WriteFault-clause-treated : goal.returns-in-WriteFault-clause-treated
returns-in-WriteFault-clause-treated g c =
    long_broken (shown_by c.args.task.now c.args.from c.args.frame.now) (g.O.Sink.written c.args.output.now) (g.O.Sink.written c.flush.new.output) (g.O.Sink.written c.show.new.output) c.args.page.now.out.bytes c.flush.new.self.out.bytes (c.in-All.ensures.all refl).1 c.in-WriteFault.ensures.exact
