use Rattle.std.proofs.Common.{arith, subst, List, ℕ}
use Rattle.gate_streams.specs.Terms.{shown_by}
use Rattle.gate_streams.specs.Handling.{as_line}
use Rattle.gate_streams.specs.Working.{Treats}
use Rattle.gate_streams.proofs.Treating.{page_passed, page_refused, page_unread, page_longer, page_cut, page_line}
use Rattle.gate_streams.proofs.show.show_frame.Goals as goal

pub returns-in-Passed-clause-treated : goal.returns-in-Passed-clause-treated
returns-in-Passed-clause-treated g c =
    page_passed (shown_by c.args.task.now c.args.from c.args.frame.now) (g.O.Sink.written c.args.output.now) c.args.page.now.out.bytes c.show.new.output.out.bytes c.in-Passed.ensures.exact

pub returns-in-Refused-clause-treated : goal.returns-in-Refused-clause-treated
returns-in-Refused-clause-treated g c =
    page_refused (shown_by c.args.task.now c.args.from c.args.frame.now) c.in-Refused.fault (g.O.Sink.written c.args.output.now) c.args.page.now.out.bytes c.show.new.output.out.bytes c.in-Refused.ensures.exact

pub returns-in-Unread-clause-treated : goal.returns-in-Unread-clause-treated
returns-in-Unread-clause-treated g c =
    page_unread (shown_by c.args.task.now c.args.from c.args.frame.now) c.in-Unread.fault (g.O.Sink.written c.args.output.now) c.args.page.now.out.bytes c.show.new.output.out.bytes c.in-Unread.ensures.exact

pub cut-requires : goal.cut-requires
cut-requires g c =
    let longer = page_longer (shown_by c.args.task.now c.args.from c.args.frame.now) c.args.page.now.out.bytes c.show.new.output.out.bytes c.in-WriteFault.ensures.exact in
    omega (arith, longer, c.len-mark.ensures)

pub show_long-requires-clause-message : goal.show_long-requires-clause-message
show_long-requires-clause-message g c =
    page_line (shown_by c.args.task.now c.args.from c.args.frame.now) c.args.page.now.out.bytes c.show.new.output.out.bytes c.in-WriteFault.ensures.exact

pub returns-in-WriteFault-clause-treated : goal.returns-in-WriteFault-clause-treated
returns-in-WriteFault-clause-treated g c =
    let same = page_cut (shown_by c.args.task.now c.args.from c.args.frame.now) c.args.page.now.out.bytes c.show.new.output.out.bytes c.len-mark.result c.len-mark.ensures c.in-WriteFault.ensures.exact in
    subst (λ (p : List ℕ). Treats c.show_long.result (as_line (shown_by c.args.task.now c.args.from c.args.frame.now)) (g.O.Sink.written c.args.output.now) p (g.O.Sink.written c.show_long.new.output) c.show_long.new.page.out.bytes) same
    (subst (λ (p : List ℕ). Treats c.show_long.result (as_line (shown_by c.args.task.now c.args.from c.args.frame.now)) (g.O.Sink.written c.args.output.now) p (g.O.Sink.written c.show_long.new.output) c.show_long.new.page.out.bytes) c.cut.ensures.bytes c.show_long.ensures.treated)
