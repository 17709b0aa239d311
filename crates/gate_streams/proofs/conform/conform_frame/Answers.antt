use Rattle.std.proofs.Common.{◌∙◌, ap, sym}
use Rattle.conform_check.specs.Checking.{broken}
use Rattle.gate_streams.specs.Handling.{is_passed, bytes_for, line_for}
use Rattle.gate_streams.specs.Lines.{breach_line}
use Rattle.gate_streams.specs.Terms.{found_by}
use Rattle.gate_streams.proofs.Treating.{found_meets, found_breaks, found_refused, found_unread, laid, unlaid}
use Rattle.gate_streams.proofs.conform.conform_frame.Goals as goal

pub returns-in-Meets-clause-passed : goal.returns-in-Meets-clause-passed
returns-in-Meets-clause-passed c =
    let f = found_by c.args.task.now c.args.check.now.from c.args.frame.now in
    ap is_passed (sym (found_meets c.check.new.check.check.path f c.in-Meets.ensures.exact))

pub returns-in-Meets-clause-written : goal.returns-in-Meets-clause-written
returns-in-Meets-clause-written c =
    let f = found_by c.args.task.now c.args.check.now.from c.args.frame.now in
    laid c.args.page.now _ _ _ c.meets.ensures (ap (bytes_for c.args.number) (found_meets c.check.new.check.check.path f c.in-Meets.ensures.exact))

pub returns-in-Meets-clause-reported : goal.returns-in-Meets-clause-reported
returns-in-Meets-clause-reported c =
    let f = found_by c.args.task.now c.args.check.now.from c.args.frame.now in
    unlaid c.args.lines.now _ (ap (line_for c.args.number) (found_meets c.check.new.check.check.path f c.in-Meets.ensures.exact))

pub returns-in-Broken-clause-passed : goal.returns-in-Broken-clause-passed
returns-in-Broken-clause-passed c =
    let f = found_by c.args.task.now c.args.check.now.from c.args.frame.now in
    ap is_passed (sym (found_breaks c.in-Broken.breach c.check.new.check.check.path f c.in-Broken.ensures.exact))

pub returns-in-Broken-clause-written : goal.returns-in-Broken-clause-written
returns-in-Broken-clause-written c =
    let f = found_by c.args.task.now c.args.check.now.from c.args.frame.now in
    unlaid c.args.page.now _ (ap (bytes_for c.args.number) (found_breaks c.in-Broken.breach c.check.new.check.check.path f c.in-Broken.ensures.exact))

pub returns-in-Broken-clause-reported : goal.returns-in-Broken-clause-reported
returns-in-Broken-clause-reported c =
    let f = found_by c.args.task.now c.args.check.now.from c.args.frame.now in
    laid c.args.lines.now _ _ _ c.breach.ensures
    (ap (line_for c.args.number) (found_breaks c.in-Broken.breach c.check.new.check.check.path f c.in-Broken.ensures.exact)
    ∙ ap (λ p. breach_line c.args.number (broken c.in-Broken.breach p)) (sym c.path.ensures.path))

pub returns-in-Refused-clause-passed : goal.returns-in-Refused-clause-passed
returns-in-Refused-clause-passed c =
    let f = found_by c.args.task.now c.args.check.now.from c.args.frame.now in
    ap is_passed (sym (found_refused c.in-Refused.fault c.check.new.check.check.path f c.in-Refused.ensures.exact))

pub returns-in-Refused-clause-written : goal.returns-in-Refused-clause-written
returns-in-Refused-clause-written c =
    let f = found_by c.args.task.now c.args.check.now.from c.args.frame.now in
    unlaid c.args.page.now _ (ap (bytes_for c.args.number) (found_refused c.in-Refused.fault c.check.new.check.check.path f c.in-Refused.ensures.exact))

pub returns-in-Refused-clause-reported : goal.returns-in-Refused-clause-reported
returns-in-Refused-clause-reported c =
    let f = found_by c.args.task.now c.args.check.now.from c.args.frame.now in
    laid c.args.lines.now _ _ _ c.report.ensures (ap (line_for c.args.number) (found_refused c.in-Refused.fault c.check.new.check.check.path f c.in-Refused.ensures.exact))

pub returns-in-Unread-clause-passed : goal.returns-in-Unread-clause-passed
returns-in-Unread-clause-passed c =
    let f = found_by c.args.task.now c.args.check.now.from c.args.frame.now in
    ap is_passed (sym (found_unread c.in-Unread.fault c.check.new.check.check.path f c.in-Unread.ensures.exact))

pub returns-in-Unread-clause-written : goal.returns-in-Unread-clause-written
returns-in-Unread-clause-written c =
    let f = found_by c.args.task.now c.args.check.now.from c.args.frame.now in
    unlaid c.args.page.now _ (ap (bytes_for c.args.number) (found_unread c.in-Unread.fault c.check.new.check.check.path f c.in-Unread.ensures.exact))

pub returns-in-Unread-clause-reported : goal.returns-in-Unread-clause-reported
returns-in-Unread-clause-reported c =
    let f = found_by c.args.task.now c.args.check.now.from c.args.frame.now in
    laid c.args.lines.now _ _ _ c.report-in-Unread.ensures (ap (line_for c.args.number) (found_unread c.in-Unread.fault c.check.new.check.check.path f c.in-Unread.ensures.exact))
