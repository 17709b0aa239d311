use Rattle.std.proofs.Common.{◌≡◌, ◌++◌, ap, sym, ◌∙◌}
use Rattle.gate_io.specs.Buffer.{Buffer}
use Rattle.gate_streams.specs.Handling.{sent_of}
use Rattle.gate_streams.specs.Terms.{judged_by}
use Rattle.gate_streams.proofs.Treating.{translation_passed, translation_refused, translation_unread}
use Rattle.gate_streams.proofs.convert.convert_frame.Goals.{else-not-tried-via-then-not-tried+else-pass_sent, else-not-tried-via-else-not-tried}
use Rattle.gate_streams.proofs.convert.convert_frame.Goals as goal

pub returns-then-pass_sent-clause-treated : goal.returns-then-pass_sent-clause-treated
returns-then-pass_sent-clause-treated c = λ w.
    let j = judged_by c.args.task.now c.args.from c.args.to c.args.frame.now in
    let x = c.pass_sent.ensures.passed c.if-pass_sent.true in
    translation_passed c.args.task.now.output j.verdict j.bytes x.0 w c.args.out.now.bytes c.pass_sent.new.out.bytes x.1 (c.pass_sent.ensures.appended c.if-pass_sent.true)

pub returns-in-Passed-clause-treated : goal.returns-in-Passed-clause-treated
returns-in-Passed-clause-treated c = λ w.
    let j = judged_by c.args.task.now c.args.from c.args.to c.args.frame.now in
    let same : c.else-not-tried.out ≡ c.args.out.now = elim c.else-not-tried.branch [ else-not-tried-via-then-not-tried+else-pass_sent w ↦ w.out-is ∙ w.pass_sent.ensures.left w.if-pass_sent.false | else-not-tried-via-else-not-tried w ↦ w.out-is ] in
    translation_passed c.args.task.now.output j.verdict j.bytes _ w c.args.out.now.bytes c.translate_sent.new.out.bytes (sym c.in-Passed.ensures.verdict) (ap (λ (b : Buffer). b.bytes) c.translate_sent.ensures.appended ∙ ap (λ (b : Buffer). b.bytes ++ sent_of c.args.task.now.output j) same)

pub returns-in-Refused-clause-treated : goal.returns-in-Refused-clause-treated
returns-in-Refused-clause-treated c = λ w.
    let j = judged_by c.args.task.now c.args.from c.args.to c.args.frame.now in
    let same : c.else-not-tried.out ≡ c.args.out.now = elim c.else-not-tried.branch [ else-not-tried-via-then-not-tried+else-pass_sent w ↦ w.out-is ∙ w.pass_sent.ensures.left w.if-pass_sent.false | else-not-tried-via-else-not-tried w ↦ w.out-is ] in
    translation_refused c.args.task.now.output j.verdict j.bytes _ c.in-Refused.cause w c.args.out.now.bytes c.translate_sent.new.out.bytes (sym c.in-Refused.ensures.verdict) (ap (λ (b : Buffer). b.bytes) c.translate_sent.ensures.appended ∙ ap (λ (b : Buffer). b.bytes ++ sent_of c.args.task.now.output j) same)

pub returns-in-Unread-clause-treated : goal.returns-in-Unread-clause-treated
returns-in-Unread-clause-treated c = λ w.
    let j = judged_by c.args.task.now c.args.from c.args.to c.args.frame.now in
    let same : c.else-not-tried.out ≡ c.args.out.now = elim c.else-not-tried.branch [ else-not-tried-via-then-not-tried+else-pass_sent w ↦ w.out-is ∙ w.pass_sent.ensures.left w.if-pass_sent.false | else-not-tried-via-else-not-tried w ↦ w.out-is ] in
    translation_unread c.args.task.now.output j.verdict j.bytes c.in-Unread.fault w c.args.out.now.bytes c.translate_sent.new.out.bytes (sym c.in-Unread.ensures.verdict) (ap (λ (b : Buffer). b.bytes) c.translate_sent.ensures.appended ∙ ap (λ (b : Buffer). b.bytes ++ sent_of c.args.task.now.output j) same)
