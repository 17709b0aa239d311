use Rattle.std.proofs.Common.{ℕ, List, sym, ap, append_assoc}
use Rattle.std.proofs.lemmas.List.{append-nil}
use Rattle.protocol_traits.specs.Heads.{header_of}
use Rattle.protocol_traits.specs.Steps.{step_ok, step_err}
use Rattle.translate_verdicts.specs.Body.{source_in, target_in}
use Rattle.translate_core.proofs.Answered.{answer_err, answer_ok}
use Rattle.translate_core.proofs.answering.answer.Goals as goal

pub returns-in-Ok-clause-out : goal.returns-in-Ok-clause-out
returns-in-Ok-clause-out g c =
    let source = source_in g.R.ReadRules in
    let target = target_in g.W.WireWrite in
    let new = c.head.follows.lender-at-none in
    let header = header_of c.in-Ok.head in
    let e = rw c.over-reader.ensures at (step_ok (g.R.ReadRules.reads_head c.over-reader.result) header new c.in-Ok.ensures.answer c.head.follows.holds-at-none) in
    rw (c.put_failure.ensures.out, c.put_head.ensures.out, c.put_head.ensures.state, c.over-writer.ensures, c.text.ensures.text, answer_ok source target c.args.frame.now c.args.cause.now header new e)
    (ap (λ (bytes : List ℕ). record c.args.out.now { bytes = bytes }) (append_assoc c.args.out.now.bytes _ _))

pub returns-clause-out : goal.returns-clause-out
returns-clause-out g c =
    let source = source_in g.R.ReadRules in
    let target = target_in g.W.WireWrite in
    let e = rw c.over-reader.ensures at (step_err _ _ c.in-Err.ensures.answer) in
    rw (answer_err source target c.args.frame.now c.args.cause.now c.in-Err.field-0 e) (ap (λ (bytes : List ℕ). record c.args.out.now { bytes = bytes }) (sym (append-nil _)))
