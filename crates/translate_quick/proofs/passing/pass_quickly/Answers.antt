use Rattle.std.proofs.Common.{◌≡◌, subst, ◌∙◌}
use Rattle.gate_io.specs.Buffer.{Buffer}
use Rattle.translate_verdicts.specs.Judged.{judged_frame}
use Rattle.translate_quick.proofs.passing.pass_quickly.Goals.{then-not-is_hinted+then-begins_untyped+else-not-is_marked+else-not-is_left, else-not-is_hinted}
use Rattle.translate_quick.proofs.passing.pass_quickly.Goals as goal

pub returns-clause-passes : goal.returns-clause-passes
returns-clause-passes g c =
    let same : c.if-not-is_hinted.out ≡ c.args.out.now = elim c.if-not-is_hinted.branch [ then-not-is_hinted+then-begins_untyped+else-not-is_marked+else-not-is_left w ↦ w.out-is ∙ w.pass_untyped-passed.ensures.left (w.is_left.ensures.left w.if-not-is_left.false) | else-not-is_hinted w ↦ w.out-is ] in
    subst (λ (b : Buffer). g.O.Outcome.passes c.pass_typed.result b.bytes c.pass_typed.new.out.bytes (judged_frame g.R.ReadRules g.W.WireWrite c.args.schema.now c.args.route c.args.frame.now)) same c.pass_typed.ensures.passes
