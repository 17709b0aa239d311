use Rattle.std.proofs.Common.{◌≡◌, [], ◌++◌, refl, sym, ap, ◌∙◌}
use Rattle.std.proofs.lemmas.List.{append-nil}
use Rattle.std.specs.Prelude.{if◌then◌else◌, is_some}
use Rattle.gate_io.specs.Buffer.{Buffer}
use Rattle.protocol_traits.specs.Heads.{header_of}
use Rattle.protocol_traits.specs.Steps.{step_ok, step_err}
use Rattle.type_walk.specs.Positions.{start}
use Rattle.translate_verdicts.specs.declared.verdict.HeadInfo.{HeadInfo}
use Rattle.translate_verdicts.specs.Positions.{typed}
use Rattle.translate_verdicts.specs.Routes.{info_of, start_of}
use Rattle.translate_verdicts.specs.Body.{source_in, target_in, going, whole}
use Rattle.translate_verdicts.specs.Judged.{head_cause, body_of, after_body, body_bytes, kept}
use Rattle.translate_verdicts.proofs.Judging.{judge_err, judge_ok, out_kept, out_left}
use Rattle.translate_core.proofs.message.translate.Goals as goal

pub returns-in-Err-clause-exact : goal.returns-in-Err-clause-exact
returns-in-Err-clause-exact g c =
    let source = source_in g.R.ReadRules in
    let target = target_in g.W.WireWrite in
    let e = rw c.over-reader.ensures at (step_err _ _ c.in-Err.ensures.answer) in
    rw (judge_err source typed (start_of c.args.schema.now c.args.route) (info_of c.args.schema.now c.args.route) target c.args.frame.now c.in-Err.fault e) (refl, sym (append-nil _))

pub returns-clause-exact : goal.returns-clause-exact
unfolding start_of
returns-clause-exact g c =
    let source = source_in g.R.ReadRules in
    let target = target_in g.W.WireWrite in
    let first = start_of c.args.schema.now c.args.route in
    let info = info_of c.args.schema.now c.args.route in
    let new = c.head.follows.lender-at-none in
    let header = header_of c.in-Ok.head in
    let begun = start c.args.schema.now c.told_of-told.result.body in
    let e = rw c.over-reader.ensures at (step_ok (g.R.ReadRules.reads_head c.over-reader.result) header new c.in-Ok.ensures.answer c.head.follows.holds-at-none) in
    let begins : begun ≡ first header = ap (start c.args.schema.now) c.told_of-told.ensures.body in
    let same : going new begun c.pass_head.new.writer 1 c.first_cause-barred.result [] ≡ going new (first header) target.begun 1 (head_cause source typed first info target header new) [] =
    rw (begins, c.pass_head.ensures.state, c.over-writer.ensures, c.first_cause-barred.ensures, c.pass_head.ensures.found, c.place.ensures) refl in
    let verdict : c.verdict_by-verdict.result ≡ after_body source (info header) (body_of source typed first info target (header, new)) =
    c.verdict_by-verdict.ensures.verdict ∙ ap (λ (i : HeadInfo). after_body source i (whole source typed target (going new begun c.pass_head.new.writer 1 c.first_cause-barred.result []))) c.told_of-told.ensures.info ∙ ap (λ b. after_body source (info header) (whole source typed target b)) same in
    let grown = c.verdict_by-verdict.ensures.bytes in
    let out : c.verdict_by-verdict.new.out.bytes ≡ (if is_some (target.name_bar header.name) then c.args.out.now.bytes else c.args.out.now.bytes ++ target.plain_head header) ++ grown.0 =
    grown.1 ∙ ap (λ (b : Buffer). b.bytes ++ grown.0) c.pass_head.ensures.out in
    let kept_same : kept c.verdict_by-verdict.result grown.0 ≡ kept c.verdict_by-verdict.result (body_bytes (body_of source typed first info target (header, new))) =
    grown.2 ∙ ap (λ b. kept c.verdict_by-verdict.result (body_bytes (whole source typed target b))) same in
    rw (judge_ok source typed first info target c.args.frame.now header new e) (
      sym verdict,
      rw (c.keep.ensures, c.bytes-start.ensures.bytes, ← verdict) (out_kept _ _ _ _ _ _ _ out kept_same),
    )

pub returns-clause-left : goal.returns-clause-left
returns-clause-left g c =
    let header = header_of c.in-Ok.head in
    let grown = c.verdict_by-verdict.ensures.bytes in
    let out : c.verdict_by-verdict.new.out.bytes ≡ (if is_some (g.W.WireWrite.name_bar header.name) then c.args.out.now.bytes else c.args.out.now.bytes ++ g.W.WireWrite.plain_head header) ++ grown.0 =
    grown.1 ∙ ap (λ (b : Buffer). b.bytes ++ grown.0) c.pass_head.ensures.out in
    rw (c.keep.ensures, c.bytes-start.ensures.bytes) (out_left _ _ _ _ _ _ out)
