use Rattle.std.proofs.Common.{refl, subst}
use Rattle.protocol_traits.specs.Heads.{header_of}
use Rattle.protocol_traits.specs.Steps.{step_ok, step_err}
use Rattle.translate_verdicts.specs.Body.{source_of}
use Rattle.conform_check.specs.Checking.{IsChecked, after_body, begun, body_from}
use Rattle.conform_check.proofs.Frames.{checked_err, checked_ok}
use Rattle.conform_check.proofs.check.check_with.Goals as goal

pub returns-in-Err-clause-exact : goal.returns-in-Err-clause-exact
returns-in-Err-clause-exact g c =
    let source = source_of g.R.ReadRules.begun g.R.ReadRules.reads_head g.R.ReadRules.reads g.R.ReadRules.reads_end g.R.ReadRules.value_place g.R.ReadRules.ahead in
    let e = rw c.over-reader.ensures at (step_err (g.R.ReadRules.reads_head c.over-reader.result) c.in-Err.fault c.in-Err.ensures.answer) in
    rw (checked_err source c.args.schema.now c.args.service c.args.frame.now c.in-Err.fault e) (refl, c.clear.ensures.items)

pub returns-clause-exact : goal.returns-clause-exact
returns-clause-exact g c =
    let source = source_of g.R.ReadRules.begun g.R.ReadRules.reads_head g.R.ReadRules.reads g.R.ReadRules.reads_end g.R.ReadRules.value_place g.R.ReadRules.ahead in
    let new = c.head.follows.lender-at-none in
    let header = header_of c.in-Ok.head in
    let e = rw c.over-reader.ensures at (step_ok (g.R.ReadRules.reads_head c.over-reader.result) header new c.in-Ok.ensures.answer c.head.follows.holds-at-none) in
    rw (checked_ok source c.args.schema.now c.args.service c.args.frame.now header new e)
    (subst (λ b. IsChecked c.settle.result c.settle.new.path.items (after_body source (body_from source new (begun c.args.schema.now b)))) c.body_struct-body.ensures.value
    (c.settle.ensures.settled (after_body source (body_from source new (begun c.args.schema.now c.body_struct-body.result))) c.check_body-checked.ensures.exact))
