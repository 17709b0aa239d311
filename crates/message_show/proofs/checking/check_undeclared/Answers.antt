use Rattle.std.proofs.Common.{refl}
use Rattle.protocol_traits.specs.Heads.{header_of}
use Rattle.protocol_traits.specs.Steps.{step_ok, step_err}
use Rattle.translate_verdicts.specs.Body.{source_in}
use Rattle.translate_verdicts.specs.Routes.{start_of}
use Rattle.translate_verdicts.specs.declared.route.Route.TheVariants.{ByName}
use Rattle.message_show.specs.Line.{head_text}
use Rattle.message_show.proofs.Frames.{shown_ok, shown_err}
use Rattle.message_show.proofs.checking.check_undeclared.Goals as goal

pub returns-in-Err : goal.returns-in-Err
returns-in-Err g c =
    let source = source_in g.R.ReadRules in
    let first = start_of c.args.schema.now (ByName c.args.service) in
    let e = rw c.over-reader.ensures at (step_err (g.R.ReadRules.reads_head c.over-reader.result) c.in-Err.fault c.in-Err.ensures.answer) in
    rw (shown_err source first c.args.frame.now c.in-Err.fault e) refl

pub returns : goal.returns
returns g c =
    let source = source_in g.R.ReadRules in
    let first = start_of c.args.schema.now (ByName c.args.service) in
    let new = c.head.follows.lender-at-none in
    let header = header_of c.in-Ok.field-0 in
    let e = rw c.over-reader.ensures at (step_ok (g.R.ReadRules.reads_head c.over-reader.result) header new c.in-Ok.ensures.answer c.head.follows.holds-at-none) in
    rw (shown_ok source first c.args.frame.now header new e) (c.check_any.ensures (first header) (head_text header))
