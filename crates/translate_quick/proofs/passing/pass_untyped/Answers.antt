use Rattle.std.proofs.Common.{◌++◌, refl}
use Rattle.protocol_traits.specs.Heads.{header_of}
use Rattle.type_walk.specs.Positions.{start}
use Rattle.translate_verdicts.specs.Positions.{typed}
use Rattle.translate_verdicts.specs.Routes.{body_of, info_of, start_of}
use Rattle.translate_verdicts.specs.Body.{source_in, target_in}
use Rattle.translate_verdicts.specs.Judged.{judged_frame}
use Rattle.translate_verdicts.proofs.Judging.{passed_whole}
use Rattle.translate_quick.proofs.passing.pass_untyped.Goals as goal

pub returns-then-append_message-clause-passes : goal.returns-then-append_message-clause-passes
unfolding start_of
returns-then-append_message-clause-passes g c =
    let source = source_in g.R.ReadRules in
    let target = target_in g.W.WireWrite in
    let d = c.args.schema.now in
    let header = header_of c.in-Some.head in
    let read = c.in-Some.ensures.reads in
    let body = body_of d c.args.route.now header in
    let x = c.append_message.ensures.passes c.if-append_message.true body tt read.0 read.2 in
    c.passed_by.ensures.passes c.args.out.now.bytes c.append_message.new.out.bytes (judged_frame g.R.ReadRules g.W.WireWrite d c.args.route.now c.args.frame.now)
    (passed_whole source typed (start_of d c.args.route.now) (info_of d c.args.route.now) target c.args.frame.now header read.0 x.0 (start d body) x.2 x.1 (info_of d c.args.route.now header)
    c.args.out.now.bytes (c.args.out.now.bytes ++ target.plain_head header) c.append_message.new.out.bytes x.3
    read.1 (c.holds_name.ensures c.if-not-holds_name.false) refl refl x.4 x.5 refl x.6)
