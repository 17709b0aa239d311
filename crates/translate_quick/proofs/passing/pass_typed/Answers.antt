use Rattle.std.proofs.Common.{◌++◌, refl, ap}
use Rattle.protocol_traits.specs.Heads.{header_of}
use Rattle.type_walk.specs.Positions.{start}
use Rattle.translate_verdicts.specs.Positions.{typed}
use Rattle.translate_verdicts.specs.Routes.{info_of, start_of}
use Rattle.translate_verdicts.specs.Body.{source_in, target_in}
use Rattle.translate_verdicts.specs.Judged.{judged_frame}
use Rattle.translate_verdicts.proofs.Judging.{passed_whole}
use Rattle.translate_quick.proofs.passing.pass_typed.Goals as goal

pub returns-then-append_told-clause-passes : goal.returns-then-append_told-clause-passes
unfolding start_of
returns-then-append_told-clause-passes g c =
    let source = source_in g.R.ReadRules in
    let target = target_in g.W.WireWrite in
    let d = c.args.schema.now in
    let header = header_of c.in-Some.head in
    let read = c.in-Some.ensures.reads in
    let x = c.append_told.ensures.passes c.if-append_told.true read.0 read.2 in
    c.passed.ensures.passes c.args.out.now.bytes c.append_told.new.out.bytes (judged_frame g.R.ReadRules g.W.WireWrite d c.args.route.now c.args.frame.now)
    (passed_whole source typed (start_of d c.args.route.now) (info_of d c.args.route.now) target c.args.frame.now header read.0 x.0 (start d c.told_of-told.result.body) x.2 x.1 c.told_of-told.result.info
    c.args.out.now.bytes (c.args.out.now.bytes ++ target.plain_head header) c.append_told.new.out.bytes x.3
    read.1 (c.holds_name.ensures c.if-not-holds_name.false) (ap (start d) c.told_of-told.ensures.body) c.told_of-told.ensures.info x.4 x.5
    refl x.6)
