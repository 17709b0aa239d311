use Rattle.std.proofs.Common.{◌++◌, ap}
use Rattle.protocol_traits.specs.Heads.{Header, header_of}
use Rattle.type_walk.specs.Positions.{start}
use Rattle.translate_verdicts.specs.Positions.{typed}
use Rattle.translate_verdicts.specs.Routes.{info_of, start_of}
use Rattle.translate_verdicts.specs.Body.{source_in, target_in}
use Rattle.translate_methods.proofs.Renaming.{passed_method}
use Rattle.translate_methods.proofs.methods.pass_method_quickly.Goals as goal

pub returns-then-append_told-clause-passes : goal.returns-then-append_told-clause-passes
unfolding start_of
returns-then-append_told-clause-passes g c =
    let source = source_in g.R.ReadRules in
    let target = target_in g.W.WireWrite in
    let d = c.args.schema.now in
    let header = header_of c.in_ok-head.head in
    let read = c.in_ok-head.ensures.reads in
    let x = c.append_told.ensures.passes c.if-append_told.true read.0 read.2 in
    passed_method source typed (start_of d c.args.route) (info_of d c.args.route) target c.args.frame.now header read.0 x.0 (start d c.told_of-told.result.body) x.2 x.1 c.told_of-told.result.info
    c.args.out.now.bytes (c.args.out.now.bytes ++ target.plain_head (header_of c.method_head-alone.result)) c.append_told.new.out.bytes x.3
    read.1 (c.holds_name.ensures c.if-not-holds_name.false) (ap (start d) c.told_of-told.ensures.body) c.told_of-told.ensures.info x.4 x.5
    (ap (λ (h : Header). c.args.out.now.bytes ++ target.plain_head h) c.method_head-alone.ensures.header) x.6
