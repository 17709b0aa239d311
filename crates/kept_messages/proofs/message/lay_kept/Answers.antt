use Rattle.std.proofs.Common.{[], ◌++◌, take, refl, ap}
use Rattle.protocol_traits.specs.Heads.{header_of}
use Rattle.type_walk.specs.Positions.{start}
use Rattle.translate_verdicts.specs.Positions.{typed}
use Rattle.translate_verdicts.specs.Routes.{body_of, info_of, start_of}
use Rattle.translate_verdicts.specs.Body.{source_in, target_in}
use Rattle.translate_verdicts.proofs.Judging.{passed_whole}
use Rattle.kept_messages.proofs.message.lay_kept.Goals as goal

pub returns-clause-passes : goal.returns-clause-passes
unfolding start_of
returns-clause-passes g c passed route =
    let source = source_in g.R.ReadRules in
    let target = target_in g.W.WireWrite in
    let d = c.args.schema.now in
    let frame = c.args.frame.now in
    let header = header_of c.in-Some.head in
    let read = c.in-Some.ensures.reads in
    let body = body_of d route header in
    let x = c.keep_message.ensures.passes passed body tt read.0 read.2 in (
      info_of d route header,
      passed_whole source typed (start_of d route) (info_of d route) target frame header read.0 x.0 (start d body) x.2 x.1 (info_of d route header)
          [] (take c.in-Some.at frame) c.keep_message.new.cells x.3
          read.1 (c.holds_name.ensures c.if-not-holds_name.false) refl refl x.4 x.5 c.in-Some.ensures.own x.6,
    )
