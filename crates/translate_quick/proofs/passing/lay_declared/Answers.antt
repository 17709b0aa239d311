use Rattle.std.proofs.Common.{ℕ, [], take, refl, ap}
use Rattle.protocol_traits.specs.Heads.{header_of}
use Rattle.type_walk.specs.Positions.{start}
use Rattle.translate_verdicts.specs.Positions.{typed}
use Rattle.translate_verdicts.specs.Routes.{info_of, start_of}
use Rattle.translate_verdicts.specs.Body.{source_in, target_in}
use Rattle.translate_verdicts.proofs.Judging.{passed_whole}
use Rattle.translate_known.proofs.Levels.{if_some}
use Rattle.translate_quick.proofs.passing.lay_declared.Goals as goal

pub returns-clause-passes : goal.returns-clause-passes
unfolding start_of
returns-clause-passes g c =
    let source = source_in g.R.ReadRules in
    let target = target_in g.W.WireWrite in
    let d = c.args.schema.now in
    let route = c.args.route in
    let frame = c.args.frame.now in
    let header = header_of c.in_ok-head.head in
    let read = c.in_ok-head.ensures.reads in
    if_some _ _ c.lay_told.result (λ (n : ℕ) passes.
    let x = passes read.0 read.2 in (
      c.told_of-told.result.info,
      passed_whole source typed (start_of d route) (info_of d route) target frame header read.0 x.0 (start d c.told_of-told.result.body) x.2 x.1 c.told_of-told.result.info
          [] (target.plain_head header) (take n c.lay_told.new.cells) x.3
          read.1 (c.holds_name.ensures c.if-not-holds_name.false) (ap (start d) c.told_of-told.ensures.body) c.told_of-told.ensures.info x.4 x.5 refl x.6,
    )) c.lay_told.ensures.passes
