use Rattle.std.proofs.Common.{w16}
use Rattle.std.proofs.lemmas.Int.{to_z-of_z}
use Rattle.translate_verdicts.specs.Body.{source_in, target_in}
use Rattle.translate_known.proofs.Levels.{takes_flag}
use Rattle.translate_quick.proofs.fields.take_flag.Goals as goal

pub returns-clause-takes : goal.returns-clause-takes
returns-clause-takes g c d ty depth =
    let source = source_in g.R.ReadRules in
    let target = target_in g.W.WireWrite in
    let spells = rw (to_z-of_z w16 c.args.last c.ranges.last, to_z-of_z w16 c.args.id c.ranges.id) at c.flag-written.ensures.spells in
    takes_flag source target g.R.ReadRules.stands_at g.W.WireWrite.stands_at c.args.frame.now g.R.ReadRules.pays g.met.W.FormWrite.goes_on
    d ty depth c.args.at c.args.behind c.in_ok-value.read c.args.opening c.args.last c.args.id c.in_ok-value.value c.args.cells.now c.flag-written.new.cells c.args.to c.flag-written.result
    (c.in_ok-value.ensures.steps c.args.id c.args.last) spells
