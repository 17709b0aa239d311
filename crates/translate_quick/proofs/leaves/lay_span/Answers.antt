use Rattle.std.proofs.Common.{◌∙◌}
use Rattle.thrift_value.specs.declared.kind.Kind.TheVariants as kinds
use Rattle.thrift_value.specs.Items.{text}
use Rattle.protocol_traits.specs.Forms.{part}
use Rattle.type_walk.specs.Positions.{hint_of, mark_of}
use Rattle.translate_verdicts.specs.Body.{source_in, target_in}
use Rattle.translate_known.specs.Quick.{called}
use Rattle.translate_known.proofs.Taking.{calls_some, takes_item, mark_hint}
use Rattle.translate_quick.proofs.leaves.lay_span.Goals as goal

pub returns-clause-takes : goal.returns-clause-takes
returns-clause-takes g c d ty depth read_hint write_hint opening nest outer calls deep =
    let source = source_in g.R.ReadRules in
    let target = target_in g.W.WireWrite in
    let p = called d outer ty in
    let item = text (part c.args.frame.now c.args.span.begin c.args.span.end) in
    takes_item source target g.R.ReadRules.stands_at g.W.WireWrite.stands_at c.args.frame.now g.R.ReadRules.pays g.met.W.FormWrite.goes_on
    c.args.at c.args.span.behind opening nest p item c.args.cells.now c.text.new.cells c.args.to c.in_ok-written.written (calls_some c.args.stand kinds.Str opening nest calls)
    (c.requires.found opening nest (hint_of p) read_hint calls)
    (c.in_ok-written.ensures.spells opening nest (mark_of p item) (λ hinted. mark_hint d ty ∙ write_hint hinted) calls)
