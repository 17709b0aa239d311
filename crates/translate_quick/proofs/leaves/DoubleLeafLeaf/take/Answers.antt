use Rattle.std.specs.Int.{w64, to_be_bytes}
use Rattle.thrift_value.specs.declared.kind.Kind.TheVariants as kinds
use Rattle.thrift_value.specs.Items.{double_value}
use Rattle.type_walk.specs.Positions.{hint_of, mark_of}
use Rattle.translate_verdicts.specs.Body.{source_in, target_in}
use Rattle.translate_known.specs.Quick.{called}
use Rattle.translate_known.proofs.Taking.{calls_some, takes_item}
use Rattle.translate_quick.proofs.leaves.DoubleLeafLeaf.take.Goals as goal

pub returns-clause-takes : goal.returns-clause-takes
returns-clause-takes g c d ty depth opening nest outer calls deep =
    let source = source_in g.R.ReadRules in
    let target = target_in g.W.WireWrite in
    let p = called d outer ty in
    let item = double_value (to_be_bytes w64 c.in_ok-value.value) in
    takes_item source target g.R.ReadRules.stands_at g.W.WireWrite.stands_at c.args.frame.now g.R.ReadRules.pays g.met.W.FormWrite.goes_on
    c.args.at c.in_ok-value.read opening nest p item c.args.cells.now c.double-2.new.cells c.args.to c.in_ok-written.written (calls_some c.args.stand kinds.Double opening nest calls)
    (c.in_ok-value.ensures.steps opening nest (hint_of p) calls) (c.in_ok-written.ensures.spells opening nest (mark_of p item) calls)
