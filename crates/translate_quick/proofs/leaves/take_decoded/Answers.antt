use Rattle.std.proofs.Common.{◌∙◌, ◌+◌, ◌-◌, ◌*◌, length, take, arith, refl}
use Rattle.thrift_value.specs.declared.kind.Kind.TheVariants as kinds
use Rattle.thrift_value.specs.Items.{text}
use Rattle.type_walk.specs.Positions.{hint_of, mark_of}
use Rattle.translate_verdicts.specs.Body.{source_in, target_in}
use Rattle.translate_known.specs.Quick.{called}
use Rattle.translate_known.proofs.Taking.{calls_some, takes_item, mark_hint}
use Rattle.translate_quick.proofs.Decoded.{decoded_spells}
use Rattle.translate_quick.proofs.leaves.take_decoded.Goals as goal

pub returns-clause-takes : goal.returns-clause-takes
returns-clause-takes g c d ty depth read_hint write_hint opening nest outer calls deep =
    let source = source_in g.R.ReadRules in
    let target = target_in g.W.WireWrite in
    let p = called d outer ty in
    let left = length c.args.frame.now - c.args.at in
    let size = c.in_ok-text.text.size in
    let room = c.decode_text.new.room in
    let item = text (take size room) in
    let front = c.split_at_mut-front in
    let read = c.in_ok-text.ensures in
    let wrote = c.in_ok-written.ensures in
    takes_item source target g.R.ReadRules.stands_at g.W.WireWrite.stands_at c.args.frame.now g.R.ReadRules.pays g.met.W.FormWrite.goes_on
    c.args.at c.in_ok-text.text.behind opening nest p item c.args.cells.now _ c.args.to c.in_ok-written.written (calls_some c.args.stand kinds.Str opening nest calls)
    (read.steps opening nest (hint_of p) read_hint calls)
    (decoded_spells g.W.WireWrite.bar g.W.WireWrite.plain g.W.WireWrite.stands_at c.args.cells.now front.result.0.now c.text.new.cells room _ (c.args.to + 6 * left + 128) c.args.to c.in_ok-written.written left size opening nest (mark_of p item)
    front.ensures.front refl (omega (arith, read.shorter, read.past)) (omega arith) (omega (arith, wrote.kept, wrote.short, front.ensures.front_len, read.shorter, read.past))
    (wrote.spells opening nest (mark_of p item) (λ hinted. mark_hint d ty ∙ write_hint hinted) calls))
