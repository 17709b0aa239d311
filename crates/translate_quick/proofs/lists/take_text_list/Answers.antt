use Rattle.std.proofs.Common.{◌+◌, ◌∷◌, List, Some, arith}
use Rattle.protocol_traits.specs.declared.forms.Opening.TheVariants as openings
use Rattle.protocol_traits.specs.declared.nest.Slot.{Slot}
use Rattle.protocol_traits.specs.declared.nest.Slot.TheVariants as slots
use Rattle.protocol_traits.specs.Forms.{container_kind, elements_item}
use Rattle.thrift_value.specs.declared.kind.Kind.TheVariants as kinds
use Rattle.thrift_value.specs.Items.{end}
use Rattle.type_walk.specs.Positions.{Position, called_for, hint_of, mark_of, standing}
use Rattle.translate_verdicts.specs.Body.{source_in, target_in}
use Rattle.translate_known.specs.Quick.{in_elements, spot}
use Rattle.translate_known.proofs.Taking.{takes_item, takes_then}
use Rattle.translate_known.proofs.Levels.{elements_after, elements_done, elements_nest, elements_opening, elements_weight, flat_elements, takes_level}
use Rattle.translate_quick.proofs.lists.take_text_list.Goals as goal

pub take_texts-requires-clause-room : goal.take_texts-requires-clause-room
take_texts-requires-clause-room g c =
    omega (arith, elements_weight c.args.container kinds.Str c.args.size, c.requires.room, c.requires.place, c.in_ok-into.ensures.kept, c.in_ok-into.ensures.short)

pub returns-clause-takes : goal.returns-clause-takes
returns-clause-takes g c ty depth means shallow =
    let source = source_in g.R.ReadRules in
    let target = target_in g.W.WireWrite in
    let d = c.args.schema.now in
    let kind = kinds.Str in
    let size = c.args.size in
    let container = c.args.container in
    let level = in_elements d container ty kind in
    let reach = c.in_ok-reach.reach in
    takes_level source target g.R.ReadRules.stands_at g.W.WireWrite.stands_at c.args.frame.now g.R.ReadRules.pays g.met.W.FormWrite.goes_on
    d ty depth c.args.at c.args.behind c.in_ok-read.read c.args.stand (container_kind container) (elements_item container kind size) (slots.Elements kind size) level
    c.args.cells.now c.elements.new.cells c.end-written.new.cells c.args.to c.in_ok-into.into c.end-written.result
    (elements_opening container kind size) (elements_nest container kind size) (elements_after d ty container kind size) shallow
    c.requires.found c.in_ok-into.ensures.spells
    (λ up outer deep.
    let before = c.in_ok-reach.ensures.takes d level (depth + 1) (flat_elements d container ty kind)
    (λ hinted. c.hint-hint.ensures (called_for (Some level)) (c.element-element.ensures.means ty means) (c.requires.informed.0 hinted)) (λ hinted. c.hint-hint.ensures (called_for (Some level)) (c.element-element.ensures.means ty means) (c.requires.informed.1 hinted))
    openings.New up outer deep in
    let p : Position = standing d (level ∷ outer) in
    let nest : List Slot = slots.Elements kind 0 ∷ up in
    let done = elements_done container kind up c.requires.no_map in
    takes_then source target g.R.ReadRules.stands_at g.W.WireWrite.stands_at c.args.frame.now
    (spot c.args.behind openings.New (slots.Elements kind size ∷ up) p) (spot reach.read before.0 nest p) (spot c.in_ok-read.read openings.Old up (standing d outer))
    c.elements.new.cells c.take_texts.new.cells c.end-written.new.cells c.in_ok-into.into reach.written c.end-written.result
    before.1
    (takes_item source target g.R.ReadRules.stands_at g.W.WireWrite.stands_at c.args.frame.now g.R.ReadRules.pays g.met.W.FormWrite.goes_on
    reach.read c.in_ok-read.read before.0 nest p end c.take_texts.new.cells c.end-written.new.cells reach.written c.end-written.result (omega arith)
    (c.in_ok-read.ensures.steps before.0 nest (hint_of p) done) (c.end-written.ensures.spells before.0 nest (mark_of p end) done)))
