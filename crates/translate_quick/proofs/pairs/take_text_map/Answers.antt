use Rattle.std.proofs.Common.{◌≡◌, ◌+◌, ℕ, refl, sym, ◌∙◌}
use Rattle.thrift_value.specs.declared.kind.Kind.{Kind}
use Rattle.protocol_traits.specs.Forms.{SpellsValue}
use Rattle.protocol_traits.specs.declared.nest.Slot.TheVariants as slots
use Rattle.thrift_value.specs.declared.kind.Kind.TheVariants as kinds
use Rattle.thrift_value.specs.Items.{Item, map_begin}
use Rattle.type_walk.specs.Positions.{in_map}
use Rattle.translate_verdicts.specs.Body.{source_in, target_in}
use Rattle.translate_known.proofs.Levels.{pairs_some, takes_level, turns_map}
use Rattle.translate_quick.proofs.pairs.take_text_map.Goals as goal

-- what holds of the kinds that were written holds of those that were read
so_read : (P : Item → Type 0) (key value own : Kind) (size : ℕ) → key ≡ kinds.Str → value ≡ own → P (map_begin kinds.Str own size) → P (map_begin key value size)
so_read P key value own size text same holds = rw (text, same) holds

pub returns-clause-takes : goal.returns-clause-takes
returns-clause-takes g c d ty depth shallow =
    let source = source_in g.R.ReadRules in
    let target = target_in g.W.WireWrite in
    let pairs = c.args.pairs in
    let steps = rw (pairs_some pairs.key pairs.value pairs.size c.requires.some) at c.requires.found in
    let same = c.requires.values ∙ sym c.own_kind.ensures in
    let spells = so_read (λ (item : Item). SpellsValue target.bar target.plain g.W.WireWrite.stands_at c.args.cells.now c.args.to.now c.pairs.new.cells c.in_ok-written.written c.args.stand kinds.Map item)
    pairs.key pairs.value c.own_kind.result pairs.size c.requires.texts same c.in_ok-written.ensures.spells in
    let reach = c.in_ok-reach.reach in
    takes_level source target g.R.ReadRules.stands_at g.W.WireWrite.stands_at c.args.frame.now g.R.ReadRules.pays g.met.W.FormWrite.goes_on
    d ty depth c.args.at pairs.behind reach.read c.args.stand kinds.Map (map_begin pairs.key pairs.value pairs.size) (slots.Keys pairs.key pairs.value pairs.size) (in_map d ty pairs.key pairs.value)
    c.args.cells.now c.pairs.new.cells c.take_text_pairs.new.cells c.args.to.now c.in_ok-written.written reach.written
    refl (λ nest. refl) (λ outer. refl) shallow steps spells
    (λ up outer deep. c.in_ok-reach.ensures.takes d (in_map d ty pairs.key pairs.value) (depth + 1) (turns_map d ty pairs.key pairs.value) up outer deep)
