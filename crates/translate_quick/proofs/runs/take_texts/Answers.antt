use Rattle.std.proofs.Common.{◌≡◌, ◌+◌, ◌-◌, ℕ, ◌∷◌, Some, arith, refl, subst, ◌∙◌}
use Rattle.protocol_traits.specs.declared.forms.Opening.TheVariants as openings
use Rattle.protocol_traits.specs.declared.nest.Slot.TheVariants as slots
use Rattle.thrift_value.specs.declared.kind.Kind.TheVariants as kinds
use Rattle.type_walk.specs.Positions.{Position, called_for, passed, standing}
use Rattle.translate_verdicts.specs.Body.{source_in, target_in}
use Rattle.translate_known.specs.Quick.{Spot, Takes, spot}
use Rattle.translate_known.proofs.Taking.{takes_none, takes_then}
use Rattle.translate_quick.proofs.runs.take_texts.Goals as goal

pub elements-init : goal.elements-init
elements-init g c =
    let source = source_in g.R.ReadRules in
    let target = target_in g.W.WireWrite in
    record {
      place = (omega arith, omega arith);
      kept = refl;
      grows = omega arith;
      takes = λ d level opening up outer flat reads writes depth deep.
          let p : Position = standing d (level ∷ outer) in
          let here : Spot = spot c.args.from opening (slots.Elements kinds.Str c.args.size ∷ up) p in
          let all : c.args.size ≡ c.args.size - 0 = omega arith in (
            opening,
            subst (λ (left : ℕ). Takes source target g.R.ReadRules.stands_at g.W.WireWrite.stands_at c.args.frame.now here (spot c.args.from opening (slots.Elements kinds.Str left ∷ up) p) c.args.cells.now c.args.into c.args.cells.now c.args.into) all
                (takes_none source target g.R.ReadRules.stands_at g.W.WireWrite.stands_at c.args.frame.now here c.args.cells.now c.args.into),
          );
    }

pub elements-preserved : goal.elements-preserved
elements-preserved g c =
    let source = source_in g.R.ReadRules in
    let target = target_in g.W.WireWrite in
    let inv = c.elements.invariant in
    record {
      place = (omega (arith, inv.place, c.in_ok-reach.ensures.past), omega (arith, c.in_ok-reach.ensures.past));
      kept = c.in_ok-reach.ensures.kept ∙ inv.kept;
      grows = omega (arith, inv.grows, c.in_ok-reach.ensures.grows);
      takes = λ d level opening up outer flat reads writes depth deep.
          let before = inv.takes d level opening up outer flat reads writes depth deep in
          let p : Position = standing d (level ∷ outer) in
          let left : ℕ = c.args.size - c.elements.i in
          let less : left - 1 ≡ c.args.size - (c.elements.i + 1) = omega arith in
          let read = c.in_ok-reach.reach.read in
          let done : Spot = spot read openings.Old (slots.Elements kinds.Str (c.args.size - (c.elements.i + 1)) ∷ up) p in
          let here : Spot = spot c.elements.at before.0 (slots.Elements kinds.Str left ∷ up) p in
          let same : spot read openings.Old (slots.Elements kinds.Str (left - 1) ∷ up) (standing d (passed (level ∷ outer))) ≡ done = rw (flat outer, less) refl in (
            openings.Old,
            takes_then source target g.R.ReadRules.stands_at g.W.WireWrite.stands_at c.args.frame.now
                (spot c.args.from opening (slots.Elements kinds.Str c.args.size ∷ up) p) here done
                c.args.cells.now c.elements.cells c.take_short_text.new.cells c.args.into c.elements.to c.in_ok-reach.reach.written before.1
                (subst (λ (b : Spot). Takes source target g.R.ReadRules.stands_at g.W.WireWrite.stands_at c.args.frame.now here b c.elements.cells c.elements.to c.take_short_text.new.cells c.in_ok-reach.reach.written) same
                (c.in_ok-reach.ensures.takes d (called_for (Some level)) depth reads writes before.0 (slots.Elements kinds.Str left ∷ up) (level ∷ outer) (refl, omega arith) (omega (arith, deep)))),
          );
    }

pub returns-clause-takes : goal.returns-clause-takes
returns-clause-takes g c d level depth flat reads writes opening up outer deep =
    let source = source_in g.R.ReadRules in
    let target = target_in g.W.WireWrite in
    let before = c.elements.invariant.takes d level opening up outer flat reads writes depth deep in
    let p : Position = standing d (level ∷ outer) in
    let none : c.args.size - c.elements.i ≡ 0 = omega arith in
    let first : Spot = spot c.args.from opening (slots.Elements kinds.Str c.args.size ∷ up) p in (
      before.0,
      subst (λ (left : ℕ). Takes source target g.R.ReadRules.stands_at g.W.WireWrite.stands_at c.args.frame.now first (spot c.elements.at before.0 (slots.Elements kinds.Str left ∷ up) p) c.args.cells.now c.args.into c.elements.cells c.elements.to) none before.1,
    )
