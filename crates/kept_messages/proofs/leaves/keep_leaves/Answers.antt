use Rattle.std.proofs.Common.{◌≡◌, ◌+◌, ◌-◌, ℕ, ◌∷◌, Some, arith, refl, subst}
use Rattle.protocol_traits.specs.declared.forms.Opening.TheVariants as openings
use Rattle.protocol_traits.specs.declared.forms.Stand.TheVariants as stands
use Rattle.protocol_traits.specs.declared.nest.Slot.TheVariants as slots
use Rattle.type_walk.specs.Positions.{Position, called_for, passed, standing}
use Rattle.translate_verdicts.specs.Body.{source_in, target_in}
use Rattle.translate_known.specs.Quick.{Spot, Takes, spot}
use Rattle.translate_known.proofs.Taking.{takes_none, takes_then}
use Rattle.kept_messages.proofs.Keeping.{takes_leaf, takes_run}
use Rattle.kept_messages.proofs.leaves.keep_leaves.Goals as goal

pub elements-init : goal.elements-init
elements-init g c =
    let source = source_in g.R.ReadRules in
    let target = target_in g.W.WireWrite in
    record {
      place = (omega arith, omega arith);
      takes = λ d level opening up outer flat depth deep.
          let p : Position = standing d (level ∷ outer) in
          let here : Spot = spot c.args.from opening (slots.Elements g.L.Leaf.kind c.args.size ∷ up) p in
          let all : c.args.size ≡ c.args.size - 0 = omega arith in (
            opening,
            subst (λ (left : ℕ). Takes source target g.R.ReadRules.stands_at g.W.WireWrite.stands_at c.args.frame.now here (spot c.args.from opening (slots.Elements g.L.Leaf.kind left ∷ up) p) c.args.frame.now c.args.from c.args.frame.now c.args.from) all
                (takes_none source target g.R.ReadRules.stands_at g.W.WireWrite.stands_at c.args.frame.now here c.args.frame.now c.args.from),
          );
    }

pub elements-preserved : goal.elements-preserved
elements-preserved g c =
    let source = source_in g.R.ReadRules in
    let target = target_in g.W.WireWrite in
    let inv = c.elements.invariant in
    record {
      place = (omega (arith, inv.place, c.in_ok-at.ensures.past), omega (arith, c.in_ok-at.ensures.past));
      takes = λ d level opening up outer flat depth deep.
          let before = inv.takes d level opening up outer flat depth deep in
          let p : Position = standing d (level ∷ outer) in
          let left : ℕ = c.args.size - c.elements.i in
          let less : left - 1 ≡ c.args.size - (c.elements.i + 1) = omega arith in
          let behind = c.in_ok-at.at in
          let done : Spot = spot behind openings.Old (slots.Elements g.L.Leaf.kind (c.args.size - (c.elements.i + 1)) ∷ up) p in
          let here : Spot = spot c.elements.at before.0 (slots.Elements g.L.Leaf.kind left ∷ up) p in
          let same : spot behind openings.Old (slots.Elements g.L.Leaf.kind (left - 1) ∷ up) (standing d (passed (level ∷ outer))) ≡ done = rw (flat outer, less) refl in (
            openings.Old,
            takes_then source target g.R.ReadRules.stands_at g.W.WireWrite.stands_at c.args.frame.now
                (spot c.args.from opening (slots.Elements g.L.Leaf.kind c.args.size ∷ up) p) here done
                c.args.frame.now c.args.frame.now c.args.frame.now c.args.from c.elements.at behind before.1
                (subst (λ (b : Spot). Takes source target g.R.ReadRules.stands_at g.W.WireWrite.stands_at c.args.frame.now here b c.args.frame.now c.elements.at c.args.frame.now behind) same
                (takes_leaf source target g.R.ReadRules.stands_at g.W.WireWrite.stands_at c.args.frame.now g.R.ReadRules.pays g.met.W.FormWrite.goes_on
                g.L.Leaf.kind d (called_for (Some level)) depth c.elements.at behind stands.Element c.in_ok-at.ensures.keeps before.0 (slots.Elements g.L.Leaf.kind left ∷ up) (level ∷ outer) (refl, omega arith) (omega (arith, deep)))),
          );
    }

pub returns-clause-keeps : goal.returns-clause-keeps
returns-clause-keeps g c d level depth flat opening up outer deep =
    let source = source_in g.R.ReadRules in
    let target = target_in g.W.WireWrite in
    let before = c.elements.invariant.takes d level opening up outer flat depth deep in
    let p : Position = standing d (level ∷ outer) in
    let none : c.args.size - c.elements.i ≡ 0 = omega arith in
    let first : Spot = spot c.args.from opening (slots.Elements g.L.Leaf.kind c.args.size ∷ up) p in (
      before.0,
      subst (λ (left : ℕ). Takes source target g.R.ReadRules.stands_at g.W.WireWrite.stands_at c.args.frame.now first (spot c.elements.at before.0 (slots.Elements g.L.Leaf.kind left ∷ up) p) c.args.frame.now c.args.from c.args.frame.now c.elements.at) none before.1,
    )

pub returns-in-Some-clause-keeps : goal.returns-in-Some-clause-keeps
returns-in-Some-clause-keeps g c d level depth flat =
    let keeps = rw (c.own_kind.ensures, c.in-Some.is) at c.keep_run.ensures.keeps in
    takes_run (source_in g.R.ReadRules) (target_in g.W.WireWrite) g.R.ReadRules.stands_at g.W.WireWrite.stands_at c.args.frame.now g.R.ReadRules.pays g.met.W.FormWrite.goes_on
    g.L.Leaf.kind d level depth c.args.from c.args.size c.in-Some.behind flat keeps
