use Rattle.std.proofs.Common.{◌≡◌, ◌+◌, ◌-◌, ◌<◌, ℕ, Some, List, ◌∷◌, arith, refl, subst}
use Rattle.thrift_value.specs.declared.kind.Kind.TheVariants as kinds
use Rattle.thrift_value.specs.Items.{end}
use Rattle.protocol_traits.specs.declared.forms.Opening.TheVariants as openings
use Rattle.protocol_traits.specs.declared.forms.Stand.TheVariants as stands
use Rattle.protocol_traits.specs.declared.nest.Slot.{Slot}
use Rattle.protocol_traits.specs.declared.nest.Slot.TheVariants as slots
use Rattle.type_walk.specs.Positions.{Position, called_for, hint_of, mark_of, passed, standing}
use Rattle.translate_verdicts.specs.Body.{source_in, target_in}
use Rattle.translate_known.specs.Quick.{Spot, Takes, spot, turned}
use Rattle.translate_known.proofs.Taking.{takes_item, takes_none, takes_then}
use Rattle.translate_known.proofs.Levels.{key_opening}
use Rattle.kept_messages.proofs.Keeping.{takes_leaf}
use Rattle.kept_messages.proofs.Mirroring.{if_both}
use Rattle.kept_messages.proofs.pairs.keep_text_pairs.Goals as goal

pub pairs-init : goal.pairs-init
pairs-init g c =
    let source = source_in g.R.ReadRules in
    let target = target_in g.W.WireWrite in
    record {
      place = (omega arith, omega arith);
      key = λ left up some. (c.requires.texts, some, refl);
      takes = λ d level depth up outer turns deep.
          let p : Position = standing d (level ∷ outer) in
          let here : Spot = spot c.args.pairs.behind openings.New (slots.Keys c.args.pairs.key c.args.pairs.value c.args.pairs.size ∷ up) p in
          let all : c.args.pairs.size ≡ c.args.pairs.size - 0 = omega arith in
          subst (λ (left : ℕ). Takes source target g.R.ReadRules.stands_at g.W.WireWrite.stands_at c.args.frame.now here (spot c.args.pairs.behind openings.New (slots.Keys c.args.pairs.key c.args.pairs.value left ∷ up) p) c.args.frame.now c.args.pairs.behind c.args.frame.now c.args.pairs.behind) all
          (takes_none source target g.R.ReadRules.stands_at g.W.WireWrite.stands_at c.args.frame.now here c.args.frame.now c.args.pairs.behind);
    }

pub pairs-preserved : goal.pairs-preserved
pairs-preserved g c =
    let source = source_in g.R.ReadRules in
    let target = target_in g.W.WireWrite in
    let frame = c.args.frame.now in
    let inv = c.pairs.invariant in
    let mid = c.in_ok-value.value in
    let read = c.in_ok-at.at in
    record {
      place = (omega (arith, inv.place, c.in_ok-value.ensures.past, c.in_ok-at.ensures.past), omega (arith, c.in_ok-at.ensures.past));
      key = λ left up some. (c.requires.texts, some, refl);
      takes = λ d level depth up outer turns deep.
          let p : Position = standing d (level ∷ outer) in
          let left : ℕ = c.args.pairs.size - c.pairs.i in
          let more : 0 < left = omega arith in
          let less : left - 1 ≡ c.args.pairs.size - (c.pairs.i + 1) = omega arith in
          let first : Spot = spot c.args.pairs.behind openings.New (slots.Keys c.args.pairs.key c.args.pairs.value c.args.pairs.size ∷ up) p in
          let here : Spot = spot c.pairs.at (key_opening c.pairs.stand) (slots.Keys c.args.pairs.key c.args.pairs.value left ∷ up) p in
          let turn : Spot = spot mid openings.Old (slots.Values c.args.pairs.key c.args.pairs.value left ∷ up) (standing d (turned level ∷ outer)) in
          let done : Spot = spot read openings.Old (slots.Keys c.args.pairs.key c.args.pairs.value (c.args.pairs.size - (c.pairs.i + 1)) ∷ up) p in
          let turned_so : spot mid openings.Old (slots.Values c.args.pairs.key c.args.pairs.value left ∷ up) (standing d (passed (level ∷ outer))) ≡ turn = rw (turns outer).0 refl in
          let back : spot read openings.Old (slots.Keys c.args.pairs.key c.args.pairs.value (left - 1) ∷ up) (standing d (passed (turned level ∷ outer))) ≡ done = rw ((turns outer).1, less) refl in
          takes_then source target g.R.ReadRules.stands_at g.W.WireWrite.stands_at frame first here done
          frame frame frame c.args.pairs.behind c.pairs.at read (inv.takes d level depth up outer turns deep)
          (takes_then source target g.R.ReadRules.stands_at g.W.WireWrite.stands_at frame here turn done
          frame frame frame c.pairs.at mid read
          (subst (λ (b : Spot). Takes source target g.R.ReadRules.stands_at g.W.WireWrite.stands_at frame here b frame c.pairs.at frame mid) turned_so
          (takes_leaf source target g.R.ReadRules.stands_at g.W.WireWrite.stands_at frame g.R.ReadRules.pays g.met.W.FormWrite.goes_on
          kinds.Str d (called_for (Some level)) depth c.pairs.at mid c.pairs.stand c.in_ok-value.ensures.keeps (key_opening c.pairs.stand) (slots.Keys c.args.pairs.key c.args.pairs.value left ∷ up) (level ∷ outer) (inv.key left up more) (omega (arith, deep))))
          (subst (λ (b : Spot). Takes source target g.R.ReadRules.stands_at g.W.WireWrite.stands_at frame turn b frame mid frame read) back
          (takes_leaf source target g.R.ReadRules.stands_at g.W.WireWrite.stands_at frame g.R.ReadRules.pays g.met.W.FormWrite.goes_on
          g.V.Leaf.kind d (called_for (Some (turned level))) depth mid read stands.Value c.in_ok-at.ensures.keeps openings.Old (slots.Values c.args.pairs.key c.args.pairs.value left ∷ up) (turned level ∷ outer) c.requires.values (omega (arith, deep)))));
    }

pub returns-clause-keeps : goal.returns-clause-keeps
returns-clause-keeps g c =
    let source = source_in g.R.ReadRules in
    let target = target_in g.W.WireWrite in
    let frame = c.args.frame.now in
    let inv = c.pairs.invariant in
    let none : c.args.pairs.size - c.pairs.i ≡ 0 = omega arith in
    if_both _ _ _ c.keep_end.result (λ (x : ℕ) within keeps d level depth turns up outer deep.
    let p : Position = standing d (level ∷ outer) in
    let first : Spot = spot c.args.pairs.behind openings.New (slots.Keys c.args.pairs.key c.args.pairs.value c.args.pairs.size ∷ up) p in
    let opening = key_opening c.pairs.stand in
    let nest : List Slot = slots.Keys c.args.pairs.key c.args.pairs.value 0 ∷ up in
    takes_then source target g.R.ReadRules.stands_at g.W.WireWrite.stands_at frame
    first (spot c.pairs.at opening nest p) (spot x openings.Old up (standing d outer))
    frame frame frame c.args.pairs.behind c.pairs.at x
    (subst (λ (left : ℕ). Takes source target g.R.ReadRules.stands_at g.W.WireWrite.stands_at frame first (spot c.pairs.at opening (slots.Keys c.args.pairs.key c.args.pairs.value left ∷ up) p) frame c.args.pairs.behind frame c.pairs.at) none (inv.takes d level depth up outer turns deep))
    (takes_item source target g.R.ReadRules.stands_at g.W.WireWrite.stands_at frame g.R.ReadRules.pays g.met.W.FormWrite.goes_on
    c.pairs.at x opening nest p end frame frame c.pairs.at x (omega arith) (keeps.0 opening nest (hint_of p) refl)
    (keeps.1 opening nest (mark_of p end) refl))) c.keep_end.ensures.within c.keep_end.ensures.keeps
