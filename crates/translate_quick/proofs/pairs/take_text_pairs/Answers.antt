use Rattle.std.proofs.Common.{◌≡◌, ◌+◌, ◌-◌, ◌<◌, ℕ, Bool, true, false, Some, List, ◌∷◌, arith, refl, subst, sym, ◌∙◌}
use Rattle.protocol_traits.specs.declared.forms.Opening.TheVariants as openings
use Rattle.protocol_traits.specs.declared.nest.Slot.{Slot}
use Rattle.protocol_traits.specs.declared.nest.Slot.TheVariants as slots
use Rattle.protocol_traits.specs.declared.proto.Hint.TheVariants as hints
use Rattle.thrift_value.specs.Items.{end}
use Rattle.type_walk.specs.Positions.{Position, called_for, hint_at, hint_of, mark_of, passed, standing}
use Rattle.translate_verdicts.specs.Body.{source_in, target_in}
use Rattle.translate_known.specs.Quick.{Spot, Takes, spot, turned}
use Rattle.translate_known.proofs.Taking.{takes_item, takes_none, takes_then}
use Rattle.translate_known.proofs.Levels.{key_opening}
use Rattle.translate_quick.proofs.pairs.take_text_pairs.Goals as goal

-- what asks for no hint is told none
unasked : (hinted : Bool) (A : Type 0) → hinted ≡ false → hinted ≡ true → A
unasked hinted A none asked = let never : false ≡ true = sym none ∙ asked in absurd (cc)

pub pairs-init : goal.pairs-init
pairs-init g c =
    let source = source_in g.R.ReadRules in
    let target = target_in g.W.WireWrite in
    record {
      place = (omega arith, omega arith);
      kept = refl;
      grows = omega arith;
      key = λ left up some. (c.requires.texts, some, refl);
      takes = λ d level depth up outer turns deep.
          let p : Position = standing d (level ∷ outer) in
          let here : Spot = spot c.args.pairs.behind openings.New (slots.Keys c.args.pairs.key c.args.pairs.value c.args.pairs.size ∷ up) p in
          let all : c.args.pairs.size ≡ c.args.pairs.size - 0 = omega arith in
          subst (λ (left : ℕ). Takes source target g.R.ReadRules.stands_at g.W.WireWrite.stands_at c.args.frame.now here (spot c.args.pairs.behind openings.New (slots.Keys c.args.pairs.key c.args.pairs.value left ∷ up) p) c.args.cells.now c.args.into c.args.cells.now c.args.into) all
          (takes_none source target g.R.ReadRules.stands_at g.W.WireWrite.stands_at c.args.frame.now here c.args.cells.now c.args.into);
    }

pub pairs-preserved : goal.pairs-preserved
pairs-preserved g c =
    let source = source_in g.R.ReadRules in
    let target = target_in g.W.WireWrite in
    let inv = c.pairs.invariant in
    record {
      place = (omega (arith, inv.place, c.in_ok-key.ensures.past, c.in_ok-value.ensures.past), omega (arith, c.in_ok-value.ensures.past));
      kept = c.in_ok-value.ensures.kept ∙ c.in_ok-key.ensures.kept ∙ inv.kept;
      grows = omega (arith, inv.grows, c.in_ok-key.ensures.grows, c.in_ok-value.ensures.grows);
      key = λ left up some. (c.requires.texts, some, refl);
      takes = λ d level depth up outer turns deep.
          let p : Position = standing d (level ∷ outer) in
          let left : ℕ = c.args.pairs.size - c.pairs.i in
          let more : 0 < left = omega arith in
          let less : left - 1 ≡ c.args.pairs.size - (c.pairs.i + 1) = omega arith in
          let key = c.in_ok-key.key in
          let value = c.in_ok-value.value in
          let first : Spot = spot c.args.pairs.behind openings.New (slots.Keys c.args.pairs.key c.args.pairs.value c.args.pairs.size ∷ up) p in
          let here : Spot = spot c.pairs.at (key_opening c.pairs.stand) (slots.Keys c.args.pairs.key c.args.pairs.value left ∷ up) p in
          let turn : Spot = spot key.read openings.Old (slots.Values c.args.pairs.key c.args.pairs.value left ∷ up) (standing d (turned level ∷ outer)) in
          let done : Spot = spot value.read openings.Old (slots.Keys c.args.pairs.key c.args.pairs.value (c.args.pairs.size - (c.pairs.i + 1)) ∷ up) p in
          let turned_so : spot key.read openings.Old (slots.Values c.args.pairs.key c.args.pairs.value left ∷ up) (standing d (passed (level ∷ outer))) ≡ turn = rw (turns outer).0 refl in
          let back : spot value.read openings.Old (slots.Keys c.args.pairs.key c.args.pairs.value (left - 1) ∷ up) (standing d (passed (turned level ∷ outer))) ≡ done = rw ((turns outer).1, less) refl in
          let ty = called_for (Some level) in
          takes_then source target g.R.ReadRules.stands_at g.W.WireWrite.stands_at c.args.frame.now first here done
          c.args.cells.now c.pairs.cells c.take.new.cells c.args.into c.pairs.to value.written (inv.takes d level depth up outer turns deep)
          (takes_then source target g.R.ReadRules.stands_at g.W.WireWrite.stands_at c.args.frame.now here turn done
          c.pairs.cells c.take_short_text.new.cells c.take.new.cells c.pairs.to key.written value.written
          (subst (λ (b : Spot). Takes source target g.R.ReadRules.stands_at g.W.WireWrite.stands_at c.args.frame.now here b c.pairs.cells c.pairs.to c.take_short_text.new.cells key.written) turned_so
          (c.in_ok-key.ensures.takes d ty depth (unasked g.R.FormRead.hinted (hint_at ty ≡ hints.Unknown) c.requires.reads) (unasked g.W.FormWrite.hinted (hint_at ty ≡ hints.Unknown) c.requires.writes)
          (key_opening c.pairs.stand) (slots.Keys c.args.pairs.key c.args.pairs.value left ∷ up) (level ∷ outer) (inv.key left up more) (omega (arith, deep))))
          (subst (λ (b : Spot). Takes source target g.R.ReadRules.stands_at g.W.WireWrite.stands_at c.args.frame.now turn b c.take_short_text.new.cells key.written c.take.new.cells value.written) back
          (c.in_ok-value.ensures.takes d (called_for (Some (turned level))) depth openings.Old (slots.Values c.args.pairs.key c.args.pairs.value left ∷ up) (turned level ∷ outer) c.requires.values (omega (arith, deep)))));
    }

pub returns-clause-takes : goal.returns-clause-takes
returns-clause-takes g c d level depth turns up outer deep =
    let source = source_in g.R.ReadRules in
    let target = target_in g.W.WireWrite in
    let inv = c.pairs.invariant in
    let p : Position = standing d (level ∷ outer) in
    let none : c.args.pairs.size - c.pairs.i ≡ 0 = omega arith in
    let first : Spot = spot c.args.pairs.behind openings.New (slots.Keys c.args.pairs.key c.args.pairs.value c.args.pairs.size ∷ up) p in
    let opening = key_opening c.pairs.stand in
    let nest : List Slot = slots.Keys c.args.pairs.key c.args.pairs.value 0 ∷ up in
    takes_then source target g.R.ReadRules.stands_at g.W.WireWrite.stands_at c.args.frame.now
    first (spot c.pairs.at opening nest p) (spot c.in_ok-read.read openings.Old up (standing d outer))
    c.args.cells.now c.pairs.cells c.end-written.new.cells c.args.into c.pairs.to c.end-written.result
    (subst (λ (left : ℕ). Takes source target g.R.ReadRules.stands_at g.W.WireWrite.stands_at c.args.frame.now first (spot c.pairs.at opening (slots.Keys c.args.pairs.key c.args.pairs.value left ∷ up) p) c.args.cells.now c.args.into c.pairs.cells c.pairs.to) none (inv.takes d level depth up outer turns deep))
    (takes_item source target g.R.ReadRules.stands_at g.W.WireWrite.stands_at c.args.frame.now g.R.ReadRules.pays g.met.W.FormWrite.goes_on
    c.pairs.at c.in_ok-read.read opening nest p end c.pairs.cells c.end-written.new.cells c.pairs.to c.end-written.result (omega arith)
    (c.in_ok-read.ensures.steps opening nest (hint_of p) refl) (c.end-written.ensures.spells opening nest (mark_of p end) refl))
