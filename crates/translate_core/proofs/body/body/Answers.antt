use Rattle.std.proofs.Common.{◌≡◌, ◌+◌, ◌≤◌, ◌<◌, [], length, refl, sym, ap, subst, ◌∙◌, arith}
use Rattle.std.specs.Prelude.{IfOk}
use Rattle.std.proofs.lemmas.List.{append-nil}
use Rattle.thrift_value.specs.Items.{Item, item_of}
use Rattle.protocol_traits.specs.Room.{weight}
use Rattle.protocol_traits.specs.Follow.{depth_after}
use Rattle.protocol_traits.specs.Steps.{Step, step_ok, step_err}
use Rattle.translate_verdicts.specs.Positions.{typed}
use Rattle.translate_verdicts.specs.Body.{moved, source_in, target_in, going}
use Rattle.translate_verdicts.proofs.Whole.{fits_after, grows, keeps_deep, whole_step, whole_fault, whole_end}
use Rattle.translate_core.proofs.body.body.Goals as goal

pub events-init : goal.events-init
events-init g c = record { told = ([], sym (append-nil _), rw c.requires.walks refl); depth_is = c.requires.walks ∙ sym c.requires.begins; open_is = λ free. c.requires.opens ∙ sym c.requires.walks; shallow = omega arith; grown = omega arith; room = refl }

pub events-preserved : goal.events-preserved
events-preserved g c =
    let source = source_in g.R.ReadRules in
    let target = target_in g.W.WireWrite in
    let inv = c.events.invariant in
    let added = inv.told.0 in
    let before = going c.events.reader (g.K.Walking.at c.events.walk) c.events.writer (length (g.K.Walking.at c.events.walk).levels) c.events.cause added in
    let hint = typed.hint (g.K.Walking.at c.events.walk) in
    let item = item_of c.in-Ok.event in
    let mark = typed.mark (g.K.Walking.at c.events.walk) item in
    let new = c.next.follows.lender-at-none in
    let step = step_ok (g.R.ReadRules.reads c.events.reader hint) item new (rw (← c.hint.ensures) c.in-Ok.ensures.answer) (rw (← c.hint.ensures) c.next.follows.holds-at-none) in
    let nested = subst (λ (r : Step _ Item). IfOk r (λ x. g.R.ReadRules.depth x.1 ≡ depth_after x.0 (g.R.ReadRules.depth c.events.reader))) step (g.R.ReadRules.nests c.events.reader hint) in
    let paid = subst (λ (r : Step _ Item). IfOk r (λ x. weight x.0 + g.R.ReadRules.ahead x.1 ≤ g.R.ReadRules.ahead c.events.reader)) step (g.R.ReadRules.pays c.events.reader hint) in
    let light = g.W.WireWrite.light c.events.writer item mark c.in-Ok.ensures.sized in
    let next = moved source typed target before (item, new) in
    record {
      told = (
        next.bytes,
        rw (c.pass-found.ensures.out, c.is_some.ensures, c.step-mark.ensures.mark) (grows _ _ _ _ _ inv.told.1),
        rw (c.first_cause-cause.ensures, c.pass-found.ensures.state, c.step-mark.ensures.depth, c.pass-found.ensures.found, c.place.ensures, c.is_some.ensures, c.step-mark.ensures.mark, c.step-mark.ensures.after)
            (sym (whole_step source typed target g.R.ReadRules.pays before item new (omega arith) step) ∙ inv.told.2),
      );
      depth_is = c.step-mark.ensures.depth ∙ ap (depth_after item) inv.depth_is ∙ sym nested;
      open_is = rw (c.first_cause-cause.ensures, c.pass-found.ensures.state, c.pass-found.ensures.found, c.is_some.ensures, c.step-mark.ensures.mark, c.step-mark.ensures.depth)
          (keeps_deep g.W.WireWrite.depth c.events.cause (g.W.WireWrite.bar item mark) c.place.result c.events.writer (g.W.WireWrite.after c.events.writer item mark)
          (length (g.K.Walking.at c.events.walk).levels) (depth_after item (length (g.K.Walking.at c.events.walk).levels)) inv.open_is
          (λ same. g.W.WireWrite.nests c.events.writer item mark (omega (arith, same)) ∙ ap (depth_after item) same));
      shallow = rw (c.step-mark.ensures.depth, inv.depth_is) c.in-Ok.ensures.shallow;
      grown = rw (c.pass-found.ensures.out, c.step-mark.ensures.mark) (fits_after _ _ _ _ _ _ _ light paid inv.grown);
      room = rw c.pass-found.ensures.out inv.room;
    }

pub returns-in-Err-clause-exact : goal.returns-in-Err-clause-exact
returns-in-Err-clause-exact g c =
    let source = source_in g.R.ReadRules in
    let target = target_in g.W.WireWrite in
    let inv = c.events.invariant in
    let before = going c.events.reader (g.K.Walking.at c.events.walk) c.events.writer (length (g.K.Walking.at c.events.walk).levels) c.events.cause inv.told.0 in
    (inv.told.0, inv.told.1, sym inv.told.2 ∙ whole_fault source typed target g.R.ReadRules.pays before c.in-Err.fault (omega arith) (step_err _ _ (rw (← c.hint.ensures) c.in-Err.ensures.answer)))

pub returns-clause-exact : goal.returns-clause-exact
returns-clause-exact g c =
    let source = source_in g.R.ReadRules in
    let target = target_in g.W.WireWrite in
    let inv = c.events.invariant in
    let before = going c.events.reader (g.K.Walking.at c.events.walk) c.events.writer (length (g.K.Walking.at c.events.walk).levels) c.events.cause inv.told.0 in
    let shut : 0 < length (g.K.Walking.at c.events.walk).levels → ⊥ = λ h. absurd (cc (c.is_open.ensures.1 h, c.events-test.false)) in
    let done : length (g.K.Walking.at c.events.walk).levels ≡ 0 = omega (arith, shut) in
    (inv.told.0, inv.told.1, sym inv.told.2 ∙ whole_end source typed target g.R.ReadRules.pays before done ∙ rw done refl)
