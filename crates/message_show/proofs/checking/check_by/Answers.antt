use Rattle.std.proofs.Common.{◌≡◌, ◌+◌, ◌<◌, ◌≤◌, length, refl, sym, ap, subst, ◌∙◌, arith, None}
use Rattle.std.specs.Prelude.{IfOk}
use Rattle.std.proofs.lemmas.Bool.{false≢true}
use Rattle.thrift_value.specs.Items.{Item, item_of}
use Rattle.protocol_traits.specs.Follow.{depth_after}
use Rattle.protocol_traits.specs.Room.{weight}
use Rattle.protocol_traits.specs.Steps.{Step, step_ok, step_err}
use Rattle.translate_verdicts.specs.Positions.{typed}
use Rattle.translate_verdicts.specs.Body.{moved, source_in, going}
use Rattle.translate_verdicts.proofs.Whole.{whole_step, whole_fault, whole_end}
use Rattle.message_show.specs.Line.{begun, after}
use Rattle.message_show.specs.Shown.{place, line_target}
use Rattle.message_show.proofs.Frames.{closed_whole, closed_fault}
use Rattle.message_show.proofs.Weights.{weighs}
use Rattle.message_show.proofs.checking.check_by.Goals as goal

pub events-init : goal.events-init
events-init g c = record { told = λ text. (begun, text, rw c.requires.walks refl); depth_is = c.requires.walks ∙ sym c.requires.begins; shallow = omega (arith, c.requires.walks) }

pub events-preserved : goal.events-preserved
events-preserved g c =
    let source = source_in g.R.ReadRules in
    let target = line_target (place (g.K.Walking.at c.args.walk.now) begun) in
    let inv = c.events.invariant in
    let at = g.K.Walking.at c.events.walk in
    let item = item_of c.in-Ok.event in
    let new = c.next.follows.lender-at-none in
    let step = step_ok (g.R.ReadRules.reads c.events.reader (typed.hint at)) item new (rw (← c.hint.ensures) c.in-Ok.ensures.answer) (rw (← c.hint.ensures) c.next.follows.holds-at-none) in
    let nested = subst (λ (r : Step _ Item). IfOk r (λ x. g.R.ReadRules.depth x.1 ≡ depth_after x.0 (g.R.ReadRules.depth c.events.reader))) step (g.R.ReadRules.nests c.events.reader (typed.hint at)) in
    record {
      told = λ text.
          let told = inv.told text in
          let before = going c.events.reader at (place at told.0) (length at.levels) None told.1 in
          let next = moved source typed target before (item, new) in
          (after told.0 item, next.bytes, rw (c.step.ensures.depth, c.step.ensures.after) (sym (whole_step source typed target g.R.ReadRules.pays before item new (omega arith) step) ∙ told.2));
      depth_is = c.step.ensures.depth ∙ ap (depth_after item) inv.depth_is ∙ sym nested;
      shallow = rw (c.step.ensures.depth, inv.depth_is) c.in-Ok.ensures.shallow;
    }

pub events-smaller : goal.events-smaller
events-smaller g c =
    let at = g.K.Walking.at c.events.walk in
    let item = item_of c.in-Ok.event in
    let new = c.next.follows.lender-at-none in
    let step = step_ok (g.R.ReadRules.reads c.events.reader (typed.hint at)) item new (rw (← c.hint.ensures) c.in-Ok.ensures.answer) (rw (← c.hint.ensures) c.next.follows.holds-at-none) in
    let paid = subst (λ (r : Step _ Item). IfOk r (λ x. weight x.0 + g.R.ReadRules.ahead x.1 ≤ g.R.ReadRules.ahead c.events.reader)) step (g.R.ReadRules.pays c.events.reader (typed.hint at)) in
    omega (arith, paid, weighs item)

pub returns-in-Err : goal.returns-in-Err
returns-in-Err g c text =
    let source = source_in g.R.ReadRules in
    let target = line_target (place (g.K.Walking.at c.args.walk.now) begun) in
    let told = c.events.invariant.told text in
    let at = g.K.Walking.at c.events.walk in
    let before = going c.events.reader at (place at told.0) (length at.levels) None told.1 in
    let ended = sym told.2 ∙ whole_fault source typed target g.R.ReadRules.pays before c.in-Err.fault (omega arith) (step_err _ _ (rw (← c.hint.ensures) c.in-Err.ensures.answer)) in
    rw ended refl

pub returns-in-Ok-finish : goal.returns-in-Ok-finish
returns-in-Ok-finish g c text =
    let source = source_in g.R.ReadRules in
    let target = line_target (place (g.K.Walking.at c.args.walk.now) begun) in
    let told = c.events.invariant.told text in
    let at = g.K.Walking.at c.events.walk in
    let before = going c.events.reader at (place at told.0) (length at.levels) None told.1 in
    let shut : 0 < length at.levels → ⊥ = λ h. absurd (false≢true (sym c.events-test.false ∙ c.is_open.ensures.1 h)) in
    let done : length at.levels ≡ 0 = omega (arith, shut) in
    let ended = sym told.2 ∙ whole_end source typed target g.R.ReadRules.pays before done in
    rw ended (closed_whole before.bytes (g.R.ReadRules.reads_end c.events.reader) tt c.in-Ok-finish.ensures)

pub returns-in-Err-finish : goal.returns-in-Err-finish
returns-in-Err-finish g c text =
    let source = source_in g.R.ReadRules in
    let target = line_target (place (g.K.Walking.at c.args.walk.now) begun) in
    let told = c.events.invariant.told text in
    let at = g.K.Walking.at c.events.walk in
    let before = going c.events.reader at (place at told.0) (length at.levels) None told.1 in
    let shut : 0 < length at.levels → ⊥ = λ h. absurd (false≢true (sym c.events-test.false ∙ c.is_open.ensures.1 h)) in
    let done : length at.levels ≡ 0 = omega (arith, shut) in
    let ended = sym told.2 ∙ whole_end source typed target g.R.ReadRules.pays before done in
    rw ended (closed_fault before.bytes (g.R.ReadRules.reads_end c.events.reader) c.in-Err-finish.fault c.in-Err-finish.ensures)
