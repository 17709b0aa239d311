use Rattle.std.proofs.Common.{◌≡◌, ◌+◌, ◌<◌, ◌≤◌, length, refl, sym, ap, subst, ◌∙◌, arith, None}
use Rattle.std.specs.Prelude.{IfOk}
use Rattle.std.proofs.lemmas.Bool.{false≢true}
use Rattle.thrift_value.specs.Items.{Item, item_of}
use Rattle.protocol_traits.specs.declared.proto.Hint.TheVariants as hints
use Rattle.protocol_traits.specs.Follow.{depth_after}
use Rattle.protocol_traits.specs.Room.{weight}
use Rattle.protocol_traits.specs.Steps.{Step, step_ok, step_err}
use Rattle.translate_verdicts.specs.Positions.{typed}
use Rattle.translate_verdicts.specs.Body.{moved, source_in, going}
use Rattle.translate_verdicts.proofs.Whole.{whole_step, whole_fault, whole_end}
use Rattle.message_show.specs.Line.{begun, after}
use Rattle.type_walk.specs.Positions as positions
use Rattle.message_show.specs.Shown.{place, line_target}
use Rattle.message_show.proofs.Frames.{closed_whole, closed_fault}
use Rattle.message_show.proofs.Weights.{weighs}
use Rattle.message_show.proofs.checking.check_any.Goals as goal

pub events-init : goal.events-init
events-init g c =
    record { told = λ first text. (first, begun, text, rw c.start-walk.ensures refl); depth_is = rw c.start-walk.ensures (sym c.requires.begins); shallow = rw c.start-walk.ensures (omega arith) }

pub events-preserved : goal.events-preserved
events-preserved g c =
    let source = source_in g.R.ReadRules in
    let inv = c.events.invariant in
    let depth = length c.events.walk.levels in
    let item = item_of c.in-Ok.event in
    let new = c.next.follows.lender-at-none in
    let step = step_ok (g.R.ReadRules.reads c.events.reader hints.Unknown) item new c.in-Ok.ensures.answer c.next.follows.holds-at-none in
    let nested = subst (λ (r : Step _ Item). IfOk r (λ x. g.R.ReadRules.depth x.1 ≡ depth_after x.0 (g.R.ReadRules.depth c.events.reader))) step (g.R.ReadRules.nests c.events.reader hints.Unknown) in
    record {
      told = λ first text.
          let target = line_target (place first begun) in
          let told = inv.told first text in
          let before = going c.events.reader told.0 (place told.0 told.1) depth None told.2 in
          let next = moved source typed target before (item, new) in
          let seen = g.met.R.HintIndependent.alike c.events.reader (typed.hint told.0) hints.Unknown ∙ step in
          (positions.after told.0 item, after told.1 item, next.bytes, rw c.step.ensures.depth (sym (whole_step source typed target g.R.ReadRules.pays before item new (omega arith) seen) ∙ told.3));
      depth_is = c.step.ensures.depth ∙ ap (depth_after item) inv.depth_is ∙ sym nested;
      shallow = rw (c.step.ensures.depth, inv.depth_is) c.in-Ok.ensures.shallow;
    }

pub events-smaller : goal.events-smaller
events-smaller g c =
    let item = item_of c.in-Ok.event in
    let new = c.next.follows.lender-at-none in
    let step = step_ok (g.R.ReadRules.reads c.events.reader hints.Unknown) item new c.in-Ok.ensures.answer c.next.follows.holds-at-none in
    let paid = subst (λ (r : Step _ Item). IfOk r (λ x. weight x.0 + g.R.ReadRules.ahead x.1 ≤ g.R.ReadRules.ahead c.events.reader)) step (g.R.ReadRules.pays c.events.reader hints.Unknown) in
    omega (arith, paid, weighs item)

pub returns-in-Err : goal.returns-in-Err
returns-in-Err g c first text =
    let source = source_in g.R.ReadRules in
    let target = line_target (place first begun) in
    let told = c.events.invariant.told first text in
    let before = going c.events.reader told.0 (place told.0 told.1) (length c.events.walk.levels) None told.2 in
    let fault = step_err (g.R.ReadRules.reads c.events.reader hints.Unknown) c.in-Err.fault c.in-Err.ensures.answer in
    let ended = sym told.3 ∙ whole_fault source typed target g.R.ReadRules.pays before c.in-Err.fault (omega arith) (g.met.R.HintIndependent.alike c.events.reader (typed.hint told.0) hints.Unknown ∙ fault) in
    rw ended refl

pub returns-in-Ok-finish : goal.returns-in-Ok-finish
returns-in-Ok-finish g c first text =
    let source = source_in g.R.ReadRules in
    let target = line_target (place first begun) in
    let told = c.events.invariant.told first text in
    let depth = length c.events.walk.levels in
    let before = going c.events.reader told.0 (place told.0 told.1) depth None told.2 in
    let shut : 0 < depth → ⊥ = λ h. absurd (false≢true (sym c.events-test.false ∙ c.is_open.ensures.1 h)) in
    let done : depth ≡ 0 = omega (arith, shut) in
    let ended = sym told.3 ∙ whole_end source typed target g.R.ReadRules.pays before done in
    rw ended (closed_whole before.bytes (g.R.ReadRules.reads_end c.events.reader) tt c.in-Ok-finish.ensures)

pub returns-in-Err-finish : goal.returns-in-Err-finish
returns-in-Err-finish g c first text =
    let source = source_in g.R.ReadRules in
    let target = line_target (place first begun) in
    let told = c.events.invariant.told first text in
    let depth = length c.events.walk.levels in
    let before = going c.events.reader told.0 (place told.0 told.1) depth None told.2 in
    let shut : 0 < depth → ⊥ = λ h. absurd (false≢true (sym c.events-test.false ∙ c.is_open.ensures.1 h)) in
    let done : depth ≡ 0 = omega (arith, shut) in
    let ended = sym told.3 ∙ whole_end source typed target g.R.ReadRules.pays before done in
    rw ended (closed_fault before.bytes (g.R.ReadRules.reads_end c.events.reader) c.in-Err-finish.fault c.in-Err-finish.ensures)
