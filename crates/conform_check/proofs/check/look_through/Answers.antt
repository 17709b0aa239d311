use Rattle.std.proofs.Common.{◌≡◌, ◌<◌, ◌≤◌, ◌+◌, [], ◌∷◌, length, refl, sym, ap, subst, ◌∙◌, arith, None}
use Rattle.std.specs.Prelude.{IfOk}
use Rattle.thrift_value.specs.Items.{Item, item_of}
use Rattle.protocol_traits.specs.Follow.{depth_after}
use Rattle.protocol_traits.specs.Steps.{Step, step_ok, step_err}
use Rattle.translate_verdicts.specs.Positions.{typed}
use Rattle.translate_verdicts.specs.Body.{source_of, going}
use Rattle.translate_verdicts.proofs.Whole.{whole_step, whole_fault, whole_end}
use Rattle.conform_check.specs.Inside.{in_fields, inside_after}
use Rattle.conform_check.specs.Checking.{begun, check_target, checking, kept_broken}
use Rattle.protocol_traits.specs.Room.{weight}
use Rattle.conform_check.proofs.Weights.{weighs}
use Rattle.conform_check.proofs.First.{first_same}
use Rattle.conform_check.proofs.Levels.{fits_begun}
use Rattle.conform_check.proofs.check.look_through.Goals as goal

pub events-init : goal.events-init
events-init g c =
    record {
      told = (in_fields ∷ [], λ e. sym c.restart.ensures.levels, rw (c.start-walk.ensures, c.requires.empty, c.undeclared-found.ensures) refl);
      fitting = λ e. rw (c.start-walk.ensures, c.restart.ensures.levels) (fits_begun c.args.schema.now c.args.body);
      schema = rw c.start-walk.ensures refl;
      depth_is = rw c.start-walk.ensures (sym c.requires.begins);
      shallow = rw c.start-walk.ensures (omega arith);
      width = c.restart.ensures.width;
      room = refl;
    }

pub events-preserved : goal.events-preserved
events-preserved g c =
    let source = source_of g.R.ReadRules.begun g.R.ReadRules.reads_head g.R.ReadRules.reads g.R.ReadRules.reads_end g.R.ReadRules.value_place g.R.ReadRules.ahead in
    let target = check_target (begun c.args.schema.now c.args.body) in
    let inv = c.events.invariant in
    let at = c.events.walk in
    let told = inv.told in
    let item = item_of c.in-Ok.event in
    let new = c.next.follows.lender-at-none in
    let step = step_ok (g.R.ReadRules.reads c.events.reader (typed.hint at)) item new (rw (← c.hint.ensures) c.in-Ok.ensures.answer) (rw (← c.hint.ensures) c.next.follows.holds-at-none) in
    let nested = subst (λ (r : Step _ Item). IfOk r (λ x. g.R.ReadRules.depth x.1 ≡ depth_after x.0 (g.R.ReadRules.depth c.events.reader))) step (g.R.ReadRules.nests c.events.reader (typed.hint at)) in
    let before = going c.events.reader at (checking at told.0 (kept_broken c.events.found c.events.path.items)) (length at.levels) None [] in
    let first = c.look_on-found.ensures.first ∙ first_same c.events.found c.events.path.items at told.0 c.events.trail.levels item told.1 in
    record {
      told = (
        inside_after item told.0,
        λ e. ap (inside_after item) (told.1 (c.look_on-found.ensures.before e)) ∙ sym (c.look_on-found.ensures.passed e),
        rw (c.step.ensures.depth, c.step.ensures.after, first) (sym (whole_step source typed target g.R.ReadRules.pays before item new (omega arith) step) ∙ told.2),
      );
      fitting = λ e. rw c.step.ensures.after (c.look_on-found.ensures.fitting e);
      schema = c.step.ensures.schema ∙ inv.schema;
      depth_is = c.step.ensures.depth ∙ ap (depth_after item) inv.depth_is ∙ sym nested;
      shallow = rw (c.step.ensures.depth, inv.depth_is) c.in-Ok.ensures.shallow;
      width = c.look_on-found.ensures.width ∙ inv.width;
      room = c.look_on-found.ensures.room ∙ inv.room;
    }

pub returns-in-Err-clause-exact : goal.returns-in-Err-clause-exact
returns-in-Err-clause-exact g c =
    let source = source_of g.R.ReadRules.begun g.R.ReadRules.reads_head g.R.ReadRules.reads g.R.ReadRules.reads_end g.R.ReadRules.value_place g.R.ReadRules.ahead in
    let target = check_target (begun c.args.schema.now c.args.body) in
    let told = c.events.invariant.told in
    let at = c.events.walk in
    let before = going c.events.reader at (checking at told.0 (kept_broken c.events.found c.events.path.items)) (length at.levels) None [] in
    sym told.2 ∙ whole_fault source typed target g.R.ReadRules.pays before c.in-Err.fault (omega arith) (step_err _ _ (rw (← c.hint.ensures) c.in-Err.ensures.answer))

pub returns-clause-exact : goal.returns-clause-exact
returns-clause-exact g c =
    let source = source_of g.R.ReadRules.begun g.R.ReadRules.reads_head g.R.ReadRules.reads g.R.ReadRules.reads_end g.R.ReadRules.value_place g.R.ReadRules.ahead in
    let target = check_target (begun c.args.schema.now c.args.body) in
    let told = c.events.invariant.told in
    let at = c.events.walk in
    let before = going c.events.reader at (checking at told.0 (kept_broken c.events.found c.events.path.items)) (length at.levels) None [] in
    let shut : 0 < length at.levels → ⊥ = λ h. absurd (cc (c.is_open.ensures.1 h, c.events-test.false)) in
    let done : length at.levels ≡ 0 = omega (arith, shut) in
    let ended = sym told.2 ∙ whole_end source typed target g.R.ReadRules.pays before done in
    rw ended (refl, refl)

pub events-smaller : goal.events-smaller
events-smaller g c =
    let item = item_of c.in-Ok.event in
    let hint = typed.hint c.events.walk in
    let new = c.next.follows.lender-at-none in
    let step = step_ok (g.R.ReadRules.reads c.events.reader hint) item new (rw (← c.hint.ensures) c.in-Ok.ensures.answer) (rw (← c.hint.ensures) c.next.follows.holds-at-none) in
    let paid = subst (λ (r : Step _ Item). IfOk r (λ x. weight x.0 + g.R.ReadRules.ahead x.1 ≤ g.R.ReadRules.ahead c.events.reader)) step (g.R.ReadRules.pays c.events.reader hint) in
    omega (arith, paid, weighs item)
