use Rattle.std.proofs.Common.{ℕ, Ok, refl, sym, ap, ◌∙◌, subst, arith}
use Rattle.gate_base.specs.Causes.{Rose}
use Rattle.gate_hub.specs.declared.hub.Began.TheVariants as began
use Rattle.mio_edge.proofs.Advancing.{failed_begins, unfound_begins, done_fails, done_unfound, failed_unfound, unfound_fails, not_answered, stays_counted}
use Rattle.mio_edge.proofs.sockets.Sockets.start.Goals as goal
use Rattle.std.proofs.lemmas.Grind.{common_steps}

pub returns-in-Ok-Done : goal.returns-in-Ok-Done
returns-in-Ok-Done g c =
    let opens = c.open.ensures in
    let done = c.in-Ok-Done.is ∙ ap (λ x. Ok x) c.in-Ok-Done.field-0-is in record {
      begins = λ is world told.
          let moved = opens.begins done world told in
          let now = moved.1 in
          (moved.0, record { is_telling = now.is_telling; at_once = now.at_once; sessions = now.sessions; below = now.below; stepped = now.stepped }, moved.2);
      keeps = λ off. absurd (off refl);
      announced = opens.announced;
      accept = λ is. refl;
      kept = λ off. absurd (off refl);
      later = omega (arith, opens.faults);
      cause = λ is. absurd (done_fails is);
      unfound = λ at is. absurd (done_unfound at is);
      place = λ at is. absurd (done_unfound at is);
      leads = λ is. opens.leads done;
      listens = λ is. opens.listens done;
    }

pub returns-in-Ok-Failed : goal.returns-in-Ok-Failed
returns-in-Ok-Failed g c =
    let a = c.args.self.now in
    let b = c.open.new.self in
    let opens = c.open.ensures in
    let others = c.count_fault.ensures.others in
    let kept = opens.keeps (not_answered c.open.result c.in-Ok-Failed.field-0 began.Done c.in-Ok-Failed.is (λ e. failed_begins (sym c.in-Ok-Failed.field-0-is ∙ e))) in record {
      begins = λ is. absurd (failed_begins is);
      keeps = λ off. stays_counted g.W.Network.is_telling g.W.Network.is_shared g.W.Stream.Stream.tells a b c.count_fault.new.self (ap (λ s. s.connecting) others) (ap (λ s. s.serving) others) kept;
      announced = ap (λ s. s.serving.announced) others ∙ opens.announced;
      accept = λ is. absurd (failed_begins is);
      kept = λ off. ap (λ s. s.accept) others ∙ opens.accept;
      later = omega (arith, opens.faults, c.count_fault.ensures.later);
      cause = λ is. subst (λ (n : ℕ). Rose n c.count_fault.new.self.faults) opens.faults c.count_fault.ensures.cause;
      unfound = λ at is. absurd (failed_unfound at is);
      place = λ at is. absurd (failed_unfound at is);
      leads = λ is. absurd (failed_begins is);
      listens = λ is. absurd (failed_begins is);
    }

pub returns-in-Ok-NotFound : goal.returns-in-Ok-NotFound
returns-in-Ok-NotFound g c =
    let a = c.args.self.now in
    let b = c.open.new.self in
    let opens = c.open.ensures in
    let others = c.count_fault-in-Ok-NotFound.ensures.others in
    let kept = opens.keeps (not_answered c.open.result c.in-Ok-NotFound.field-0 began.Done c.in-Ok-NotFound.is (λ e. unfound_begins c.in-Ok-NotFound.at (sym c.in-Ok-NotFound.field-0-is ∙ e))) in record {
      begins = λ is. absurd (unfound_begins c.in-Ok-NotFound.at is);
      keeps = λ off. stays_counted g.W.Network.is_telling g.W.Network.is_shared g.W.Stream.Stream.tells a b c.count_fault-in-Ok-NotFound.new.self (ap (λ s. s.connecting) others) (ap (λ s. s.serving) others) kept;
      announced = ap (λ s. s.serving.announced) others ∙ opens.announced;
      accept = λ is. absurd (unfound_begins c.in-Ok-NotFound.at is);
      kept = λ off. ap (λ s. s.accept) others ∙ opens.accept;
      later = omega (arith, opens.faults, c.count_fault-in-Ok-NotFound.ensures.later);
      cause = λ is. absurd (unfound_fails c.in-Ok-NotFound.at is);
      unfound = λ at is. subst (λ (n : ℕ). Rose n c.count_fault-in-Ok-NotFound.new.self.faults) opens.faults c.count_fault-in-Ok-NotFound.ensures.cause;
      place = λ at is. opens.place at (c.in-Ok-NotFound.is ∙ ap (λ x. Ok x) (c.in-Ok-NotFound.field-0-is ∙ is));
      leads = λ is. absurd (unfound_begins c.in-Ok-NotFound.at is);
      listens = λ is. absurd (unfound_begins c.in-Ok-NotFound.at is);
    }

pub returns-in-Ok-OutOfMemory-2-clause-keeps : goal.returns-in-Ok-OutOfMemory-2-clause-keeps
returns-in-Ok-OutOfMemory-2-clause-keeps g c = grind (arith, common_steps)

pub returns-in-Ok-OutOfMemory-clause-accept : goal.returns-in-Ok-OutOfMemory-clause-accept
returns-in-Ok-OutOfMemory-clause-accept g c = grind (arith, common_steps)

pub returns-in-Ok-OutOfMemory-clause-place : goal.returns-in-Ok-OutOfMemory-clause-place
returns-in-Ok-OutOfMemory-clause-place g c = grind (arith, common_steps)

pub returns-in-Ok-OutOfMemory-2-clause-begins : goal.returns-in-Ok-OutOfMemory-2-clause-begins
returns-in-Ok-OutOfMemory-2-clause-begins g c = grind (arith, common_steps)

pub returns-in-Ok-OutOfMemory-clause-unfound : goal.returns-in-Ok-OutOfMemory-clause-unfound
returns-in-Ok-OutOfMemory-clause-unfound g c = grind (arith, common_steps)

pub returns-in-Ok-OutOfMemory-clause-keeps : goal.returns-in-Ok-OutOfMemory-clause-keeps
returns-in-Ok-OutOfMemory-clause-keeps g c = grind (arith, common_steps)

pub returns-in-Ok-OutOfMemory-clause-leads : goal.returns-in-Ok-OutOfMemory-clause-leads
returns-in-Ok-OutOfMemory-clause-leads g c = grind (arith, common_steps)

pub returns-in-Ok-OutOfMemory-clause-cause : goal.returns-in-Ok-OutOfMemory-clause-cause
returns-in-Ok-OutOfMemory-clause-cause g c = grind (arith, common_steps)

pub returns-in-Ok-OutOfMemory-2-clause-leads : goal.returns-in-Ok-OutOfMemory-2-clause-leads
returns-in-Ok-OutOfMemory-2-clause-leads g c = grind (arith, common_steps)

pub returns-in-Ok-OutOfMemory-2-clause-listens : goal.returns-in-Ok-OutOfMemory-2-clause-listens
returns-in-Ok-OutOfMemory-2-clause-listens g c = grind (arith, common_steps)

pub returns-in-Ok-OutOfMemory-2-clause-place : goal.returns-in-Ok-OutOfMemory-2-clause-place
returns-in-Ok-OutOfMemory-2-clause-place g c = grind (arith, common_steps)

pub returns-in-Ok-OutOfMemory-clause-listens : goal.returns-in-Ok-OutOfMemory-clause-listens
returns-in-Ok-OutOfMemory-clause-listens g c = grind (arith, common_steps)

pub returns-in-Ok-OutOfMemory-clause-begins : goal.returns-in-Ok-OutOfMemory-clause-begins
returns-in-Ok-OutOfMemory-clause-begins g c = grind (arith, common_steps)

pub returns-in-Ok-OutOfMemory-2-clause-cause : goal.returns-in-Ok-OutOfMemory-2-clause-cause
returns-in-Ok-OutOfMemory-2-clause-cause g c = grind (arith, common_steps)

pub returns-in-Ok-OutOfMemory-2-clause-unfound : goal.returns-in-Ok-OutOfMemory-2-clause-unfound
returns-in-Ok-OutOfMemory-2-clause-unfound g c = grind (arith, common_steps)
