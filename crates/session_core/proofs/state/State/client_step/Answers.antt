use Rattle.std.proofs.Common.{arith, refl}
use Rattle.session_core.specs.Working.{standing}
use Rattle.session_core.proofs.Moves.{paid_none, owed_some, waits_for_upstream, waits_for_call, found_of}
use Rattle.session_core.proofs.Keeping.{keeps_still}
use Rattle.session_core.proofs.state.State.client_step.Goals as goal
use Rattle.session_core.proofs.state.State.client_step.Goals.{then-not-is_paid-via-then-not-is_paid, then-not-is_paid-via-else-not-is_paid+then-len-capacity}

pub returns-then-not-is_paid-clause-comes : goal.returns-then-not-is_paid-clause-comes
returns-then-not-is_paid-clause-comes g c =
    elim c.then-not-is_paid.branch [
      | then-not-is_paid-via-then-not-is_paid w ↦
          (waits_for_upstream _ _ _ (standing c.args.self.now) (owed_some c.is_paid.result c.args.self.now.upstream.due.bytes w.if-not-is_paid.true c.is_paid.ensures), refl)
      | then-not-is_paid-via-else-not-is_paid+then-len-capacity w ↦
          (waits_for_call _ _ _ (standing c.args.self.now) (omega arith), refl)
    ]

pub stored_step-requires-clause-found : goal.stored_step-requires-clause-found
stored_step-requires-clause-found g c = found_of (g.J.Judge.rules c.args.judge.now) c.args.self.now c.in-Some.waiting c.in-Some.is c.requires.works.known

pub stored_step-requires-clause-empty : goal.stored_step-requires-clause-empty
stored_step-requires-clause-empty g c = paid_none c.is_paid.result c.args.self.now.upstream.due.bytes c.if-not-is_paid.false c.is_paid.ensures

pub call_step-requires-clause-empty : goal.call_step-requires-clause-empty
call_step-requires-clause-empty g c = paid_none c.is_paid.result c.args.self.now.upstream.due.bytes c.if-not-is_paid.false c.is_paid.ensures

pub returns-then-not-is_paid-clause-keeps : goal.returns-then-not-is_paid-clause-keeps
returns-then-not-is_paid-clause-keeps g c = keeps_still (g.J.Judge.rules c.args.judge.now) _ c.args.self.now c.requires.works

pub returns-then-not-is_paid-clause-told : goal.returns-then-not-is_paid-clause-told
returns-then-not-is_paid-clause-told g c = g.met.N.Notes.stays c.args.notes.now
