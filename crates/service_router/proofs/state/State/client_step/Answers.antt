use Rattle.std.proofs.Common.{[], arith, refl}
use Rattle.session_core.proofs.Moves.{some_is}
use Rattle.service_router.specs.Working.{standing}
use Rattle.service_router.proofs.Moves.{client_waits_due, client_waits_calls}
use Rattle.service_router.proofs.state.State.client_step.Goals.{then-not-is_empty-via-then-not-is_empty, then-not-is_empty-via-else-not-is_empty+then-len-capacity}
use Rattle.service_router.proofs.state.State.client_step.Goals as goal

pub returns-then-not-is_empty-clause-comes : goal.returns-then-not-is_empty-clause-comes
returns-then-not-is_empty-clause-comes g c =
    elim c.then-not-is_empty.branch [
      | then-not-is_empty-via-then-not-is_empty w ↦
          ([], g.met.N.Notes.stays _, (client_waits_due _ _ _ (standing c.args.self.now) (some_is c.is_empty.result c.bytes.result.now c.args.self.now.to_upstream.bytes w.if-not-is_empty.true c.is_empty.ensures c.bytes.ensures.bytes), refl, refl))
      | then-not-is_empty-via-else-not-is_empty+then-len-capacity w ↦ ([], g.met.N.Notes.stays _, (client_waits_calls _ _ _ (standing c.args.self.now) (omega arith), refl, refl))
    ]
