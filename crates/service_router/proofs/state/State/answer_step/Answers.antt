use Rattle.std.proofs.Common.{[], refl}
use Rattle.session_core.specs.Steps.{is_none}
use Rattle.session_core.specs.declared.state.Waiting.TheVariants as waiting
use Rattle.service_router.specs.Judging.{rules_of}
use Rattle.service_router.specs.Steps.{as_session}
use Rattle.service_router.specs.Working.{standing}
use Rattle.service_router.proofs.Moves.{client_waits_turn}
use Rattle.service_router.proofs.Taking.{turn_calls, turn_due}
use Rattle.service_router.proofs.state.State.answer_step.Goals.{then-not-is_empty-via-then-not-is_empty, then-not-is_empty-via-else-not-is_empty+then-not-is_empty-2}
use Rattle.service_router.proofs.state.State.answer_step.Goals as goal

pub returns-then-not-is_empty-clause-comes : goal.returns-then-not-is_empty-clause-comes
returns-then-not-is_empty-clause-comes g c =
    let s = c.args.self.now in
    let waits = client_waits_turn (rules_of c.args.judge.now).judging s.client.limit s.calls.capacity (standing s) (waiting.Refused c.args.cause) c.args.cause c.requires.empty c.requires.few c.requires.found refl in
    elim c.then-not-is_empty.branch [
      | then-not-is_empty-via-then-not-is_empty w ↦ ([], g.met.N.Notes.stays _, (waits (turn_calls c.is_empty.result s.calls.items _ w.if-not-is_empty.true c.is_empty.ensures), refl, refl))
      | then-not-is_empty-via-else-not-is_empty+then-not-is_empty-2 w ↦ ([], g.met.N.Notes.stays _, (waits (turn_due (is_none (as_session (standing s)).calls) w.is_empty-else-not-is_empty.result w.bytes.result.now s.to_client.bytes w.if-not-is_empty-2.true w.is_empty-else-not-is_empty.ensures w.bytes.ensures.bytes), refl, refl))
    ]
