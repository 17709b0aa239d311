use Rattle.std.proofs.Common.{arith}
use Rattle.service_router.specs.Inboxes.{ended}
use Rattle.service_router.proofs.Targets.{at_target}
use Rattle.service_router.proofs.state.State.mark_ended.Goals as goal

pub returns-else-port-eq0 : goal.returns-else-port-eq0
returns-else-port-eq0 c =
    at_target c.args.port c.args.self.now c.index_mut.result.now c.end-else-port-eq0.new.self ended (omega arith) c.requires c.index_mut.ensures.value c.end-else-port-eq0.ensures
