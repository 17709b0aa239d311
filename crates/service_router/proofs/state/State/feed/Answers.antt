use Rattle.std.proofs.Common.{take, arith}
use Rattle.service_router.specs.Standing.{Inbox}
use Rattle.service_router.specs.Inboxes.{fed}
use Rattle.service_router.proofs.Targets.{at_target}
use Rattle.service_router.proofs.state.State.feed.Goals as goal

pub returns-else-port-eq0-clause-fed : goal.returns-else-port-eq0-clause-fed
returns-else-port-eq0-clause-fed c =
    at_target c.args.port c.args.self.now c.index_mut.result.now c.feed-else-port-eq0.new.self (λ (b : Inbox). fed b (take c.feed-else-port-eq0.result c.args.bytes.now)) (omega arith) c.requires c.index_mut.ensures.value c.feed-else-port-eq0.ensures.fed
