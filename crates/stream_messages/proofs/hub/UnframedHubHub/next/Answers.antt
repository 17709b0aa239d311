use Rattle.stream_messages.proofs.Calls.{next_over}
use Rattle.stream_messages.proofs.hub.UnframedHubHub.next.Goals as goal

pub returns-clause-leads : goal.returns-clause-leads
returns-clause-leads g c =
    let hub = c.args.self.now in
    next_over (g.H.Hub.tells hub.inner.now) (g.H.Hub.tells c.next-event.new.self) hub.wrapping hub.slots c.follow.new.slots c.next-event.result c.follow.ensures c.next-event.ensures.leads
