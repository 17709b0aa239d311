use Rattle.stream_messages.proofs.Calls.{close_over}
use Rattle.stream_messages.proofs.hub.UnframedHubHub.close.Goals as goal

pub returns-clause-leads : goal.returns-clause-leads
returns-clause-leads g c =
    let hub = c.args.self.now in
    close_over (g.H.Hub.tells hub.inner.now) (g.H.Hub.tells c.close.new.self) hub.wrapping hub.slots c.release.new.slots c.args.k c.release.ensures c.close.ensures.leads
