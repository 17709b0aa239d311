use Rattle.http_front.proofs.Calls.{close_over}
use Rattle.http_front.proofs.hub.HttpHubHub.close.Goals as goal

pub returns-clause-leads : goal.returns-clause-leads
returns-clause-leads g c =
    let hub = c.args.self.now in
    close_over (g.H.Hub.tells hub.inner.now) (g.H.Hub.tells c.close.new.self) hub.rules hub.slots c.release.new.slots hub.stopped c.args.k c.release.ensures c.close.ensures.leads
