use Rattle.mio_edge.proofs.Telling.{close_leads, still_stopped}
use Rattle.mio_edge.proofs.hub.MioHubHub.close.Goals as goal

pub returns-clause-leads : goal.returns-clause-leads
returns-clause-leads g c =
    close_leads g.W.Network.is_telling g.W.Stream.Stream.tells c.args.self.now (record c.args.self.now { sockets = c.close.new.self }) c.args.k c.close.ensures.leads c.close.ensures.announced (still_stopped g.W.Network.is_telling g.W.Stream.Stream.tells c.args.self.now.sockets c.close.new.self c.close.ensures.stopped c.close.ensures.accept c.close.ensures.announced)
