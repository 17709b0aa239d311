use Rattle.mio_edge.proofs.Telling.{next_leads}
use Rattle.mio_edge.proofs.hub.MioHubHub.next.Goals as goal

pub returns-clause-leads : goal.returns-clause-leads
returns-clause-leads g c = next_leads g.W.Network.is_telling g.W.Stream.Stream.tells g.W.Network.is_shared g.met.W.Network.alone c.args.self.now (record c.args.self.now { sockets = c.next.new.self }) c.next.result c.next.ensures.moves c.next.ensures.still c.next.ensures.told c.next.ensures.numbers
