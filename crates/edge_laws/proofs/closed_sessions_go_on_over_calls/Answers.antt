use Rattle.mio_edge.proofs.Winding.{sockets_on}
use Rattle.edge_laws.proofs.closed_sessions_go_on_over_calls.Goals as goal

pub returns : goal.returns
returns g c = λ a b d first second. sockets_on g.W.Stream.Stream.tells a.sockets b.sockets d.sockets first second
