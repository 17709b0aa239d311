use Rattle.mio_edge.specs.Sessions.{Flushes}
use Rattle.mio_edge.proofs.Sessions.{HaveMoved}
use Rattle.mio_edge.proofs.session.send_all.Given as goal

-- the ports so far tell what they told, and all is sent
abbrev pub invariant-loop-port : goal.invariant-loop-port
invariant-loop-port g l = HaveMoved (Flushes g.S.Stream.tells) l.port-index l.fn.ports l.ports
