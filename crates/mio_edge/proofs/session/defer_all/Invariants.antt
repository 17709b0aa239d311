use Rattle.mio_edge.specs.Sessions.{Calms}
use Rattle.mio_edge.specs.Connecting.{WaitsForWrite}
use Rattle.mio_edge.proofs.Each.{FirstAre}
use Rattle.mio_edge.proofs.Sessions.{HaveMoved}
use Rattle.mio_edge.proofs.session.defer_all.Given as goal

-- the ports so far tell what they told, and wait for the first write where they have no connection
abbrev pub invariant-loop-port : goal.invariant-loop-port
invariant-loop-port g l = record {
  calm : HaveMoved (Calms g.S.Stream.tells) l.port-index l.fn.ports l.ports;
  deferred : FirstAre (λ port. WaitsForWrite port) l.port-index l.ports;
}
