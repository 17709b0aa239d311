use Rattle.std.proofs.Common.{◌≡◌, length}
use Rattle.mio_edge.proofs.Sessions.{AreNew}
use Rattle.mio_edge.proofs.session.detach_all.Given as goal

-- nothing is told of the ports so far
abbrev pub invariant-loop-port : goal.invariant-loop-port
invariant-loop-port g l = record {
  new : AreNew g.S.Stream.tells l.port-index l.ports;
  long : length l.ports ≡ length l.fn.ports;
}
