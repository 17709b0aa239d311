use Rattle.std.proofs.Common.{◌≡◌, ◌≤◌, None}
use Rattle.mio_edge.specs.Numbers.{Passes}
use Rattle.mio_edge.specs.Wire.{Stays}
use Rattle.mio_edge.specs.Worlds.{SocketsTell}
use Rattle.mio_edge.specs.Winding.{SocketsWind}
use Rattle.mio_edge.specs.Fixed.{SocketsSame}
use Rattle.mio_edge.specs.Turning.{SocketsTurnIfTold}
use Rattle.mio_edge.proofs.sockets.Sockets.next.Given as goal

-- so far no session was opened, the settings are the same, no fault is forgotten, the closed ones have gone on, none that is open had its turn, and what was told is told still
abbrev pub invariant-loop : goal.invariant-loop
invariant-loop g l = record {
  numbers : Passes g.W.Network.is_shared l.fn.self.serving.announced l.self.serving.announced;
  accept : l.self.accept ≡ l.fn.self.accept;
  later : l.fn.self.faults ≤ l.self.faults;
  turn : SocketsTurnIfTold g.W.Network.is_telling g.W.Stream.Stream.tells None l.fn.self l.self;
  same : SocketsSame l.fn.self l.self;
  winds : SocketsWind g.W.Stream.Stream.tells l.fn.self l.self;
  keeps : Stays (SocketsTell g.W.Network.is_telling g.W.Stream.Stream.tells l.fn.self) (SocketsTell g.W.Network.is_telling g.W.Stream.Stream.tells l.self);
}
