use Rattle.std.proofs.Common.{◌≡◌, [], drop}
use Rattle.mio_edge.specs.Wire.{Stays}
use Rattle.mio_edge.specs.Tables.{TableTells}
use Rattle.mio_edge.specs.Closing.{Winds}
use Rattle.mio_edge.specs.Numbered.{StayBelow}
use Rattle.mio_edge.specs.Stepping.{StayStepped}
use Rattle.mio_edge.specs.Order.{MovesOn}
use Rattle.mio_edge.proofs.table.Table.send.Given as goal

-- the settings are the same, what was told is told still, the closed ones have gone on, and so many were sent
abbrev pub invariant-loop : goal.invariant-loop
invariant-loop g l = record {
  same : l.self.settings ≡ l.fn.self.settings;
  keeps : Stays (TableTells g.S.Stream.tells l.fn.self) (TableTells g.S.Stream.tells l.self);
  turn : MovesOn [] l.fn.self l.self;
  stepped : StayStepped g.S.Stream.tells l.fn.self l.self;
  below : StayBelow l.fn.self.sessions l.self.sessions;
  winds : Winds g.S.Stream.tells l.fn.self.sessions l.self.sessions;
  sent : l.self.written.places.items ≡ drop l.counter l.fn.self.written.places.items;
}
