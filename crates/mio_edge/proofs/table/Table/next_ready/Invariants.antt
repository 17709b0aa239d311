use Rattle.std.proofs.Common.{◌≡◌, None, drop}
use Rattle.mio_edge.specs.Wire.{Stays}
use Rattle.mio_edge.specs.Tables.{TableTells}
use Rattle.mio_edge.specs.Turns.{TakesFirst}
use Rattle.mio_edge.specs.Closing.{Winds}
use Rattle.mio_edge.specs.Numbered.{StayBelow}
use Rattle.mio_edge.specs.Stepping.{StayStepped}
use Rattle.mio_edge.specs.Steps.{TakesTurns}
use Rattle.mio_edge.specs.Order.{TurnsIfTold}
use Rattle.mio_edge.proofs.table.Table.next_ready.Given as goal

-- so many have left the queue, the settings are the same, what was told is told still, the first ones had their turn, and the closed ones have gone on
abbrev pub invariant-loop : goal.invariant-loop
invariant-loop g l = record {
  steps : TakesTurns l.fn.self l.self;
  left : l.self.ready.places.items ≡ drop l.counter l.fn.self.ready.places.items;
  same : l.self.settings ≡ l.fn.self.settings;
  keeps : Stays (TableTells g.S.Stream.tells l.fn.self) (TableTells g.S.Stream.tells l.self);
  front : TakesFirst None l.fn.self l.self;
  turn : TurnsIfTold g.S.Stream.tells None l.fn.self l.self;
  stepped : StayStepped g.S.Stream.tells l.fn.self l.self;
  below : StayBelow l.fn.self.sessions l.self.sessions;
  winds : Winds g.S.Stream.tells l.fn.self.sessions l.self.sessions;
}
