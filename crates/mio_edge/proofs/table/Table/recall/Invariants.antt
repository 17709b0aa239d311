use Rattle.std.proofs.Common.{◌≡◌, ◌+◌, length}
use Rattle.mio_edge.specs.Tables.{World, TableTells}
use Rattle.mio_edge.specs.Turns.{turns_of}
use Rattle.mio_edge.proofs.table.Table.recall.Given as goal

-- the settings are the same, what was told is told still, the order and the sessions with their entries are the same, and so many have come back
abbrev pub invariant-loop : goal.invariant-loop
invariant-loop g l = record {
  same : l.self.settings ≡ l.fn.self.settings;
  keeps : (world : World) → TableTells g.S.Stream.tells l.fn.self world → TableTells g.S.Stream.tells l.self world × (turns_of l.self ≡ turns_of l.fn.self);
  sessions : l.self.sessions ≡ l.fn.self.sessions;
  entries : l.self.entries ≡ l.fn.self.entries;
  count : length l.self.behind.places.items + l.counter ≡ length l.fn.self.behind.places.items;
}
