use Rattle.std.proofs.Common.{◌≡◌, ℕ}
use Rattle.mio_edge.specs.Wire.{Stays}
use Rattle.mio_edge.specs.Tables.{TableTells, IsPrepared}
use Rattle.mio_edge.specs.Turns.{IsIdleAt}
use Rattle.mio_edge.specs.Closing.{OthersStay}
use Rattle.mio_edge.specs.Fixed.{fixed_of}
use Rattle.mio_edge.specs.Numbered.{StayBelow}
use Rattle.mio_edge.specs.Order.{SameTurns}
use Rattle.mio_edge.proofs.listening.Listening.connect_all.Given as goal

-- the session stays prepared, the others, their turns and the settings are the same, and what was told is told still
abbrev pub invariant-loop-at : goal.invariant-loop-at
invariant-loop-at g l = record {
  prepared : (k : ℕ) → g.W.Network.is_telling → IsPrepared g.S.Stream.tells l.fn.self.table l.place k → IsPrepared g.S.Stream.tells l.self.table l.place k;
  keeps : IsIdleAt l.fn.self.table.sessions l.place → IsIdleAt l.self.table.sessions l.place × Stays (TableTells g.S.Stream.tells l.fn.self.table) (TableTells g.S.Stream.tells l.self.table);
  turns : SameTurns l.fn.self.table l.self.table;
  below : StayBelow l.fn.self.table.sessions l.self.table.sessions;
  others : OthersStay l.place l.fn.self.table.sessions l.self.table.sessions;
  same : fixed_of l.self ≡ fixed_of l.fn.self;
  connecting : l.self.connecting ≡ l.fn.self.connecting;
}
