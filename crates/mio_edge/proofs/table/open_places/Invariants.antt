use Rattle.std.proofs.Common.{◌≡◌, ℕ, length}
use Rattle.std.specs.List.{slice_get}
use Rattle.mio_edge.specs.Tables.{SpareTells}
use Rattle.mio_edge.proofs.table.open_places.Given as goal

-- nothing went over the ports of the places so far
abbrev pub invariant-loop : goal.invariant-loop
invariant-loop g l = record {
  spare : (n : ℕ) → SpareTells g.S.Stream.tells (slice_get l.spare.items n);
  count : length l.spare.items ≡ l.counter;
}
