use Rattle.std.proofs.Common.{◌≡◌, length}
use Rattle.mio_edge.specs.Sessions.{PortsTell, new_links}
use Rattle.mio_edge.proofs.table.open_ports.Given as goal

-- so many ports are open, and nothing went over them
abbrev pub invariant-loop : goal.invariant-loop
invariant-loop g l = record {
  new : PortsTell g.S.Stream.tells l.ports.items new_links;
  count : length l.ports.items ≡ l.counter;
}
