use Rattle.std.proofs.Common.{◌≡◌, ◌-◌, ◌≤◌, length, drop}
use Rattle.idl_parser.specs.Run.{run, joined}
use Rattle.idl_parser.specs.Documents.{header_at, is_header}
use Rattle.idl_parser.proofs.headers.headers.Given as goal

abbrev pub invariant-items : goal.invariant-items
invariant-items l = record {
  within : l.n ≤ length l.tokens.list;
  exact : joined (l.list) l.n (run (is_header) (header_at l.tokens.edge) l.tokens.edge (drop l.n l.tokens.list) 0) ≡ run (is_header) (header_at l.tokens.edge) l.tokens.edge l.tokens.list 0;
}

abbrev pub decreases-items : goal.decreases-items
decreases-items l = length l.tokens.list - l.n
