use Rattle.std.proofs.Common.{◌≡◌, ◌-◌, ◌≤◌, length, drop, []}
use Rattle.idl_parser.specs.Run.{run, joined}
use Rattle.idl_parser.specs.Notes.{one_note, not_closed}
use Rattle.idl_parser.proofs.skipped.run_notes.Given as goal

abbrev pub invariant-items : goal.invariant-items
invariant-items l = record {
  within : l.n ≤ length l.tokens.list;
  exact : joined [] l.n (run (not_closed 41) (one_note l.tokens.edge) l.tokens.edge (drop l.n l.tokens.list) 0) ≡ run (not_closed 41) (one_note l.tokens.edge) l.tokens.edge l.tokens.list 0;
}

abbrev pub decreases-items : goal.decreases-items
decreases-items l = length l.tokens.list - l.n
