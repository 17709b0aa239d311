use Rattle.std.proofs.Common.{◌≡◌, ◌-◌, ◌≤◌, length, drop}
use Rattle.idl_parser.specs.Run.{run, joined}
use Rattle.idl_parser.specs.Notes.{not_closed}
use Rattle.idl_parser.specs.Fields.{one_field}
use Rattle.idl_document.specs.Trees.{field_trees}
use Rattle.idl_parser.proofs.fields.run_fields.Given as goal

abbrev pub invariant-items : goal.invariant-items
invariant-items l = record {
  within : l.n ≤ length l.tokens.list;
  exact : joined (field_trees l.list) l.n (run (not_closed l.closing) (one_field l.tokens.edge) l.tokens.edge (drop l.n l.tokens.list) 0) ≡ run (not_closed l.closing) (one_field l.tokens.edge) l.tokens.edge l.tokens.list 0;
}

abbrev pub decreases-items : goal.decreases-items
decreases-items l = length l.tokens.list - l.n
