use Rattle.std.proofs.Common.{◌≡◌, ◌-◌, ◌≤◌, length, drop}
use Rattle.idl_parser.specs.Run.{run, joined}
use Rattle.idl_parser.specs.Notes.{not_closed}
use Rattle.idl_parser.specs.Functions.{one_function}
use Rattle.idl_document.specs.Trees.{function_trees}
use Rattle.idl_parser.proofs.functions.run_functions.Given as goal

abbrev pub invariant-items : goal.invariant-items
invariant-items l = record {
  within : l.n ≤ length l.tokens.list;
  exact : joined (function_trees l.list) l.n (run (not_closed 125) (one_function l.tokens.edge) l.tokens.edge (drop l.n l.tokens.list) 0) ≡ run (not_closed 125) (one_function l.tokens.edge) l.tokens.edge l.tokens.list 0;
}

abbrev pub decreases-items : goal.decreases-items
decreases-items l = length l.tokens.list - l.n
