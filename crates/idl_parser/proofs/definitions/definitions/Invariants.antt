use Rattle.std.proofs.Common.{◌≡◌, ◌-◌, ◌≤◌, length, drop}
use Rattle.idl_parser.specs.Run.{run, joined}
use Rattle.idl_parser.specs.Declarations.{one_definition}
use Rattle.idl_document.specs.Trees.{definition_trees}
use Rattle.idl_parser.specs.Lexemes.{is_left}
use Rattle.idl_parser.proofs.definitions.definitions.Given as goal

abbrev pub invariant-items : goal.invariant-items
invariant-items l = record {
  within : l.n ≤ length l.tokens.list;
  exact : joined (definition_trees l.list) l.n (run (is_left) (one_definition l.tokens.edge) l.tokens.edge (drop l.n l.tokens.list) 0) ≡ run (is_left) (one_definition l.tokens.edge) l.tokens.edge l.tokens.list 0;
}

abbrev pub decreases-items : goal.decreases-items
decreases-items l = length l.tokens.list - l.n
