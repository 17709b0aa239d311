use Rattle.std.proofs.Common.{◌≡◌, ◌+◌, ◌*◌, ◌-◌, ◌≤◌, length, drop}
use Rattle.idl_parser.specs.Notes.{not_closed}
use Rattle.idl_parser.specs.Run.{run, joined}
use Rattle.idl_parser.specs.Values.{value_at, element_of, pair_of}
use Rattle.idl_parser.proofs.values.+values.Given as goal

abbrev pub decreases-value_at : goal.decreases-value_at
decreases-value_at l = 6 * l.levels + 5

abbrev pub decreases-value_step : goal.decreases-value_step
decreases-value_step l = 6 * l.levels + 4

abbrev pub decreases-list_of : goal.decreases-list_of
decreases-list_of l = 6 * l.levels + 3

abbrev pub decreases-map_of : goal.decreases-map_of
decreases-map_of l = 6 * l.levels + 3

abbrev pub decreases-elements : goal.decreases-elements
decreases-elements l = 6 * l.levels + 2

abbrev pub decreases-pairs : goal.decreases-pairs
decreases-pairs l = 6 * l.levels + 2

abbrev pub decreases-element_of : goal.decreases-element_of
decreases-element_of l = 6 * l.levels

abbrev pub decreases-pair_of : goal.decreases-pair_of
decreases-pair_of l = 6 * l.levels + 1

abbrev pub decreases-key_at : goal.decreases-key_at
decreases-key_at l = 6 * l.levels

abbrev pub invariant-elements-items : goal.invariant-elements-items
invariant-elements-items l = record {
  within : l.n ≤ length l.tokens.list;
  exact : joined l.list l.n (run (not_closed 93) (element_of (value_at (l.levels - 1) l.tokens.edge)) l.tokens.edge (drop l.n l.tokens.list) 0)
      ≡ run (not_closed 93) (element_of (value_at (l.levels - 1) l.tokens.edge)) l.tokens.edge l.tokens.list 0;
}

abbrev pub decreases-elements-items : goal.decreases-elements-items
decreases-elements-items l = length l.tokens.list - l.n

abbrev pub invariant-pairs-items : goal.invariant-pairs-items
invariant-pairs-items l = record {
  within : l.n ≤ length l.tokens.list;
  exact : joined l.list l.n (run (not_closed 125) (pair_of (value_at (l.levels - 1) l.tokens.edge) l.tokens.edge) l.tokens.edge (drop l.n l.tokens.list) 0)
      ≡ run (not_closed 125) (pair_of (value_at (l.levels - 1) l.tokens.edge) l.tokens.edge) l.tokens.edge l.tokens.list 0;
}

abbrev pub decreases-pairs-items : goal.decreases-pairs-items
decreases-pairs-items l = length l.tokens.list - l.n
