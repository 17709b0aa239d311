use Rattle.std.proofs.Common.{◌≡◌, ◌+◌, ◌*◌, ◌≤◌, ◌++◌, drop, map, length}
use Rattle.idl_document.specs.Items.{items_of_value, items_of_values, items_of_pairs}
use Rattle.idl_consts.specs.Pieces.{item_of}
use Rattle.idl_consts.proofs.pieces.+pieces.Given as goal

abbrev pub decreases-append_pieces : goal.decreases-append_pieces
decreases-append_pieces l = 3 * length (items_of_value l.value.now)

abbrev pub decreases-append_values : goal.decreases-append_values
decreases-append_values l = 3 * length (items_of_values l.values.now) + 1

abbrev pub decreases-append_list : goal.decreases-append_list
decreases-append_list l = 3 * length (items_of_values l.values.now) + 2

abbrev pub decreases-append_pairs : goal.decreases-append_pairs
decreases-append_pairs l = 3 * length (items_of_pairs l.pairs.now) + 1

abbrev pub decreases-append_map : goal.decreases-append_map
decreases-append_map l = 3 * length (items_of_pairs l.pairs.now) + 2

abbrev pub invariant-append_values-loop-value : goal.invariant-append_values-loop-value
invariant-append_values-loop-value l = record {
  told : map item_of l.pieces.items ++ items_of_values (drop l.value-index l.values) ≡ map item_of l.fn.pieces.items ++ items_of_values l.values;
  fewer : length (items_of_values (drop l.value-index l.values)) ≤ length (items_of_values l.values);
}

abbrev pub invariant-append_pairs-loop-pair : goal.invariant-append_pairs-loop-pair
invariant-append_pairs-loop-pair l = record {
  told : map item_of l.pieces.items ++ items_of_pairs (drop l.pair-index l.pairs) ≡ map item_of l.fn.pieces.items ++ items_of_pairs l.pairs;
  fewer : length (items_of_pairs (drop l.pair-index l.pairs)) ≤ length (items_of_pairs l.pairs);
}
