use Rattle.std.proofs.Common.{◌+◌, ◌*◌}
use Rattle.idl_parser.proofs.types.+types.Given as goal

abbrev pub decreases-type_at : goal.decreases-type_at
decreases-type_at l = 6 * l.levels + 5

abbrev pub decreases-type_step : goal.decreases-type_step
decreases-type_step l = 6 * l.levels + 4

abbrev pub decreases-form_at : goal.decreases-form_at
decreases-form_at l = 6 * l.levels + 3

abbrev pub decreases-map_of : goal.decreases-map_of
decreases-map_of l = 6 * l.levels + 2

abbrev pub decreases-set_of : goal.decreases-set_of
decreases-set_of l = 6 * l.levels + 2

abbrev pub decreases-list_of : goal.decreases-list_of
decreases-list_of l = 6 * l.levels + 2

abbrev pub decreases-element_of : goal.decreases-element_of
decreases-element_of l = 6 * l.levels + 1

abbrev pub decreases-type_until : goal.decreases-type_until
decreases-type_until l = 6 * l.levels
