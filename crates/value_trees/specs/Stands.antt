-- What the code holds, as a stand.
use Rattle.std.specs.Prelude.{reverse}
use Rattle.value_trees.specs.declared.gathering.State.{State}
use Rattle.value_trees.specs.declared.gathering.State.TheVariants as states
use Rattle.value_trees.specs.Gathering.{Stand, going, over, refused}

abbrev pub stand_of : State → Stand
stand_of (states.Going levels) = going (reverse levels.items)
stand_of (states.Over fields) = over fields
stand_of states.Refused = refused
