use Rattle.std.proofs.Common.{◌≡◌, ◌++◌, map, length}
use Rattle.thrift_value.specs.Items.{item_of}
use Rattle.thrift_value.specs.Trees.{items_of_members}
use Rattle.value_trees.specs.Telling.{all_left, AreRests}
use Rattle.value_trees.proofs.events.events_of.Given as goal

abbrev pub invariant-loop-rest : goal.invariant-loop-rest
invariant-loop-rest l = record {
  whole : map item_of l.telling.told.items ++ all_left l.telling.waiting.items ≡ items_of_members l.body;
  rests : AreRests l.telling.waiting.items;
}

abbrev pub decreases-loop-rest : goal.decreases-loop-rest
decreases-loop-rest l = length (all_left l.telling.waiting.items)
