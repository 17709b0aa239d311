use Rattle.std.proofs.Common.{◌≡◌, map, take}
use Rattle.thrift_value.specs.Items.{item_of}
use Rattle.value_trees.specs.Gathering.{run, at_first, IsRefused}
use Rattle.value_trees.specs.Stands.{stand_of}
use Rattle.value_trees.proofs.gathering.gather.Given as goal

abbrev pub invariant-loop-place : goal.invariant-loop-place
invariant-loop-place l = record {
  stand : stand_of l.state ≡ run at_first (map item_of (take l.place l.events));
  goes : IsRefused (stand_of l.state) → ⊥;
}
