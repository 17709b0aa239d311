use Rattle.std.proofs.Common.{refl}
use Rattle.value_trees.proofs.Pushed.{tree-pushed}
use Rattle.value_trees.proofs.value.Items.push.Goals as goal

pub returns-clause-ok : goal.returns-clause-ok
returns-clause-ok c = rw (c.in_ok-push.ensures.items, tree-pushed, ← c.self.view_is) refl
