use Rattle.std.proofs.Common.{refl}
use Rattle.value_trees.proofs.Pushed.{pair-pushed}
use Rattle.value_trees.proofs.value.Pairs.push.Goals as goal

pub returns-clause-ok : goal.returns-clause-ok
returns-clause-ok c = rw (c.in_ok-push.ensures.items, pair-pushed, ← c.self.view_is) refl
