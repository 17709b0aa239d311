use Rattle.std.proofs.Common.{refl}
use Rattle.idl_document.proofs.Pushed.{pairs-pushed}
use Rattle.idl_document.proofs.value.PairList.push.Goals as goal

pub returns-clause-ok : goal.returns-clause-ok
returns-clause-ok c = rw (c.in_ok-push.ensures.items, pairs-pushed, ← c.self.view_is) refl
