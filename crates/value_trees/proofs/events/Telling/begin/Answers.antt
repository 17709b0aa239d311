use Rattle.value_trees.proofs.Told.{begun-on, begun-rests}
use Rattle.value_trees.proofs.events.Telling.begin.Goals as goal

pub returns-in_ok-push-2-clause-told : goal.returns-in_ok-push-2-clause-told
returns-in_ok-push-2-clause-told c = begun-on _ _ _ _ _ _ _ _ c.in_ok-push.ensures.items c.in_ok-push-2.ensures.items c.in-Some.is c.split.ensures.told

pub returns-in_ok-push-2-clause-rests : goal.returns-in_ok-push-2-clause-rests
returns-in_ok-push-2-clause-rests c = begun-rests _ _ _ _ c.in_ok-push-2.ensures.items c.in-Some.is c.split.ensures.rest c.requires.rests
