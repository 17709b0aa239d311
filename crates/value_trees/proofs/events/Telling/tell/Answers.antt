use Rattle.value_trees.proofs.Told.{rests-on, value-on, field-on}
use Rattle.value_trees.proofs.events.Telling.tell.Goals as goal

pub begin-requires-clause-rests : goal.begin-requires-clause-rests
begin-requires-clause-rests c = rests-on _ _ _ c.in_ok-push-in-Field.ensures.items c.requires.rests c.in-Field.ensures.values.1

pub begin-requires-in-Value-clause-rests : goal.begin-requires-in-Value-clause-rests
begin-requires-in-Value-clause-rests c = rests-on _ _ _ c.in_ok-push-in-Value.ensures.items c.requires.rests c.in-Value.ensures.values.1

pub returns-in_ok-begin-in-Field-clause-told : goal.returns-in_ok-begin-in-Field-clause-told
returns-in_ok-begin-in-Field-clause-told c =
    field-on _ _ _ _ _ _ _ _ _ c.in_ok-begin-in-Field.ensures.told c.in_ok-push-in-Field-2.ensures.items c.in_ok-push-in-Field.ensures.items c.in-Field.ensures.told

pub returns-in_ok-begin-in-Value-clause-told : goal.returns-in_ok-begin-in-Value-clause-told
returns-in_ok-begin-in-Value-clause-told c = value-on _ _ _ _ _ _ _ c.in_ok-begin-in-Value.ensures.told c.in_ok-push-in-Value.ensures.items c.in-Value.ensures.told
