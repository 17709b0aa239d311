use Rattle.drill_messages.proofs.Spelling.{writes_on}
use Rattle.drill_messages.proofs.putting.put_raw.Goals as goal

pub returns-clause-written : goal.returns-clause-written
returns-clause-written g c =
    writes_on g.W.WireWrite.plain g.W.WireWrite.after _ _ _ _ _ _ _ _ c.put_event.ensures.written c.put_event-2.ensures.written
