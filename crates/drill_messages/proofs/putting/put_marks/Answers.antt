use Rattle.drill_messages.proofs.Spelling.{writes_on}
use Rattle.drill_messages.proofs.putting.put_marks.Goals as goal

pub returns-clause-written : goal.returns-clause-written
returns-clause-written g c =
    let on = writes_on g.W.WireWrite.plain g.W.WireWrite.after in
    on _ _ _ _ _ _ _ _ c.put_event.ensures.written (on _ _ _ _ _ _ _ _ c.put_event-2.ensures.written c.put_numbers.ensures.written)
