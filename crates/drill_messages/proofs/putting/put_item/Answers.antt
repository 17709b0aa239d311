use Rattle.std.proofs.Common.{arith, rules, SFits, w64}
use Rattle.std.proofs.lemmas.Int.{to_z-of_z}
use Rattle.drill_messages.proofs.Spelling.{writes_on}
use Rattle.drill_messages.proofs.putting.put_item.Goals as goal
use Rattle.std.proofs.lemmas.Grind.{common_steps}

pub returns-clause-written : goal.returns-clause-written
returns-clause-written g c =
    let on = writes_on g.W.WireWrite.plain g.W.WireWrite.after in
    let fits : SFits w64 c.args.item.now.id = search rules in
    let id = rw (to_z-of_z w64 c.args.item.now.id fits) at c.put_id.ensures.written in
    let name = rw c.deref.ensures.0 at c.put_name.ensures.written in
    let raw = rw c.deref-2.ensures.0 at c.put_raw.ensures.written in
    let marks = rw c.deref-3.ensures.0 at c.put_marks.ensures.written in
    let flags = rw c.deref-4.ensures.0 at c.put_flags.ensures.written in
    on _ _ _ _ _ _ _ _ c.put_event.ensures.written (on _ _ _ _ _ _ _ _ id (on _ _ _ _ _ _ _ _ name
    (on _ _ _ _ _ _ _ _ raw (on _ _ _ _ _ _ _ _ marks (on _ _ _ _ _ _ _ _ flags c.put_event-2.ensures.written)))))

pub put_event-requires-2-clause-room : goal.put_event-requires-2-clause-room
put_event-requires-2-clause-room g c = grind (arith, common_steps)

pub put_flags-requires-clause-room : goal.put_flags-requires-clause-room
put_flags-requires-clause-room g c = grind (arith, common_steps)

pub put_raw-requires-clause-room : goal.put_raw-requires-clause-room
put_raw-requires-clause-room g c = grind (arith, common_steps)

pub put_name-requires-clause-room : goal.put_name-requires-clause-room
put_name-requires-clause-room g c = grind (arith, common_steps)

pub put_name-requires-clause-text : goal.put_name-requires-clause-text
put_name-requires-clause-text g c = grind (arith, common_steps)

pub put_id-requires-clause-room : goal.put_id-requires-clause-room
put_id-requires-clause-room g c = grind (arith, common_steps)

pub put_marks-requires-clause-room : goal.put_marks-requires-clause-room
put_marks-requires-clause-room g c = grind (arith, common_steps)
