use Rattle.std.specs.Int.{w64}
use Rattle.std.proofs.lemmas.Int.{to_z-of_z}
use Rattle.drill_messages.proofs.Spelling.{writes_on}
use Rattle.drill_messages.proofs.putting.put_id.Goals as goal

pub returns-clause-written : goal.returns-clause-written
returns-clause-written g c =
    writes_on g.W.WireWrite.plain g.W.WireWrite.after _ _ _ _ _ _ _ _ c.put_event.ensures.written (rw (to_z-of_z w64 c.args.id c.ranges.id) at c.put_event-2.ensures.written)
