use Rattle.std.proofs.Common.{arith}
use Rattle.std.proofs.lemmas.Grind.{common_steps}
use Rattle.drill_messages.proofs.putting.put_flags.Goals as goal

pub put_event-requires-2-clause-room : goal.put_event-requires-2-clause-room
put_event-requires-2-clause-room g c = grind (arith, common_steps)

pub returns-then-is_empty-clause-written : goal.returns-then-is_empty-clause-written
returns-then-is_empty-clause-written g c = grind (arith, common_steps)

pub put_event-requires-then-is_empty-clause-room : goal.put_event-requires-then-is_empty-clause-room
put_event-requires-then-is_empty-clause-room g c = grind (arith, common_steps)

pub returns-clause-written : goal.returns-clause-written
returns-clause-written g c = grind (arith, common_steps)

pub put_pairs-requires-clause-room : goal.put_pairs-requires-clause-room
put_pairs-requires-clause-room g c = grind (arith, common_steps)
