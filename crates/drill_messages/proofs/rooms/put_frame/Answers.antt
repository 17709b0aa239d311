use Rattle.std.proofs.Common.{arith}
use Rattle.std.proofs.lemmas.Grind.{common_steps}
use Rattle.drill_messages.specs.Spellings.{binary_of}
use Rattle.drill_messages.proofs.rooms.put_frame.Goals as goal

pub overflow_sub-length : goal.overflow_sub-length
unfolding binary_of
overflow_sub-length c = grind (arith, common_steps)

pub returns-clause-out : goal.returns-clause-out
unfolding binary_of
returns-clause-out c = grind (arith, common_steps)

pub returns-clause-within : goal.returns-clause-within
unfolding binary_of
returns-clause-within c = grind (arith, common_steps)

pub put_message-requires-clause-room : goal.put_message-requires-clause-room
unfolding binary_of
put_message-requires-clause-room c = grind (arith, common_steps)

pub close-requires-clause-within : goal.close-requires-clause-within
unfolding binary_of
close-requires-clause-within c = grind (arith, common_steps)

pub returns-clause-length : goal.returns-clause-length
unfolding binary_of
returns-clause-length c = grind (arith, common_steps)
