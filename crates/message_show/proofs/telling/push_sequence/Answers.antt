use Rattle.std.proofs.Common.{arith}
use Rattle.std.proofs.lemmas.Grind.{common_steps}
use Rattle.message_show.specs.Line.{sequence_text}
use Rattle.message_show.proofs.telling.push_sequence.Goals as goal

pub push-requires-2 : goal.push-requires-2
unfolding sequence_text
push-requires-2 c = grind (arith, common_steps)

pub returns : goal.returns
unfolding sequence_text
returns c = grind (arith, common_steps)

pub push_number-requires : goal.push_number-requires
unfolding sequence_text
push_number-requires c = grind (arith, common_steps)
