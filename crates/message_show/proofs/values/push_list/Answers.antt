use Rattle.std.proofs.Common.{arith}
use Rattle.std.proofs.lemmas.Grind.{common_steps}
use Rattle.message_show.specs.Line.{list_text}
use Rattle.message_show.proofs.values.push_list.Goals as goal

pub push-requires-2 : goal.push-requires-2
unfolding list_text
push-requires-2 c = grind (arith, common_steps)

pub returns : goal.returns
unfolding list_text
returns c = grind (arith, common_steps)

pub push-requires-3 : goal.push-requires-3
unfolding list_text
push-requires-3 c = grind (arith, common_steps)
