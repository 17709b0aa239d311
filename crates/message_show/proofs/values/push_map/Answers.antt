use Rattle.std.proofs.Common.{arith}
use Rattle.std.proofs.lemmas.Grind.{common_steps}
use Rattle.message_show.specs.Line.{map_text}
use Rattle.message_show.proofs.values.push_map.Goals as goal

pub push-requires-5 : goal.push-requires-5
unfolding map_text
push-requires-5 c = grind (arith, common_steps)

pub push-requires-3 : goal.push-requires-3
unfolding map_text
push-requires-3 c = grind (arith, common_steps)

pub push-requires-2 : goal.push-requires-2
unfolding map_text
push-requires-2 c = grind (arith, common_steps)

pub push-requires-4 : goal.push-requires-4
unfolding map_text
push-requires-4 c = grind (arith, common_steps)

pub returns : goal.returns
unfolding map_text
returns c = grind (arith, common_steps)
