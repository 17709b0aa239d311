use Rattle.std.proofs.Common.{arith}
use Rattle.std.proofs.lemmas.Grind.{common_steps}
use Rattle.stream_messages.specs.Levels.{opened}
use Rattle.stream_messages.proofs.levels.open_next.Goals as goal

pub set_top-requires-in-Bool : goal.set_top-requires-in-Bool
unfolding opened
set_top-requires-in-Bool c = grind (arith, common_steps)

pub returns-in-Struct : goal.returns-in-Struct
unfolding opened
returns-in-Struct c = grind (arith, common_steps)
