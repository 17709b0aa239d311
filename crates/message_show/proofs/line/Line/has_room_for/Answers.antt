use Rattle.std.proofs.Common.{arith}
use Rattle.std.proofs.lemmas.Grind.{common_steps}
use Rattle.message_show.proofs.line.Line.has_room_for.Goals as goal

pub returns : goal.returns
returns c = grind (arith, common_steps)
