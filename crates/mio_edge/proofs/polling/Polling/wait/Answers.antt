use Rattle.std.proofs.Common.{arith}
use Rattle.std.proofs.lemmas.Grind.{common_steps}
use Rattle.mio_edge.proofs.polling.Polling.wait.Goals as goal

pub loop-event-preserved : goal.loop-event-preserved
loop-event-preserved g c = grind (arith, common_steps)

pub returns-then-is_err : goal.returns-then-is_err
returns-then-is_err g c = grind (arith, common_steps)

pub loop-event-init : goal.loop-event-init
loop-event-init g c = grind (arith, common_steps)
