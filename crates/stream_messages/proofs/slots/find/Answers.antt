use Rattle.std.proofs.Common.{arith}
use Rattle.std.proofs.lemmas.Grind.{elements}
use Rattle.stream_messages.proofs.slots.find.Goals as goal

pub loop-low-init : goal.loop-low-init
loop-low-init c = grind (arith, elements)

pub loop-low-preserved : goal.loop-low-preserved
loop-low-preserved c = grind (arith, elements)

pub loop-low-preserved-then-at-number-2 : goal.loop-low-preserved-then-at-number-2
loop-low-preserved-then-at-number-2 c = grind (arith, elements)
