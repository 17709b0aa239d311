use Rattle.std.proofs.Common.{◌-◌}
use Rattle.varint_zigzag.proofs.Carrying.{Carries}
use Rattle.varint_zigzag.proofs.reading.read_groups.Given as goal

abbrev pub invariant-loop-at : goal.invariant-loop-at
invariant-loop-at l = Carries l.most l.width l.bytes l.number l.at l.shift

abbrev pub decreases-loop-at : goal.decreases-loop-at
decreases-loop-at l = l.most - l.at
