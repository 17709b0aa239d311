use Rattle.std.proofs.Common.{length}
use Rattle.gate_memory.proofs.FanEvents.{Passes}
use Rattle.gate_memory.proofs.fan.MemFanFan.next.Given as goal

abbrev pub invariant-loop-self : goal.invariant-loop-self
invariant-loop-self l = Passes l.fn.self l.self

abbrev pub decreases-loop-self : goal.decreases-loop-self
decreases-loop-self l = length l.self.steps
