use Rattle.std.proofs.Common.{length}
use Rattle.gate_memory.proofs.Events.{Passes}
use Rattle.gate_memory.proofs.hub.MemHubHub.next.Given as goal

abbrev pub invariant-loop-self : goal.invariant-loop-self
invariant-loop-self l = Passes l.fn.self l.self

abbrev pub decreases-loop-self : goal.decreases-loop-self
decreases-loop-self l = length l.self.steps
