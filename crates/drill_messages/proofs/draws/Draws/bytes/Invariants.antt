use Rattle.drill_messages.specs.Messages.{byte_of}
use Rattle.drill_messages.proofs.Drawing.{Made}
use Rattle.drill_messages.proofs.draws.Draws.bytes.Given as goal

abbrev pub invariant-loop-place : goal.invariant-loop-place
invariant-loop-place l = Made byte_of l.initial.self.state l.place l.bytes.items l.self.state
