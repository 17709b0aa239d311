use Rattle.drill_messages.specs.Messages.{flag_of}
use Rattle.drill_messages.proofs.Drawing.{Made}
use Rattle.drill_messages.proofs.draws.Draws.flags.Given as goal

abbrev pub invariant-loop-place : goal.invariant-loop-place
invariant-loop-place l = Made flag_of l.initial.self.state l.place l.flags.items l.self.state
