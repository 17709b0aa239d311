use Rattle.drill_messages.specs.Messages.{mark_of}
use Rattle.drill_messages.proofs.Drawing.{Made}
use Rattle.drill_messages.proofs.draws.Draws.marks.Given as goal

abbrev pub invariant-loop-place : goal.invariant-loop-place
invariant-loop-place l = Made mark_of l.initial.self.state l.place l.marks.items l.self.state
