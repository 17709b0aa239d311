use Rattle.drill_messages.specs.Messages.{letter_of}
use Rattle.drill_messages.proofs.Drawing.{Made}
use Rattle.drill_messages.proofs.draws.Draws.letters.Given as goal

abbrev pub invariant-loop-place : goal.invariant-loop-place
invariant-loop-place l = Made letter_of l.initial.self.state l.place l.letters.items l.self.state
