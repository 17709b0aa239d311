use Rattle.drill_messages.proofs.Drawing.{Items}
use Rattle.drill_messages.proofs.making.draw_items.Given as goal

abbrev pub invariant-loop-place : goal.invariant-loop-place
invariant-loop-place l = Items l.initial.draws.state l.place l.items.items l.draws.state
