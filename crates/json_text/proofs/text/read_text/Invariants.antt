use Rattle.std.proofs.Common.{◌-◌, length}
use Rattle.json_text.proofs.Turns.{Going}
use Rattle.json_text.proofs.text.read_text.Given as goal

abbrev pub invariant-loop-place : goal.invariant-loop-place
invariant-loop-place l = Going l.bytes l.at l.from l.count l.room (length l.initial.room)

abbrev pub decreases-loop-place : goal.decreases-loop-place
decreases-loop-place l = length l.bytes - l.from
