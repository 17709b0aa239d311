use Rattle.std.proofs.Common.{ℕ, List, length, take, drop, length-take, length-drop, ◌<◌, ◌-◌, ◌^◌, arith}
use Rattle.std.proofs.lemmas.Grind.{common_steps}
use Rattle.json_protocol.specs.Laws.{head_sized}
use Rattle.json_protocol.specs.Head.{reads_head}
use Rattle.json_protocol.proofs.reader.JsonRead.read_head.Goals as goal

small_rest : (frame : List ℕ) (place : ℕ) → length frame < 2 ^ 31 → length (take (length frame - place) (drop place frame)) < 2 ^ 31
small_rest frame place h = omega (arith, length-drop {A = ℕ}, length-take {A = ℕ})

pub returns-in-Ok-clause-sized : goal.returns-in-Ok-clause-sized
returns-in-Ok-clause-sized c = head_sized _ _ _ _ c.in-Ok.ensures.exact (small_rest c.self.inside.frame.now c.self.inside.place (omega arith))

pub returns-in-Ok-clause-exact : goal.returns-in-Ok-clause-exact
unfolding reads_head
returns-in-Ok-clause-exact c = grind (arith, common_steps)

pub returns-in-Err-clause-exact : goal.returns-in-Err-clause-exact
unfolding reads_head
returns-in-Err-clause-exact c = grind (arith, common_steps)
