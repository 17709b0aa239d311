use Rattle.std.proofs.Common.{◌<◌, ◌^◌, ◌-◌, ℕ, List, length, take, drop, length-take, length-drop, arith}
use Rattle.compact_protocol.specs.Laws.{name_sized}
use Rattle.compact_protocol.proofs.reader.CompactRead.read_head.Goals as goal
use Rattle.std.proofs.lemmas.Grind.{common_steps}
use Rattle.compact_protocol.specs.Reading.{reads_head}

small_rest : (frame : List ℕ) (place : ℕ) → length frame < 2 ^ 31 → length (take (length frame - place) (drop place frame)) < 2 ^ 31
small_rest frame place h = omega (arith, length-drop {A = ℕ}, length-take {A = ℕ})

pub returns-in-Ok-string_behind-clause-sized : goal.returns-in-Ok-string_behind-clause-sized
returns-in-Ok-string_behind-clause-sized c = name_sized _ _ _ _ (small_rest c.self.inside.frame.now c.self.inside.place (omega arith)) c.in-Ok-string_behind.ensures.exact

pub invariant_of-self : goal.invariant_of-self
unfolding reads_head
invariant_of-self c = grind (arith, common_steps)

pub returns-in-Err-clause-exact : goal.returns-in-Err-clause-exact
unfolding reads_head
returns-in-Err-clause-exact c = grind (arith, common_steps)

pub returns-in-Err-string_behind-clause-exact : goal.returns-in-Err-string_behind-clause-exact
unfolding reads_head
returns-in-Err-string_behind-clause-exact c = grind (arith, common_steps)

pub returns-in-Ok-string_behind-clause-exact : goal.returns-in-Ok-string_behind-clause-exact
unfolding reads_head
returns-in-Ok-string_behind-clause-exact c = grind (arith, common_steps)

pub overflow_add-self-inside-in-Err-string_behind : goal.overflow_add-self-inside-in-Err-string_behind
unfolding reads_head
overflow_add-self-inside-in-Err-string_behind c = grind (arith, common_steps)
