use Rattle.std.proofs.Common.{◌≤◌, ◌<◌, ◌^◌, ◌-◌, ℕ, List, length, take, drop, length-take, length-drop, sym, ◌∙◌, arith}
use Rattle.std.proofs.lemmas.List.{take_rest}
use Rattle.thrift_value.specs.Items.{item_of}
use Rattle.protocol_traits.specs.Follow.{after}
use Rattle.compact_protocol.specs.Laws.{reads_ok, reads_err, reads_none, was_read}
use Rattle.compact_protocol.proofs.reader.CompactRead.read.Goals as goal
use Rattle.std.proofs.lemmas.Grind.{common_steps}

small_rest : (frame : List ℕ) (place : ℕ) → length frame < 2 ^ 31 → length (take (length frame - place) (drop place frame)) < 2 ^ 31
small_rest frame place h = omega (arith, length-drop {A = ℕ}, length-take {A = ℕ})

pub returns-in-None-clause-exact : goal.returns-in-None-clause-exact
returns-in-None-clause-exact c = rw (← c.self.view_is, c.fault_at.ensures) (reads_none _ (sym c.top.ensures ∙ c.in-None.is))

pub follow-requires-clause-shallow : goal.follow-requires-clause-shallow
follow-requires-clause-shallow c =
    (was_read _ _ _ _ _ _ _ (omega arith) (sym c.top.ensures ∙ c.in-Some.is) c.depth.ensures.depth c.in-Ok.ensures.exact).shallow

pub invariant_of-self : goal.invariant_of-self
invariant_of-self c =
    let deep : length (after (item_of c.in-Ok.event) c.self.inside.nest) ≤ 256 = (was_read _ _ _ _ _ _ _ (omega arith) (sym c.top.ensures ∙ c.in-Some.is) c.depth.ensures.depth c.in-Ok.ensures.exact).deep in
    let there : c.in-Ok.taken ≤ length (drop c.self.inside.place c.self.inside.frame.now) = rw take_rest at c.in-Ok.ensures.within in
    (omega (arith, there, length-drop {A = ℕ}), omega arith, rw c.follow.ensures deep)

pub returns-in-Ok-clause-exact : goal.returns-in-Ok-clause-exact
returns-in-Ok-clause-exact c =
    rw (← c.self.view_is, c.follow.ensures, c.flag_of-self-inside.ensures, take_rest)
    (reads_ok _ _ _ _ _ (sym c.top.ensures ∙ c.in-Some.is) c.depth.ensures.depth (rw take_rest at c.in-Ok.ensures.exact))

pub returns-in-Ok-clause-sized : goal.returns-in-Ok-clause-sized
returns-in-Ok-clause-sized c = c.in-Ok.ensures.sized (small_rest c.self.inside.frame.now c.self.inside.place (omega arith))

pub returns-in-Ok-clause-shallow : goal.returns-in-Ok-clause-shallow
returns-in-Ok-clause-shallow c =
    rw (← c.self.view_is) (was_read _ _ _ _ _ _ _ (omega arith) (sym c.top.ensures ∙ c.in-Some.is) c.depth.ensures.depth c.in-Ok.ensures.exact).shallow

pub returns-in-Err-clause-exact : goal.returns-in-Err-clause-exact
returns-in-Err-clause-exact c = rw (← c.self.view_is, c.fault_at-in-Err.ensures) (reads_err _ _ _ _ (sym c.top.ensures ∙ c.in-Some.is) c.depth.ensures.depth (rw take_rest at c.in-Err.ensures.exact))

pub follow-requires-clause-begun : goal.follow-requires-clause-begun
follow-requires-clause-begun c = grind (arith, common_steps)
