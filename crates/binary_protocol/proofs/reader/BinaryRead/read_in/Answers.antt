use Rattle.std.proofs.Common.{arith}
use Rattle.std.proofs.lemmas.List.{take_rest}
use Rattle.binary_protocol.specs.Laws.{reads_ok, reads_err, was_read}
use Rattle.binary_protocol.proofs.reader.BinaryRead.read_in.Goals as goal

pub follow_in-requires-clause-shallow : goal.follow_in-requires-clause-shallow
follow_in-requires-clause-shallow c =
    (was_read _ _ _ _ _ _ (rw (← c.self.view_is) at c.requires.level) c.depth.ensures.depth c.in-Ok.ensures.exact).shallow (omega (arith, c.depth.ensures.depth, c.depth.ensures.bound))

pub returns-in-Ok-clause-exact : goal.returns-in-Ok-clause-exact
returns-in-Ok-clause-exact c = rw (← c.self.view_is, c.follow_in.ensures) (reads_ok _ _ _ _ _ (rw (← c.self.view_is) at c.requires.level) c.depth.ensures.depth (rw take_rest at c.in-Ok.ensures.exact))

pub returns-in-Ok-clause-sized : goal.returns-in-Ok-clause-sized
returns-in-Ok-clause-sized c = (was_read _ _ _ _ _ _ (rw (← c.self.view_is) at c.requires.level) c.depth.ensures.depth c.in-Ok.ensures.exact).sized

pub returns-in-Ok-clause-shallow : goal.returns-in-Ok-clause-shallow
returns-in-Ok-clause-shallow c =
    rw (← c.self.view_is)
    ((was_read _ _ _ _ _ _ (rw (← c.self.view_is) at c.requires.level) c.depth.ensures.depth c.in-Ok.ensures.exact).shallow (omega (arith, c.depth.ensures.depth, c.depth.ensures.bound)))

pub returns-in-Err-clause-exact : goal.returns-in-Err-clause-exact
returns-in-Err-clause-exact c = rw (← c.self.view_is, c.fault_at.ensures) (reads_err _ _ _ _ (rw (← c.self.view_is) at c.requires.level) c.depth.ensures.depth (rw take_rest at c.in-Err.ensures.exact))
