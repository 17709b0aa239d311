use Rattle.std.proofs.Common.{arith}
use Rattle.binary_protocol.specs.Laws.{head_was_read}
use Rattle.binary_protocol.proofs.reader.BinaryRead.read_head.Goals as goal
use Rattle.std.proofs.lemmas.Grind.{common_steps}
use Rattle.binary_protocol.specs.Reading.{reads_head}

pub name_place-requires : goal.name_place-requires
name_place-requires c = let good = head_was_read _ _ _ c.in-Ok.ensures.exact in omega (arith, good.fits, good.pays)

pub returns-in-Ok-clause-sized : goal.returns-in-Ok-clause-sized
returns-in-Ok-clause-sized c = (head_was_read _ _ _ c.in-Ok.ensures.exact).sized

pub returns-in-Err-clause-exact : goal.returns-in-Err-clause-exact
unfolding reads_head
returns-in-Err-clause-exact c = grind (arith, common_steps)

pub returns-in-Ok-clause-exact : goal.returns-in-Ok-clause-exact
unfolding reads_head
returns-in-Ok-clause-exact c = grind (arith, common_steps)
