use Rattle.std.proofs.Common.{arith}
use Rattle.std.proofs.lemmas.Grind.{common_steps}
use Rattle.mio_edge.proofs.port.Port.send.Goals as goal

pub returns-else-not-is_empty-clause-still : goal.returns-else-not-is_empty-clause-still
returns-else-not-is_empty-clause-still g c = grind (arith, common_steps)

pub returns-in-NotReady-clause-keeps : goal.returns-in-NotReady-clause-keeps
returns-in-NotReady-clause-keeps g c = grind (arith, common_steps)

pub returns-in-Took-clause-sent : goal.returns-in-Took-clause-sent
returns-in-Took-clause-sent g c = grind (arith, common_steps)

pub returns-in-Failed-clause-still : goal.returns-in-Failed-clause-still
returns-in-Failed-clause-still g c = grind (arith, common_steps)

pub returns-in-Took-clause-still : goal.returns-in-Took-clause-still
returns-in-Took-clause-still g c = grind (arith, common_steps)

pub returns-in-NotReady-clause-still : goal.returns-in-NotReady-clause-still
returns-in-NotReady-clause-still g c = grind (arith, common_steps)

pub returns-else-not-is_empty-clause-keeps : goal.returns-else-not-is_empty-clause-keeps
returns-else-not-is_empty-clause-keeps g c = grind (arith, common_steps)

pub returns-in_default-clause-keeps : goal.returns-in_default-clause-keeps
returns-in_default-clause-keeps g c = grind (arith, common_steps)

pub returns-in-Failed-clause-keeps : goal.returns-in-Failed-clause-keeps
returns-in-Failed-clause-keeps g c = grind (arith, common_steps)

pub returns-in-Took-clause-keeps : goal.returns-in-Took-clause-keeps
returns-in-Took-clause-keeps g c = grind (arith, common_steps)

pub send_from-requires : goal.send_from-requires
send_from-requires g c = grind (arith, common_steps)

pub returns-else-not-is_empty-clause-sent : goal.returns-else-not-is_empty-clause-sent
returns-else-not-is_empty-clause-sent g c = grind (arith, common_steps)

pub invariant_of-self-then-not-is_empty : goal.invariant_of-self-then-not-is_empty
invariant_of-self-then-not-is_empty g c = grind (arith, common_steps)

pub returns-in-Failed-clause-sent : goal.returns-in-Failed-clause-sent
returns-in-Failed-clause-sent g c = grind (arith, common_steps)

pub invariant_of-self-else-not-is_empty : goal.invariant_of-self-else-not-is_empty
invariant_of-self-else-not-is_empty g c = grind (arith, common_steps)

pub invariant_of-self-in-NotReady : goal.invariant_of-self-in-NotReady
invariant_of-self-in-NotReady g c = grind (arith, common_steps)

pub invariant_of-self-in-Failed : goal.invariant_of-self-in-Failed
invariant_of-self-in-Failed g c = grind (arith, common_steps)

pub returns-then-ne-clause-sent : goal.returns-then-ne-clause-sent
returns-then-ne-clause-sent g c = grind (arith, common_steps)

pub returns-in-NotReady-clause-sent : goal.returns-in-NotReady-clause-sent
returns-in-NotReady-clause-sent g c = grind (arith, common_steps)

pub returns-in_default-clause-sent : goal.returns-in_default-clause-sent
returns-in_default-clause-sent g c = grind (arith, common_steps)

pub returns-then-ne-clause-keeps : goal.returns-then-ne-clause-keeps
returns-then-ne-clause-keeps g c = grind (arith, common_steps)
