use Rattle.std.proofs.Common.{arith}
use Rattle.std.proofs.lemmas.Grind.{common_steps}
use Rattle.compact_protocol.proofs.writer.CompactWrite.put_event.Goals as goal

pub follow-requires-clause-begun : goal.follow-requires-clause-begun
follow-requires-clause-begun c = grind (arith, common_steps)

pub invariant_of-self : goal.invariant_of-self
invariant_of-self c = grind (arith, common_steps)

pub follow-requires-clause-shallow : goal.follow-requires-clause-shallow
follow-requires-clause-shallow c = grind (arith, common_steps)
