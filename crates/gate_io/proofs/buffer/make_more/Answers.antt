use Rattle.std.proofs.Common.{arith}
use Rattle.std.proofs.lemmas.Grind.{common_steps, elements}
use Rattle.gate_io.proofs.buffer.make_more.Goals as goal

pub make-requires-2-clause-within : goal.make-requires-2-clause-within
make-requires-2-clause-within c = grind (arith, common_steps)

pub returns-clause-kept : goal.returns-clause-kept
returns-clause-kept c = grind (arith, common_steps)

pub returns-then-count-room-clause-kept : goal.returns-then-count-room-clause-kept
returns-then-count-room-clause-kept c = grind (arith, elements)
