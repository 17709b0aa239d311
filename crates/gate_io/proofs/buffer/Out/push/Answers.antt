use Rattle.std.proofs.Common.{arith}
use Rattle.std.proofs.lemmas.Grind.{common_steps}
use Rattle.gate_io.proofs.buffer.Out.push.Goals as goal

pub make_cells-self-inside-requires-clause-room : goal.make_cells-self-inside-requires-clause-room
make_cells-self-inside-requires-clause-room c = grind (arith, common_steps)

pub invariant_of-self : goal.invariant_of-self
invariant_of-self c = grind (arith, common_steps)

pub returns : goal.returns
returns c = grind (arith, common_steps)
