use Rattle.std.proofs.Common.{arith}
use Rattle.std.proofs.lemmas.Grind.{common_steps}
use Rattle.mio_edge.proofs.table.Table.has_place.Goals as goal

pub returns-then-not-is_empty-clause-none : goal.returns-then-not-is_empty-clause-none
returns-then-not-is_empty-clause-none g c = grind (arith, common_steps)

pub returns-else-not-is_empty-clause-none : goal.returns-else-not-is_empty-clause-none
returns-else-not-is_empty-clause-none g c = grind (arith, common_steps)
