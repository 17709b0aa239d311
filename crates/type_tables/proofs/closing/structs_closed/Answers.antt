use Rattle.std.proofs.Common.{arith}
use Rattle.std.proofs.lemmas.Grind.{common_steps}
use Rattle.type_tables.proofs.closing.structs_closed.Goals as goal

pub returns-then-not-fields_closed : goal.returns-then-not-fields_closed
returns-then-not-fields_closed c = grind (arith, common_steps)

pub returns : goal.returns
returns c = grind (arith, common_steps)
