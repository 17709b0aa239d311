use Rattle.std.proofs.Common.{arith}
use Rattle.std.proofs.lemmas.Grind.{common_steps}
use Rattle.type_tables.proofs.closing.fields_closed.Goals as goal

pub returns-then-not-knows : goal.returns-then-not-knows
returns-then-not-knows c = grind (arith, common_steps)

pub returns : goal.returns
returns c = grind (arith, common_steps)
