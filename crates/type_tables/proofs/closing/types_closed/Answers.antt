use Rattle.std.proofs.Common.{arith}
use Rattle.std.proofs.lemmas.Grind.{common_steps}
use Rattle.type_tables.proofs.closing.types_closed.Goals as goal

pub loop-ty-preserved : goal.loop-ty-preserved
loop-ty-preserved c = grind (arith, common_steps)

pub returns-then-not-knows : goal.returns-then-not-knows
returns-then-not-knows c = grind (arith, common_steps)

pub returns : goal.returns
returns c = grind (arith, common_steps)
