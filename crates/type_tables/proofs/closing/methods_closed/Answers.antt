use Rattle.std.proofs.Common.{arith}
use Rattle.std.proofs.lemmas.Grind.{elements}
use Rattle.type_tables.proofs.closing.methods_closed.Goals as goal

pub loop-at-preserved : goal.loop-at-preserved
loop-at-preserved c = grind (arith, elements)

pub returns-then-not-knows_method : goal.returns-then-not-knows_method
returns-then-not-knows_method c = grind (arith, elements)
