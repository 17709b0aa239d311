use Rattle.std.proofs.Common.{arith}
use Rattle.std.proofs.lemmas.Bool.Decides.{nat_tests}
use Rattle.json_text.proofs.Escapes.{low_unit}
use Rattle.json_text.proofs.escape.pair_at.Goals as goal
use mathlib.Core.Logic.{inr}

pub overflow_sub-low : goal.overflow_sub-low
overflow_sub-low c = let low = low_unit c.args.bytes.now (grind (arith, nat_tests)) (omega arith) in omega (arith, low.low, c.unit_at-low.ensures)

pub overflow_add-high-2 : goal.overflow_add-high-2
overflow_add-high-2 c = let low = low_unit c.args.bytes.now (grind (arith, nat_tests)) (omega arith) in omega (arith, low.low, low.high, c.unit_at-low.ensures)

pub character-requires-clause-scalar : goal.character-requires-clause-scalar
character-requires-clause-scalar c = let low = low_unit c.args.bytes.now (grind (arith, nat_tests)) (omega arith) in inr (omega arith, omega (arith, low.low, low.high, c.unit_at-low.ensures))
