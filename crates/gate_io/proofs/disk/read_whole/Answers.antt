use Rattle.std.proofs.Common.{arith}
use Rattle.std.proofs.lemmas.Grind.{common_steps}
use Rattle.gate_io.proofs.disk.read_whole.Goals as goal

pub read-requires : goal.read-requires
read-requires g c = grind (arith, common_steps)

pub slice_bounds-read-start : goal.slice_bounds-read-start
slice_bounds-read-start g c = grind (arith, common_steps)

pub slice_bounds-read-count : goal.slice_bounds-read-count
slice_bounds-read-count g c = grind (arith, common_steps)

pub returns-in-End : goal.returns-in-End
returns-in-End g c = grind (arith, common_steps)
