use Rattle.std.proofs.Common.{arith}
use Rattle.std.proofs.lemmas.Grind.{common_steps}
use Rattle.compact_protocol.specs.Scan.{flag_of}
use Rattle.compact_protocol.proofs.scan.flag_of.Goals as goal

pub returns-then-is_empty : goal.returns-then-is_empty
unfolding flag_of
returns-then-is_empty c = grind (arith, common_steps)
