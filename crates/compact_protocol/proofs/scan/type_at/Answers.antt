use Rattle.std.proofs.Common.{arith}
use Rattle.std.proofs.lemmas.Grind.{common_steps}
use Rattle.compact_protocol.specs.Scan.{type_at}
use Rattle.compact_protocol.proofs.scan.type_at.Goals as goal

pub returns-then-bytes-ne1-clause-within : goal.returns-then-bytes-ne1-clause-within
unfolding type_at
returns-then-bytes-ne1-clause-within c = grind (arith, common_steps)

pub returns-in-None-clause-within : goal.returns-in-None-clause-within
unfolding type_at
returns-in-None-clause-within c = grind (arith, common_steps)
