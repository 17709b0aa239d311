use Rattle.std.proofs.Common.{arith}
use Rattle.std.proofs.lemmas.Grind.{common_steps}
use Rattle.compact_protocol.specs.Scan.{uuid_at}
use Rattle.compact_protocol.proofs.values.uuid_at.Goals as goal

pub returns-in-Some-clause-exact : goal.returns-in-Some-clause-exact
unfolding uuid_at
returns-in-Some-clause-exact c = grind (arith, common_steps)
