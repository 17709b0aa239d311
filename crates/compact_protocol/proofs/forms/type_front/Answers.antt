use Rattle.std.proofs.Common.{arith}
use Rattle.std.proofs.lemmas.Grind.{common_steps}
use Rattle.compact_protocol.specs.Scan.{type_at}
use Rattle.compact_protocol.proofs.forms.type_front.Goals as goal

pub returns-in_err-mtype-clause-found : goal.returns-in_err-mtype-clause-found
unfolding type_at
returns-in_err-mtype-clause-found c = grind (arith, common_steps)

pub returns-in_err-mtype-clause-long : goal.returns-in_err-mtype-clause-long
unfolding type_at
returns-in_err-mtype-clause-long c = grind (arith, common_steps)
