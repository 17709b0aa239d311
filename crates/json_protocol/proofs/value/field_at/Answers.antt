use Rattle.std.proofs.Common.{arith}
use Rattle.std.proofs.lemmas.Grind.{common_steps}
use Rattle.json_protocol.specs.Values.{field_at}
use Rattle.json_protocol.proofs.value.field_at.Goals as goal

pub overflow_cast-result : goal.overflow_cast-result
unfolding field_at
overflow_cast-result c = grind (arith, common_steps)
