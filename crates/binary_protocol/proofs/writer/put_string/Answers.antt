use Rattle.std.proofs.Common.{arith}
use Rattle.std.proofs.lemmas.Grind.{common_steps}
use Rattle.binary_protocol.proofs.writer.put_string.Goals as goal

pub push-requires-2 : goal.push-requires-2
push-requires-2 c = grind (arith, common_steps)

pub returns : goal.returns
returns c = grind (arith, common_steps)
