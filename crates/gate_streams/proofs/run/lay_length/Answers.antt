use Rattle.std.proofs.Common.{arith}
use Rattle.std.proofs.lemmas.Grind.{common_steps}
use Rattle.gate_streams.proofs.Turned.{turned}
use Rattle.gate_streams.proofs.run.lay_length.Goals as goal

pub returns : goal.returns
returns c = grind (arith, common_steps, turned c.args.size)
