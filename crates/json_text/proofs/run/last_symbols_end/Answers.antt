use Rattle.std.proofs.Common.{arith}
use Rattle.std.proofs.lemmas.Grind.{common_steps}
use Rattle.json_text.proofs.run.last_symbols_end.Goals as goal

pub loop-end-preserved : goal.loop-end-preserved
loop-end-preserved c = grind (arith, common_steps)

pub returns-else-bytes-end-eq47-clause-value : goal.returns-else-bytes-end-eq47-clause-value
returns-else-bytes-end-eq47-clause-value c = grind (arith, common_steps)
