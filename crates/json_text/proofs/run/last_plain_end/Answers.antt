use Rattle.std.proofs.Common.{arith}
use Rattle.std.proofs.lemmas.Grind.{common_steps}
use Rattle.json_text.proofs.run.last_plain_end.Goals as goal

pub returns-else-bytes-end-ge32-clause-value : goal.returns-else-bytes-end-ge32-clause-value
returns-else-bytes-end-ge32-clause-value c = grind (arith, common_steps)

pub loop-end-preserved : goal.loop-end-preserved
loop-end-preserved c = grind (arith, common_steps)

pub returns-else-bytes-end-ne92-clause-value : goal.returns-else-bytes-end-ne92-clause-value
returns-else-bytes-end-ne92-clause-value c = grind (arith, common_steps)

pub returns-else-bytes-end-ne34-clause-value : goal.returns-else-bytes-end-ne34-clause-value
returns-else-bytes-end-ne34-clause-value c = grind (arith, common_steps)
