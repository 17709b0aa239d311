use Rattle.std.proofs.Common.{arith}
use Rattle.std.proofs.lemmas.Grind.{common_steps}
use Rattle.json_text.proofs.places.last_plain_run.Goals as goal

pub returns-else-bytes-end-ne34-clause-value : goal.returns-else-bytes-end-ne34-clause-value
returns-else-bytes-end-ne34-clause-value c = grind (arith, common_steps)

pub returns-after-bytes-clause-value : goal.returns-after-bytes-clause-value
returns-after-bytes-clause-value c = grind (arith, common_steps)

pub bytes-preserved : goal.bytes-preserved
bytes-preserved c = grind (arith, common_steps)

pub returns-else-bytes-end-ge32-clause-value : goal.returns-else-bytes-end-ge32-clause-value
returns-else-bytes-end-ge32-clause-value c = grind (arith, common_steps)

pub returns-else-bytes-end-ge32-clause-ascii : goal.returns-else-bytes-end-ge32-clause-ascii
returns-else-bytes-end-ge32-clause-ascii c = grind (arith, common_steps)
