use Rattle.std.proofs.Common.{arith}
use Rattle.std.proofs.lemmas.Grind.{common_steps}
use Rattle.json_protocol.proofs.lay.lay_marks.Goals as goal

pub returns-in-len1-clause-laid : goal.returns-in-len1-clause-laid
returns-in-len1-clause-laid c = grind (arith, common_steps)

pub returns-in-empty-clause-laid : goal.returns-in-empty-clause-laid
returns-in-empty-clause-laid c = grind (arith, common_steps)

pub returns-in-len2-up-clause-laid : goal.returns-in-len2-up-clause-laid
returns-in-len2-up-clause-laid c = grind (arith, common_steps)
