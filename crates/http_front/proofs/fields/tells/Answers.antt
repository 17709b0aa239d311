use Rattle.std.proofs.Common.{arith}
use Rattle.std.proofs.lemmas.Grind.{common_steps}
use Rattle.http_front.proofs.fields.tells.Goals as goal

pub returns-then-has_option : goal.returns-then-has_option
returns-then-has_option c = grind (arith, common_steps)

pub fields-preserved : goal.fields-preserved
fields-preserved c = grind (arith, common_steps)

pub returns : goal.returns
returns c = grind (arith, common_steps)
