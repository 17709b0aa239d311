use Rattle.std.proofs.Common.{arith}
use Rattle.std.proofs.lemmas.Grind.{common_steps}
use Rattle.session_judge.proofs.calls.judge_client.Goals as goal

pub returns-clause-within : goal.returns-clause-within
returns-clause-within c = grind (arith, common_steps)

pub keep-requires : goal.keep-requires
keep-requires c = grind (arith, common_steps)

pub returns-clause-out : goal.returns-clause-out
returns-clause-out c = grind (arith, common_steps)
