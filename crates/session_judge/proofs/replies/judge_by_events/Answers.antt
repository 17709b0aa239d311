use Rattle.std.proofs.Common.{arith}
use Rattle.std.proofs.lemmas.Grind.{common_steps}
use Rattle.session_judge.proofs.replies.judge_by_events.Goals as goal

pub returns-in-Passed-clause-out : goal.returns-in-Passed-clause-out
returns-in-Passed-clause-out c = grind (arith, common_steps)

pub returns-in-Passed-clause-within : goal.returns-in-Passed-clause-within
returns-in-Passed-clause-within c = grind (arith, common_steps)

pub answer_refused-requires-clause-fits : goal.answer_refused-requires-clause-fits
answer_refused-requires-clause-fits c = grind (arith, common_steps)

pub returns-in-Refused-clause-within : goal.returns-in-Refused-clause-within
returns-in-Refused-clause-within c = grind (arith, common_steps)

pub keep-requires : goal.keep-requires
keep-requires c = grind (arith, common_steps)
