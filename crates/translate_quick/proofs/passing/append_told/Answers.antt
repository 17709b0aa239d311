use Rattle.std.proofs.Common.{Some, None, refl}
use Rattle.translate_quick.proofs.passing.append_told.Goals as goal

pub returns-then-is_blind-clause-passes : goal.returns-then-is_blind-clause-passes
returns-then-is_blind-clause-passes g c passed = c.append_message.ensures.passes passed c.args.body tt

pub returns-in-Some-clause-passes : goal.returns-in-Some-clause-passes
returns-in-Some-clause-passes g c passed = rw c.in-Some.is (c.append_message-in-Some.ensures.passes passed (Some c.in-Some.declared) refl)

pub returns-in-None-clause-passes : goal.returns-in-None-clause-passes
returns-in-None-clause-passes g c passed = rw c.in-None.is (c.append_message-in-None.ensures.passes passed None refl)
