use Rattle.std.proofs.Common.{Some, None, refl}
use Rattle.kept_messages.proofs.message.append_typed.Goals as goal

pub returns-in-Some-clause-passes : goal.returns-in-Some-clause-passes
returns-in-Some-clause-passes g c passed = rw c.in-Some.is (c.append_message.ensures.passes passed (Some c.in-Some.declared) refl)

pub returns-in-None-clause-passes : goal.returns-in-None-clause-passes
returns-in-None-clause-passes g c passed = rw c.in-None.is (c.append_message-in-None.ensures.passes passed None refl)
