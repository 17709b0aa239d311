use Rattle.gate_streams.proofs.Outcome.{closes_none}
use Rattle.gate_streams.proofs.stream.close.Goals as goal

pub returns-in-ReadFault-clause-closed : goal.returns-in-ReadFault-clause-closed
returns-in-ReadFault-clause-closed g c = rw c.in-ReadFault.is (c.end_with.ensures.front, c.end_with.ensures.whole)

pub returns-in-BudgetSpent-clause-closed : goal.returns-in-BudgetSpent-clause-closed
returns-in-BudgetSpent-clause-closed g c = rw c.in-BudgetSpent.is (c.end_with-in-BudgetSpent.ensures.front, c.end_with-in-BudgetSpent.ensures.whole)

pub returns-in_default-clause-closed : goal.returns-in_default-clause-closed
returns-in_default-clause-closed g c = closes_none c.args.ending _ _ _ c.in_default.not-ReadFault c.in_default.not-BudgetSpent
