use Rattle.std.proofs.Common.{arith, sym}
use Rattle.mio_edge.proofs.table.Table.find_deferred.Goals as goal
use Rattle.std.proofs.lemmas.Grind.{common_steps}

pub returns-then-is_deferred-clause-deferred : goal.returns-then-is_deferred-clause-deferred
returns-then-is_deferred-clause-deferred g c = (c.in_ok-session.session.now, sym c.in_ok-session.ensures, c.is_deferred.ensures.deferred c.if-is_deferred.true)

pub returns-in_err-session-clause-deferred : goal.returns-in_err-session-clause-deferred
returns-in_err-session-clause-deferred g c = grind (arith, common_steps)

pub returns-in_err-place-clause-open : goal.returns-in_err-place-clause-open
returns-in_err-place-clause-open g c = grind (arith, common_steps)

pub returns-in_err-session-clause-open : goal.returns-in_err-session-clause-open
returns-in_err-session-clause-open g c = grind (arith, common_steps)
