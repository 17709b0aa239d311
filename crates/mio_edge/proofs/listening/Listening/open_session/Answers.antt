use Rattle.std.proofs.Common.{◌+◌, arith}
use Rattle.mio_edge.proofs.listening.Listening.open_session.Goals as goal
use Rattle.std.proofs.lemmas.Grind.{common_steps}

pub returns-clause-kept : goal.returns-clause-kept
returns-clause-kept g c = c.admit.ensures.kept c.if-admit.false

pub returns-then-admit-clause-below : goal.returns-then-admit-clause-below
returns-then-admit-clause-below g c = λ least below. c.admit.ensures.below (c.args.number + 1) (omega arith) (λ place s is. omega (arith, least, below place s is))

pub returns-clause-below : goal.returns-clause-below
returns-clause-below g c = λ least below. c.admit.ensures.refused c.if-admit.false c.args.next.now below

pub returns-then-admit-clause-opens : goal.returns-then-admit-clause-opens
returns-then-admit-clause-opens g c = grind (arith, common_steps)

pub returns-clause-turns : goal.returns-clause-turns
returns-clause-turns g c = grind (arith, common_steps)

pub returns-clause-not_handed : goal.returns-clause-not_handed
returns-clause-not_handed g c = grind (arith, common_steps)

pub returns-then-admit-clause-not_handed : goal.returns-then-admit-clause-not_handed
returns-then-admit-clause-not_handed g c = grind (arith, common_steps)
