use Rattle.mio_edge.proofs.listening.Listening.connect_deferred.Goals as goal
use Rattle.std.proofs.Common.{arith}
use Rattle.std.proofs.lemmas.Grind.{common_steps}

pub returns-in_default-clause-below : goal.returns-in_default-clause-below
returns-in_default-clause-below g c = λ next below. below

pub returns-then-not-connect-clause-below : goal.returns-then-not-connect-clause-below
returns-then-not-connect-clause-below g c = λ next below. c.give_up.ensures.below next (c.connect.ensures.below next below)

pub returns-else-not-connect-clause-below : goal.returns-else-not-connect-clause-below
returns-else-not-connect-clause-below g c = grind (arith, common_steps)

pub returns-then-not-connect-clause-turns : goal.returns-then-not-connect-clause-turns
returns-then-not-connect-clause-turns g c = grind (arith, common_steps)
