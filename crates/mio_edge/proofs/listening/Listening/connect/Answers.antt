use Rattle.mio_edge.proofs.listening.Listening.connect.Goals as goal
use Rattle.std.proofs.Common.{arith}
use Rattle.std.proofs.lemmas.Grind.{common_steps}

pub returns-clause-prepared : goal.returns-clause-prepared
returns-clause-prepared g c = λ k telling ready. c.attach.ensures.prepared k (c.in-Some-connect.ensures telling) ready

pub returns-in_default-connect-clause-others : goal.returns-in_default-connect-clause-others
returns-in_default-connect-clause-others g c = grind (arith, common_steps)

pub returns-clause-below : goal.returns-clause-below
returns-clause-below g c = grind (arith, common_steps)
