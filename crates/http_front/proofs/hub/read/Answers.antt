use Rattle.http_front.proofs.Calls.{in_slots}
use Rattle.http_front.proofs.hub.read.Goals as goal

pub returns-in-Some-clause-goes : goal.returns-in-Some-clause-goes
returns-in-Some-clause-goes g c =
    in_slots (g.H.Hub.tells c.args.inner.now) (g.H.Hub.tells c.read.new.inner) c.args.rules.now c.args.k c.read.new.into c.read.result c.args.slots.now c.in-Some.slots c.read.new.self c.in-Some.is c.read.ensures.goes
