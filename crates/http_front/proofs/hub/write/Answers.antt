use Rattle.http_front.proofs.Calls.{put_in_slots}
use Rattle.http_front.proofs.hub.write.Goals as goal

pub returns-in-Some-clause-goes : goal.returns-in-Some-clause-goes
returns-in-Some-clause-goes g c = λ r.
    put_in_slots (g.H.Hub.tells c.args.inner.now) (g.H.Hub.tells c.write.new.inner) r c.args.k c.args.from.now c.write.result c.args.slots.now c.in-Some.slots c.write.new.self c.in-Some.is (c.write.ensures.goes r)
