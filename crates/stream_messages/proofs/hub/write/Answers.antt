use Rattle.gate_hub.specs.Hubs.{LinkWrites}
use Rattle.stream_messages.proofs.Calls.{in_slots}
use Rattle.stream_messages.proofs.hub.write.Goals as goal

pub returns-in-Some-clause-goes : goal.returns-in-Some-clause-goes
returns-in-Some-clause-goes g c =
    in_slots c.write.result (g.H.Hub.tells c.args.hub.now) (g.H.Hub.tells c.write.new.hub) c.args.k c.args.side c.args.slots.now c.in-Some.slots c.write.new.self (λ v. LinkWrites c.args.from.now v) c.in-Some.is c.write.ensures.goes
