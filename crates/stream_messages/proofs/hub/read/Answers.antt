use Rattle.gate_hub.specs.Hubs.{LinkReads}
use Rattle.stream_messages.proofs.Calls.{in_slots}
use Rattle.stream_messages.proofs.hub.read.Goals as goal

pub returns-in-Some-clause-goes : goal.returns-in-Some-clause-goes
returns-in-Some-clause-goes g c =
    in_slots c.read.result (g.H.Hub.tells c.args.hub.now) (g.H.Hub.tells c.read.new.hub) c.args.k c.args.side c.args.slots.now c.in-Some.slots c.read.new.self (λ v. LinkReads c.read.new.into v) c.in-Some.is c.read.ensures.goes
