use Rattle.std.proofs.Common.{arith, length, refl, ap}
use Rattle.std.proofs.lemmas.Grind.{common_steps}
use Rattle.gate_hub.specs.Meaning.{Wrote}
use Rattle.gate_hub.specs.Hubs.{LinkWrites}
use Rattle.stream_messages.proofs.Calls.{call_over, not_written}
use Rattle.stream_messages.proofs.hub.UnframedHubHub.write.Goals as goal

pub returns-in-Some-clause-leads : goal.returns-in-Some-clause-leads
returns-in-Some-clause-leads g c =
    let hub = c.args.self.now in
    call_over (g.H.Hub.tells hub.inner.now) (g.H.Hub.tells c.write.new.hub) hub.wrapping hub.slots c.write.new.slots c.args.k c.args.side (Wrote c.args.k c.args.side (length c.args.from.now) c.in-Some.put) (LinkWrites c.args.from.now c.in-Some.put)
    c.in-Some.ensures.goes

pub returns-in-None-clause-leads : goal.returns-in-None-clause-leads
returns-in-None-clause-leads g c =
    let hub = c.args.self.now in
    let none = c.in-None.ensures.none refl in
    not_written (g.H.Hub.tells hub.inner.now) (g.H.Hub.tells c.write.new.hub) hub.wrapping hub.slots c.write.new.slots c.args.k c.args.side c.args.from.now none.0 none.1 (ap g.H.Hub.tells none.2)

pub returns-in-None-clause-kept : goal.returns-in-None-clause-kept
returns-in-None-clause-kept g c = grind (arith, common_steps)

pub returns-in-Some-clause-kept : goal.returns-in-Some-clause-kept
returns-in-Some-clause-kept g c = grind (arith, common_steps)
