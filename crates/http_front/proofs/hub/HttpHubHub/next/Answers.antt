use Rattle.std.proofs.Common.{Bool, Option, sym, subst}
use Rattle.gate_hub.specs.Hubs.{Leads, HasStarted, NextLeads}
use Rattle.http_front.specs.Slots.{Open}
use Rattle.http_front.specs.Telling.{TellsOver, Follows}
use Rattle.http_front.proofs.Calls.{next_over, marked_over, ended_over}
use Rattle.http_front.proofs.hub.HttpHubHub.next.Goals as goal

pub returns-then-self-clause-leads : goal.returns-then-self-clause-leads
returns-then-self-clause-leads g c =
    let hub = c.args.self.now in
    ended_over (g.H.Hub.tells hub.inner.now) hub.rules hub.slots hub.stopped c.if-self.true

pub returns-in-Some-clause-leads : goal.returns-in-Some-clause-leads
returns-in-Some-clause-leads g c =
    let hub = c.args.self.now in
    marked_over (g.H.Hub.tells hub.inner.now) hub.rules hub.slots c.least_marked.new.slots hub.stopped c.in-Some.k c.if-self.false c.in-Some.ensures.marked c.least_marked.ensures.same

pub returns-clause-leads : goal.returns-clause-leads
returns-clause-leads g c =
    let hub = c.args.self.now in
    let told = g.H.Hub.tells hub.inner.now in
    let told' = g.H.Hub.tells c.next-event.new.self in
    subst (λ (b : Bool). Leads (TellsOver told hub.rules hub.slots hub.stopped) (TellsOver told' hub.rules c.follow.new.slots b) HasStarted (NextLeads c.next-event.result)) (sym c.stops-self.ensures)
    (next_over told told' hub.rules hub.slots c.follow.new.slots hub.stopped c.next-event.result c.if-self.false (subst (λ (a : Option Open). Follows c.next-event.result a c.follow.new.slots) c.least_marked.ensures.same c.follow.ensures) c.next-event.ensures.leads)
