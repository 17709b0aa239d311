use Rattle.std.proofs.Common.{length, refl, sym, ap, subst}
use Rattle.gate_hub.specs.Meaning.{Wrote, IsOpen}
use Rattle.gate_hub.specs.Hubs.{Leads, LinkWrites, WriteLeads}
use Rattle.gate_hub.specs.declared.hub.Side.{Side}
use Rattle.gate_hub.specs.declared.hub.Side.TheVariants as side
use Rattle.gate_hub.specs.declared.hub.LinkPut.TheVariants as put
use Rattle.http_front.specs.Telling.{TellsOver}
use Rattle.http_front.proofs.Calls.{call_over, stray_write, upstream_write, stray_upstream_write}
use Rattle.http_front.proofs.hub.HttpHubHub.write.Goals as goal

pub returns-in-Put-clause-leads : goal.returns-in-Put-clause-leads
returns-in-Put-clause-leads g c =
    let hub = c.args.self.now in
    let told = g.H.Hub.tells hub.inner.now in
    let told' = g.H.Hub.tells c.write.new.inner in
    let from = c.args.from.now in
    subst (λ (x : Side). Leads (TellsOver told hub.rules hub.slots hub.stopped) (TellsOver told' hub.rules c.write.new.slots hub.stopped) (IsOpen c.args.k) (WriteLeads c.args.k x from c.in-Put.put)) (sym c.in-Client.is)
    (call_over told told' hub.rules hub.slots c.write.new.slots hub.stopped c.args.k (Wrote c.args.k side.Client (length from) c.in-Put.put) (LinkWrites from c.in-Put.put) (c.in-Put.ensures.goes hub.rules))

pub returns-in-Stray-clause-leads : goal.returns-in-Stray-clause-leads
returns-in-Stray-clause-leads g c =
    let hub = c.args.self.now in
    let told = g.H.Hub.tells hub.inner.now in
    let told' = g.H.Hub.tells c.write.new.inner in
    let from = c.args.from.now in
    subst (λ (x : Side). Leads (TellsOver told hub.rules hub.slots hub.stopped) (TellsOver told' hub.rules c.write.new.slots hub.stopped) (IsOpen c.args.k) (WriteLeads c.args.k x from put.Failed)) (sym c.in-Client.is)
    (stray_write told told' hub.rules hub.slots c.write.new.slots hub.stopped c.args.k from (c.in-Stray.ensures.goes hub.rules) (ap g.H.Hub.tells (c.in-Stray.ensures.stray refl)))

pub returns-in-Upstream-clause-leads : goal.returns-in-Upstream-clause-leads
returns-in-Upstream-clause-leads g c =
    let hub = c.args.self.now in
    let told = g.H.Hub.tells hub.inner.now in
    let told' = g.H.Hub.tells c.write-in-Upstream.new.self in
    let from = c.args.from.now in
    subst (λ (x : Side). Leads (TellsOver told hub.rules hub.slots hub.stopped) (TellsOver told' hub.rules hub.slots hub.stopped) (IsOpen c.args.k) (WriteLeads c.args.k x from c.write-in-Upstream.result)) (sym c.in-Upstream.is)
    (upstream_write told told' hub.rules hub.slots hub.stopped c.args.k from c.write-in-Upstream.result (c.has_slot.ensures.has c.if-has_slot.true) c.write-in-Upstream.ensures.leads)

pub returns-in-Upstream-2-clause-leads : goal.returns-in-Upstream-2-clause-leads
returns-in-Upstream-2-clause-leads g c =
    let hub = c.args.self.now in
    let told = g.H.Hub.tells hub.inner.now in
    let from = c.args.from.now in
    subst (λ (x : Side). Leads (TellsOver told hub.rules hub.slots hub.stopped) (TellsOver told hub.rules hub.slots hub.stopped) (IsOpen c.args.k) (WriteLeads c.args.k x from put.Failed)) (sym c.in-Upstream-2.is)
    (stray_upstream_write told hub.rules hub.slots hub.stopped c.args.k from)
