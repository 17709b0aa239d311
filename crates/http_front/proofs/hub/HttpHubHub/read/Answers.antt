use Rattle.std.proofs.Common.{length, refl, sym, ap, subst}
use Rattle.gate_hub.specs.Meaning.{Read, IsOpen}
use Rattle.gate_hub.specs.Hubs.{Leads, LinkReads, ReadLeads}
use Rattle.gate_hub.specs.declared.hub.Side.{Side}
use Rattle.gate_hub.specs.declared.hub.Side.TheVariants as side
use Rattle.gate_hub.specs.declared.hub.LinkGot.TheVariants as got
use Rattle.http_front.specs.Telling.{TellsOver}
use Rattle.http_front.proofs.Calls.{call_over, stray_read, upstream_read, stray_upstream_read}
use Rattle.http_front.proofs.hub.HttpHubHub.read.Goals as goal

pub returns-in-Got-clause-leads : goal.returns-in-Got-clause-leads
returns-in-Got-clause-leads g c =
    let hub = c.args.self.now in
    let told = g.H.Hub.tells hub.inner.now in
    let told' = g.H.Hub.tells c.read.new.inner in
    let size = length c.args.into.now in
    subst (λ (x : Side). Leads (TellsOver told hub.rules hub.slots hub.stopped) (TellsOver told' hub.rules c.read.new.slots hub.stopped) (IsOpen c.args.k) (ReadLeads c.args.k x size c.read.new.into c.in-Got.got)) (sym c.in-Client.is)
    (call_over told told' hub.rules hub.slots c.read.new.slots hub.stopped c.args.k (Read c.args.k side.Client size c.in-Got.got) (LinkReads c.read.new.into c.in-Got.got) c.in-Got.ensures.goes)

pub returns-in-Held-clause-leads : goal.returns-in-Held-clause-leads
returns-in-Held-clause-leads g c =
    let hub = c.args.self.now in
    let told = g.H.Hub.tells hub.inner.now in
    let told' = g.H.Hub.tells c.read.new.inner in
    let size = length c.args.into.now in
    subst (λ (x : Side). Leads (TellsOver told hub.rules hub.slots hub.stopped) (TellsOver told' hub.rules c.read.new.slots hub.stopped) (IsOpen c.args.k) (ReadLeads c.args.k x size c.read.new.into got.NotReady)) (sym c.in-Client.is)
    (call_over told told' hub.rules hub.slots c.read.new.slots hub.stopped c.args.k (Read c.args.k side.Client size got.NotReady) (LinkReads c.read.new.into got.NotReady) c.in-Held.ensures.goes)

pub returns-in-Stray-clause-leads : goal.returns-in-Stray-clause-leads
returns-in-Stray-clause-leads g c =
    let hub = c.args.self.now in
    let told = g.H.Hub.tells hub.inner.now in
    let told' = g.H.Hub.tells c.read.new.inner in
    let size = length c.args.into.now in
    let goes = c.in-Stray.ensures.goes in
    subst (λ (x : Side). Leads (TellsOver told hub.rules hub.slots hub.stopped) (TellsOver told' hub.rules c.read.new.slots hub.stopped) (IsOpen c.args.k) (ReadLeads c.args.k x size c.read.new.into got.Failed)) (sym c.in-Client.is)
    (stray_read told told' hub.rules hub.slots c.read.new.slots hub.stopped c.args.k size c.read.new.into goes.0 goes.1 (ap g.H.Hub.tells (c.in-Stray.ensures.stray refl)))

pub returns-in-Upstream-clause-leads : goal.returns-in-Upstream-clause-leads
returns-in-Upstream-clause-leads g c =
    let hub = c.args.self.now in
    let told = g.H.Hub.tells hub.inner.now in
    let told' = g.H.Hub.tells c.read-in-Upstream.new.self in
    let size = length c.args.into.now in
    subst (λ (x : Side). Leads (TellsOver told hub.rules hub.slots hub.stopped) (TellsOver told' hub.rules hub.slots hub.stopped) (IsOpen c.args.k) (ReadLeads c.args.k x size c.read-in-Upstream.new.into c.read-in-Upstream.result)) (sym c.in-Upstream.is)
    (upstream_read told told' hub.rules hub.slots hub.stopped c.args.k size c.read-in-Upstream.new.into c.read-in-Upstream.result (c.has_slot.ensures.has c.if-has_slot.true) c.read-in-Upstream.ensures.leads)

pub returns-in-Upstream-2-clause-leads : goal.returns-in-Upstream-2-clause-leads
returns-in-Upstream-2-clause-leads g c =
    let hub = c.args.self.now in
    let told = g.H.Hub.tells hub.inner.now in
    let size = length c.args.into.now in
    subst (λ (x : Side). Leads (TellsOver told hub.rules hub.slots hub.stopped) (TellsOver told hub.rules hub.slots hub.stopped) (IsOpen c.args.k) (ReadLeads c.args.k x size c.args.into.now got.Failed)) (sym c.in-Upstream-2.is)
    (stray_upstream_read told hub.rules hub.slots hub.stopped c.args.k size c.args.into.now (c.has_slot.ensures.none c.if-has_slot.false))
