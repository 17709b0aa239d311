use Rattle.std.proofs.Common.{sym, subst}
use Rattle.gate_hub.specs.Hubs.{LinkReads}
use Rattle.gate_hub.specs.declared.hub.Side.{Side}
use Rattle.stream_messages.specs.Lanes.{OneSideGoes}
use Rattle.stream_messages.specs.Sessions.{LanesGo}
use Rattle.stream_messages.proofs.Sides.{client_goes, upstream_goes}
use Rattle.stream_messages.proofs.lanes.Lanes.read.Goals as goal

pub returns-in-Client-clause-goes : goal.returns-in-Client-clause-goes
returns-in-Client-clause-goes g c =
    let told = g.H.Hub.tells c.args.hub.now in
    let told' = g.H.Hub.tells c.read.new.hub in
    let lanes = c.args.self.now in
    subst (λ (x : Side). LanesGo told told' lanes (record lanes { client = c.read.new.lane }) c.args.k x (LinkReads c.read.new.into c.read.result)) (sym c.in-Client.is)
    (client_goes told told' c.args.k lanes c.read.new.lane (LinkReads c.read.new.into c.read.result)
    (subst (λ (x : Side). OneSideGoes told told' lanes.client c.read.new.lane c.args.k x (LinkReads c.read.new.into c.read.result)) c.in-Client.is c.read.ensures.goes))

pub returns-in-Upstream-clause-goes : goal.returns-in-Upstream-clause-goes
returns-in-Upstream-clause-goes g c =
    let told = g.H.Hub.tells c.args.hub.now in
    let told' = g.H.Hub.tells c.read-in-Upstream.new.hub in
    let lanes = c.args.self.now in
    subst (λ (x : Side). LanesGo told told' lanes (record lanes { upstream = c.read-in-Upstream.new.lane }) c.args.k x (LinkReads c.read-in-Upstream.new.into c.read-in-Upstream.result)) (sym c.in-Upstream.is)
    (upstream_goes told told' c.args.k lanes c.read-in-Upstream.new.lane (LinkReads c.read-in-Upstream.new.into c.read-in-Upstream.result)
    (subst (λ (x : Side). OneSideGoes told told' lanes.upstream c.read-in-Upstream.new.lane c.args.k x (LinkReads c.read-in-Upstream.new.into c.read-in-Upstream.result)) c.in-Upstream.is c.read-in-Upstream.ensures.goes))
