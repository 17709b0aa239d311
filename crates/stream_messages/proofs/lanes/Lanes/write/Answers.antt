use Rattle.std.proofs.Common.{sym, subst}
use Rattle.gate_hub.specs.Hubs.{LinkWrites}
use Rattle.gate_hub.specs.declared.hub.Side.{Side}
use Rattle.stream_messages.specs.Lanes.{OneSideGoes}
use Rattle.stream_messages.specs.Sessions.{LanesGo}
use Rattle.stream_messages.proofs.Sides.{client_goes, upstream_goes}
use Rattle.stream_messages.proofs.lanes.Lanes.write.Goals as goal

pub returns-in-Client-clause-goes : goal.returns-in-Client-clause-goes
returns-in-Client-clause-goes g c =
    let told = g.H.Hub.tells c.args.hub.now in
    let told' = g.H.Hub.tells c.write.new.hub in
    let lanes = c.args.self.now in
    subst (λ (x : Side). LanesGo told told' lanes (record lanes { client = c.write.new.lane }) c.args.k x (LinkWrites c.args.from.now c.write.result)) (sym c.in-Client.is)
    (client_goes told told' c.args.k lanes c.write.new.lane (LinkWrites c.args.from.now c.write.result)
    (subst (λ (x : Side). OneSideGoes told told' lanes.client c.write.new.lane c.args.k x (LinkWrites c.args.from.now c.write.result)) c.in-Client.is c.write.ensures.goes))

pub returns-in-Upstream-clause-goes : goal.returns-in-Upstream-clause-goes
returns-in-Upstream-clause-goes g c =
    let told = g.H.Hub.tells c.args.hub.now in
    let told' = g.H.Hub.tells c.write-in-Upstream.new.hub in
    let lanes = c.args.self.now in
    subst (λ (x : Side). LanesGo told told' lanes (record lanes { upstream = c.write-in-Upstream.new.lane }) c.args.k x (LinkWrites c.args.from.now c.write-in-Upstream.result)) (sym c.in-Upstream.is)
    (upstream_goes told told' c.args.k lanes c.write-in-Upstream.new.lane (LinkWrites c.args.from.now c.write-in-Upstream.result)
    (subst (λ (x : Side). OneSideGoes told told' lanes.upstream c.write-in-Upstream.new.lane c.args.k x (LinkWrites c.args.from.now c.write-in-Upstream.result)) c.in-Upstream.is c.write-in-Upstream.ensures.goes))
