use Rattle.std.proofs.Common.{Some, inl, subst}
use Rattle.gate_words.specs.declared.routing.Routing.{Routing}
use Rattle.gate_start.specs.Streams.{streams}
use Rattle.gate_route.specs.Routes.{RoutesAll}
use Rattle.crew_server.proofs.worker.Worker.route_part.Goals as goal

pub returns-in-Ok-clause-routes : goal.returns-in-Ok-clause-routes
returns-in-Ok-clause-routes g c =
    let w = c.args.self.now in
    let new = c.route_all-self.new in
    inl (λ left input.
    subst (λ (r : Routing). RoutesAll g.G.Fan r c.args.start.now w.hub new.fan
    (streams left (g.O.Sink.written w.output) (Some w.report.out.bytes) input (g.O.Sink.faults w.output) w.report.faults)
    (streams left (g.O.Sink.written new.output) (Some new.report.out.bytes) input (g.O.Sink.faults new.output) new.report.faults) c.route_all-self.result)
    c.in-Ok.ensures (c.route_all-self.ensures.routes left input))
