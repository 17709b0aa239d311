use Rattle.gate_words.specs.Routing.{routed_part_of}
use Rattle.crew_server.proofs.Leaving.{routes}
use Rattle.crew_server.proofs.worker.Worker.route.Goals as goal

pub returns : goal.returns
returns g c =
    routes g.O.Sink g.G.Fan g.X.Exit (routed_part_of c.args.routing.now c.args.threads c.args.at) c.args.start.now c.args.self.now c.route_part.new.self c.leave.new.self
    c.leave.ensures.same c.route_part.ensures.routes c.leave.ensures.leaves c.route_part.ensures.output_later c.route_part.ensures.fan_later
