use Rattle.std.proofs.Common.{sym}
use Rattle.crew_server.proofs.routing.route_each.Goals as goal

pub returns : goal.returns
returns g c = λ at d within. let e = (c.for_each_mut.ensures at d within).1 in rw (sym e.argument_is, sym e.left) (e.call)
