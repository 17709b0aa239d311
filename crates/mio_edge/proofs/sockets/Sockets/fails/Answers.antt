use Rattle.std.proofs.Common.{ap}
use Rattle.mio_edge.specs.Fixed.{fixed_same}
use Rattle.mio_edge.proofs.Winding.{sockets_same}
use Rattle.mio_edge.proofs.sockets.Sockets.fails.Goals as goal

pub returns-clause-winds : goal.returns-clause-winds
returns-clause-winds g c = sockets_same g.W.Stream.Stream.tells c.args.self.now _ (ap (λ s. s.serving.listening) c.count_fault.ensures.others)

pub returns-clause-same : goal.returns-clause-same
returns-clause-same g c = fixed_same c.args.self.now _ (ap (λ s. s.serving.listening) c.count_fault.ensures.others)
