use Rattle.std.proofs.Common.{refl}
use Rattle.mio_edge.proofs.Winding.{sockets_same}
use Rattle.mio_edge.specs.Fixed.{fixed_same}
use Rattle.mio_edge.proofs.sockets.Sockets.stops.Goals as goal

pub returns-clause-keeps : goal.returns-clause-keeps
returns-clause-keeps g c = λ world told. record { is_telling = told.is_telling; at_once = told.at_once; sessions = told.sessions; below = told.below; stepped = told.stepped }

pub returns-clause-told : goal.returns-clause-told
returns-clause-told g c = record { stopped = refl; ended = c.requires }

pub returns-clause-winds : goal.returns-clause-winds
returns-clause-winds g c = sockets_same g.W.Stream.Stream.tells c.args.self.now _ refl

pub returns-clause-same : goal.returns-clause-same
returns-clause-same g c = fixed_same c.args.self.now _ refl
