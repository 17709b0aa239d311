use Rattle.std.proofs.Common.{arith, refl}
use Rattle.mio_edge.proofs.Winding.{sockets_same}
use Rattle.mio_edge.proofs.Turning.{sockets_turn_same}
use Rattle.mio_edge.specs.Fixed.{fixed_same}
use Rattle.mio_edge.proofs.sockets.Sockets.pass_over.Goals as goal

pub returns-clause-keeps : goal.returns-clause-keeps
returns-clause-keeps g c = λ world told. record {
  is_telling = told.is_telling;
  at_once = told.at_once;
  sessions = told.sessions;
  below = λ k some. omega (arith, told.below k some);
  stepped = told.stepped;
}

pub returns-clause-winds : goal.returns-clause-winds
returns-clause-winds g c = sockets_same g.W.Stream.Stream.tells c.args.self.now _ refl

pub returns-clause-turn : goal.returns-clause-turn
returns-clause-turn g c = sockets_turn_same g.W.Network.is_telling g.W.Stream.Stream.tells c.args.self.now _ refl

pub returns-clause-same : goal.returns-clause-same
returns-clause-same g c = fixed_same c.args.self.now _ refl
