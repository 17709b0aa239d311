use Rattle.std.proofs.Common.{arith, refl}
use Rattle.mio_edge.proofs.Worlds.{admitted_opens, admitted_keeps}
use Rattle.mio_edge.proofs.Winding.{sockets_moved, sockets_same}
use Rattle.mio_edge.proofs.Turning.{admitted_turned, sockets_turn_same}
use Rattle.mio_edge.specs.Fixed.{fixed_there, fixed_same}
use Rattle.mio_edge.proofs.sockets.Sockets.accept_next.Goals as goal
use Rattle.std.proofs.lemmas.Grind.{common_steps}

pub returns-in-Some-clause-opens : goal.returns-in-Some-clause-opens
returns-in-Some-clause-opens g c = admitted_opens g.W.Network.is_telling g.W.Stream.Stream.tells g.W.Network.is_shared c.args.self.now _ c.in-Some.listening c.accept.new.self c.accept.result c.in-Some.is refl c.accept.ensures.connecting c.accept.ensures.opens c.accept.ensures.stepped c.accept.ensures.number refl c.accept.ensures.raised

pub returns-in-Some-clause-keeps : goal.returns-in-Some-clause-keeps
returns-in-Some-clause-keeps g c = admitted_keeps g.W.Network.is_telling g.W.Stream.Stream.tells c.args.self.now _ c.in-Some.listening c.accept.new.self c.accept.result c.in-Some.is refl c.accept.ensures.connecting c.accept.ensures.kept c.accept.ensures.stepped refl c.accept.ensures.waits

pub returns-in-Some-clause-winds : goal.returns-in-Some-clause-winds
returns-in-Some-clause-winds g c = sockets_moved g.W.Stream.Stream.tells c.args.self.now _ c.in-Some.listening (c.accept.new.self) c.in-Some.is refl c.accept.ensures.winds

pub returns-in-Some-clause-turn : goal.returns-in-Some-clause-turn
returns-in-Some-clause-turn g c = admitted_turned g.W.Network.is_telling g.W.Stream.Stream.tells c.args.self.now _ c.in-Some.listening c.accept.new.self c.accept.result c.in-Some.is refl c.accept.ensures.turns

pub returns-in-Some-clause-same : goal.returns-in-Some-clause-same
returns-in-Some-clause-same g c =
    let l = c.accept.new.self in
    fixed_there c.args.self.now _ c.in-Some.listening l c.in-Some.is refl c.accept.ensures.same

pub returns-in-None-clause-winds : goal.returns-in-None-clause-winds
returns-in-None-clause-winds g c = sockets_same g.W.Stream.Stream.tells c.args.self.now _ refl

pub returns-in-None-clause-turn : goal.returns-in-None-clause-turn
returns-in-None-clause-turn g c = sockets_turn_same g.W.Network.is_telling g.W.Stream.Stream.tells c.args.self.now _ refl

pub returns-in-None-clause-same : goal.returns-in-None-clause-same
returns-in-None-clause-same g c = fixed_same c.args.self.now _ refl

pub returns-in-None-clause-keeps : goal.returns-in-None-clause-keeps
returns-in-None-clause-keeps g c = grind (arith, common_steps)
