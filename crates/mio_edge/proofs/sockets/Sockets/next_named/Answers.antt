use Rattle.std.proofs.Common.{arith, refl}
use Rattle.mio_edge.proofs.Worlds.{listening_names}
use Rattle.mio_edge.proofs.Winding.{sockets_moved, sockets_same}
use Rattle.mio_edge.proofs.Turning.{sockets_turned, sockets_turn_same}
use Rattle.mio_edge.specs.Fixed.{fixed_there, fixed_kept, fixed_same}
use Rattle.mio_edge.proofs.Numbered.{all_stay_below}
use Rattle.mio_edge.proofs.sockets.Sockets.next_named.Goals as goal
use Rattle.std.proofs.lemmas.Grind.{common_steps}

pub returns-in-Some-clause-names : goal.returns-in-Some-clause-names
returns-in-Some-clause-names g c = listening_names g.W.Network.is_telling g.W.Stream.Stream.tells c.args.self.now _ c.in-Some.listening (record c.in-Some.listening { table = c.next_ready.new.self }) c.next_ready.result c.in-Some.is refl refl c.next_ready.ensures.names c.next_ready.ensures.stepped refl refl

pub returns-in-Some-clause-winds : goal.returns-in-Some-clause-winds
returns-in-Some-clause-winds g c = sockets_moved g.W.Stream.Stream.tells c.args.self.now _ c.in-Some.listening (record c.in-Some.listening { table = c.next_ready.new.self }) c.in-Some.is refl c.next_ready.ensures.winds

pub returns-in-Some-clause-turn : goal.returns-in-Some-clause-turn
returns-in-Some-clause-turn g c = sockets_turned g.W.Network.is_telling g.W.Stream.Stream.tells c.next_ready.result c.args.self.now _ c.in-Some.listening (record c.in-Some.listening { table = c.next_ready.new.self }) c.in-Some.is refl c.next_ready.ensures.turn

pub returns-in-Some-clause-same : goal.returns-in-Some-clause-same
returns-in-Some-clause-same g c =
    let l = record c.in-Some.listening { table = c.next_ready.new.self } in
    fixed_there c.args.self.now _ c.in-Some.listening l c.in-Some.is refl (fixed_kept c.in-Some.listening l refl refl c.next_ready.ensures.same)

pub invariant_of-self : goal.invariant_of-self
invariant_of-self g c =
    let serving = c.args.self.now.serving in
    record { numbered = all_stay_below serving.announced serving.listening c.in-Some.listening (record c.in-Some.listening { table = c.next_ready.new.self }) c.in-Some.is serving.numbered c.next_ready.ensures.below }

pub returns-in-None-clause-winds : goal.returns-in-None-clause-winds
returns-in-None-clause-winds g c = sockets_same g.W.Stream.Stream.tells c.args.self.now _ refl

pub returns-in-None-clause-turn : goal.returns-in-None-clause-turn
returns-in-None-clause-turn g c = sockets_turn_same g.W.Network.is_telling g.W.Stream.Stream.tells c.args.self.now _ refl

pub returns-in-None-clause-same : goal.returns-in-None-clause-same
returns-in-None-clause-same g c = fixed_same c.args.self.now _ refl

pub returns-in-None-clause-names : goal.returns-in-None-clause-names
returns-in-None-clause-names g c = grind (arith, common_steps)
