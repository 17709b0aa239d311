use Rattle.std.proofs.Common.{arith, refl}
use Rattle.mio_edge.proofs.Winding.{sockets_told, sockets_same}
use Rattle.mio_edge.proofs.Turning.{sockets_joined, sockets_join_same}
use Rattle.mio_edge.specs.Fixed.{fixed_there, fixed_kept, fixed_same}
use Rattle.mio_edge.proofs.Numbered.{all_stay_below}
use Rattle.gate_hub.specs.Hubs.{LinkReads}
use Rattle.mio_edge.proofs.Worlds.{listening_calls}
use Rattle.mio_edge.proofs.sockets.Sockets.read.Goals as goal
use Rattle.std.proofs.lemmas.Grind.{common_steps}

pub returns-in-Some-clause-winds : goal.returns-in-Some-clause-winds
returns-in-Some-clause-winds g c =
    let l = record c.in-Some.listening { table = c.read.new.self } in
    sockets_told g.W.Network.is_telling g.W.Stream.Stream.tells c.args.self.now _ c.in-Some.listening l c.in-Some.is refl c.read.ensures.winds

pub returns-in-Some-clause-joins : goal.returns-in-Some-clause-joins
returns-in-Some-clause-joins g c = sockets_joined c.args.self.now _ c.in-Some.listening (record c.in-Some.listening { table = c.read.new.self }) c.in-Some.is refl c.read.ensures.joins

pub returns-in-Some-clause-same : goal.returns-in-Some-clause-same
returns-in-Some-clause-same g c =
    let l = record c.in-Some.listening { table = c.read.new.self } in
    fixed_there c.args.self.now _ c.in-Some.listening l c.in-Some.is refl (fixed_kept c.in-Some.listening l refl refl c.read.ensures.same)

pub invariant_of-self : goal.invariant_of-self
invariant_of-self g c =
    let serving = c.args.self.now.serving in
    record { numbered = all_stay_below serving.announced serving.listening c.in-Some.listening (record c.in-Some.listening { table = c.read.new.self }) c.in-Some.is serving.numbered c.read.ensures.below }

pub returns-in-Some-clause-leads : goal.returns-in-Some-clause-leads
returns-in-Some-clause-leads g c =
    let l = record c.in-Some.listening { table = c.read.new.self } in
    listening_calls g.W.Network.is_telling g.W.Stream.Stream.tells c.args.self.now _ c.in-Some.listening l c.args.k c.args.port (LinkReads c.read.new.into c.read.result) c.in-Some.is refl (λ at_once. (refl, c.read.ensures.leads, c.read.ensures.stepped)) refl refl

pub returns-in-None-clause-winds : goal.returns-in-None-clause-winds
returns-in-None-clause-winds g c = λ world told. sockets_same g.W.Stream.Stream.tells c.args.self.now _ refl

pub returns-in-None-clause-joins : goal.returns-in-None-clause-joins
returns-in-None-clause-joins g c = sockets_join_same c.args.self.now _ refl

pub returns-in-None-clause-same : goal.returns-in-None-clause-same
returns-in-None-clause-same g c = fixed_same c.args.self.now _ refl

pub returns-in-None-clause-leads : goal.returns-in-None-clause-leads
returns-in-None-clause-leads g c = grind (arith, common_steps)
